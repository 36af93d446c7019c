-- Laws of what a call that writes at a place answers and leaves: what the calls' proofs and the round trips stand on.
use Rattle.std.specs.Prelude.{◌≡◌, ℕ, ◌-◌, ◌<◌, ◌≤◌, Bool, true, false, leb, List, length, nat_le, Ok, Err, refl}
use Rattle.std.proofs.Common.{ap, arith, le-leb, leb-true}
use Rattle.std.proofs.lemmas.List.Edits.{sets}
use Rattle.std.proofs.lemmas.Bool.{lt-leb}
use Rattle.numbers.specs.Pick.{pick}
use Rattle.numbers.specs.Wrote.{fits, wrote_of, placed}
use Rattle.numbers.specs.declared.leb128.WriteRefusal.TheVariants.{NoRoom}

-- n bytes do not fit: no room, and the buffer as it was
pub wrote_not : (bytes buf : List ℕ) (at n r : ℕ) → n ≡ length bytes → r ≡ length buf - at → r < n → (Err NoRoom ≡ wrote_of bytes at buf) × (buf ≡ placed bytes at buf)
unfolding wrote_of placed fits pick
wrote_not bytes buf at n r e f h =
    let t : leb (length bytes) (length buf - at) ≡ false = lt-leb (length bytes) (length buf - at) (omega arith) in
    (rw t, rw t)

-- n bytes fit: they are used, and stand there
pub wrote_all : (bytes buf after : List ℕ) (at n r : ℕ) → n ≡ length bytes → r ≡ length buf - at → n ≤ r → after ≡ sets buf at bytes
    → (Ok n ≡ wrote_of bytes at buf) × (after ≡ placed bytes at buf)
unfolding wrote_of placed fits pick
wrote_all bytes buf after at n r e f h g =
    let t : leb (length bytes) (length buf - at) ≡ true = le-leb (length bytes) (length buf - at) (omega arith) in
    (rw t (ap Ok e), rw t g)

-- what was answered says whether it fitted
pub wrote_used : (bytes buf : List ℕ) (at n : ℕ) → wrote_of bytes at buf ≡ Ok n → (n ≡ length bytes) × (length bytes ≤ length buf - at) × (placed bytes at buf ≡ sets buf at bytes)
unfolding wrote_of placed fits pick
wrote_used bytes buf at n = go (nat_le (length bytes) (length buf - at)) refl
  where
    go : (b : Bool) → nat_le (length bytes) (length buf - at) ≡ b → pick b (Ok (length bytes)) (Err NoRoom) ≡ Ok n
        → (n ≡ length bytes) × (length bytes ≤ length buf - at) × (placed bytes at buf ≡ sets buf at bytes)
    go true t e = (cc, leb-true (length bytes) (length buf - at) t, rw t)
    go false t e = let z : ◌≡◌ {A = ℕ} 0 1 = cc in absurd (omega arith)

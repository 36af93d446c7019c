-- The first stripe of a string, and up to seven after it, none of which ends a block.
use Rattle.std.proofs.Common.{◌≡◌, ℕ, ◌+◌, ◌-◌, ◌*◌, ◌%◌, ◌<◌, List, length, take, refl, ap, ◌∙◌, sym, arith, ne_eqb}
use lib.Seq.{take-length}
use Rattle.numbers.specs.Pick.{pick}
use Rattle.hash.specs.Notation.{u64s, for_up}
use Rattle.hash.specs.Large.{accumulate}
use Rattle.hash.specs.ShapeLong.{block_end, step_at, stripes_of}
use Rattle.hash.proofs.Loops.{for_up-next}
use Rattle.hash.proofs.Stripes.{stripes_plus}

pub first_stripe : (s x a : List ℕ) → a ≡ accumulate (u64s s 0) 0 x → a ≡ stripes_of s 0 0 1 x
unfolding for_up step_at block_end pick
first_stripe s x a e = e

-- the first, and n - 1 after it
pub from_first : (s : List ℕ) (n : ℕ) (x a r : List ℕ) → 0 < n → a ≡ accumulate (u64s s 0) 0 x → r ≡ stripes_of (take (length s) s) 64 1 (n - 1) a → r ≡ stripes_of s 0 0 n x
from_first s n x a r h ea e =
    let m : 1 + (n - 1) ≡ n = omega arith in
    rw (take-length s, first_stripe s x a ea) at e ∙ sym (stripes_plus s 0 0 1 (n - 1) x) ∙ ap (λ (j : ℕ). stripes_of s 0 0 j x) m

module _ (s : List ℕ) (i : ℕ) (x : List ℕ) where
  -- one more, at j with the words of the secret from o on
  pub next_early : (k j o n : ℕ) {a r : List ℕ} → k < 7 → j ≡ i + 64 * k → o ≡ 8 * (1 + k) → n ≡ k + 1 → a ≡ stripes_of s i 1 k x → r ≡ accumulate (u64s s j) o a → r ≡ stripes_of s i 1 n x
  unfolding step_at block_end pick
  next_early k j o n h ej eo en ea e =
      let m : (1 + k) % 16 ≡ 1 + k = omega arith in
      for_up-next k (step_at s i 1) x ea (rw (m, ne_eqb (1 + k) 15 (λ z. omega arith)) (rw (ej, eo) at e)) ∙ ap (λ (q : ℕ). stripes_of s i 1 q x) (sym en)

  pub early_1 : {a : List ℕ} → a ≡ accumulate (u64s s i) 8 x → a ≡ stripes_of s i 1 1 x
  unfolding for_up
  early_1 ea = next_early 0 i 8 1 (omega arith) (omega arith) refl refl refl ea

  pub early_2 : (n : ℕ) {a b : List ℕ} → n ≡ 2 → a ≡ accumulate (u64s s i) 8 x → b ≡ accumulate (u64s s (i + 64)) 16 a → b ≡ stripes_of s i 1 n x
  early_2 n h ea eb = next_early 1 (i + 64) 16 n (omega arith) (omega arith) refl h (early_1 ea) eb

  pub early_3 : (n : ℕ) {a b c : List ℕ} → n ≡ 3 → a ≡ accumulate (u64s s i) 8 x → b ≡ accumulate (u64s s (i + 64)) 16 a → c ≡ accumulate (u64s s (i + 128)) 24 b → c ≡ stripes_of s i 1 n x
  early_3 n h ea eb ec = next_early 2 (i + 128) 24 n (omega arith) (omega arith) refl h (early_2 2 refl ea eb) ec

  pub early_4 : (n : ℕ) {a b c d : List ℕ} → n ≡ 4 → a ≡ accumulate (u64s s i) 8 x → b ≡ accumulate (u64s s (i + 64)) 16 a → c ≡ accumulate (u64s s (i + 128)) 24 b → d ≡ accumulate (u64s s (i + 192)) 32 c → d ≡ stripes_of s i 1 n x
  early_4 n h ea eb ec ed = next_early 3 (i + 192) 32 n (omega arith) (omega arith) refl h (early_3 3 refl ea eb ec) ed

  pub early_5 : (n : ℕ) {a b c d e : List ℕ} → n ≡ 5 → a ≡ accumulate (u64s s i) 8 x → b ≡ accumulate (u64s s (i + 64)) 16 a → c ≡ accumulate (u64s s (i + 128)) 24 b → d ≡ accumulate (u64s s (i + 192)) 32 c → e ≡ accumulate (u64s s (i + 256)) 40 d → e ≡ stripes_of s i 1 n x
  early_5 n h ea eb ec ed ee = next_early 4 (i + 256) 40 n (omega arith) (omega arith) refl h (early_4 4 refl ea eb ec ed) ee

  pub early_6 : (n : ℕ) {a b c d e f : List ℕ} → n ≡ 6 → a ≡ accumulate (u64s s i) 8 x → b ≡ accumulate (u64s s (i + 64)) 16 a → c ≡ accumulate (u64s s (i + 128)) 24 b → d ≡ accumulate (u64s s (i + 192)) 32 c → e ≡ accumulate (u64s s (i + 256)) 40 d → f ≡ accumulate (u64s s (i + 320)) 48 e → f ≡ stripes_of s i 1 n x
  early_6 n h ea eb ec ed ee ef = next_early 5 (i + 320) 48 n (omega arith) (omega arith) refl h (early_5 5 refl ea eb ec ed ee) ef

  pub early_7 : (n : ℕ) {a b c d e f g : List ℕ} → n ≡ 7 → a ≡ accumulate (u64s s i) 8 x → b ≡ accumulate (u64s s (i + 64)) 16 a → c ≡ accumulate (u64s s (i + 128)) 24 b → d ≡ accumulate (u64s s (i + 192)) 32 c → e ≡ accumulate (u64s s (i + 256)) 40 d → f ≡ accumulate (u64s s (i + 320)) 48 e → g ≡ accumulate (u64s s (i + 384)) 56 f → g ≡ stripes_of s i 1 n x
  early_7 n h ea eb ec ed ee ef eg = next_early 6 (i + 384) 56 n (omega arith) (omega arith) refl h (early_6 6 refl ea eb ec ed ee ef) eg

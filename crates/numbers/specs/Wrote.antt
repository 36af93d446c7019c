-- What a call that writes bytes at a place of a lent buffer answers and leaves: all of them where they fit, else refusal 3 and no byte altered.
use Rattle.std.specs.Prelude.{ℕ, ◌-◌, Bool, List, length, nat_le, Result, Ok, refl}
use Rattle.std.proofs.lemmas.List.Edits.{sets}
use Rattle.numbers.specs.Pick.{pick}
use Rattle.numbers.specs.Refusals.{refuse_write}
use Rattle.numbers.specs.declared.leb128.WriteRefusal.{WriteRefusal}
use Rattle.numbers.specs.declared.leb128.WriteRefusal.TheVariants.{NoRoom}

-- document 01, refusal 3: the output fits its buffer
unfoldable pub fits : List ℕ → ℕ → List ℕ → Bool
fits bytes at buf = nat_le (length bytes) (length buf - at)

-- the answer: the count of bytes used, or no room
unfoldable pub wrote_of : List ℕ → ℕ → List ℕ → Result ℕ WriteRefusal
wrote_of bytes at buf = pick (fits bytes at buf) (Ok (length bytes)) (refuse_write 3 NoRoom refl)

-- the buffer afterwards
unfoldable pub placed : List ℕ → ℕ → List ℕ → List ℕ
placed bytes at buf = pick (fits bytes at buf) (sets buf at bytes) buf

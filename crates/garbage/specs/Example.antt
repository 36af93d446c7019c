-- Document 01's edge, "a file of values 3 and 0 long", as the writer's definition gives it.
use Rattle.std.specs.Prelude.{ℕ, [], ◌∷◌, true, false, replicate}
use Rattle.numbers.specs.declared.handle.BlobIndirection.{BlobIndirection}
use Rattle.frames.specs.Write.{new_writer}
use Rattle.frames.specs.Runs.{append, finish}
use Rattle.garbage.specs.Written.{Written}

-- keys "a" and "b" in 85 bytes, META with them; the first pointer is dropped
abbrev pub three_and_none : ℕ → Written
three_and_none id = record {
  writer = new_writer id;
  buffer = replicate 85 0;
  calls = append (97 ∷ []) 7 (120 ∷ 121 ∷ 122 ∷ []) ∷ append (98 ∷ []) 9 [] ∷ finish ∷ [];
  gone = true ∷ false ∷ [];
}

-- the pointer of the value 3 bytes long
abbrev pub three : ℕ → BlobIndirection
three id = record { handle = record { offset = 0; file = id; size = 3 }; stated = 3 }

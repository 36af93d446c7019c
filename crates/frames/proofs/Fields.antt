-- The records that the functions build are the definitions', field by field; their proofs cite these laws.
use Prim.Native.Nat.{ℕ, ◌+◌}
use mathlib.Core.Path.{◌≡◌}
use mathlib.Core.List.{List}
use lib.ListN.{drop}
use lib.Dec.{leb}
use Rattle.numbers.specs.Le.{num}
use Rattle.frames.specs.Layout.{header_of}
use Rattle.frames.specs.Shape.{size_of}
use Rattle.frames.specs.Write.{key_place, first_of, grown}
use Rattle.frames.specs.declared.place.Place.{Place}
use Rattle.frames.specs.declared.shape.Shape.{Shape}
use Rattle.frames.specs.declared.state.Writer.{Writer}

-- a header, of the numbers read at its places
pub header_law : (p : List ℕ) (low high seqno key stated size : ℕ) → low ≡ num 8 (drop 4 p) → high ≡ num 8 (drop 12 p) → seqno ≡ num 8 (drop 20 p) → key ≡ num 2 (drop 28 p) → stated ≡ num 4 (drop 30 p) → size ≡ num 4 (drop 34 p)
    → record { sum = record { low = low; high = high }; seqno = seqno; key = key; stated = stated; size = size } ≡ header_of p
unfolding header_of
header_law p low high seqno key stated size a b c d e f = rw (a, b, c, d, e, f)

-- a writer after an append that is taken
pub grown_law : (w : Writer) (f : Shape) (size : ℕ) (first : Place) → size ≡ size_of f → first ≡ first_of w.items (key_place w f) w.first
    → record { id = w.id; offset = w.offset + size; items = w.items + 1; disk = w.disk + f.value; stated = w.stated + f.stated; target = w.target; finished = leb w.target (w.offset + size); first = first; last = key_place w f } ≡ grown w f
unfolding grown
grown_law w f size first s e = rw (s, e)

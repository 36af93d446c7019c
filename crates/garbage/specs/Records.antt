-- A drop of an encoded record with its mark (document 01, "A drop: its decoding, then 12 or 11").
use Rattle.std.specs.Prelude.{ℕ, refl, List, [], ◌∷◌, Bool, Result, Ok, Err}
use Rattle.numbers.specs.Pick.{pick}
use Rattle.numbers.specs.Handle.{indirection_of}
use Rattle.numbers.specs.Refusals.{values_of_cut}
use Rattle.numbers.specs.declared.leb128.NumberRefusal.TheVariants as number
use Rattle.numbers.specs.Reading.{ReadOf}
use Rattle.numbers.specs.declared.handle.BlobIndirection.{BlobIndirection}
use Rattle.garbage.specs.declared.map.FragmentationMap.{FragmentationMap}
use Rattle.garbage.specs.declared.map.CountRefusal.{CountRefusal}
use Rattle.garbage.specs.declared.map.CountRefusal.TheVariants.{MapFull}
use Rattle.garbage.specs.declared.dropped.Dropped.{Dropped}
use Rattle.garbage.specs.declared.record.RecordRefusal.{RecordRefusal}
use Rattle.garbage.specs.declared.record.RecordRefusal.TheVariants.{Number, Count}
use Rattle.garbage.specs.declared.record.RecordDropped.{RecordDropped}
use Rattle.garbage.specs.Maps.{well_formed}
use Rattle.garbage.specs.Drops.{dropped_of}
use Rattle.garbage.specs.Refusals.{count_number, record_says, refuse}

-- a drop's answer, as a record's
abbrev pub answer_of : Result (Unit {0}) CountRefusal → Result (Unit {0}) RecordRefusal
answer_of (Ok done) = Ok tt
answer_of (Err why) = refuse record_says (count_number why ∷ []) (Count why) refl

abbrev pub read : Dropped → RecordDropped
read d = record { answer = answer_of d.answer; map = d.map }

-- 7 or 10 where a number can't be read; what was decoded is dropped, and what follows it is left
abbrev pub decoded : FragmentationMap → ReadOf BlobIndirection → RecordDropped
decoded m (Err (number.CutShort cut)) = record { answer = refuse record_says (7 ∷ values_of_cut cut) (Number (number.CutShort cut)) refl; map = m }
decoded m (Err number.TooLong) = record { answer = refuse record_says (10 ∷ []) (Number number.TooLong) refl; map = m }
decoded m (Ok p) = read (dropped_of m p.value)

-- a malformed map is 11 before all else; "a record not marked as an indirection changes nothing"
abbrev pub record_of : FragmentationMap → Bool → List ℕ → RecordDropped
record_of m marked bytes =
    pick (well_formed m)
    (pick marked (decoded m (indirection_of 0 bytes)) (record { answer = Ok tt; map = m }))
    (record { answer = refuse record_says (11 ∷ []) (Count MapFull) refl; map = m })

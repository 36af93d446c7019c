-- A drop: one frame and its two lengths added to the entry of its file (document 01, "Handles and garbage").
use Rattle.std.specs.Prelude.{refl, Ok, Err}
use Rattle.numbers.specs.Pick.{pick}
use Rattle.numbers.specs.declared.handle.BlobIndirection.{BlobIndirection}
use Rattle.garbage.specs.declared.map.FragmentationMap.{FragmentationMap}
use Rattle.garbage.specs.declared.map.CountRefusal.TheVariants.{MapFull, SumTooBig}
use Rattle.garbage.specs.declared.dropped.Dropped.{Dropped}
use Rattle.garbage.specs.Entries.{Entry, added, Outcome, judged}
use Rattle.garbage.specs.Maps.{entries_of, holding, well_formed}
use Rattle.garbage.specs.Refusals.{count_number, refuse}

-- "A drop adds 1 and two lengths"
abbrev pub one : BlobIndirection → Entry
one p = record { id = p.handle.file; frames = 1; stated = p.stated; disk = p.handle.size }

-- the map that holds what was made; refused, the map as it came in
abbrev pub answered : FragmentationMap → Outcome → Dropped
answered m (Ok l) = record { answer = Ok tt; map = holding m l }
answered m (Err SumTooBig) = record { answer = refuse count_number 12 SumTooBig refl; map = m }
answered m (Err MapFull) = record { answer = refuse count_number 11 MapFull refl; map = m }

-- a malformed map is 11 before all else; then 12 or 11
abbrev pub dropped_of : FragmentationMap → BlobIndirection → Dropped
dropped_of m p =
    pick (well_formed m) (answered m (judged (added (one p) (entries_of m))))
    (record { answer = refuse count_number 11 MapFull refl; map = m })

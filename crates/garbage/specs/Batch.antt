-- Drops one after another (document 01, a batch "is taken whole, or refused with its first refusal").
use Rattle.std.specs.Prelude.{refl, List, [], ◌∷◌, map, Result, Ok, Err}
use Rattle.numbers.specs.Pick.{pick}
use Rattle.numbers.specs.declared.handle.BlobIndirection.{BlobIndirection}
use Rattle.garbage.specs.declared.map.FragmentationMap.{FragmentationMap}
use Rattle.garbage.specs.declared.map.CountRefusal.{CountRefusal}
use Rattle.garbage.specs.declared.map.CountRefusal.TheVariants.{MapFull}
use Rattle.garbage.specs.declared.dropped.Dropped.{Dropped}
use Rattle.garbage.specs.Entries.{Entry, added, Outcome, judged}
use Rattle.garbage.specs.Maps.{entries_of, well_formed}
use Rattle.garbage.specs.Drops.{one, answered, dropped_of}
use Rattle.garbage.specs.Refusals.{count_number, refuse}

-- what was made goes on; a refusal stays
abbrev pub afterwards : Outcome → (List Entry → Outcome) → Outcome
afterwards (Ok l) next = next l
afterwards (Err why) next = Err why

-- entries added in turn, each judged
unfoldable pub in_turn : List Entry → List Entry → Outcome
in_turn [] l = Ok l
in_turn (e ∷ es) l = afterwards (judged (added e l)) (in_turn es)

-- a malformed map is 11 first, also for an empty list
abbrev pub batch_of : FragmentationMap → List BlobIndirection → Dropped
batch_of m ps =
    pick (well_formed m) (answered m (in_turn (map one ps) (entries_of m)))
    (record { answer = refuse count_number 11 MapFull refl; map = m })

-- the same drops made one call after another: where one is refused, its refusal with the first map
abbrev pub going_on : Result (Unit {0}) CountRefusal → FragmentationMap → Dropped → Dropped
going_on (Ok done) first next = next
going_on (Err why) first next = record { answer = refuse count_number (count_number why) why refl; map = first }

unfoldable pub one_by_one : FragmentationMap → FragmentationMap → List BlobIndirection → Dropped
one_by_one first m [] = record { answer = Ok tt; map = m }
one_by_one first m (p ∷ ps) = let d : Dropped = dropped_of m p in going_on d.answer first (one_by_one first d.map ps)

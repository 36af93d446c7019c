-- The map's answers as numbers.
use Rattle.std.specs.Prelude.{ℕ, List, Result, Ok, Err}
use Rattle.numbers.specs.declared.handle.BlobIndirection.{BlobIndirection}
use Rattle.garbage.specs.Batch.{batch_of}
use Rattle.garbage.specs.Refusals.{count_number}
use Rattle.garbage.specs.declared.map.FragmentationMap.{FragmentationMap}
use Rattle.garbage.specs.declared.map.CountRefusal.{CountRefusal}
use Rattle.boundary.specs.declared.pointers.ListRefusal.{ListRefusal}
use Rattle.boundary.specs.Pointers.{pointers_in, list_number}

-- 0, or document 01's number
abbrev pub dropped_number : {T : Type 0} → Result T CountRefusal → ℕ
dropped_number (Ok done) = 0
dropped_number (Err why) = count_number why

-- a batch's answer as a number, and the map after it
pub record Batched : Type 0 where
  pub number : ℕ
  pub map : FragmentationMap

-- a batch of rows, which are judged before the map is looked at
abbrev pub batched : FragmentationMap → Result (List BlobIndirection) ListRefusal → Batched
batched m (Ok ps) = record { number = dropped_number (batch_of m ps).answer; map = (batch_of m ps).map }
batched m (Err why) = record { number = list_number why; map = m }

abbrev pub batched_of : FragmentationMap → List ℕ → Batched
batched_of m numbers = batched m (pointers_in numbers)

-- Arrangements of drops (demand 3): pointers dealt over empty maps, and these merged in some order and grouping, all by the definitions that the calls promise.
use Rattle.std.specs.Prelude.{ℕ, List, [], ◌∷◌, ◌++◌, true, Result, Ok, Err}
use Rattle.numbers.specs.Handle.{indirection_bytes}
use Rattle.numbers.specs.declared.handle.BlobIndirection.{BlobIndirection}
use Rattle.garbage.specs.declared.map.FragmentationMap.{FragmentationMap}
use Rattle.garbage.specs.declared.merged.Merged.{Merged}
use Rattle.garbage.specs.declared.record.RecordDropped.{RecordDropped}
use Rattle.garbage.specs.declared.stored.StoreRefusal.{StoreRefusal}
use Rattle.garbage.specs.Maps.{empty_map}
use Rattle.garbage.specs.Records.{record_of}
use Rattle.garbage.specs.Merges.{merged_of}
use Rattle.garbage.specs.Stored.{store_answer, store_bytes}

-- a map, or a refusal met on the way
pub data Ran : Type 0 where
  ran : FragmentationMap → Ran
  refused : Ran

abbrev pub onward : Ran → (FragmentationMap → Ran) → Ran
onward (ran m) next = next m
onward refused next = refused

abbrev pub by_answer : {E : Type 0} → Result (Unit {0}) E → FragmentationMap → Ran
by_answer (Ok done) m = ran m
by_answer (Err why) m = refused

-- a pointer dropped as its encoded record, with the mark
abbrev pub dropping : BlobIndirection → FragmentationMap → Ran
dropping p m = let d : RecordDropped = record_of m true (indirection_bytes p) in by_answer d.answer d.map

-- pointers dropped one after another
unfoldable pub drop_each : List BlobIndirection → FragmentationMap → Ran
drop_each [] m = ran m
drop_each (p ∷ ps) m = onward (dropping p m) (drop_each ps)

-- one map merged into another
abbrev pub merging : FragmentationMap → FragmentationMap → Ran
merging source target = let r : Merged = merged_of source target in by_answer r.answer r.target

-- an arrangement: one map with its drops, or two arrangements whose maps are merged, the second into the first
pub data Arrangement : Type 0 where
  leaf : List BlobIndirection → Arrangement
  node : Arrangement → Arrangement → Arrangement

unfoldable pub arranged : Arrangement → Ran
arranged (leaf ps) = drop_each ps empty_map
arranged (node a b) = onward (arranged a) (λ target. onward (arranged b) (λ source. merging source target))

-- the pointers that are dropped in it
unfoldable pub pointers_of : Arrangement → List BlobIndirection
pointers_of (leaf ps) = ps
pointers_of (node a b) = pointers_of a ++ pointers_of b

-- what storing it answers and leaves in a buffer
pub data Kept : Type 0 where
  kept : Result ℕ StoreRefusal → List ℕ → Kept
  nothing : Kept

abbrev pub storing : Ran → List ℕ → Kept
storing (ran m) buf = kept (store_answer m buf) (store_bytes m buf)
storing refused buf = nothing

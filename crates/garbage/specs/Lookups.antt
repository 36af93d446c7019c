-- What a map holds of an id.
use Rattle.std.specs.Prelude.{ℕ, refl, List, [], ◌∷◌, eqb, Option, Some, None, Result, Ok}
use Rattle.numbers.specs.Pick.{pick}
use Rattle.garbage.specs.declared.map.FragmentationMap.{FragmentationMap}
use Rattle.garbage.specs.declared.map.MapFull.{MapFull}
use Rattle.garbage.specs.Entries.{Entry}
use Rattle.garbage.specs.Maps.{entries_of, well_formed}
use Rattle.garbage.specs.Refusals.{full_number, refuse}

-- the id's entry, where there is one
unfoldable pub found : ℕ → List Entry → Option Entry
found id [] = None
found id (e ∷ l) = pick (eqb e.id id) (Some e) (found id l)

-- a malformed map is 11 before all else
abbrev pub lookup_of : FragmentationMap → ℕ → Result (Option Entry) MapFull
lookup_of m id = pick (well_formed m) (Ok (found id (entries_of m))) (refuse full_number 11 (record {}) refl)

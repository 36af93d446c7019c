-- Maps added up, pruned, and the sum of on-disk bytes (document 01, "Handles and garbage").
use Rattle.std.specs.Prelude.{ℕ, ◌+◌, ◌^◌, refl, List, [], ◌∷◌, Bool, false, ◌||◌, ◌&&◌, ltb, eqb, Result, Ok, Err}
use Rattle.numbers.specs.Pick.{pick}
use Rattle.garbage.specs.declared.map.FragmentationMap.{FragmentationMap}
use Rattle.garbage.specs.declared.map.CountRefusal.{CountRefusal}
use Rattle.garbage.specs.declared.map.CountRefusal.TheVariants.{MapFull, SumTooBig}
use Rattle.garbage.specs.declared.merged.Merged.{Merged}
use Rattle.garbage.specs.declared.pruned.Pruned.{Pruned}
use Rattle.garbage.specs.Entries.{Entry, added_all, Outcome, judged}
use Rattle.garbage.specs.Maps.{entries_of, holding, well_formed, empty_map}
use Rattle.garbage.specs.Refusals.{count_number, full_number, refuse}

-- the target holds what was made and the source is empty; refused, both as they came in
abbrev pub merge_answered : FragmentationMap → FragmentationMap → Outcome → Merged
merge_answered source target (Ok l) = record { answer = Ok tt; source = empty_map; target = holding target l }
merge_answered source target (Err SumTooBig) = record { answer = refuse count_number 12 SumTooBig refl; source = source; target = target }
merge_answered source target (Err MapFull) = record { answer = refuse count_number 11 MapFull refl; source = source; target = target }

-- a malformed map of the two is 11 before all else; then 12 before 11
abbrev pub merged_of : FragmentationMap → FragmentationMap → Merged
merged_of source target =
    pick (well_formed source && well_formed target)
    (merge_answered source target (judged (added_all (entries_of source) (entries_of target))))
    (record { answer = refuse count_number 11 MapFull refl; source = source; target = target })

-- "Pruning keeps only listed ids"
unfoldable pub listed_in : ℕ → List ℕ → Bool
listed_in id [] = false
listed_in id (x ∷ ids) = eqb x id || listed_in id ids

unfoldable pub kept_of : List ℕ → List Entry → List Entry
kept_of ids [] = []
kept_of ids (e ∷ l) = pick (listed_in e.id ids) (e ∷ kept_of ids l) (kept_of ids l)

abbrev pub pruned_of : FragmentationMap → List ℕ → Pruned
pruned_of m ids =
    pick (well_formed m)
    (record { answer = Ok tt; map = holding m (kept_of ids (entries_of m)) })
    (record { answer = refuse full_number 11 (record {}) refl; map = m })

-- "The sum of on-disk bytes is refused by 12 above 2^64 - 1"
unfoldable pub disk_sum : List Entry → ℕ
disk_sum [] = 0
disk_sum (e ∷ l) = e.disk + disk_sum l

abbrev pub stale_bytes_of : FragmentationMap → Result ℕ CountRefusal
stale_bytes_of m =
    pick (well_formed m)
    (pick (ltb (disk_sum (entries_of m)) (2 ^ 64)) (Ok (disk_sum (entries_of m))) (refuse count_number 12 SumTooBig refl))
    (refuse count_number 11 MapFull refl)

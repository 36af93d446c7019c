-- Document 01's number for each refusal of the merge, and the values that come with it: the definitions of the answers name their refusals by these.
use Rattle.std.specs.Prelude.{ℕ, ◌≡◌, List, [], ◌∷◌, Result, Err}
use Rattle.frames.specs.Refusals.{scan_number, scan_values}
use Rattle.frames.specs.declared.steps.ScanRefusal.{ScanRefusal}
use Rattle.merge.specs.declared.refusals.DrainRefusal.{DrainRefusal}
use Rattle.merge.specs.declared.refusals.DrainRefusal.TheVariants as drain
use Rattle.merge.specs.declared.refusals.MergeRefusal.{MergeRefusal}
use Rattle.merge.specs.declared.refusals.MergeRefusal.TheVariants as merge
use Rattle.merge.specs.declared.refusals.RowsRefusal.{RowsRefusal}
use Rattle.merge.specs.declared.refusals.RowsRefusal.TheVariants as rows

-- 13, or the scan's number
abbrev pub merge_number : MergeRefusal → ℕ
merge_number merge.BadPart = 13
merge_number (merge.Scan part why) = scan_number why

-- the same, and 3
abbrev pub rows_number : RowsRefusal → ℕ
rows_number (rows.Merge why) = merge_number why
rows_number rows.NoRoom = 3

-- the same as the merge, and 14
abbrev pub drain_number : DrainRefusal → ℕ
drain_number (drain.Merge why) = merge_number why
drain_number drain.NotMatched = 14

-- A scan's refusal has values: the part, then the scan's own. The others have none.

abbrev pub merge_values : MergeRefusal → List ℕ
merge_values merge.BadPart = []
merge_values (merge.Scan part why) = part ∷ scan_values why

abbrev pub rows_values : RowsRefusal → List ℕ
rows_values (rows.Merge why) = merge_values why
rows_values rows.NoRoom = []

abbrev pub drain_values : DrainRefusal → List ℕ
drain_values (drain.Merge why) = merge_values why
drain_values drain.NotMatched = []

-- The number, then the values.

abbrev pub merge_says : MergeRefusal → List ℕ
merge_says why = merge_number why ∷ merge_values why

abbrev pub rows_says : RowsRefusal → List ℕ
rows_says why = rows_number why ∷ rows_values why

abbrev pub drain_says : DrainRefusal → List ℕ
drain_says why = drain_number why ∷ drain_values why

-- what is said of a scan's refusal in part i
abbrev pub of_part : ℕ → ScanRefusal → List ℕ
of_part i why = scan_number why ∷ i ∷ scan_values why

-- A refused answer, named together with its number and values: wrong ones have no such proof.

abbrev pub refuse_merge : {T : Type 0} (says : List ℕ) (why : MergeRefusal) → merge_says why ≡ says → Result T MergeRefusal
refuse_merge says why e = Err why

abbrev pub refuse_rows : {T : Type 0} (says : List ℕ) (why : RowsRefusal) → rows_says why ≡ says → Result T RowsRefusal
refuse_rows says why e = Err why

abbrev pub refuse_drain : {T : Type 0} (says : List ℕ) (why : DrainRefusal) → drain_says why ≡ says → Result T DrainRefusal
refuse_drain says why e = Err why

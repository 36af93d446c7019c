-- The parts of a merge as columns of sixteen numbers.
use Rattle.std.specs.Prelude.{ℕ, List, map, get_or, Option, unwrap_or, Result}
use Rattle.std.specs.Result.{result_map_both}
use Rattle.std.specs.List.{range_with_len}
use Rattle.merge.specs.Refusals.{rows_number}
use Rattle.merge.specs.declared.parts.Part.{Part}
use Rattle.merge.specs.declared.parts.MergeScanner.{MergeScanner}
use Rattle.merge.specs.declared.refusals.RowsRefusal.{RowsRefusal}
use Rattle.boundary.specs.Rows.{counted}

-- part i of the columns: starts, lengths, file ids, positions
abbrev pub part_at : List ℕ → List ℕ → List ℕ → List ℕ → ℕ → Part
part_at s n f p i = record { start = get_or s i 0; length = get_or n i 0; file = get_or f i 0; at = get_or p i 0 }

-- all sixteen
abbrev pub parts_of : List ℕ → List ℕ → List ℕ → List ℕ → List Part
parts_of s n f p = map (part_at s n f p) (range_with_len 0 16)

-- a merge of the first `count`, at those positions
abbrev pub table_of : ℕ → List ℕ → List ℕ → List ℕ → List ℕ → MergeScanner
table_of count s n f p = record { count = count; parts = parts_of s n f p }

-- the positions
abbrev pub ats_of : List Part → List ℕ
ats_of ps = map (λ (p : Part). p.at) ps

-- how many rows, none at the end; refused, document 01's number below zero
abbrev pub rowed_number : Result (Option ℕ) RowsRefusal → ℕ
rowed_number answer = counted rows_number (result_map_both (λ rows. unwrap_or rows 0) (λ why. why) answer)

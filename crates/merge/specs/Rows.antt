-- What one pass of the merge writes: as many calls of `next` as rows are left, each entry a row of nine numbers.
use Rattle.std.specs.Prelude.{ℕ, zero, suc, ◌/◌, refl, List, [], ◌∷◌, ◌++◌, ◌≡◌, Bool, ltb, length, Option, Some, None, Result, Ok, Err}
use Rattle.std.proofs.lemmas.List.Edits.{sets}
use Rattle.numbers.specs.Pick.{pick}
use Rattle.merge.specs.declared.parts.MergeScanner.{MergeScanner}
use Rattle.merge.specs.declared.heads.MergeEntry.{MergeEntry}
use Rattle.merge.specs.declared.refusals.MergeRefusal.{MergeRefusal}
use Rattle.merge.specs.declared.refusals.RowsRefusal.{RowsRefusal}
use Rattle.merge.specs.declared.refusals.RowsRefusal.TheVariants as refusal
use Rattle.merge.specs.declared.rows.Rowed.{Rowed}
use Rattle.merge.specs.Merge.{Answer, next_of}
use Rattle.merge.specs.Refusals.{merge_says, refuse_rows}

-- a row: part, file id, offset, the key's place and length, seqno, stated length, the value's place and length
abbrev pub row_of : MergeEntry → List ℕ
row_of x = x.part ∷ x.file ∷ x.offset ∷ x.key.at ∷ x.key.len ∷ x.seqno ∷ x.stated ∷ x.value.at ∷ x.value.len ∷ []

-- rows one after another
unfoldable pub rows_of : List MergeEntry → List ℕ
rows_of [] = []
rows_of (x ∷ xs) = row_of x ++ rows_of xs

-- an entry goes before the rest; the end and a refusal end the list
unfoldable pub listed : Answer → List MergeEntry → List MergeEntry
listed (Ok (Some x)) rest = x ∷ rest
listed (Ok None) rest = []
listed (Err why) rest = []

-- the entries that k calls of `next` give, up to the first that gives none
unfoldable pub given : ℕ → List ℕ → MergeScanner → List MergeEntry
given zero image m = []
given (suc k) image m = listed (next_of m image).answer (given k image (next_of m image).state)

-- the state after k calls of `next`
unfoldable pub after : ℕ → List ℕ → MergeScanner → MergeScanner
after zero image m = m
after (suc k) image m = after k image (next_of m image).state

-- what is told of one pass: how many rows, or none at the end
abbrev pub RowsAnswer : Type 0
RowsAnswer = Result (Option ℕ) RowsRefusal

-- the end or the refusal is the answer of the call that finds it first thing; "the output does not fit its buffer" is 3
unfoldable pub rows_said : {T : Type 0} → Result (Option T) MergeRefusal → Bool → ℕ → RowsAnswer
rows_said (Ok (Some x)) fits n = pick fits (Ok (Some n)) (refuse_rows (3 ∷ []) refusal.NoRoom refl)
rows_said (Ok None) fits n = Ok None
rows_said (Err why) fits n = refuse_rows (merge_says why) (refusal.Merge why) refl

-- how many whole rows so many numbers are
abbrev pub whole_rows : List ℕ → ℕ
whole_rows buf = length buf / 9

-- the answer of one pass, and the state after it
unfoldable pub rowed_of : MergeScanner → List ℕ → List ℕ → Rowed
rowed_of m image buf = record {
  state = after (whole_rows buf) image m;
  answer = rows_said (next_of m image).answer (ltb 0 (whole_rows buf)) (length (given (whole_rows buf) image m));
}

-- the lent numbers after one pass: the rows from the first on, and every other number as it was
unfoldable pub rowed_in : MergeScanner → List ℕ → List ℕ → List ℕ
rowed_in m image buf = sets buf 0 (rows_of (given (whole_rows buf) image m))

-- what one pass did that wrote so many rows: the state and the lent numbers after it
pub record Wrote (image : List ℕ) (m : MergeScanner) (buf : List ℕ) (m' : MergeScanner) (buf' : List ℕ) (rows : ℕ) : Type 0 where
  pub state : m' ≡ after (whole_rows buf) image m
  pub count : rows ≡ length (given (whole_rows buf) image m)
  pub numbers : buf' ≡ rowed_in m image buf

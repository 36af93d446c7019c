-- The merge's theorems, stated of the definitions that the contracts cite. All are proved: proofs/Theorems.antt has the record at the end.
use Rattle.std.specs.Prelude.{ℕ, suc, ◌*◌, ◌<◌, ◌≤◌, ◌≡◌, List, [], ◌∷◌, true, false, eqb, length, take, get_or, Some, None, Ok, Err}
use Rattle.numbers.specs.Pick.{pick}
use Rattle.numbers.specs.declared.handle.ValueHandle.{ValueHandle}
use Rattle.frames.specs.declared.steps.Scanner.{Scanner}
use Rattle.frames.specs.declared.steps.ScanEntry.{ScanEntry}
use Rattle.frames.specs.declared.steps.Step.TheVariants as scanned
use Rattle.merge.specs.declared.parts.Part.{Part}
use Rattle.merge.specs.declared.parts.MergeScanner.{MergeScanner}
use Rattle.merge.specs.declared.heads.MergeEntry.{MergeEntry}
use Rattle.merge.specs.declared.refusals.MergeRefusal.TheVariants as merge
use Rattle.merge.specs.declared.refusals.DrainRefusal.TheVariants as refusal
use Rattle.merge.specs.Parts.{table_ok, moved, start_of}
use Rattle.merge.specs.Merge.{scan_at, entry_of, next_of}
use Rattle.merge.specs.Rows.{given}
use Rattle.merge.specs.Drain.{left, drain_in, drain_of}
use Rattle.merge.specs.Sorted.{Sorted}

-- the scan of part i from its position on is not refused, and gives these entries
pub data Reads (image : List ℕ) (i : ℕ) : Part → List MergeEntry → Type 0 where
  ended : {p : Part} {at : ℕ} {n : Scanner} → scan_at image p ≡ scanned.End at n → Reads image i p []
  found : {p : Part} {e : ScanEntry} {n : Scanner} {l : List MergeEntry} → scan_at image p ≡ scanned.Entry e n → Reads image i (moved n.at p) l → Reads image i p (entry_of i p e ∷ l)

-- so do the scans of the parts from number i on
pub data ReadsAll (image : List ℕ) : ℕ → List Part → List (List MergeEntry) → Type 0 where
  empty : {i : ℕ} → ReadsAll image i [] []
  part : {i : ℕ} {p : Part} {ps : List Part} {l : List MergeEntry} {ls : List (List MergeEntry)} → Reads image i p l → ReadsAll image (suc i) ps ls → ReadsAll image i (p ∷ ps) (l ∷ ls)

-- calls of `next` give these entries, and then the end
pub data Gives (image : List ℕ) : MergeScanner → List MergeEntry → Type 0 where
  over : {m : MergeScanner} → (next_of m image).answer ≡ Ok None → Gives image m []
  one : {m : MergeScanner} {x : MergeEntry} {out : List MergeEntry} → (next_of m image).answer ≡ Ok (Some x) → Gives image (next_of m image).state out → Gives image m (x ∷ out)

-- the entries of part j among others, in their order
unfoldable pub from_part : ℕ → List MergeEntry → List MergeEntry
from_part j [] = []
from_part j (x ∷ xs) = pick (eqb x.part j) (x ∷ from_part j xs) (from_part j xs)

-- the state that `start` makes has a sound table, and its parts are not refused and give the lists ls
pub record Started (image : List ℕ) (count : ℕ) (parts : List Part) (ls : List (List MergeEntry)) : Type 0 where
  pub ok : table_ok (length image) (start_of count parts) ≡ true
  pub reads : ReadsAll image 0 (take count (start_of count parts).parts) ls

-- such a merge comes to its end
abbrev pub MergeEnds : Type 0
MergeEnds = (image : List ℕ) (count : ℕ) (parts : List Part) (ls : List (List MergeEntry)) → Started image count parts ls → (out : List MergeEntry) × Gives image (start_of count parts) out

-- and gives exactly the parts' entries: those of part j, each once, are what the scan of part j gives, with its own part and offset
abbrev pub MergeExact : Type 0
MergeExact = (image : List ℕ) (count : ℕ) (parts : List Part) (ls : List (List MergeEntry)) → Started image count parts ls
    → (out : List MergeEntry) → Gives image (start_of count parts) out → (j : ℕ) → from_part j out ≡ get_or ls j []

-- "if every part is sorted so, the output is"
abbrev pub MergeSorted : Type 0
MergeSorted = (image : List ℕ) (count : ℕ) (parts : List Part) (ls : List (List MergeEntry)) → Started image count parts ls
    → ((j : ℕ) → Sorted image (get_or ls j [])) → (out : List MergeEntry) → Gives image (start_of count parts) out → Sorted image out

-- from any state and for any image, no more entries come than a fourth of the bytes left in the parts, nor than four times the image's bytes: the call after them gives the end or a refusal
abbrev pub MergeBounded : Type 0
MergeBounded = (image : List ℕ) (m : MergeScanner) (k : ℕ) → (4 * length (given k image m) ≤ left m) × (length (given k image m) ≤ 4 * length image)

-- "only 13 hands back the state as it came in": it is given of a malformed table alone, before any entry was skipped
abbrev pub DrainSame : Type 0
DrainSame = (image key : List ℕ) (handle : ValueHandle) (m : MergeScanner) → (drain_of m image key handle).outcome ≡ Err (refusal.Merge merge.BadPart)
    → (table_ok (length image) m ≡ false) × ((drain_of m image key handle).state ≡ m)

-- the calls that a drain makes are enough: it ends of itself, and any more calls give the same
abbrev pub DrainEnough : Type 0
DrainEnough = (image key : List ℕ) (handle : ValueHandle) (m : MergeScanner) (k : ℕ) → left m < k → drain_in k image key handle m ≡ drain_of m image key handle

pub record Theorems : Type 0 where
  pub merge_ends : MergeEnds
  pub merge_exact : MergeExact
  pub merge_sorted : MergeSorted
  pub merge_bounded : MergeBounded
  pub drain_same : DrainSame
  pub drain_enough : DrainEnough

-- The sums that the functions hash, over plain bytes; their proofs cite these laws.
use Rattle.frames.specs.Layout.{header_length}
use Prim.Native.Nat.{ℕ, ◌+◌}
use mathlib.Core.Path.{◌≡◌, ◌∙◌}
use mathlib.Core.List.{List, ◌++◌}
use lib.ListN.{take, drop}
use Rattle.hash.specs.declared.Hash128.{Hash128}
use Rattle.hash.specs.XXH3.{xxh3_128}
use Rattle.frames.specs.Point.{taken_sum}
use Rattle.frames.proofs.PointLaws.{taken_once}
use Rattle.frames.specs.Scan.{Framed, Scanned, part_at, sum_at, frame_at, checked_of, step_of}
use Rattle.frames.specs.declared.steps.Scanner.{Scanner}
use Rattle.frames.specs.declared.steps.ScanEntry.{ScanEntry}

-- of what was taken, in one part or in two
module _ (t : List ℕ) (hk k : ℕ) (r : Hash128) where
  pub one-part_law : (u : List ℕ) → hk ≡ k → u ≡ drop header_length t → r ≡ xxh3_128 u → r ≡ taken_sum t hk k
  one-part_law u e p h = h ∙ taken_once t u hk k e p

  pub two-parts_law : (key value : List ℕ) → key ≡ take hk (drop header_length t) → value ≡ drop (header_length + k) t → r ≡ xxh3_128 (key ++ value) → r ≡ taken_sum t hk k
  unfolding taken_sum
  two-parts_law key value e f h = rw (h, e, f)

-- of an entry
pub entry_law : (s : List ℕ) (e : ScanEntry) (r : Hash128) → r ≡ xxh3_128 (part_at s e.key ++ part_at s e.value) → r ≡ sum_at s e
unfolding sum_at
entry_law s e r h = h

-- a step up to the sum, and then its test
pub step_law : (s : List ℕ) (w : Scanner) (f : Framed) (r : Scanned) → f ≡ frame_at s w → r ≡ checked_of s f → r ≡ step_of s w
unfolding step_of
step_law s w f r e h = rw (h, e)

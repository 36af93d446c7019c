-- One pass, in the code's own shape: the heads kept as the leaves of a tournament. PassLaws ties it to the merge's definition.
use Rattle.std.specs.Prelude.{ℕ, suc, ◌+◌, ◌*◌, ◌<◌, ◌≤◌, ◌≡◌, List, [], ◌∷◌, true, length, take, get_or, Option, Some, None}
use Rattle.std.specs.Option.{option_or}
use Rattle.std.specs.Result.{result_err, result_unwrap_or}
use Rattle.numbers.specs.Pick.{pick}
use Rattle.merge.specs.declared.heads.Head.{Head}
use Rattle.merge.specs.declared.parts.Part.{Part}
use Rattle.merge.specs.declared.parts.MergeScanner.{MergeScanner}
use Rattle.merge.specs.declared.refusals.MergeRefusal.{MergeRefusal}
use Rattle.merge.specs.Parts.{no_part, table_ok}
use Rattle.merge.specs.Merge.{Foremost, ahead, head_of}

-- what is kept of what a part shows: its head, or none
abbrev pub kept : Foremost → Option Head
kept s = result_unwrap_or s None

-- the refusal of the lowest part, of those from number i on
unfoldable pub refusal_from : List ℕ → ℕ → List Part → Option MergeRefusal
refusal_from image i [] = None
refusal_from image i (p ∷ ps) = option_or (result_err (head_of image i p)) (refusal_from image (suc i) ps)

-- the one of two heads that goes first
unfoldable pub winner : List ℕ → Option Head → Option Head → Option Head
winner image None y = y
winner image (Some x) None = Some x
winner image (Some x) (Some y) = pick (ahead image x.entry y.entry) (Some x) (Some y)

-- node j of a tournament
abbrev pub node_at : List (Option Head) → ℕ → Option Head
node_at t j = get_or t j None

-- node j is the winner of the two below it
abbrev pub Won : List ℕ → List (Option Head) → ℕ → Type 0
Won image t j = node_at t j ≡ winner image (node_at t (2 * j)) (node_at t (2 * j + 1))

-- every node over the leaves is won, and the leaves are as they were
pub record Settled (image : List ℕ) (t t' : List (Option Head)) : Type 0 where
  pub size : length t' ≡ length t
  pub won : (j : ℕ) → 0 < j → j < 16 → Won image t' j
  pub same : (k : ℕ) → 16 ≤ k → node_at t' k ≡ node_at t k

-- leaf 16 + i is the head of part i, for the first n parts, and the other leaves are empty
pub record Leaves (image : List ℕ) (n : ℕ) (ps : List Part) (t : List (Option Head)) : Type 0 where
  pub leaf : (k : ℕ) → k < n → node_at t (16 + k) ≡ kept (head_of image k (get_or ps k no_part))
  pub rest : (k : ℕ) → n ≤ k → k < 16 → node_at t (16 + k) ≡ None

-- a pass over a table that is one: a whole tournament over the heads, and their lowest refusal
pub record Going (image : List ℕ) (m : MergeScanner) (t : List (Option Head)) (f : Option MergeRefusal) : Type 0 where
  pub parts : length m.parts ≡ 16
  pub nodes : length t ≡ 32
  pub ok : table_ok (length image) m ≡ true
  pub leaves : Leaves image m.count m.parts t
  pub won : (j : ℕ) → 0 < j → j < 16 → Won image t j
  pub refusal : f ≡ refusal_from image 0 (take m.count m.parts)

-- What it means that entries are sorted: document 01, "If every part is sorted so, the output is".
use Rattle.std.specs.Prelude.{ℕ, ◌<◌, ◌≤◌, ◌≡◌, List, [], ◌∷◌}
use Rattle.frames.specs.Scan.{part_at}
use Rattle.merge.specs.declared.heads.MergeEntry.{MergeEntry}

-- byte strings in order, a prefix before the longer
pub data Below : List ℕ → List ℕ → Type 0 where
  short : {y : ℕ} {b : List ℕ} → Below [] (y ∷ b)
  here : {x y : ℕ} {a b : List ℕ} → x < y → Below (x ∷ a) (y ∷ b)
  later : {x : ℕ} {a b : List ℕ} → Below a b → Below (x ∷ a) (x ∷ b)

-- entries in order: by key, then the larger seqno, then the lower part number
pub data Leq (image : List ℕ) (x y : MergeEntry) : Type 0 where
  by_key : Below (part_at image x.key) (part_at image y.key) → Leq image x y
  by-seqno : part_at image x.key ≡ part_at image y.key → y.seqno < x.seqno → Leq image x y
  by_part : part_at image x.key ≡ part_at image y.key → x.seqno ≡ y.seqno → x.part ≤ y.part → Leq image x y

abbrev pub All : (MergeEntry → Type 0) → List MergeEntry → Type 0
All P [] = Unit {0}
All P (x ∷ l) = P x × All P l

-- every entry is in order with each after it
unfoldable pub Sorted : List ℕ → List MergeEntry → Type 0
Sorted image [] = Unit {0}
Sorted image (x ∷ l) = All (Leq image x) l × Sorted image l

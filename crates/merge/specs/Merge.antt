-- What a call of the merge answers: document 01, "The merge and the drain".
use Rattle.std.specs.Prelude.{ℕ, suc, ◌+◌, refl, List, [], ◌∷◌, Bool, true, false, ltb, eqb, length, take, drop, Option, Some, None, Result, Ok, Err}
use Rattle.std.specs.declared.cmp.Ordering.{Ordering}
use Rattle.std.specs.declared.cmp.Ordering.TheVariants.{Less, Equal, Greater}
use Rattle.numbers.specs.Pick.{pick}
use Rattle.frames.specs.Scan.{going, part_at, step_of}
use Rattle.frames.specs.declared.place.Place.{Place}
use Rattle.frames.specs.declared.steps.ScanEntry.{ScanEntry}
use Rattle.frames.specs.Scan.{Scanned}
use Rattle.frames.specs.declared.steps.Step.TheVariants as scanned
use Rattle.merge.specs.declared.parts.Part.{Part}
use Rattle.merge.specs.declared.parts.MergeScanner.{MergeScanner}
use Rattle.merge.specs.declared.heads.Head.{Head}
use Rattle.merge.specs.declared.heads.MergeEntry.{MergeEntry}
use Rattle.merge.specs.declared.next.Merged.{Merged}
use Rattle.merge.specs.declared.refusals.MergeRefusal.{MergeRefusal}
use Rattle.merge.specs.declared.refusals.MergeRefusal.TheVariants as refusal
use Rattle.merge.specs.Order.{order_of}
use Rattle.merge.specs.Parts.{table_ok, taken_of}
use Rattle.merge.specs.Refusals.{of_part, refuse_merge}

-- what the scan of a part answers at its position
unfoldable pub scan_at : List ℕ → Part → Scanned
scan_at image p = step_of (take p.length (drop p.start image)) (going p.at)

-- a place of a part that starts at `start`, as a place of the image
abbrev pub place_in : ℕ → Place → Place
place_in start q = record { at = start + q.at; len = q.len }

-- the entry of part i: its offset counts from the part's start, its key and value lie in the image
abbrev pub entry_of : ℕ → Part → ScanEntry → MergeEntry
entry_of i p e = record {
  part = i;
  file = p.file;
  offset = e.offset;
  key = place_in p.start e.key;
  seqno = e.seqno;
  stated = e.stated;
  value = place_in p.start e.value;
}

-- "equal keys by seqno, larger first, compared as numbers; equal both, lower part number first"
unfoldable pub ranked : Ordering → ℕ → ℕ → ℕ → ℕ → Bool
ranked Less seqno part seqno' part' = true
ranked Greater seqno part seqno' part' = false
ranked Equal seqno part seqno' part' = pick (eqb seqno seqno') (ltb part part') (ltb seqno' seqno)

-- "least key first": whether x goes before y
unfoldable pub ahead : List ℕ → MergeEntry → MergeEntry → Bool
ahead image x y = ranked (order_of (part_at image x.key) (part_at image y.key)) x.seqno x.part y.seqno y.part

-- what goes first: an entry with the position after it, or none, or the refusal of a part
abbrev pub Foremost : Type 0
Foremost = Result (Option Head) MergeRefusal

-- what the scan of part i shows
unfoldable pub shown : ℕ → Part → Scanned → Foremost
shown i p (scanned.Entry e next) = Ok (Some (record { entry = entry_of i p e; next = next.at }))
shown i p (scanned.End at next) = Ok None
shown i p (scanned.Refused why next) = refuse_merge (of_part i why) (refusal.Scan i why) refl

-- what part i shows at its position
unfoldable pub head_of : List ℕ → ℕ → Part → Foremost
head_of image i p = shown i p (scan_at image p)

-- which of two goes first, the lower part's given first: "the lowest refusing part speaks", and of two entries the one ahead
unfoldable pub first : List ℕ → Foremost → Foremost → Foremost
first image (Ok None) b = b
first image (Err why) b = Err why
first image (Ok (Some x)) (Ok None) = Ok (Some x)
first image (Ok (Some x)) (Err why) = Err why
first image (Ok (Some x)) (Ok (Some y)) = pick (ahead image x.entry y.entry) (Ok (Some x)) (Ok (Some y))

-- what goes first of the parts from number i on
unfoldable pub foremost : List ℕ → ℕ → List Part → Foremost
foremost image i [] = Ok None
foremost image i (p ∷ ps) = first image (head_of image i p) (foremost image (suc i) ps)

-- what goes first of all parts
abbrev pub front_of : List ℕ → MergeScanner → Foremost
front_of image m = foremost image 0 (take m.count m.parts)

-- what a call answers: an entry, or none at the end
abbrev pub Answer : Type 0
Answer = Result (Option MergeEntry) MergeRefusal

-- the entry that goes first is taken; "a merge refusal hands the merge state back"
unfoldable pub settle : MergeScanner → Foremost → Merged
settle m (Ok None) = record { state = m; answer = Ok None }
settle m (Ok (Some x)) = record { state = taken_of m x.entry.part x.next; answer = Ok (Some x.entry) }
settle m (Err why) = record { state = m; answer = Err why }

-- one call; a malformed "part table (13) comes before all else"
unfoldable pub next_of : MergeScanner → List ℕ → Merged
next_of m image =
    pick (table_ok (length image) m) (settle m (front_of image m))
    (record { state = m; answer = refuse_merge (13 ∷ []) refusal.BadPart refl })

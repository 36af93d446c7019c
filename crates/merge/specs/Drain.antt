-- What a drain answers: document 01, "The merge and the drain", second paragraph.
use Rattle.std.specs.Prelude.{ℕ, zero, suc, ◌+◌, ◌-◌, refl, List, [], ◌∷◌, ltb, eqb, Option, Some, None, Result, Ok, Err}
use Rattle.std.specs.declared.cmp.Ordering.{Ordering}
use Rattle.std.specs.declared.cmp.Ordering.TheVariants.{Less, Equal, Greater}
use Rattle.numbers.specs.Pick.{pick}
use Rattle.numbers.specs.declared.handle.ValueHandle.{ValueHandle}
use Rattle.frames.specs.Scan.{part_at}
use Rattle.merge.specs.declared.parts.Part.{Part}
use Rattle.merge.specs.declared.parts.MergeScanner.{MergeScanner}
use Rattle.merge.specs.declared.heads.MergeEntry.{MergeEntry}
use Rattle.merge.specs.declared.refusals.DrainRefusal.{DrainRefusal}
use Rattle.merge.specs.declared.refusals.DrainRefusal.TheVariants as refusal
use Rattle.merge.specs.declared.drain.Outcome.{Outcome}
use Rattle.merge.specs.declared.drain.Outcome.TheVariants as outcome
use Rattle.merge.specs.declared.drain.Drained.{Drained}
use Rattle.merge.specs.Order.{order_of}
use Rattle.merge.specs.Merge.{Answer, next_of}
use Rattle.merge.specs.Refusals.{merge_says, refuse_drain}

-- how a drain leaves
abbrev pub Leaving : Type 0
Leaving = Result Outcome DrainRefusal

-- "the sought key, the sought file and an offset at or above the handle's": found or past; any other entry is skipped, but for one whose key is above
unfoldable pub judged : Ordering → MergeEntry → ValueHandle → Option Leaving
judged Less x handle = None
judged Greater x handle = Some (refuse_drain (14 ∷ []) refusal.NotMatched refl)
judged Equal x handle =
    pick (eqb x.file handle.file)
    (pick (eqb x.offset handle.offset) (Some (Ok outcome.Found))
    (pick (ltb handle.offset x.offset) (Some (Ok outcome.Past))
    None))
    None

-- how it leaves at an entry; none where the entry is skipped
unfoldable pub stop_of : List ℕ → MergeEntry → List ℕ → ValueHandle → Option Leaving
stop_of image x key handle = judged (order_of (part_at image x.key) key) x handle

-- the drain leaves with the state that it has
abbrev pub leave : MergeScanner → Leaving → Drained
leave m o = record { state = m; outcome = o }

-- an entry that is not skipped stays untaken
unfoldable pub judged_by : MergeScanner → Drained → Option Leaving → Drained
judged_by m rest (Some o) = leave m o
judged_by m rest None = rest

-- "if the scan yields no entry, it leaves at once with the end or the refusal"
unfoldable pub drained_by : List ℕ → List ℕ → ValueHandle → MergeScanner → Drained → Answer → Drained
drained_by image key handle m rest (Ok (Some x)) = judged_by m rest (stop_of image x key handle)
drained_by image key handle m rest (Ok None) = leave m (Ok outcome.End)
drained_by image key handle m rest (Err why) = leave m (refuse_drain (merge_says why) (refusal.Merge why) refl)

-- the bytes left in the first n parts
unfoldable pub left_in : ℕ → List Part → ℕ
left_in zero ps = 0
left_in (suc n) [] = 0
left_in (suc n) (p ∷ ps) = (p.length - p.at) + left_in n ps

-- the bytes that a merge has left
abbrev pub left : MergeScanner → ℕ
left m = left_in m.count m.parts

-- k calls of `next` at most
unfoldable pub drain_in : ℕ → List ℕ → List ℕ → ValueHandle → MergeScanner → Drained
drain_in zero image key handle m = leave m (Ok outcome.End)
drain_in (suc k) image key handle m =
    drained_by image key handle m (drain_in k image key handle (next_of m image).state) (next_of m image).answer

-- the whole drain: every entry taken lowers the bytes left, so one call more than there are is as many as it can make
unfoldable pub drain_of : MergeScanner → List ℕ → List ℕ → ValueHandle → Drained
drain_of m image key handle = drain_in (suc (left m)) image key handle m

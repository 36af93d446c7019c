-- A run's buffer is its frames' bytes one after another, then META; so a scan and point reads give the frames back, each by the law of one frame.
use Prim.Native.Nat.{ℕ, ◌+◌, ◌-◌, ◌≤◌}
use mathlib.Core.Path.{◌≡◌, refl, sym, ap, subst, ◌∙◌}
use mathlib.Core.List.{List, [], ◌∷◌, ◌++◌, append_assoc, append-nil}
use mathlib.Core.Bool.{Bool, true, false}
use native.Mathlib.Omega.{arith}
use native.Mathlib.Nat.{add-zero, zero-add}
use lib.ListN.{length, drop, length-append, length-drop}
use lib.Seq.{sets-eq, length-sets, drop_at}
use Rattle.numbers.specs.Pick.{pick}
use Rattle.frames.specs.Layout.{meta, header_length, starts}
use Rattle.frames.specs.LayoutLaws.{le-meta}
use Rattle.frames.specs.Shape.{size_of, shape_of, blob_form}
use Rattle.frames.specs.Write.{nowhere, end_bytes, report_of}
use Rattle.frames.specs.Scan.{going, frame_at, step_of}
use Rattle.frames.proofs.ScanLaws.{at-meta, checked-end}
use Rattle.frames.specs.Runs.{Call, Typed, Frame, Each, Run, run, all_bytes}
use Rattle.frames.specs.Ran.{Put, Laid, Ran, grown_by, stated_sum, disk_sum, first_key, last_key}
use Rattle.frames.specs.GrownLaws.{blob-sized, grown-items, grown-disk, grown-stated, grown-first, grown-last}
use Rattle.frames.specs.RunLaws.{ran, ran_offset, ran-items}
use Rattle.frames.specs.Scans.{walk_from, walk_of, ahead, ends_at}
use Rattle.frames.specs.Theorems.{entry_for, entries_for, Lies, Found, written, report_for, Bytes, ScanBack, ReadBack, Reports}
use Rattle.frames.specs.declared.state.Writer.{Writer}
use Rattle.frames.specs.declared.writer.Report.{Report}
use Rattle.frames.specs.declared.steps.ScanEntry.{ScanEntry}
use Rattle.frames.specs.declared.steps.Step.TheVariants as scanned
use Rattle.frames.proofs.Back.{Small, after, step_back, key_back, value-back, told_back}
use Rattle.frames.proofs.Walking.{walk_entry, walk_end}

-- what stands in a buffer behind what was stored at 0
stored : (w : Writer) (s : List ℕ) (r : Run) → w.offset ≡ 0 → Ran blob_form w s r
    → r.buffer ≡ written r ++ drop (length (written r)) s
stored w s r o p =
    let v = written r in
    let f : 0 + length v ≤ length s = rw o at (p.fits (rw o (omega arith))) in
    p.buffer ∙ rw o (sets-eq v s 0 f ∙ rw (zero-add (length v)))

pub bytes : Bytes
bytes w s cs o on t =
    let p = ran blob_form blob-sized cs w s on t in
    let z = ran_offset blob_form blob-sized w s (run cs w s) p in (
      stored w s (run cs w s) o p,
      rw p.buffer (length-sets s w.offset (written (run cs w s))),
      omega arith,
    )

-- frames laid in a file from an offset on
abbrev Holds : List ℕ → ℕ → List Frame → Type 0
Holds s o fs = (rest : List ℕ) × (drop o s ≡ all_bytes blob_form fs ++ rest)

module _ (s : List ℕ) (id o : ℕ) (f : Frame) (fs : List Frame) (p : Put id o f) (h : Holds s o (f ∷ fs)) where
  abbrev bytes_of : List ℕ
  bytes_of = blob_form.bytes f.item

  here : drop o s ≡ bytes_of ++ (all_bytes blob_form fs ++ h.0)
  unfolding all_bytes
  here = h.1 ∙ append_assoc bytes_of (all_bytes blob_form fs) h.0

  size : length bytes_of ≡ header_length + length f.item.key + length f.item.value + 0
  size = blob-sized f.item

  behind : Holds s (o + (header_length + length f.item.key + length f.item.value + 0)) fs
  behind = (h.0, after o _ s bytes_of (all_bytes blob_form fs ++ h.0) here size)

  offset : f.pointer.handle.offset ≡ o
  offset = rw p.pointer

  on-disk : f.pointer.handle.size ≡ length f.item.value
  on-disk = rw p.pointer

  small : Small f.item
  small = let k = p.key in let v = p.value in record { key = omega arith; value = omega arith; seqno = p.seqno; stated = p.stated }

  step : step_of s (going o) ≡ scanned.Entry (entry_for f) (going (o + (header_length + length f.item.key + length f.item.value + 0)))
  step =
      let e : o + (header_length + length f.item.key + length f.item.value + 0) ≡ o + header_length + length f.item.key + length f.item.value = omega arith in
      rw (e, offset) (step_back f.item small (all_bytes blob_form fs ++ h.0) (drop o s) here s o refl)

  parts : Lies s f
  parts = (
    rw offset (key_back f.item small (all_bytes blob_form fs ++ h.0) (drop o s) here s o refl),
    rw offset (value-back f.item small (all_bytes blob_form fs ++ h.0) (drop o s) here s o refl),
  )

  told : Found s f
  told = told_back f.item small (all_bytes blob_form fs ++ h.0) s f.pointer.handle on-disk (rw offset here)

-- the scan goes over the frames, and on from behind them
gives : (s : List ℕ) (id o : ℕ) (fs : List Frame) → Laid blob_form id o fs → Holds s o fs
    → walk_from s (going o) ≡ ahead (entries_for fs) (walk_from s (going (o + length (all_bytes blob_form fs))))
unfolding all_bytes
gives s id o [] l h = ap (λ (n : ℕ). walk_from s (going n)) (sym (add-zero o))
gives s id o (f ∷ fs) l h =
    let n = size s id o f fs l.0 h in
    let k = length-append (blob_form.bytes f.item) (all_bytes blob_form fs) in
    let m : o + (header_length + length f.item.key + length f.item.value + 0) + length (all_bytes blob_form fs)
    ≡ o + length (blob_form.bytes f.item ++ all_bytes blob_form fs) = omega arith in
    walk_entry s (going o) _ (entry_for f) (step s id o f fs l.0 h)
    ∙ ap (ahead (entry_for f ∷ [])) (gives s id (o + size_of (shape_of blob_form f.item)) fs l.1 (behind s id o f fs l.0 h)
    ∙ ap (λ (x : ℕ). ahead (entries_for fs) (walk_from s (going x))) m)

-- a law of each frame where it lies
each : (P : Frame → Type 0) (s : List ℕ) → ((id o : ℕ) (f : Frame) (fs : List Frame) → Put id o f → Holds s o (f ∷ fs) → P f)
    → (id o : ℕ) (fs : List Frame) → Laid blob_form id o fs → Holds s o fs → Each P fs
each P s law id o [] l h = tt
each P s law id o (f ∷ fs) l h = (law id o f fs l.0 h, each P s law id (o + size_of (shape_of blob_form f.item)) fs l.1 (behind s id o f fs l.0 h))

-- META where it stands
end : (s rest : List ℕ) (at : ℕ) → drop at s ≡ meta ++ rest → step_of s (going at) ≡ scanned.End at (record { at = at; ended = true })
unfolding step_of starts pick
end s rest at d =
    let a : length (drop at s) ≡ length s - at = length-drop at s in
    let b : length (drop at s) ≡ 4 + length rest = rw d (length-append meta rest) in
    checked-end s (frame_at s (going at)) at _ (at-meta s (going at) refl (omega arith) (drop at s) refl true (sym (rw (le-meta, d))) refl)

module _ (w : Writer) (s : List ℕ) (cs : List Call) (o : w.offset ≡ 0) (on : w.finished ≡ false) (t : Typed cs) where
  abbrev r : Run
  r = run cs w s

  known : Ran blob_form w s r
  known = ran blob_form blob-sized cs w s on t

  laid : Laid blob_form w.id 0 r.frames
  laid = subst (λ (n : ℕ). Laid blob_form w.id n r.frames) o known.laid

  holds : Holds r.buffer 0 r.frames
  holds =
      let rest = drop (length (written r)) s in
      (end_bytes r.writer.finished ++ rest, stored w s r o known ∙ append_assoc (all_bytes blob_form r.frames) (end_bytes r.writer.finished) rest)

  total : 0 + length (all_bytes blob_form r.frames) ≡ r.writer.offset
  total = let z = ran_offset blob_form blob-sized w s r known in omega arith

  over : walk_of r.buffer ≡ ahead (entries_for r.frames) (walk_from r.buffer (going r.writer.offset))
  over = gives r.buffer w.id 0 r.frames laid holds ∙ ap (λ (n : ℕ). ahead (entries_for r.frames) (walk_from r.buffer (going n))) total

  ended : r.writer.finished ≡ true → step_of r.buffer (going r.writer.offset) ≡ scanned.End r.writer.offset (record { at = r.writer.offset; ended = true })
  unfolding end_bytes holds
  ended off =
      let rest = drop (length (written r)) s in
      let d : drop r.writer.offset r.buffer ≡ end_bytes r.writer.finished ++ rest =
      rw (holds.1, ← total) (drop_at (all_bytes blob_form r.frames) (end_bytes r.writer.finished ++ rest) _ (sym (zero-add _))) in
      end r.buffer rest r.writer.offset (d ∙ rw off)

  to_end : r.writer.finished ≡ true → walk_of r.buffer ≡ ends_at (entries_for r.frames) r.writer.offset
  to_end off =
      over
      ∙ ap (ahead (entries_for r.frames)) (walk_end r.buffer (going r.writer.offset) _ r.writer.offset (ended off))
      ∙ ap (λ (es : List ScanEntry). ends_at es r.writer.offset) (append-nil (entries_for r.frames))

  -- The report: the fold's own numbers, from zero counts.
  module _ (zi : w.items ≡ 0) (zd : w.disk ≡ 0) (zs : w.stated ≡ 0) where
    some-frame : r.writer.finished ≡ true → (fs : List Frame) → r.frames ≡ fs → (fs ≡ [] → ⊥)
    some-frame off fs e none =
        let n = ran-items blob_form blob-sized w s r known in
        let z = known.some off in
        let k : length r.frames ≡ 0 = rw (e, none) in
        omega arith

    first_of : (fs : List Frame) → (fs ≡ [] → ⊥) → first_key blob_form fs w.first ≡ first_key blob_form fs nowhere
    unfolding first_key
    first_of [] h = absurd (h refl)
    first_of (f ∷ fs) h = refl

    last_of : (fs : List Frame) → (fs ≡ [] → ⊥) → last_key blob_form fs w.last ≡ last_key blob_form fs nowhere
    unfolding last_key
    last_of [] h = absurd (h refl)
    last_of (f ∷ fs) h = refl

    report-is : r.writer.finished ≡ true → report_of r.writer ≡ report_for r.frames
    report-is off =
        let fs = r.frames in
        let g = grown_by blob_form w fs in
        let n = some-frame off fs refl in
        let items : g.items ≡ length fs = (let x = grown-items blob_form fs w in omega arith) in
        let disk : g.disk ≡ disk_sum fs = (let x = grown-disk blob_form fs w in omega arith) in
        let stated : g.stated ≡ stated_sum fs = (let x = grown-stated blob_form fs w in omega arith) in
        let first = grown-first blob_form w.id fs w zi known.laid ∙ first_of fs n in
        let last = grown-last blob_form w.id fs w known.laid ∙ last_of fs n in
        ap report_of known.writer ∙ (λ j. record { items = items j; disk = disk j; stated = stated j; first = first j; last = last j })

    by : (b : Bool) → r.writer.finished ≡ b → pick b (report_of r.writer ∷ []) [] ≡ pick b (report_for r.frames ∷ []) []
    unfolding pick
    by true e = ap (λ (x : Report). x ∷ []) (report-is e)
    by false e = refl

    reported : r.reports ≡ pick r.writer.finished (report_for r.frames ∷ []) []
    reported = known.reports ∙ by r.writer.finished refl

pub scan-back : ScanBack
scan-back w s cs o on t = (
  over w s cs o on t,
  each _ (run cs w s).buffer (parts (run cs w s).buffer) w.id 0 (run cs w s).frames (laid w s cs o on t) (holds w s cs o on t),
  to_end w s cs o on t,
)

pub read_back_lem : ReadBack
read_back_lem w s cs o on t = each _ (run cs w s).buffer (told (run cs w s).buffer) w.id 0 (run cs w s).frames (laid w s cs o on t) (holds w s cs o on t)

pub reports : Reports
reports w s cs o on t zi zd zs = reported w s cs o on t zi zd zs

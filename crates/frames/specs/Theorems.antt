-- What follows from the contracts' definitions together: a run's bytes, scan-back, read-back, reports, progress, the scan as one, and a file that is cut.
-- The record `Theorems`, at the end, has all of them; its one value is in proofs/Theorems.antt.
use Rattle.std.specs.Prelude.{ℕ, ◌+◌, ◌-◌, ◌/◌, ◌<◌, ◌≤◌, ◌≡◌, List, [], ◌∷◌, ◌++◌, true, false, length, take, drop}
use Rattle.numbers.specs.Pick.{pick}
use Rattle.numbers.specs.Le.{Octets}
use Rattle.numbers.specs.declared.cut.CutShort.{CutShort}
use Rattle.frames.specs.Layout.{header_length, frame_bytes}
use Rattle.frames.specs.Shape.{blob_form}
use Rattle.frames.specs.Write.{nowhere, end_bytes}
use Rattle.frames.specs.Scan.{going, part_at, item_at, step_of}
use Rattle.frames.specs.Point.{read_of, part_of}
use Rattle.frames.specs.Runs.{Call, Typed, Frame, Each, Run, run, all_bytes}
use Rattle.frames.specs.Ran.{stated_sum, disk_sum, first_key, last_key}
use Rattle.frames.specs.Scans.{walk_from, walk_of, go_on, ahead, ends_at, after, is_over, over_within, whole_before}
use Rattle.frames.specs.declared.state.Writer.{Writer}
use Rattle.frames.specs.declared.writer.Report.{Report}
use Rattle.frames.specs.declared.steps.Scanner.{Scanner}
use Rattle.frames.specs.declared.steps.ScanEntry.{ScanEntry}
use Rattle.frames.specs.declared.steps.ScanRefusal.TheVariants as scan
use Rattle.frames.specs.declared.steps.Step.TheVariants as step

-- of any list of calls, from any unfinished writer whose offset is 0, in any buffer
abbrev pub OfRuns : (Writer → Run → List ℕ → Type 0) → Type 0
OfRuns P = (w : Writer) (s : List ℕ) (cs : List Call) → w.offset ≡ 0 → w.finished ≡ false → Typed cs → P w (run cs w s) s

-- the entry that a scan is to give for a frame: at its handle's offset, with its lengths, seqno and stated length
abbrev pub entry_for : Frame → ScanEntry
entry_for f = record {
  offset = f.pointer.handle.offset;
  key = record { at = f.pointer.handle.offset + header_length; len = length f.item.key };
  seqno = f.item.seqno;
  stated = f.item.stated;
  value = record { at = f.pointer.handle.offset + header_length + length f.item.key; len = length f.item.value };
}

abbrev pub entries_for : List Frame → List ScanEntry
entries_for [] = []
entries_for (f ∷ fs) = entry_for f ∷ entries_for fs

-- the accepted frames' bytes one after another, then META once finished
abbrev pub written : Run → List ℕ
written r = all_bytes blob_form r.frames ++ end_bytes r.writer.finished

-- the bytes: those from 0 on, the frames up to the writer's offset; every byte beyond is as it was
abbrev pub Bytes : Type 0
Bytes = OfRuns λ w r s.
    (r.buffer ≡ written r ++ drop (length (written r)) s)
    × (length r.buffer ≡ length s)
    × (r.writer.offset ≡ length (all_bytes blob_form r.frames))

-- a frame's key and value stand at its entry's places
abbrev pub Lies : List ℕ → Frame → Type 0
Lies s f = (part_at s (entry_for f).key ≡ f.item.key) × (part_at s (entry_for f).value ≡ f.item.value)

-- scan-back: the accepted frames in order, whole, each at its handle's offset, and then what stands behind them: once finished, the end
abbrev pub ScanBack : Type 0
ScanBack = OfRuns λ w r s.
    (walk_of r.buffer ≡ ahead (entries_for r.frames) (walk_from r.buffer (going r.writer.offset)))
    × Each (Lies r.buffer) r.frames
    × (r.writer.finished ≡ true → walk_of r.buffer ≡ ends_at (entries_for r.frames) r.writer.offset)

-- a point read by a frame's handle and key finds that value
abbrev pub Found : List ℕ → Frame → Type 0
Found s f =
    ((read_of s f.item.key f.pointer.handle).number ≡ 0)
    × (part_of s (read_of s f.item.key f.pointer.handle) ≡ f.item.value)

-- read-back: so it does of every accepted append, after all later calls too
abbrev pub ReadBack : Type 0
ReadBack = OfRuns λ w r s. Each (Found r.buffer) r.frames

-- what finishing reports of a file written from zero counts: its frames counted, their lengths added up, and where the first and last keys lie
abbrev pub report_for : List Frame → Report
report_for fs = record { items = length fs; disk = disk_sum fs; stated = stated_sum fs; first = first_key blob_form fs nowhere; last = last_key blob_form fs nowhere }

-- reports: one, once finished, by either way
abbrev pub Reports : Type 0
Reports = OfRuns λ w r s. w.items ≡ 0 → w.disk ≡ 0 → w.stated ≡ 0 → r.reports ≡ pick r.writer.finished (report_for r.frames ∷ []) []

-- progress: a step that is neither end nor 7 moves at least 4 bytes
abbrev pub Progress : Type 0
Progress = (s : List ℕ) (w : Scanner) → is_over (step_of s w) ≡ false → w.at + 4 ≤ (after (step_of s w)).at

-- and so a scan is over within n/4 + 1 steps, where n bytes are left
abbrev pub Over : Type 0
Over = (s : List ℕ) (w : Scanner) → over_within ((length s - w.at) / 4 + 1) s w ≡ true

-- the scan as a whole is a step, and where that gave an entry the scan from there on
abbrev pub WalkOn : Type 0
WalkOn = (s : List ℕ) (w : Scanner) → walk_from s w ≡ go_on (step_of s w) (walk_from s)

-- the other direction of a step: of a file of bytes, the entry that a step gave is the bytes of its frame, up to where the next step begins
abbrev pub EntryIsFrame : Type 0
EntryIsFrame =
    (s : List ℕ) (w next : Scanner) (e : ScanEntry) → Octets s → step_of s w ≡ step.Entry e next
    → take (next.at - w.at) (drop w.at s) ≡ frame_bytes (item_at s e)

-- cut anywhere before META's last byte, a file that scans to its end scans to exactly the entries whole before the cut, and then 7
abbrev pub Cut : Type 0
Cut =
    (s : List ℕ) (es : List ScanEntry) (m cut : ℕ) → walk_of s ≡ ends_at es m → cut < m + 4
    → (at : ℕ) × (why : CutShort) × (walk_of (take cut s) ≡ record { entries = whole_before cut es m; last = step.Refused (scan.CutShort why) (going at) })

pub record Theorems : Type 0 where
  pub bytes : Bytes
  pub scan_back : ScanBack
  pub read_back : ReadBack
  pub reports : Reports
  pub progress : Progress
  pub over : Over
  pub walk_on : WalkOn
  pub entry_is_frame : EntryIsFrame
  pub cut : Cut

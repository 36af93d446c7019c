-- What a run comes to, said at once: where its frames lie, what they point at, and the writer as the fold of its frames.
use Rattle.std.specs.Prelude.{ℕ, ◌+◌, ◌<◌, ◌≤◌, ◌^◌, ◌≡◌, Bool, true, List, [], ◌∷◌, ◌++◌, length}
use Rattle.std.proofs.lemmas.List.Edits.{sets}
use Rattle.numbers.specs.Pick.{pick}
use Rattle.frames.specs.Shape.{Form, shape_of, size_of}
use Rattle.frames.specs.Write.{most, targeted, report_of, end_bytes, grown}
use Rattle.frames.specs.Runs.{Frame, Run, all_bytes}
use Rattle.frames.specs.declared.place.Place.{Place}
use Rattle.frames.specs.declared.state.Writer.{Writer}

-- the writer that took these frames, one after another
unfoldable pub grown_by : Form → Writer → List Frame → Writer
grown_by form w [] = w
grown_by form w (f ∷ fs) = grown_by form (grown w (shape_of form f.item)) fs

-- a writer with another target, finished or not
abbrev pub settled : Writer → ℕ → Bool → Writer
settled w target finished =
    record { id = w.id; offset = w.offset; items = w.items; disk = w.disk; stated = w.stated; target = target; finished = finished; first = w.first; last = w.last }

-- where a frame's key lies
abbrev pub key_of : Form → Frame → Place
key_of form f = record { at = f.pointer.handle.offset + form.front f.item; len = length f.item.key }

-- the first frame's key and the last one's; p where there is none
unfoldable pub first_key : Form → List Frame → Place → Place
first_key form [] p = p
first_key form (f ∷ fs) p = key_of form f

unfoldable pub last_key : Form → List Frame → Place → Place
last_key form [] p = p
last_key form (f ∷ fs) p = last_key form fs (key_of form f)

-- totals over frames: stated lengths, on-disk value lengths
unfoldable pub stated_sum : List Frame → ℕ
stated_sum [] = 0
stated_sum (f ∷ fs) = f.item.stated + stated_sum fs

unfoldable pub disk_sum : List Frame → ℕ
disk_sum [] = 0
disk_sum (f ∷ fs) = length f.item.value + disk_sum fs

-- a frame of file id put at an offset: its indirection, and what its numbers stay below
pub record Put (id offset : ℕ) (f : Frame) : Type 0 where
  pub pointer : f.pointer ≡ record { handle = record { offset = offset; file = id; size = length f.item.value }; stated = f.item.stated }
  pub some : 0 < length f.item.key
  pub key : length f.item.key ≤ 65535
  pub value : length f.item.value ≤ 4294967295
  pub seqno : f.item.seqno < 2 ^ 64
  pub stated : f.item.stated < 2 ^ 32

-- frames of file id put one behind the other from an offset on
abbrev pub Laid : Form → ℕ → ℕ → List Frame → Type 0
Laid form id offset [] = Unit
Laid form id offset (f ∷ fs) = Put id offset f × Laid form id (offset + size_of (shape_of form f.item)) fs

-- the counts are u64
pub record Counts (w : Writer) : Type 0 where
  pub items : w.items ≤ most
  pub disk : w.disk ≤ most
  pub stated : w.stated ≤ most

-- what a run from an unfinished writer comes to
pub record Ran (form : Form) (w : Writer) (s : List ℕ) (r : Run) : Type 0 where
  pub buffer : r.buffer ≡ sets s w.offset (all_bytes form r.frames ++ end_bytes r.writer.finished)
  pub fits : w.offset ≤ length s → w.offset + length (all_bytes form r.frames ++ end_bytes r.writer.finished) ≤ length s
  pub laid : Laid form w.id w.offset r.frames
  pub writer : r.writer ≡ settled (grown_by form w r.frames) r.writer.target r.writer.finished
  pub some : r.writer.finished ≡ true → 0 < r.writer.items
  pub counts : Counts w → Counts r.writer
  pub reports : r.reports ≡ pick r.writer.finished (report_of r.writer ∷ []) []

-- what a run from a finished writer comes to: nothing is taken, and only the target can be set
pub record Still (w : Writer) (s : List ℕ) (r : Run) : Type 0 where
  pub writer : r.writer ≡ targeted w r.writer.target
  pub buffer : r.buffer ≡ s
  pub frames : r.frames ≡ []
  pub reports : r.reports ≡ []

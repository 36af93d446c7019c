-- What the writer answers and writes: document 01, "The frame", and its order of refusals.
use Rattle.std.specs.Prelude.{ℕ, ◌+◌, refl, List, [], ◌++◌, Bool, true, false, not, length, ltb, leb, eqb, if◌then◌else◌, Option, Some, None, Result, Ok, Err}
use Rattle.std.proofs.lemmas.List.Edits.{sets}
use Rattle.numbers.specs.declared.handle.BlobIndirection.{BlobIndirection}
use Rattle.frames.specs.Layout.{meta, Item}
use Rattle.frames.specs.Shape.{Form, shape_of, size_of}
use Rattle.frames.specs.Refusals.{refuse_append, refuse_finish, refuse_next}
use Rattle.frames.specs.declared.place.Place.{Place}
use Rattle.frames.specs.declared.shape.Shape.{Shape}
use Rattle.frames.specs.declared.state.Writer.{Writer}
use Rattle.frames.specs.declared.writer.Report.{Report}
use Rattle.frames.specs.declared.writer.Appended.{Appended}
use Rattle.frames.specs.declared.writer.Closed.{Closed}
use Rattle.frames.specs.declared.refused.Refused.{Refused}
use Rattle.frames.specs.declared.refused.AppendRefusal.{AppendRefusal}
use Rattle.frames.specs.declared.refused.AppendRefusal.TheVariants as append
use Rattle.frames.specs.declared.refused.FinishRefusal.{FinishRefusal}
use Rattle.frames.specs.declared.refused.FinishRefusal.TheVariants as finish
use Rattle.frames.specs.declared.refused.NextRefusal.{NextRefusal}
use Rattle.frames.specs.declared.refused.NextRefusal.TheVariants as next

-- the largest u64
abbrev pub most : ℕ
most = 0xffff_ffff_ffff_ffff

-- no key yet
abbrev pub nowhere : Place
nowhere = record { at = 0; len = 0 }

-- a file's start: offset 0 and zero counts
abbrev pub start_of : ℕ → ℕ → Writer
start_of id target = record { id = id; offset = 0; items = 0; disk = 0; stated = 0; target = target; finished = false; first = nowhere; last = nowhere }

-- a new writer has the default target
abbrev pub new_writer : ℕ → Writer
new_writer id = start_of id 67_108_864

-- the writer with another target
abbrev pub targeted : Writer → ℕ → Writer
targeted w target = record { id = w.id; offset = w.offset; items = w.items; disk = w.disk; stated = w.stated; target = target; finished = w.finished; first = w.first; last = w.last }

-- item count, on-disk bytes, stated bytes, and where the first and last written keys lie
abbrev pub report_of : Writer → Report
report_of w = record { items = w.items; disk = w.disk; stated = w.stated; first = w.first; last = w.last }

-- whether a total would pass its width
unfoldable pub over_of : Writer → Shape → Bool
over_of w f =
    if ltb most (w.items + 1) then true else
    if ltb most (w.disk + f.value) then true else
    ltb most (w.stated + f.stated)

-- the writer with one more frame in its totals
abbrev pub counted : Writer → Shape → Writer
counted w f = record { id = w.id; offset = w.offset; items = w.items + 1; disk = w.disk + f.value; stated = w.stated + f.stated; target = w.target; finished = w.finished; first = w.first; last = w.last }

-- where the key of the next frame lies
abbrev pub key_place : Writer → Shape → Place
key_place w f = record { at = w.offset + f.front; len = f.key }

-- where the first key lies: an append sets it when the item count is 0
unfoldable pub first_of : ℕ → Place → Place → Place
first_of items here first = if eqb items 0 then here else first

-- the state after an append that is taken: finished once the offset after it reaches the target
unfoldable pub grown : Writer → Shape → Writer
grown w f = record {
  id = w.id;
  offset = w.offset + size_of f;
  items = w.items + 1;
  disk = w.disk + f.value;
  stated = w.stated + f.stated;
  target = w.target;
  finished = leb w.target (w.offset + size_of f);
  first = first_of w.items (key_place w f) w.first;
  last = key_place w f;
}

-- a frame of that shape: the state after it, or why it is refused, in the order 4, 1, 2, 3, 12; n is the buffer's length. Nothing wraps: these are whole numbers
unfoldable pub judged : Writer → ℕ → Shape → Result Writer AppendRefusal
judged w n f =
    if w.finished then refuse_append 4 append.Finished refl else
    if eqb f.key 0 then refuse_append 1 append.BadKey refl else
    if ltb 65535 f.key then refuse_append 1 append.BadKey refl else
    if ltb 4294967295 f.value then refuse_append 2 append.ValueTooLong refl else
    if ltb n (w.offset + size_of f + 4) then refuse_append 3 append.NoRoom refl else
    if over_of w f then refuse_append 12 append.SumTooBig refl else
    Ok (grown w f)

-- the handle (file id, offset before the frame, value length) and the stated length
abbrev pub pointer_of : Writer → Shape → BlobIndirection
pointer_of w f = record { handle = record { offset = w.offset; file = w.id; size = f.value }; stated = f.stated }

-- the report of a file that is finished
abbrev pub reported : Writer → Option Report
reported w = if w.finished then Some (report_of w) else None

-- the answer of an append that is taken, with the report where it finished the file
unfoldable pub accepted_as : BlobIndirection → Writer → Appended
accepted_as pointer w = record { pointer = pointer; writer = w; report = reported w }

-- a refusal, with the writer as it came
abbrev pub handed_back : {E : Type 0} → Writer → E → Refused E
handed_back w why = record { why = why; writer = w }

-- the end mark, where the file is finished
unfoldable pub end_bytes : Bool → List ℕ
end_bytes true = meta
end_bytes false = []

-- the answer by that verdict: a refused append hands the same state back
abbrev pub answer_of : Result Writer AppendRefusal → Writer → Shape → Result Appended (Refused AppendRefusal)
answer_of (Ok after) w f = Ok (accepted_as (pointer_of w f) after)
answer_of (Err why) w f = Err (handed_back w why)

-- what an append answers by lengths alone: those of the frame, and n, the buffer's
unfoldable pub answered : Writer → ℕ → Shape → Result Appended (Refused AppendRefusal)
answered w n f = answer_of (judged w n f) w f

-- the buffer by that answer: the frame's bytes at the offset, then META where it finished the file; a refused append changes none
abbrev pub bytes_of : Result Appended (Refused AppendRefusal) → Writer → List ℕ → List ℕ → List ℕ
bytes_of (Ok a) w s bytes = sets s w.offset (bytes ++ end_bytes a.writer.finished)
bytes_of (Err back) w s bytes = s

-- an append of an item, as a frame of that form: what it answers
abbrev pub append_answer : Form → Writer → List ℕ → Item → Result Appended (Refused AppendRefusal)
append_answer form w s i = answered w (length s) (shape_of form i)

-- and the buffer after it
unfoldable pub append_bytes : Form → Writer → List ℕ → Item → List ℕ
append_bytes form w s i = bytes_of (append_answer form w s i) w s (form.bytes i)

-- the writer, finished
abbrev pub closed_as : Writer → Writer
closed_as w = record { id = w.id; offset = w.offset; items = w.items; disk = w.disk; stated = w.stated; target = w.target; finished = true; first = w.first; last = w.last }

-- what a finish answers, in the order 4, 5, 3; n is the buffer's length
unfoldable pub finish_answer : Writer → ℕ → Result Closed (Refused FinishRefusal)
finish_answer w n =
    if w.finished then refuse_finish 4 finish.Finished refl w else
    if eqb w.items 0 then refuse_finish 5 finish.NothingWritten refl w else
    if ltb n (w.offset + 4) then refuse_finish 3 finish.NoRoom refl w else
    Ok (record { writer = closed_as w; report = report_of (closed_as w) })

-- the buffer by that answer
abbrev pub closed_bytes : Result Closed (Refused FinishRefusal) → Writer → List ℕ → List ℕ
closed_bytes (Ok done) w s = sets s w.offset meta
closed_bytes (Err back) w s = s

-- the end mark at the offset, or the same bytes
unfoldable pub finish_bytes : Writer → List ℕ → List ℕ
finish_bytes w s = closed_bytes (finish_answer w (length s)) w s

-- the next file, in the order 15, 6: the id plus one, offset 0, zero counts, settings kept
unfoldable pub next_of : Writer → Result Writer (Refused NextRefusal)
next_of w =
    if not w.finished then refuse_next 15 next.NotFinished refl w else
    if leb most w.id then refuse_next 6 next.IdsUsedUp refl w else
    Ok (start_of (w.id + 1) w.target)

-- A run: calls of one writer, made one after another in one buffer, folded from what the contracts say of each call; the form of frame is its argument.
use Rattle.std.specs.Prelude.{ℕ, ◌<◌, ◌^◌, List, [], ◌∷◌, ◌++◌, length, Option, Some, None, Result, Ok, Err}
use Rattle.numbers.specs.declared.handle.BlobIndirection.{BlobIndirection}
use Rattle.frames.specs.Layout.{Item}
use Rattle.frames.specs.Shape.{item_of, plain_of, Form, blob_form}
use Rattle.frames.specs.Write.{targeted, append_answer, append_bytes, finish_answer, finish_bytes}
use Rattle.frames.specs.declared.state.Writer.{Writer}
use Rattle.frames.specs.declared.writer.Report.{Report}
use Rattle.frames.specs.declared.writer.Appended.{Appended}
use Rattle.frames.specs.declared.writer.Closed.{Closed}
use Rattle.frames.specs.declared.refused.Refused.{Refused}
use Rattle.frames.specs.declared.refused.AppendRefusal.{AppendRefusal}
use Rattle.frames.specs.declared.refused.FinishRefusal.{FinishRefusal}

-- a call, with what the caller hands over
pub data Call : Type 0 where
  append : (key : List ℕ) (seqno : ℕ) (value : List ℕ) → Call
  append_raw : (key : List ℕ) (seqno stated : ℕ) (value : List ℕ) → Call
  use_target : (target : ℕ) → Call
  finish : Call

-- what the types say of a call's numbers: a seqno is a u64, a stated length a u32
abbrev pub TypedCall : Call → Type 0
TypedCall (append key seqno value) = seqno < 2 ^ 64
TypedCall (append_raw key seqno stated value) = (seqno < 2 ^ 64) × (stated < 2 ^ 32)
TypedCall (use_target target) = Unit
TypedCall finish = Unit

abbrev pub Typed : List Call → Type 0
Typed [] = Unit
Typed (c ∷ cs) = TypedCall c × Typed cs

-- an accepted append: what was handed over, and the indirection that was handed out
pub record Frame : Type 0 where
  pub item : Item
  pub pointer : BlobIndirection

-- each frame of a list
abbrev pub Each : (Frame → Type 0) → List Frame → Type 0
Each P [] = Unit
Each P (f ∷ fs) = P f × Each P fs

-- what calls leave and hand out: the writer and the buffer after them, the frames accepted and the reports given, in order
pub record Run : Type 0 where
  pub writer : Writer
  pub buffer : List ℕ
  pub frames : List Frame
  pub reports : List Report

abbrev pub reports_of : Option Report → List Report
reports_of (Some report) = report ∷ []
reports_of None = []

-- an append's answer, taken apart
unfoldable pub append_run : Item → List ℕ → Result Appended (Refused AppendRefusal) → Run
append_run i s (Ok a) = record { writer = a.writer; buffer = s; frames = record { item = i; pointer = a.pointer } ∷ []; reports = reports_of a.report }
append_run i s (Err back) = record { writer = back.writer; buffer = s; frames = []; reports = [] }

-- a finish's answer, taken apart
unfoldable pub finish_run : List ℕ → Result Closed (Refused FinishRefusal) → Run
finish_run s (Ok done) = record { writer = done.writer; buffer = s; frames = []; reports = done.report ∷ [] }
finish_run s (Err back) = record { writer = back.writer; buffer = s; frames = []; reports = [] }

abbrev pub appending : Form → Item → Writer → List ℕ → Run
appending form i w s = append_run i (append_bytes form w s i) (append_answer form w s i)

-- one call
unfoldable pub called : Form → Call → Writer → List ℕ → Run
called form (append key seqno value) w s = appending form (plain_of key seqno value) w s
called form (append_raw key seqno stated value) w s = appending form (item_of key seqno stated value) w s
called form (use_target target) w s = record { writer = targeted w target; buffer = s; frames = []; reports = [] }
called form finish w s = finish_run (finish_bytes w s) (finish_answer w (length s))

-- one run, and what followed it
abbrev pub and_then : Run → Run → Run
and_then a b = record { writer = b.writer; buffer = b.buffer; frames = a.frames ++ b.frames; reports = a.reports ++ b.reports }

-- the calls in order, each on the writer and the buffer that the one before it left
unfoldable pub run_by : Form → List Call → Writer → List ℕ → Run
run_by form [] w s = record { writer = w; buffer = s; frames = []; reports = [] }
run_by form (c ∷ cs) w s = and_then (called form c w s) (run_by form cs (called form c w s).writer (called form c w s).buffer)

-- of document 01's frames
abbrev pub run : List Call → Writer → List ℕ → Run
run = run_by blob_form

-- frames' bytes one after another
unfoldable pub all_bytes : Form → List Frame → List ℕ
all_bytes form [] = []
all_bytes form (f ∷ fs) = form.bytes f.item ++ all_bytes form fs

-- Document 01's number for each refusal, and the values that come with it: the definitions of the answers name their refusals by these.
use Rattle.std.specs.Prelude.{ℕ, ◌≡◌, refl, List, [], ◌∷◌, Result, Err}
use Rattle.numbers.specs.Refusals.{values_of_cut}
use Rattle.numbers.specs.declared.cut.CutShort.{CutShort}
use Rattle.frames.specs.declared.state.Writer.{Writer}
use Rattle.frames.specs.declared.writer.Closed.{Closed}
use Rattle.frames.specs.declared.refused.Refused.{Refused}
use Rattle.frames.specs.declared.refused.AppendRefusal.{AppendRefusal}
use Rattle.frames.specs.declared.refused.AppendRefusal.TheVariants as append
use Rattle.frames.specs.declared.refused.FinishRefusal.{FinishRefusal}
use Rattle.frames.specs.declared.refused.FinishRefusal.TheVariants as finish
use Rattle.frames.specs.declared.refused.NextRefusal.{NextRefusal}
use Rattle.frames.specs.declared.refused.NextRefusal.TheVariants as next
use Rattle.frames.specs.declared.steps.Scanner.{Scanner}
use Rattle.frames.specs.declared.steps.ScanEntry.{ScanEntry}
use Rattle.frames.specs.declared.steps.Untested.{Untested}
use Rattle.frames.specs.declared.steps.FrameRefusal.{FrameRefusal}
use Rattle.frames.specs.declared.steps.FrameRefusal.TheVariants as frame
use Rattle.frames.specs.declared.steps.ScanRefusal.{ScanRefusal}
use Rattle.frames.specs.declared.steps.ScanRefusal.TheVariants as scan
use Rattle.frames.specs.declared.steps.Step.{Step}
use Rattle.frames.specs.declared.steps.Step.TheVariants as step
use Rattle.frames.specs.declared.reader.Found.{Found}

-- finished, bad key, value too long, no room, sum too big
abbrev pub append_number : AppendRefusal → ℕ
append_number append.Finished = 4
append_number append.BadKey = 1
append_number append.ValueTooLong = 2
append_number append.NoRoom = 3
append_number append.SumTooBig = 12

-- finished, nothing written, no room
abbrev pub finish_number : FinishRefusal → ℕ
finish_number finish.Finished = 4
finish_number finish.NothingWritten = 5
finish_number finish.NoRoom = 3

-- not finished, ids used up
abbrev pub next_number : NextRefusal → ℕ
next_number next.NotFinished = 15
next_number next.IdsUsedUp = 6

-- cut short, invalid header
abbrev pub frame_number : FrameRefusal → ℕ
frame_number (frame.CutShort cut) = 7
frame_number (frame.InvalidHeader at) = 8

-- a cut's values: where, needed and present; of 8, where
abbrev pub frame_values : FrameRefusal → List ℕ
frame_values (frame.CutShort cut) = values_of_cut cut
frame_values (frame.InvalidHeader at) = at ∷ []

-- the number, then the values
abbrev pub frame_says : FrameRefusal → List ℕ
frame_says why = frame_number why ∷ frame_values why

-- cut short, invalid header, checksum mismatch
abbrev pub scan_number : ScanRefusal → ℕ
scan_number (scan.CutShort cut) = 7
scan_number (scan.InvalidHeader at) = 8
scan_number (scan.Mismatch at stored computed) = 9

-- the same values, and of 9 where, the stored sum and the computed one, each with its low half first
abbrev pub scan_values : ScanRefusal → List ℕ
scan_values (scan.CutShort cut) = values_of_cut cut
scan_values (scan.InvalidHeader at) = at ∷ []
scan_values (scan.Mismatch at stored computed) = at ∷ stored.low ∷ stored.high ∷ computed.low ∷ computed.high ∷ []

abbrev pub scan_says : ScanRefusal → List ℕ
scan_says why = scan_number why ∷ scan_values why

-- A refused answer, named together with its number (and values): a wrong pair has no proof, and is refused here.

abbrev pub refuse_append : (number : ℕ) (why : AppendRefusal) → append_number why ≡ number → Result Writer AppendRefusal
refuse_append number why e = Err why

abbrev pub refuse_finish : (number : ℕ) (why : FinishRefusal) → finish_number why ≡ number → Writer → Result Closed (Refused FinishRefusal)
refuse_finish number why e w = Err (record { why = why; writer = w })

abbrev pub refuse_next : (number : ℕ) (why : NextRefusal) → next_number why ≡ number → Writer → Result Writer (Refused NextRefusal)
refuse_next number why e w = Err (record { why = why; writer = w })

abbrev pub refuse_frame : (says : List ℕ) (why : FrameRefusal) → frame_says why ≡ says → Scanner → Step Untested FrameRefusal
refuse_frame says why e w = step.Refused why w

abbrev pub refuse_scan : (says : List ℕ) (why : ScanRefusal) → scan_says why ≡ says → Scanner → Step ScanEntry ScanRefusal
refuse_scan says why e w = step.Refused why w

abbrev pub refuse_read : (says : List ℕ) (why : ScanRefusal) → scan_says why ≡ says → Result Found ScanRefusal
refuse_read says why e = Err why

-- A refusal as a case of a wider one, which says the same.

abbrev pub widen : (wide : ScanRefusal) (says : List ℕ) → scan_says wide ≡ says → ScanRefusal
widen wide says e = wide

abbrev pub cut_refusal : CutShort → ScanRefusal
cut_refusal cut = widen (scan.CutShort cut) (7 ∷ values_of_cut cut) refl

abbrev pub widened : FrameRefusal → ScanRefusal
widened (frame.CutShort cut) = widen (scan.CutShort cut) (frame_says (frame.CutShort cut)) refl
widened (frame.InvalidHeader at) = widen (scan.InvalidHeader at) (frame_says (frame.InvalidHeader at)) refl

-- Answers as numbers and rows of numbers.
use Rattle.std.specs.Prelude.{ℕ, ◌-◌, ◌%◌, ◌^◌, List, [], ◌∷◌, cond, eqb, get_or, set, is_some, Result, Ok, Err}
use Rattle.numbers.specs.declared.handle.ValueHandle.{ValueHandle}
use Rattle.frames.specs.Refusals.{append_number, scan_number}
use Rattle.frames.specs.declared.place.Place.{Place}
use Rattle.frames.specs.declared.state.Writer.{Writer}
use Rattle.frames.specs.declared.writer.Appended.{Appended}
use Rattle.frames.specs.declared.refused.Refused.{Refused}
use Rattle.frames.specs.declared.refused.AppendRefusal.{AppendRefusal}
use Rattle.frames.specs.Scan.{Scanned}
use Rattle.frames.specs.declared.steps.Step.TheVariants as scanned

-- a count; refused, the refusal's number below zero, in two's complement
abbrev pub counted : {E : Type 0} → (E → ℕ) → Result ℕ E → ℕ
counted number (Ok n) = n
counted number (Err why) = (2 ^ 64 - number why) % 2 ^ 64

-- a handle; a read does not look at the file's id
abbrev pub handle_of : ℕ → ℕ → ValueHandle
handle_of offset size = record { offset = offset; file = 0; size = size }

-- where bytes lie, and how many
abbrev pub place_row : Place → List ℕ
place_row p = p.at ∷ p.len ∷ []

-- the place that two numbers of a row are
abbrev pub place_in : List ℕ → ℕ → ℕ → Place
place_in r i j = record { at = get_or r i 0; len = get_or r j 0 }

-- the writer that a row is
abbrev pub writer_of : List ℕ → Writer
writer_of r = record {
  id = get_or r 0 0;
  offset = get_or r 1 0;
  items = get_or r 2 0;
  disk = get_or r 3 0;
  stated = get_or r 4 0;
  target = get_or r 5 0;
  finished = eqb (get_or r 6 0) 1;
  first = place_in r 7 8;
  last = place_in r 9 10;
}

-- and the row of a writer
abbrev pub writer_row : Writer → List ℕ
writer_row w =
    w.id ∷ w.offset ∷ w.items ∷ w.disk ∷ w.stated ∷ w.target ∷ cond w.finished 1 0
    ∷ w.first.at ∷ w.first.len ∷ w.last.at ∷ w.last.len ∷ []

-- the row after an append: the new state's, or the same
abbrev pub appended_row : List ℕ → Result Appended (Refused AppendRefusal) → List ℕ
appended_row row (Ok put) = writer_row put.writer
appended_row row (Err refused) = row

-- 0 for a frame that is put, 100 where it was the file's last, else document 01's number
abbrev pub appended_number : Result Appended (Refused AppendRefusal) → ℕ
appended_number (Ok put) = cond (is_some put.report) 100 0
appended_number (Err refused) = append_number refused.why

-- an entry's numbers, and last where the next step begins; of the end and a refusal that number alone
abbrev pub step_row : List ℕ → Scanned → List ℕ
step_row row (scanned.Entry e next) =
    e.offset ∷ e.key.at ∷ e.key.len ∷ e.seqno ∷ e.stated ∷ e.value.at ∷ e.value.len ∷ next.at ∷ []
step_row row (scanned.End at next) = set row 7 next.at
step_row row (scanned.Refused why next) = set row 7 next.at

-- 0 for an entry, 100 for the end, else document 01's number
abbrev pub step_number : Scanned → ℕ
step_number (scanned.Entry e next) = 0
step_number (scanned.End at next) = 100
step_number (scanned.Refused why next) = scan_number why

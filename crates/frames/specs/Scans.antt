-- A scan: steps made one after another over one file.
use Rattle.std.specs.Prelude.{ℕ, zero, suc, ◌+◌, ◌-◌, ◌/◌, List, [], ◌∷◌, ◌++◌, Bool, true, false, leb, length, if◌then◌else◌}
use Rattle.frames.specs.Scan.{Scanned, going, step_of}
use Rattle.frames.specs.declared.steps.Scanner.{Scanner}
use Rattle.frames.specs.declared.steps.ScanEntry.{ScanEntry}
use Rattle.frames.specs.declared.steps.ScanRefusal.TheVariants as scan
use Rattle.frames.specs.declared.steps.Step.TheVariants as step

-- what a scan gives: entries in order, and the answer that ended it, which is none
pub record Walk : Type 0 where
  pub entries : List ScanEntry
  pub last : Scanned

-- a step's answer, and what follows an entry
unfoldable pub go_on : Scanned → (Scanner → Walk) → Walk
go_on (step.Entry e next) more = record { entries = e ∷ (more next).entries; last = (more next).last }
go_on (step.End at next) more = record { entries = []; last = step.End at next }
go_on (step.Refused why next) more = record { entries = []; last = step.Refused why next }

-- the scan from a scanner on, with a bound on its entries
unfoldable pub walk_in : ℕ → List ℕ → Scanner → Walk
walk_in zero s w = record { entries = []; last = step_of s w }
walk_in (suc bound) s w = go_on (step_of s w) (walk_in bound s)

-- the scan from a scanner on; an entry moves at least 4 bytes on, so the bound is never met (`WalkOn`)
abbrev pub walk_from : List ℕ → Scanner → Walk
walk_from s w = walk_in ((length s - w.at) / 4 + 1) s w

-- the scan of a file
abbrev pub walk_of : List ℕ → Walk
walk_of s = walk_from s (going 0)

-- entries, and then what a walk gives
abbrev pub ahead : List ScanEntry → Walk → Walk
ahead es w = record { entries = es ++ w.entries; last = w.last }

-- entries, and then the end at m
abbrev pub ends_at : List ScanEntry → ℕ → Walk
ends_at es m = record { entries = es; last = step.End m (record { at = m; ended = true }) }

-- the scanner after a step
unfoldable pub after : Scanned → Scanner
after (step.Entry e next) = next
after (step.End at next) = next
after (step.Refused why next) = next

-- whether a step's answer is an end or 7
unfoldable pub is_over : Scanned → Bool
is_over (step.Entry e next) = false
is_over (step.End at next) = true
is_over (step.Refused (scan.CutShort cut) next) = true
is_over (step.Refused (scan.InvalidHeader at) next) = false
is_over (step.Refused (scan.Mismatch at stored computed) next) = false

-- whether one of the first n steps answers an end or 7, going on after every other refusal
unfoldable pub over_within : ℕ → List ℕ → Scanner → Bool
over_within zero s w = false
over_within (suc n) s w = if is_over (step_of s w) then true else over_within n s (after (step_of s w))

-- where the step begins that gives the first of these entries, or the end at m
abbrev pub begin_at : List ScanEntry → ℕ → ℕ
begin_at [] m = m
begin_at (e ∷ es) m = e.offset

-- the entries that lie whole before a cut: the step after each begins no later
unfoldable pub whole_before : ℕ → List ScanEntry → ℕ → List ScanEntry
whole_before cut [] m = []
whole_before cut (e ∷ es) m = if leb (begin_at es m) cut then e ∷ whole_before cut es m else []

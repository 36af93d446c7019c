-- A scanner that keeps hold of the file bytes it reads: document 01, "The scan and the point read".
use Rattle.std.specs.Prelude.{ℕ, List}
use Rattle.std.specs.Borrow.{Bor}
use Rattle.frames.specs.declared.steps.Scanner.{Scanner}
use Rattle.frames.specs.declared.held.FileScanner.{FileScanner}

-- the file and the place in it
abbrev pub holding : Bor (List ℕ) → Scanner → FileScanner
holding file w = record { file = file; scanner = w }

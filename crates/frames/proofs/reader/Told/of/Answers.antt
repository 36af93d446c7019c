-- Each answer is a case of the definition.
use Rattle.frames.specs.Point.{told_by}
use Rattle.frames.proofs.reader.Told.of.Goals as goal

pub returns-in-Ok : goal.returns-in-Ok
unfolding told_by
returns-in-Ok c = rw c.in-Ok.is

pub returns-in-CutShort : goal.returns-in-CutShort
unfolding told_by
returns-in-CutShort c = rw (c.in-Err.is, c.number.ensures, c.in-CutShort.is)

pub returns-in-InvalidHeader : goal.returns-in-InvalidHeader
unfolding told_by
returns-in-InvalidHeader c = rw (c.in-Err.is, c.number.ensures, c.in-InvalidHeader.is)

pub returns-in-Mismatch : goal.returns-in-Mismatch
unfolding told_by
returns-in-Mismatch c = rw (c.in-Err.is, c.number.ensures, c.in-Mismatch.is)

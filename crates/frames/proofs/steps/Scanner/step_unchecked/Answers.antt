-- An ended scanner ends again.
use Rattle.std.proofs.Common.{sym}
use Rattle.frames.proofs.ScanLaws.{at_ended}
use Rattle.frames.proofs.steps.Scanner.step_unchecked.Goals as goal

pub returns-then-self : goal.returns-then-self
returns-then-self c = sym (at_ended _ _ c.if-self.true)

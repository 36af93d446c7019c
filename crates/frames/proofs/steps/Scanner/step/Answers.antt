-- An unchecked step, and then the test of its sum.
use Rattle.frames.proofs.Sums.{step_law}
use borrow.Author.Rules.{rules}
use Rattle.frames.proofs.steps.Scanner.step.Goals as goal

pub returns : goal.returns
returns c = search (rules, step_law)

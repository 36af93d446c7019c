-- The mark is stored, or nothing.
use Rattle.frames.proofs.AnswerLaws.{end-stored, end_none}
use borrow.Author.Rules.{rules}
use Rattle.frames.proofs.state.Writer.put_end.Goals as goal

pub returns-then-self : goal.returns-then-self
returns-then-self c = search (rules, end-stored)

pub returns-else-self : goal.returns-else-self
returns-else-self c = search (rules, end_none)

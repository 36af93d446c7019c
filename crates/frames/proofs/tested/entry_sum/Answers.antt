-- The sum of the entry's two places.
use Rattle.frames.proofs.Sums.{entry_law}
use borrow.Author.Rules.{rules}
use Rattle.frames.proofs.tested.entry_sum.Goals as goal

pub returns : goal.returns
returns c = search (rules, entry_law)

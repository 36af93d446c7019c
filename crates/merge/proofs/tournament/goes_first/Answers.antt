-- The comparisons one after another are the rank.
use Rattle.merge.specs.MergeLaws.{goes_law}
use borrow.Author.Rules.{rules}
use Rattle.merge.proofs.tournament.goes_first.Goals as goal

pub returns : goal.returns
returns c = search (rules, goes_law)

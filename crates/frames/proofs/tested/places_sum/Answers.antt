-- Where the second place follows the first, one part holds both; else both are joined.
use Rattle.frames.proofs.ScanLaws.{together, apart}
use borrow.Author.Rules.{rules}
use Rattle.frames.proofs.tested.places_sum.Goals as goal

pub returns-then-from-at : goal.returns-then-from-at
returns-then-from-at c = search (rules, together)

pub returns : goal.returns
returns c = search (rules, apart)

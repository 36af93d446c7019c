-- The header's key and what follows the given key's length: one part where the lengths are the same.
use Rattle.frames.proofs.Sums.{one-part_law, two-parts_law}
use borrow.Author.Rules.{rules}
use Rattle.frames.proofs.reader.taken_sum.Goals as goal

pub returns-then-hk-k : goal.returns-then-hk-k
returns-then-hk-k c = search (rules, one-part_law)

pub returns : goal.returns
returns c = search (rules, two-parts_law)

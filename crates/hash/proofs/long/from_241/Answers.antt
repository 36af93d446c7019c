-- All stripes, the last 64 bytes and the two halves are the description's.
use Rattle.hash.proofs.Whole.{large_law}
use Rattle.std.proofs.Common.{rules}
use Rattle.hash.proofs.long.from_241.Goals as goal

pub returns : goal.returns
returns c = search (rules, large_law)

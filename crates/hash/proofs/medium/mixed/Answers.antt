-- Both accumulators.
use Rattle.hash.proofs.Chunks.{halves_law}
use Rattle.std.proofs.Common.{rules}
use Rattle.hash.proofs.medium.mixed.Goals as goal

pub returns : goal.returns
returns c = search (rules, halves_law)

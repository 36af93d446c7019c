-- Both accumulators.
use Rattle.hash.proofs.Chunks.{stir_law}
use Rattle.std.proofs.Common.{rules}
use Rattle.hash.proofs.medium.stir.Goals as goal

pub returns : goal.returns
returns c = search (rules, stir_law)

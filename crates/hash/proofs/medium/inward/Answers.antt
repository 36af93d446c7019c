-- The chunks are those of the round.
use Rattle.hash.proofs.Chunks.{inward_law}
use Rattle.std.proofs.Common.{rules}
use Rattle.hash.proofs.medium.inward.Goals as goal

pub returns : goal.returns
returns g c = search (rules, inward_law)

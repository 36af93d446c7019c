-- The chunks are those of the description.
use Rattle.hash.proofs.Chunks.{onward_law}
use Rattle.std.proofs.Common.{rules}
use Rattle.hash.proofs.medium.onward.Goals as goal

pub returns : goal.returns
returns g c = search (rules, onward_law)

-- One round.
use Rattle.hash.proofs.Chunks.{one_round}
use Rattle.std.proofs.Common.{rules}
use Rattle.hash.proofs.medium.from_17_to_32.Goals as goal

pub returns : goal.returns
returns g c = search (rules, one_round)

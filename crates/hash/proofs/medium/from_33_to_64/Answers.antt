-- Two rounds.
use Rattle.hash.proofs.Chunks.{two_rounds}
use Rattle.std.proofs.Common.{rules}
use Rattle.hash.proofs.medium.from_33_to_64.Goals as goal

pub returns : goal.returns
returns g c = search (rules, two_rounds)

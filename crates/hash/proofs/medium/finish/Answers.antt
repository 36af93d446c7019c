-- The two halves in turn.
use Rattle.hash.proofs.Chunks.{finish_law}
use Rattle.std.proofs.Common.{rules}
use Rattle.hash.proofs.medium.finish.Goals as goal

pub returns : goal.returns
returns c = search (rules, finish_law)

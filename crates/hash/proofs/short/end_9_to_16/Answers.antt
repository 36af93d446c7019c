-- The steps in turn.
use Rattle.hash.proofs.Small.{end_16_law}
use Rattle.std.proofs.Common.{rules}
use Rattle.hash.proofs.short.end_9_to_16.Goals as goal

pub returns : goal.returns
returns c = search (rules, end_16_law)

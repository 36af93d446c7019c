-- The steps in turn.
use Rattle.hash.proofs.Small.{end_8_law}
use Rattle.std.proofs.Common.{rules}
use Rattle.hash.proofs.short.end_4_to_8.Goals as goal

pub returns : goal.returns
returns c = search (rules, end_8_law)

-- The halves of the product, and the steps after it.
use Rattle.hash.proofs.Small.{mix_16_law}
use Rattle.std.proofs.Common.{rules}
use Rattle.hash.proofs.short.mix_9_to_16.Goals as goal

pub returns : goal.returns
returns c = search (rules, mix_16_law)

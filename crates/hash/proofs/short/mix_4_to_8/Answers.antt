-- The halves of the product, and the steps after it.
use Rattle.hash.proofs.Small.{mix_8_law}
use Rattle.std.proofs.Common.{rules}
use Rattle.hash.proofs.short.mix_4_to_8.Goals as goal

pub returns : goal.returns
returns c = search (rules, mix_8_law)

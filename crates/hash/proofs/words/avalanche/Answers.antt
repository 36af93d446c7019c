-- The two shifts and the product in turn.
use Rattle.std.proofs.Common.{refl}
use Rattle.hash.specs.Secret.{avalanche}
use Rattle.hash.proofs.words.avalanche.Goals as goal

pub returns : goal.returns
unfolding avalanche
returns c = rw c.wrapping_mul-y.ensures refl

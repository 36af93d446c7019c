-- The three shifts and two products in turn.
use Rattle.std.proofs.Common.{refl}
use Rattle.hash.specs.Secret.{avalanche_XXH64}
use Rattle.hash.proofs.words.avalanche_xxh64.Goals as goal

pub returns : goal.returns
unfolding avalanche_XXH64
returns c = rw (c.wrapping_mul-z.ensures, c.wrapping_mul-y.ensures) refl

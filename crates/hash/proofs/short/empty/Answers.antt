-- The two numbers are what the secret's words give.
use Rattle.std.proofs.Common.{refl}
use Rattle.numbers.specs.Le.{num}
use Rattle.hash.specs.Notation.{u64s}
use Rattle.hash.specs.Secret.{secret, avalanche_XXH64}
use Rattle.hash.specs.Small.{XXH3_128_empty}
use Rattle.hash.proofs.short.empty.Goals as goal

pub returns : goal.returns
unfolding XXH3_128_empty avalanche_XXH64 u64s num secret
returns c = refl

-- The two halves are those of the exact product.
use Rattle.numbers.specs.Wide.{wide_of}
use Rattle.numbers.proofs.wide.product.Goals as goal

pub returns : goal.returns
unfolding wide_of
returns c = cc

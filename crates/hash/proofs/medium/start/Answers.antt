-- The step of the description.
use Rattle.hash.specs.Medium.{acc_medium}
use Rattle.std.proofs.Common.{refl}
use Rattle.hash.proofs.medium.start.Goals as goal

pub returns : goal.returns
unfolding acc_medium
returns c = rw c.wrapping_mul.ensures refl

-- The same fields in the same places.
use Rattle.std.proofs.Common.{refl}
use Rattle.hash.specs.Small.{combined}
use Rattle.hash.proofs.short.combined.Goals as goal

pub returns : goal.returns
unfolding combined
returns c = refl

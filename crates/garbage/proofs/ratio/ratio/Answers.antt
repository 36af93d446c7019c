-- One division of the two roundings.
use mathlib.Core.Path.{ap₂}
use lib.Ieee.{Float, binary32, div}
use Rattle.garbage.proofs.ratio.ratio.Goals as goal

pub returns : goal.returns
returns c = ap₂ (λ (x y : Float). div binary32 x y) c.to_f32.ensures c.to_f32-2.ensures

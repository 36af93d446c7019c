-- The leading zeros and the digits make 64.
use native.Mathlib.Omega.{arith}
use Rattle.garbage.proofs.Round.{zeros-size}
use Rattle.garbage.proofs.ratio.lost_bits.Goals as goal

pub returns : goal.returns
returns c = omega (arith, zeros-size 64 c.args.x c.ranges.x.fits, c.saturating_sub.ensures)

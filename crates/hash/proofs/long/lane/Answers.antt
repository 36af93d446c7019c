-- The two stores are the definition's; k ^ 1 is a lane's number where k is.
use Rattle.std.proofs.Common.{mod-lt, pow_pos, shr_lt}
use lib.Bits.{bit_xor, xor_lt}
use Rattle.numbers.specs.WideLaws.{product-fits}
use Rattle.hash.proofs.Lanes.{lane_law}
use Rattle.hash.proofs.long.lane.Goals as goal

pub overflow_mul-r : goal.overflow_mul-r
overflow_mul-r c = let b = c in product-fits (mod-lt (bit_xor b.args.d b.args.x) (pow_pos 32)) (shr_lt 32 32 (xor_lt 64 _ _ b.ranges.d.fits b.ranges.x.fits))

pub returns : goal.returns
returns c = let a = c.args in lane_law a.k a.d a.x a.acc

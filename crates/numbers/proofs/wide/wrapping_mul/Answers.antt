-- The cross products, shifted, and the low product make the product modulo 2^64.
use Rattle.std.proofs.Common.{mod-lt, pow_pos, shr_lt}
use Rattle.numbers.specs.WideLaws.{product-fits, mul_law}
use Rattle.numbers.proofs.wide.wrapping_mul.Goals as goal

pub overflow_mul-cross : goal.overflow_mul-cross
overflow_mul-cross c = product-fits (mod-lt c.args.a (pow_pos 32)) (shr_lt 32 32 c.ranges.b.fits)

pub overflow_mul-cross-2 : goal.overflow_mul-cross-2
overflow_mul-cross-2 c = product-fits (shr_lt 32 32 c.ranges.a.fits) (mod-lt c.args.b (pow_pos 32))

pub overflow_mul-result : goal.overflow_mul-result
overflow_mul-result c = product-fits (mod-lt c.args.a (pow_pos 32)) (mod-lt c.args.b (pow_pos 32))

pub returns : goal.returns
returns c = cc (mul_law c.args.a c.args.b)

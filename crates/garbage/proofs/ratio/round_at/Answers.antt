-- Below half a unit down, at half to the even one, above it up.
use lib.Arith.{lt_of_le-ne}
use mathlib.Core.Path.{sym}
use Prim.Native.Nat.{◌*◌, ◌%◌, ◌^◌, ◌<◌}
use native.Mathlib.Omega.{arith}
use native.Mathlib.Nat.{mod-lt}
use lib.Pow.{pow_pos, pow_mono}
use Rattle.garbage.proofs.Round.{bit_at, down_is, tie_is, up_is, one_more_lem}
use Rattle.garbage.proofs.ratio.round_at.Goals as goal

pub nonzero_div-q : goal.nonzero_div-q
nonzero_div-q c = omega (arith, bit_at c.args.k c.requires, pow_pos c.args.k)

pub nonzero_rem-r : goal.nonzero_rem-r
nonzero_rem-r c = omega (arith, bit_at c.args.k c.requires, pow_pos c.args.k)

pub overflow_mul-half : goal.overflow_mul-half
overflow_mul-half c = let p : 0 < (1 * 2 ^ c.args.k % 2 ^ 64) = omega (arith, bit_at c.args.k c.requires, pow_pos c.args.k) in
    omega (arith, bit_at c.args.k c.requires, mod-lt c.args.x p, pow_mono {j = 40} c.requires)

pub returns-then-half-u : goal.returns-then-half-u
returns-then-half-u c = down_is c.args.x c.args.k (1 * 2 ^ c.args.k % 2 ^ 64) (bit_at c.args.k c.requires) c.if-half-u.true

pub overflow_add-result : goal.overflow_add-result
overflow_add-result c = let p : 0 < (1 * 2 ^ c.args.k % 2 ^ 64) = omega (arith, bit_at c.args.k c.requires, pow_pos c.args.k) in
    omega (arith, one_more_lem c.args.x (1 * 2 ^ c.args.k % 2 ^ 64) p c.ranges.x.fits c.if-half-u.false)

pub returns-then-half-u-2 : goal.returns-then-half-u-2
returns-then-half-u-2 c = tie_is c.args.x c.args.k (1 * 2 ^ c.args.k % 2 ^ 64) (bit_at c.args.k c.requires) c.if-half-u-2.true

pub overflow_add-result-2 : goal.overflow_add-result-2
overflow_add-result-2 c = let p : 0 < (1 * 2 ^ c.args.k % 2 ^ 64) = omega (arith, bit_at c.args.k c.requires, pow_pos c.args.k) in
    omega (arith, one_more_lem c.args.x (1 * 2 ^ c.args.k % 2 ^ 64) p c.ranges.x.fits c.if-half-u.false)

pub returns : goal.returns
returns c = up_is c.args.x c.args.k (1 * 2 ^ c.args.k % 2 ^ 64) (bit_at c.args.k c.requires) (lt_of_le-ne c.if-half-u.false (λ e. c.if-half-u-2.false (sym e)))

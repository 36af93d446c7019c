-- The columns of the product by halves are its upper digits.
use Rattle.std.proofs.Common.{◌+◌, ◌*◌, ◌/◌, ◌^◌, le-add_right, shr_lt, Fits-le}
use Rattle.numbers.specs.WideLaws.{low, middle_of, high_product_law, product-fits, middle-fits, next_fits, result_fits, low-lt}
use Rattle.numbers.proofs.wide.high_product.Goals as goal

pub overflow_mul-t : goal.overflow_mul-t
overflow_mul-t c = product-fits (shr_lt 32 32 c.ranges.a.fits) (low-lt c.args.b)

pub overflow_mul-t-2 : goal.overflow_mul-t-2
overflow_mul-t-2 c = product-fits (low-lt c.args.a) (low-lt c.args.b)

pub overflow_add-t : goal.overflow_add-t
overflow_add-t c = middle-fits (shr_lt 32 32 c.ranges.a.fits) (low-lt c.args.a) (low-lt c.args.b)

pub overflow_mul-u : goal.overflow_mul-u
overflow_mul-u c = product-fits (low-lt c.args.a) (shr_lt 32 32 c.ranges.b.fits)

pub overflow_add-u : goal.overflow_add-u
overflow_add-u c = next_fits (low-lt (middle_of c.args.a c.args.b)) (low-lt c.args.a) (shr_lt 32 32 c.ranges.b.fits)

pub overflow_mul-result : goal.overflow_mul-result
overflow_mul-result c = product-fits (shr_lt 32 32 c.ranges.a.fits) (shr_lt 32 32 c.ranges.b.fits)

pub overflow_add-result : goal.overflow_add-result
overflow_add-result c = let a = c.args.a in
    let b = c.args.b in
    Fits-le (le-add_right (a / 2 ^ 32 * (b / 2 ^ 32) + middle_of a b / 2 ^ 32) ((low (middle_of a b) + low a * (b / 2 ^ 32)) / 2 ^ 32)) (result_fits a b c.ranges.a.fits c.ranges.b.fits)

pub overflow_add-result-2 : goal.overflow_add-result-2
overflow_add-result-2 c = result_fits c.args.a c.args.b c.ranges.a.fits c.ranges.b.fits

pub returns : goal.returns
returns c = high_product_law c.args.a c.args.b

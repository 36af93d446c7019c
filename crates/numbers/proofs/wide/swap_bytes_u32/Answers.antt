-- The library's reversed bytes are those of the definition.
use Rattle.std.proofs.Common.{◌∙◌, arith}
use Rattle.numbers.specs.WideLaws.{swap_four}
use Rattle.numbers.proofs.wide.swap_bytes_u32.Goals as goal

pub returns : goal.returns
returns c = let e = c.swap_bytes.ensures ∙ swap_four c.args.x in
    omega (arith, e)

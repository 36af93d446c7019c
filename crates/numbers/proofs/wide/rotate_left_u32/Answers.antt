-- The library's turn is that of the definition.
use Rattle.std.proofs.Common.{◌∙◌}
use Rattle.numbers.specs.WideLaws.{turns}
use Rattle.numbers.proofs.wide.rotate_left_u32.Goals as goal

pub returns : goal.returns
returns c = c.rotate_left.ensures ∙ turns c.args.x c.args.k c.ranges.x.fits

-- One group for seven bits, up to the highest that is set.
use Rattle.std.proofs.Common.{arith}
use Rattle.numbers.specs.GroupLaws.{groups_to-top}
use Rattle.numbers.proofs.spell.size.Goals as goal

pub returns : goal.returns
returns g c = let e = g.met.T.Number.widens c.args.x c.into-x.result c.into-x.ensures in
    let top = c.ilog2-top.ensures in
    let is = groups_to-top c.into-x.result c.ilog2-top.result (omega (arith, c.max.ensures, top.power_le)) (omega (arith, c.max.ensures, top.next_power_gt)) in
    record { size = rw e at is; bound = omega (arith, top.bound) }

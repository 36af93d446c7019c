-- Each branch is a case of the definition.
use Rattle.std.proofs.Common.{eq-eqb, ne_eqb}
use Rattle.numbers.specs.Pick.{pick}
use Rattle.hash.specs.ShapeLong.{block_end}
use Rattle.hash.proofs.long.block_end.Goals as goal

pub returns-then-t-eq15 : goal.returns-then-t-eq15
unfolding block_end pick
returns-then-t-eq15 c = rw (eq-eqb _ _ c.if-t-eq15.true) c.scramble.ensures

pub returns : goal.returns
unfolding block_end pick
returns c = simp (ne_eqb _ _ c.if-t-eq15.false)

-- From node j on every node is won.
use Rattle.std.proofs.Common.{◌∙◌, sym, arith}
use Rattle.merge.specs.TournamentLaws.{building_starts, building_on}
use Rattle.merge.proofs.tournament.build.Goals as goal

pub loop-j-init : goal.loop-j-init
loop-j-init c = building_starts c.args.image.now c.args.tree.now c.told-tree

pub loop-j-preserved : goal.loop-j-preserved
loop-j-preserved c = let v = c.loop-j in
    building_on c.args.image.now c.args.tree.now v.tree v.j v.invariant c.loop-j-test.true _ c.play.ensures

pub returns : goal.returns
returns c = let b = c.loop-j.invariant in
    let l = c.loop-j-test.false in
    record { size = b.size ∙ sym c.told-tree; won = λ j g h. b.won j (omega arith) h; same = b.same }

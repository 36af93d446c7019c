-- Every node but j is won, and the hole moves up.
use Rattle.std.proofs.Common.{◌/◌, ◌∙◌, sym, arith}
use Rattle.merge.specs.TournamentLaws.{climbing_starts, climbing_on}
use Rattle.merge.proofs.tournament.climb.Goals as goal

pub loop-j-init : goal.loop-j-init
loop-j-init c = let l = c.requires.at_leaf in
    climbing_starts c.args.image.now c.args.tree.now (c.args.leaf / 2) c.told-tree (omega arith) c.requires.others

pub loop-j-preserved : goal.loop-j-preserved
loop-j-preserved c = let v = c.loop-j in
    climbing_on c.args.image.now c.args.tree.now v.tree v.j v.invariant c.loop-j-test.true _ c.play.ensures

pub returns : goal.returns
returns c = let b = c.loop-j.invariant in
    let l = c.loop-j-test.false in
    record { size = b.size ∙ sym c.told-tree; won = λ j g h. b.won j g h (λ d. omega arith); same = b.same }

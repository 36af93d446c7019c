-- A turn of the loop takes two accumulators.
use Rattle.std.proofs.Common.{refl, ap, ◌∙◌, rules}
use Rattle.hash.specs.Notation.{for_up}
use Rattle.hash.specs.Secret.{avalanche}
use Rattle.hash.specs.Large.{final_merge}
use Rattle.hash.proofs.Loops.{for_up-done}
use Rattle.hash.proofs.Turns.{next_merged}
use Rattle.hash.proofs.long.merge.Goals as goal

pub loop-i-init : goal.loop-i-init
unfolding for_up
loop-i-init c = refl

pub loop-i-preserved : goal.loop-i-preserved
loop-i-preserved c = let l = c.loop-i in let a = c.args in next_merged a.acc a.o l.i _ l.invariant c.word.ensures c.word-in-loop-i.ensures c.fold-h.ensures

pub returns : goal.returns
unfolding final_merge
returns c = c.avalanche.ensures ∙ ap avalanche (search (rules, for_up-done))

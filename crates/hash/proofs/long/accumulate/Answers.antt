-- A turn of the loop is one lane of the description.
use Rattle.std.proofs.Common.{refl, rules}
use Rattle.hash.specs.Notation.{u64s, for_up}
use Rattle.hash.specs.Large.{accumulate}
use Rattle.hash.proofs.Loops.{for_up-done}
use Rattle.hash.proofs.Turns.{next_lane}
use Rattle.hash.proofs.long.accumulate.Goals as goal

pub loop-k-init : goal.loop-k-init
unfolding for_up
loop-k-init c = refl

pub loop-k-preserved : goal.loop-k-preserved
unfolding u64s
loop-k-preserved c = let l = c.loop-k in next_lane (u64s _ _) (u64s _ _) l.k _ l.invariant c.read64.ensures c.word.ensures c.lane-q.ensures

pub returns : goal.returns
unfolding accumulate
returns c = search (rules, for_up-done)

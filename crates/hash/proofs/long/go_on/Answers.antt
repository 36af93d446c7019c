-- A turn of the loop is one stripe.
use Rattle.std.proofs.Common.{refl, rules}
use Rattle.hash.specs.Notation.{for_up}
use Rattle.hash.proofs.Loops.{for_up-done}
use Rattle.hash.proofs.Turns.{next_stripe}
use Rattle.hash.proofs.long.go_on.Goals as goal

pub loop-k-init : goal.loop-k-init
unfolding for_up
loop-k-init c = refl

pub loop-k-preserved : goal.loop-k-preserved
loop-k-preserved c = let l = c.loop-k in let a = c.args in next_stripe a.s.now a.i a.t l.k _ l.invariant c.accumulate.ensures c.block_end-q.ensures

pub returns : goal.returns
returns c = search (rules, for_up-done)

-- A turn of the loop takes the two lanes of a chunk.
use Rattle.std.proofs.Common.{◌≡◌, ◌*◌, ◌++◌, refl, ap, ◌∙◌, arith}
use Rattle.hash.specs.Notation.{u64s, for_up}
use Rattle.hash.specs.Secret.{secret}
use Rattle.hash.specs.Large.{acc_large, accumulate, accumulate_lane}
use Rattle.hash.proofs.FirstEight.{first_stripe}
use Rattle.hash.proofs.Turns.{next_two}
use Rattle.hash.proofs.joined.first.Goals as goal

pub loop-i-init : goal.loop-i-init
unfolding for_up
loop-i-init c = refl

pub loop-i-preserved : goal.loop-i-preserved
loop-i-preserved c = let l = c.loop-i in let s = c.args.s.now in next_two (s.key.now ++ s.value.now) l.i acc_large l.invariant c.front-p.ensures c.word.ensures c.word-in-loop-i.ensures c.lane-q.ensures c.lane-r.ensures

pub returns : goal.returns
unfolding accumulate
returns c = let l = c.loop-i in let s = c.args.s.now in let e : 2 * l.i ≡ 8 = omega arith in
    first_stripe (s.key.now ++ s.value.now) acc_large l.r (l.invariant ∙ ap (λ n. for_up n (accumulate_lane (u64s (s.key.now ++ s.value.now) 0) (u64s secret 0)) acc_large) e)

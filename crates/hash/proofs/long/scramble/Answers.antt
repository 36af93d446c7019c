-- A turn of the loop is the description's.
use Rattle.std.proofs.Common.{refl, rules}
use Rattle.hash.specs.Notation.{u64s, for_up}
use Rattle.hash.specs.Secret.{secret, secret_length}
use Rattle.hash.specs.Large.{round_scramble}
use Rattle.hash.proofs.Loops.{for_up-done}
use Rattle.hash.proofs.Turns.{next_scrambled}
use Rattle.hash.proofs.long.scramble.Goals as goal

pub loop-k-init : goal.loop-k-init
unfolding for_up
loop-k-init c = refl

pub loop-k-preserved : goal.loop-k-preserved
unfolding u64s secret_length secret
loop-k-preserved c = let l = c.loop-k in rw c.wrapping_mul.ensures (next_scrambled l.k _ l.invariant c.word.ensures)

pub returns : goal.returns
unfolding round_scramble
returns c = search (rules, for_up-done)

-- What is left to spell, laid on what is there, gives the whole spelling laid on what was there.
use Rattle.std.proofs.Common.{◌≡◌, ◌+◌, length}
use lib.Seq.{sets}
use Rattle.numbers.specs.Leb128.{shortest}
use Rattle.numbers.proofs.spell.spell.Given as goal

abbrev pub invariant-loop-left : goal.invariant-loop-left
invariant-loop-left g l = let x = g.T.Number.value l.fn.x in
    (sets l.buf l.to (shortest l.left) ≡ sets l.initial.buf l.at (shortest x))
    × (l.to + length (shortest l.left) ≡ l.at + length (shortest x))
    × (length l.buf ≡ length l.initial.buf)

abbrev pub decreases-loop-left : goal.decreases-loop-left
decreases-loop-left g l = l.left

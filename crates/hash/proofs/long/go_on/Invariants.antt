-- A turn of the loop is one stripe.
use Rattle.std.proofs.Common.{◌≡◌}
use Rattle.hash.specs.ShapeLong.{stripes_of}
use Rattle.hash.proofs.long.go_on.Given as goal

abbrev pub invariant-loop-k : goal.invariant-loop-k
invariant-loop-k l = l.r ≡ stripes_of l.s l.i l.t l.k l.initial.r

-- A turn of the loop is one lane of the description.
use Rattle.std.proofs.Common.{◌≡◌}
use Rattle.hash.specs.Notation.{u64s, for_up}
use Rattle.hash.specs.Secret.{secret}
use Rattle.hash.specs.Large.{accumulate_lane}
use Rattle.hash.proofs.long.accumulate.Given as goal

abbrev pub invariant-loop-k : goal.invariant-loop-k
invariant-loop-k l = l.r ≡ for_up l.k (accumulate_lane (u64s l.s l.i) (u64s secret l.o)) l.initial.r

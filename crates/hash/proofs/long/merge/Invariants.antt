-- A turn of the loop takes two accumulators.
use Rattle.std.proofs.Common.{◌≡◌}
use Rattle.hash.specs.Notation.{u64s, for_up}
use Rattle.hash.specs.Secret.{secret}
use Rattle.hash.specs.Large.{merge_lanes}
use Rattle.hash.proofs.long.merge.Given as goal

abbrev pub invariant-loop-i : goal.invariant-loop-i
invariant-loop-i l = l.h ≡ for_up l.i (merge_lanes l.acc (u64s secret l.o)) l.initial.h

-- A turn of the loop takes the two lanes of a chunk.
use Rattle.std.proofs.Common.{◌≡◌, ◌*◌, ◌++◌}
use Rattle.hash.specs.Notation.{u64s, for_up}
use Rattle.hash.specs.Secret.{secret}
use Rattle.hash.specs.Large.{acc_large, accumulate_lane}
use Rattle.hash.proofs.joined.first.Given as goal

abbrev pub invariant-loop-i : goal.invariant-loop-i
invariant-loop-i l = l.r ≡ for_up (2 * l.i) (accumulate_lane (u64s (l.s.key.now ++ l.s.value.now) 0) (u64s secret 0)) acc_large

-- A turn of the loop is the description's.
use Rattle.std.proofs.Common.{◌≡◌, ◌-◌}
use Rattle.hash.specs.Notation.{u64s, for_up}
use Rattle.hash.specs.Secret.{secret, secret_length}
use Rattle.hash.specs.Large.{scramble_lane}
use Rattle.hash.proofs.long.scramble.Given as goal

abbrev pub invariant-loop-k : goal.invariant-loop-k
invariant-loop-k l = l.lane-items ≡ for_up l.k (scramble_lane (u64s secret (secret_length - 64))) l.fn.acc

-- A lane of a stripe, as the code takes it.
use Rattle.std.proofs.Common.{◌≡◌, ℕ, ◌*◌, ◌/◌, ◌%◌, ◌^◌, List, get_or, set, refl}
use lib.Bits.{bit_xor}
use Rattle.hash.specs.Notation.{add64}
use Rattle.hash.specs.ShapeLong.{lane_of}

-- the two stores of a lane
pub lane_law : (k d x : ℕ) (acc : List ℕ) → set (set acc (bit_xor k 1) (add64 (get_or acc (bit_xor k 1) 0) d)) k (add64 (get_or (set acc (bit_xor k 1) (add64 (get_or acc (bit_xor k 1) 0) d)) k 0) (bit_xor d x % 2 ^ 32 * (bit_xor d x / 2 ^ 32))) ≡ lane_of k d x acc
unfolding lane_of
lane_law k d x acc = refl

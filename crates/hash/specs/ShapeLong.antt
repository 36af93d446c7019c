-- Definitions in the code's own shape for more than 240 bytes, for the contracts of private functions; proofs/Whole ties them to the description's.
use Rattle.std.specs.Prelude.{ℕ, ◌+◌, ◌-◌, ◌*◌, ◌/◌, ◌%◌, ◌^◌, List, set, ◌==◌, bit_xor, slice_index, slice_set}
use Rattle.numbers.specs.Pick.{pick}
use Rattle.hash.specs.Notation.{add64, mul64, not64, u64s, for_up, PRIME64_1, PRIME64_2}
use Rattle.hash.specs.Secret.{secret_length}
use Rattle.hash.specs.Large.{accumulate, round_scramble, final_merge}
use Rattle.hash.specs.declared.Hash128.{Hash128}

-- lane i with its word d of the stripe and its word x of the secret
unfoldable pub lane_of : ℕ → ℕ → ℕ → List ℕ → List ℕ
lane_of i d x acc =
    let value = bit_xor d x in
    let acc₁ = set acc (bit_xor i 1) (add64 (slice_index acc (bit_xor i 1)) d) in
    slice_set acc₁ i (add64 (slice_index acc₁ i) (value % 2 ^ 32 * (value / 2 ^ 32)))

-- the t-th stripe of a string ends a block, or does not
unfoldable pub block_end : ℕ → List ℕ → List ℕ
block_end t acc = pick (t % 16 == 15) (round_scramble acc) acc

-- stripe t + k of a string, the stripes from the t-th on standing in s from i on; and n such stripes
unfoldable pub step_at : List ℕ → ℕ → ℕ → ℕ → List ℕ → List ℕ
step_at s i t k acc = block_end (t + k) (accumulate (u64s s (i + 64 * k)) (8 * ((t + k) % 16)) acc)

abbrev pub stripes_of : List ℕ → ℕ → ℕ → ℕ → List ℕ → List ℕ
stripes_of s i t n = for_up n (step_at s i t)

-- both halves, of n bytes in all
unfoldable pub finish_of : ℕ → List ℕ → Hash128
finish_of n acc = record {
  low = final_merge acc (mul64 n PRIME64_1) 11;
  high = final_merge acc (not64 (mul64 n PRIME64_2)) (secret_length - 75);
}

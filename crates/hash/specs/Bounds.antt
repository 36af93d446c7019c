-- Both halves of a hash are below 2^64, for any list.
use Rattle.std.specs.Prelude.{ℕ, ◌-◌, ◌*◌, ◌/◌, ◌%◌, ◌^◌, ◌<◌, Bool, true, false, List, length, bit_or, bit_xor}
use Rattle.std.proofs.Math.Nat.{mod-lt}
use Rattle.std.proofs.Common.{lt_of_le_of_lt, pow_pos}
use Rattle.std.proofs.lemmas.Nat.{xor_lt, shr_le}
use Rattle.numbers.specs.Pick.{pick}
use Rattle.hash.specs.Notation.{add64, mul64, shl64, u32s, u64s, PRIME64_1, PRIME64_2, PRIME64_3, PRIME_MX1, PRIME_MX2}
use Rattle.hash.specs.Secret.{secret, avalanche, avalanche_XXH64}
use Rattle.hash.specs.Small.{modified_seed, XXH3_128_empty, XXH3_128_1to3, XXH3_128_4to8, XXH3_128_9to16}
use Rattle.hash.specs.Medium.{XXH3_128_17to240}
use Rattle.hash.specs.Large.{final_merge, XXH3_128_large}
use Rattle.hash.specs.XXH3.{XXH3_128_17to128, XXH3_128_129to240, xxh3_128}
use Rattle.hash.specs.declared.Hash128.{Hash128}

-- a word mixed with its own upper bits is a word
stirred : (x k : ℕ) → bit_xor (x % 2 ^ 64) (x % 2 ^ 64 / 2 ^ k) < 2 ^ 64
stirred x k = xor_lt 64 (x % 2 ^ 64) (x % 2 ^ 64 / 2 ^ k) (mod-lt x (pow_pos 64)) (lt_of_le_of_lt (shr_le (x % 2 ^ 64) k) (mod-lt x (pow_pos 64)))

avalanche-lt : (x : ℕ) → avalanche x < 2 ^ 64
unfolding avalanche
avalanche-lt x = stirred (bit_xor x (x / 2 ^ 37) * PRIME_MX1) 32

avalanche_XXH64_lt : (x : ℕ) → avalanche_XXH64 x < 2 ^ 64
unfolding avalanche_XXH64
avalanche_XXH64_lt x =
    let y = mul64 (bit_xor x (x / 2 ^ 33)) PRIME64_2 in
    stirred (bit_xor y (y / 2 ^ 29) * PRIME64_3) 32

abbrev Below : Hash128 → Type 0
Below h = (h.low < 2 ^ 64) × (h.high < 2 ^ 64)

either : (t : Bool) (a b : Hash128) → Below a → Below b → Below (pick t a b)
unfolding pick
either true a b p q = p
either false a b p q = q

module _ (s : List ℕ) where
  empty : Below XXH3_128_empty
  unfolding XXH3_128_empty
  empty = (avalanche_XXH64_lt _, avalanche_XXH64_lt _)

  upto_3 : Below (XXH3_128_1to3 s)
  unfolding XXH3_128_1to3
  upto_3 = (avalanche_XXH64_lt _, avalanche_XXH64_lt _)

  upto_8 : Below (XXH3_128_4to8 s)
  unfolding XXH3_128_4to8
  upto_8 =
      let m = bit_xor (add64 (bit_xor (u64s secret 16 0) (u64s secret 16 1)) modified_seed) (bit_or (u32s s 0 0) (shl64 (u32s s (length s - 4) 0) 32)) * add64 PRIME64_1 (shl64 (length s) 2) in
      let high = add64 (m / 2 ^ 64) (shl64 (m % 2 ^ 64) 1) in
      let low = bit_xor (m % 2 ^ 64) (high / 2 ^ 3) in
      (stirred (bit_xor low (low / 2 ^ 35) * PRIME_MX2) 28, avalanche-lt high)

  upto_16 : Below (XXH3_128_9to16 s)
  unfolding XXH3_128_9to16
  upto_16 = (avalanche-lt _, avalanche-lt _)

  upto_128 : Below (XXH3_128_17to128 s)
  unfolding XXH3_128_17to128 XXH3_128_17to240
  upto_128 = (avalanche-lt _, mod-lt _ (pow_pos 64))

  upto_240 : Below (XXH3_128_129to240 s)
  unfolding XXH3_128_129to240 XXH3_128_17to240
  upto_240 = (avalanche-lt _, mod-lt _ (pow_pos 64))

  larger : Below (XXH3_128_large s)
  unfolding XXH3_128_large final_merge
  larger = (avalanche-lt _, avalanche-lt _)

  below : Below (xxh3_128 s)
  unfolding xxh3_128
  below = either _ _ _ empty (either _ _ _ upto_3 (either _ _ _ upto_8 (either _ _ _ upto_16 (either _ _ _ upto_128 (either _ _ _ upto_240 larger)))))

pub low_below : (s : List ℕ) → (xxh3_128 s).low < 2 ^ 64
low_below s = (below s).0

pub high-below : (s : List ℕ) → (xxh3_128 s).high < 2 ^ 64
high-below s = (below s).1

-- xxHash's description: "XXH3 Algorithm Description (for small inputs)", XXH3-128.
use Rattle.std.specs.Prelude.{ℕ, ◌-◌, ◌*◌, ◌/◌, ◌%◌, ◌^◌, List, length, bit_or, bit_xor, slice_index}
use Rattle.numbers.specs.Wide.{rotl32, bswap}
use Rattle.hash.specs.Notation.{add64, sub64, mul64, shl32, shl64, u32s, u64s, PRIME32_2, PRIME64_1, PRIME64_2, PRIME_MX2}
use Rattle.hash.specs.Secret.{seed, secret, avalanche, avalanche_XXH64}
use Rattle.hash.specs.declared.Hash128.{Hash128}

-- "Empty input"
unfoldable pub XXH3_128_empty : Hash128
XXH3_128_empty =
    let secretWords = u64s secret 64 in
    record {
      low = avalanche_XXH64 (bit_xor (bit_xor seed (secretWords 0)) (secretWords 1));
      high = avalanche_XXH64 (bit_xor (bit_xor seed (secretWords 2)) (secretWords 3));
    }

-- "1-3 bytes of input": the value that combines the input bytes and its length
unfoldable pub combined : List ℕ → ℕ
combined input =
    let inputLength = length input in
    bit_or (bit_or (bit_or (slice_index input (inputLength - 1)) (shl32 inputLength 8)) (shl32 (slice_index input 0) 16)) (shl32 (slice_index input (inputLength / 2 ^ 1)) 24)

unfoldable pub XXH3_128_1to3 : List ℕ → Hash128
XXH3_128_1to3 input =
    let secretWords = u32s secret 0 in
    let low = bit_xor (add64 (bit_xor (secretWords 0) (secretWords 1)) seed) (combined input) in
    let high = bit_xor (sub64 (bit_xor (secretWords 2) (secretWords 3)) seed) (rotl32 (bswap 4 (combined input)) 13) in
    record { low = avalanche_XXH64 low; high = avalanche_XXH64 high }

-- "4-8 bytes of input"
unfoldable pub modified_seed : ℕ
modified_seed = bit_xor seed (shl64 (bswap 4 (seed % 2 ^ 32)) 32)

unfoldable pub XXH3_128_4to8 : List ℕ → Hash128
XXH3_128_4to8 input =
    let inputLength = length input in
    let inputFirst = u32s input 0 0 in
    let inputLast = u32s input (inputLength - 4) 0 in
    let secretWords = u64s secret 16 in
    let combined = bit_or inputFirst (shl64 inputLast 32) in
    let value = bit_xor (add64 (bit_xor (secretWords 0) (secretWords 1)) modified_seed) combined in
    let mulResult = value * add64 PRIME64_1 (shl64 inputLength 2) in
    let high = mulResult / 2 ^ 64 in
    let low = mulResult % 2 ^ 64 in
    let high₁ = add64 high (shl64 low 1) in
    let low₁ = bit_xor low (high₁ / 2 ^ 3) in
    let low₂ = bit_xor low₁ (low₁ / 2 ^ 35) in
    let low₃ = mul64 low₂ PRIME_MX2 in
    let low₄ = bit_xor low₃ (low₃ / 2 ^ 28) in
    record { low = low₄; high = avalanche high₁ }

-- "9-16 bytes of input"
unfoldable pub XXH3_128_9to16 : List ℕ → Hash128
XXH3_128_9to16 input =
    let inputLength = length input in
    let inputFirst = u64s input 0 0 in
    let inputLast = u64s input (inputLength - 8) 0 in
    let secretWords = u64s secret 32 in
    let val1 = bit_xor (bit_xor (sub64 (bit_xor (secretWords 0) (secretWords 1)) seed) inputFirst) inputLast in
    let val2 = bit_xor (add64 (bit_xor (secretWords 2) (secretWords 3)) seed) inputLast in
    let mulResult = val1 * PRIME64_1 in
    let low = add64 (mulResult % 2 ^ 64) (shl64 (inputLength - 1) 54) in
    let high = add64 (add64 (mulResult / 2 ^ 64) (shl64 (val2 / 2 ^ 32) 32)) (mul64 (val2 % 2 ^ 32) PRIME32_2) in
    let low₁ = bit_xor low (bswap 8 high) in
    let mulResult2 = low₁ * PRIME64_2 in
    let low₂ = mulResult2 % 2 ^ 64 in
    let high₁ = add64 (mulResult2 / 2 ^ 64) (mul64 high PRIME64_2) in
    record { low = avalanche low₂; high = avalanche high₁ }

-- xxHash's description: "XXH3 Algorithm Description (for medium inputs)", XXH3-128.
-- A 16-byte segment input[o:o+16] is given by its words, `u64s input o`.
use Rattle.std.specs.Prelude.{ℕ, ◌+◌, ◌-◌, ◌*◌, ◌/◌, ◌%◌, ◌^◌, List, length, bit_xor}
use Rattle.hash.specs.Notation.{add64, sub64, mul64, u64s, for_up, for_down, PRIME64_1, PRIME64_2, PRIME64_4}
use Rattle.hash.specs.Secret.{seed, secret, avalanche}
use Rattle.hash.specs.declared.Hash128.{Hash128}
use Rattle.hash.specs.declared.medium.Acc.{Acc}

-- "Step 1. Initialize internal accumulators": acc[0] and acc[1] are a0 and a1
unfoldable pub acc_medium : ℕ → Acc
acc_medium inputLength = record { a0 = mul64 inputLength PRIME64_1; a1 = 0 }

-- "Mixing operation"
unfoldable pub mix_step : (ℕ → ℕ) → ℕ → ℕ → ℕ
mix_step dataWords secretOffset seed =
    let secretWords = u64s secret secretOffset in
    let mulResult = bit_xor (dataWords 0) (add64 (secretWords 0) seed) * bit_xor (dataWords 1) (sub64 (secretWords 1) seed) in
    bit_xor (mulResult % 2 ^ 64) (mulResult / 2 ^ 64)

unfoldable pub mix_two_chunks : (ℕ → ℕ) → (ℕ → ℕ) → ℕ → ℕ → Acc → Acc
mix_two_chunks dataWords1 dataWords2 secretOffset seed acc = record {
  a0 = bit_xor (add64 acc.a0 (mix_step dataWords1 secretOffset seed)) (add64 (dataWords2 0) (dataWords2 1));
  a1 = bit_xor (add64 acc.a1 (mix_step dataWords2 (secretOffset + 16) seed)) (add64 (dataWords1 0) (dataWords1 1));
}

-- "17-128 bytes of input": a round of the loop, and processInput_XXH3_128_17to128()
unfoldable pub round_inward : List ℕ → ℕ → Acc → Acc
round_inward input i =
    let offsetStart = i * 16 in
    let offsetEnd = length input - i * 16 - 16 in
    mix_two_chunks (u64s input offsetStart) (u64s input offsetEnd) (i * 32) seed

unfoldable pub process_input_17to128 : List ℕ → Acc → Acc
process_input_17to128 input =
    let numRounds = (length input - 1) / 2 ^ 5 + 1 in
    for_down numRounds (round_inward input)

-- "129-240 bytes of input": the two loops' chunks, the avalanche between them, and processInput_XXH3_128_129to240()
unfoldable pub chunk_of_128 : List ℕ → ℕ → Acc → Acc
chunk_of_128 input i = mix_two_chunks (u64s input (i * 32)) (u64s input (i * 32 + 16)) (i * 32) seed

unfoldable pub avalanche_both : Acc → Acc
avalanche_both acc = record { a0 = avalanche acc.a0; a1 = avalanche acc.a1 }

unfoldable pub chunk_after_128 : List ℕ → ℕ → Acc → Acc
chunk_after_128 input i = mix_two_chunks (u64s input (i * 32)) (u64s input (i * 32 + 16)) ((i - 4) * 32 + 3) seed

-- for (i = 4; i < numChunks; i++) makes numChunks - 4 turns, the k-th with i = 4 + k
unfoldable pub process_input_129to240 : List ℕ → Acc → Acc
process_input_129to240 input acc =
    let inputLength = length input in
    let numChunks = inputLength / 2 ^ 5 in
    let acc₁ = for_up 4 (chunk_of_128 input) acc in
    let acc₂ = avalanche_both acc₁ in
    let acc₃ = for_up (numChunks - 4) (λ (k : ℕ). chunk_after_128 input (4 + k)) acc₂ in
    mix_two_chunks (u64s input (inputLength - 16)) (u64s input (inputLength - 32)) 103 (sub64 0 seed) acc₃

-- "Step 3. Finalization": XXH3_128_17to240()
unfoldable pub XXH3_128_17to240 : ℕ → Acc → Hash128
XXH3_128_17to240 inputLength acc =
    let low = add64 acc.a0 acc.a1 in
    let high = add64 (add64 (mul64 acc.a0 PRIME64_1) (mul64 acc.a1 PRIME64_4)) (mul64 (sub64 inputLength seed) PRIME64_2) in
    record { low = avalanche low; high = sub64 0 (avalanche high) }

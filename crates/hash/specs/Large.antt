-- xxHash's description: "XXH3 Algorithm Description (for large inputs)", XXH3-128.
-- A stripe is given by its eight words, `u64s input o`, and a block by where it begins.
use Rattle.std.specs.Prelude.{ℕ, ◌+◌, ◌-◌, ◌*◌, ◌/◌, ◌%◌, ◌^◌, List, [], ◌∷◌, length, set, bit_xor, slice_index, slice_index_or, slice_set}
use Rattle.hash.specs.Notation.{add64, mul64, not64, u64s, for_up, PRIME32_1, PRIME32_2, PRIME32_3, PRIME64_1, PRIME64_2, PRIME64_3, PRIME64_4, PRIME64_5}
use Rattle.hash.specs.Secret.{secret, secret_length, avalanche}
use Rattle.hash.specs.declared.Hash128.{Hash128}

-- "Step 1. Initialize internal accumulators"
abbrev pub acc_large : List ℕ
acc_large = PRIME32_3 ∷ PRIME64_1 ∷ PRIME64_2 ∷ PRIME64_3 ∷ PRIME64_4 ∷ PRIME32_2 ∷ PRIME64_5 ∷ PRIME32_1 ∷ []

-- "Step 2. Process blocks"
unfoldable pub stripes_per_block : ℕ
stripes_per_block = (secret_length - 64) / 8

unfoldable pub block_size : ℕ
block_size = 64 * stripes_per_block

-- "Step 2-1. Process stripes in the block": the loop's body, accumulate() and round_accumulate()
unfoldable pub accumulate_lane : (ℕ → ℕ) → (ℕ → ℕ) → ℕ → List ℕ → List ℕ
accumulate_lane stripe secretWords i acc =
    let value = bit_xor (stripe i) (secretWords i) in
    let acc₁ = set acc (bit_xor i 1) (add64 (slice_index acc (bit_xor i 1)) (stripe i)) in
    slice_set acc₁ i (add64 (slice_index acc₁ i) (value % 2 ^ 32 * (value / 2 ^ 32)))

unfoldable pub accumulate : (ℕ → ℕ) → ℕ → List ℕ → List ℕ
accumulate stripe secretOffset =
    let secretWords = u64s secret secretOffset in
    for_up 8 (accumulate_lane stripe secretWords)

-- the n-th stripe of a block
unfoldable pub accumulate_nth : List ℕ → ℕ → ℕ → List ℕ → List ℕ
accumulate_nth input block n = accumulate (u64s input (block + n * 64)) (n * 8)

unfoldable pub round_accumulate : List ℕ → ℕ → List ℕ → List ℕ
round_accumulate input block = for_up stripes_per_block (accumulate_nth input block)

-- "Step 2-2. Scramble accumulators": the loop's body, round_scramble() and round()
unfoldable pub scramble_lane : (ℕ → ℕ) → ℕ → List ℕ → List ℕ
scramble_lane secretWords i acc =
    let a = slice_index_or acc i 0 in
    let a₁ = bit_xor a (a / 2 ^ 47) in
    let a₂ = bit_xor a₁ (secretWords i) in
    slice_set acc i (mul64 a₂ PRIME32_1)

unfoldable pub round_scramble : List ℕ → List ℕ
round_scramble =
    let secretWords = u64s secret (secret_length - 64) in
    for_up 8 (scramble_lane secretWords)

unfoldable pub round : List ℕ → ℕ → List ℕ → List ℕ
round input n acc = round_scramble (round_accumulate input (n * block_size) acc)

-- "Step 2 is looped .. until there are less than or equal to `blockSize` bytes of input left"
unfoldable pub full_blocks : List ℕ → ℕ
full_blocks input = (length input - 1) / block_size

-- "Step 3. Process the last block and the last 64 bytes": lastRound(), its block beginning at `block`
unfoldable pub last_round : List ℕ → ℕ → ℕ → (ℕ → ℕ) → List ℕ → List ℕ
last_round input block len lastStripe acc =
    let nFullStripes = (len - 1) / 64 in
    let acc₁ = for_up nFullStripes (accumulate_nth input block) acc in
    accumulate lastStripe (secret_length - 71) acc₁

-- all accumulation: steps 1 to 3
unfoldable pub accumulated : List ℕ → List ℕ
accumulated input =
    let inputLength = length input in
    let block = full_blocks input * block_size in
    let acc = for_up (full_blocks input) (round input) acc_large in
    last_round input block (inputLength - block) (u64s input (inputLength - 64)) acc

-- "Step 4. Finalization": the loop's body, finalMerge() and XXH3_128_large()
unfoldable pub merge_lanes : List ℕ → (ℕ → ℕ) → ℕ → ℕ → ℕ
merge_lanes acc secretWords i result =
    let mulResult = bit_xor (slice_index acc (i * 2)) (secretWords (i * 2)) * bit_xor (slice_index acc (i * 2 + 1)) (secretWords (i * 2 + 1)) in
    add64 result (bit_xor (mulResult % 2 ^ 64) (mulResult / 2 ^ 64))

unfoldable pub final_merge : List ℕ → ℕ → ℕ → ℕ
final_merge acc initValue secretOffset =
    let secretWords = u64s secret secretOffset in
    avalanche (for_up 4 (merge_lanes acc secretWords) initValue)

unfoldable pub XXH3_128_large : List ℕ → Hash128
XXH3_128_large input =
    let inputLength = length input in
    let acc = accumulated input in
    record {
      low = final_merge acc (mul64 inputLength PRIME64_1) 11;
      high = final_merge acc (not64 (mul64 inputLength PRIME64_2)) (secret_length - 75);
    }

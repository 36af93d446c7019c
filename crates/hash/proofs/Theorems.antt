-- The value of specs/Theorems.antt: a vector is shown by computing the definition.
use Rattle.std.proofs.Common.{refl}
use Rattle.numbers.specs.Pick.{pick}
use Rattle.numbers.specs.Le.{num, le}
use Rattle.numbers.specs.Wide.{rotl32, bswap}
use Rattle.hash.specs.Notation.{u32s, u64s, for_up, for_down}
use Rattle.hash.specs.Secret.{secret, secret_length, avalanche, avalanche_XXH64}
use Rattle.hash.specs.Small.{combined, modified_seed, XXH3_128_empty, XXH3_128_1to3, XXH3_128_4to8, XXH3_128_9to16}
use Rattle.hash.specs.Medium.{acc_medium, mix_step, mix_two_chunks, round_inward, process_input_17to128}
use Rattle.hash.specs.Medium.{chunk_of_128, avalanche_both, chunk_after_128, process_input_129to240, XXH3_128_17to240}
use Rattle.hash.specs.Large.{stripes_per_block, block_size, accumulate_lane, accumulate, accumulate_nth, round_accumulate}
use Rattle.hash.specs.Large.{scramble_lane, round_scramble, round, full_blocks, last_round, accumulated, merge_lanes, final_merge, XXH3_128_large}
use Rattle.hash.specs.XXH3.{XXH3_128_17to128, XXH3_128_129to240, xxh3_128}
use Rattle.hash.specs.Bounds.{low_below, high-below}
use Rattle.hash.specs.Theorems.{top_bytes, Theorems}

pub theorems : Theorems
unfolding top_bytes xxh3_128 pick num le u32s u64s for_up for_down secret secret_length avalanche avalanche_XXH64
    rotl32 bswap combined modified_seed XXH3_128_empty XXH3_128_1to3 XXH3_128_4to8 XXH3_128_9to16
    acc_medium mix_step mix_two_chunks round_inward process_input_17to128 chunk_of_128 avalanche_both chunk_after_128 process_input_129to240
    XXH3_128_17to240 XXH3_128_17to128 XXH3_128_129to240
    stripes_per_block block_size accumulate_lane accumulate accumulate_nth round_accumulate scramble_lane round_scramble round
    full_blocks last_round accumulated merge_lanes final_merge XXH3_128_large
theorems = record {
  vector0 = refl;
  vector3 = refl;
  vector8 = refl;
  vector16 = refl;
  vector128 = refl;
  vector240 = refl;
  vector241 = refl;
  halves = λ input. (low_below input, high-below input);
}

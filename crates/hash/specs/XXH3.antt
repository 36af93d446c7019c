-- XXH3-128 with seed 0 and the default secret: which algorithm an input's length picks.
use Rattle.std.specs.Prelude.{ℕ, List, length, nat_le}
use Rattle.numbers.specs.Pick.{pick}
use Rattle.hash.specs.Small.{XXH3_128_empty, XXH3_128_1to3, XXH3_128_4to8, XXH3_128_9to16}
use Rattle.hash.specs.Medium.{acc_medium, process_input_17to128, process_input_129to240, XXH3_128_17to240}
use Rattle.hash.specs.Large.{XXH3_128_large}
use Rattle.hash.specs.declared.Hash128.{Hash128}

-- 17-128 and 129-240 bytes: steps 1, 2 and 3 of the medium inputs
unfoldable pub XXH3_128_17to128 : List ℕ → Hash128
XXH3_128_17to128 input = XXH3_128_17to240 (length input) (process_input_17to128 input (acc_medium (length input)))

unfoldable pub XXH3_128_129to240 : List ℕ → Hash128
XXH3_128_129to240 input = XXH3_128_17to240 (length input) (process_input_129to240 input (acc_medium (length input)))

-- "XXH3 uses different algorithms for small (0-16 bytes), medium (17-240 bytes), and large (241+ bytes) inputs"
unfoldable pub xxh3_128 : List ℕ → Hash128
xxh3_128 input =
    let inputLength = length input in
    pick (nat_le inputLength 0) XXH3_128_empty
    (pick (nat_le inputLength 3) (XXH3_128_1to3 input)
    (pick (nat_le inputLength 8) (XXH3_128_4to8 input)
    (pick (nat_le inputLength 16) (XXH3_128_9to16 input)
    (pick (nat_le inputLength 128) (XXH3_128_17to128 input)
    (pick (nat_le inputLength 240) (XXH3_128_129to240 input) (XXH3_128_large input))))))

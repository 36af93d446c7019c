-- Words wider than one: products, turns and swaps of words of 32 and 64 bits.
use Rattle.std.specs.Prelude.{ℕ, ◌+◌, ◌-◌, ◌*◌, ◌/◌, ◌%◌, ◌^◌, reverse}
use Rattle.numbers.specs.Le.{le, num}
use Rattle.numbers.specs.declared.wide.Wide.{Wide}

-- the product modulo 2^64
abbrev pub mul64 : ℕ → ℕ → ℕ
mul64 a b = a * b % 2 ^ 64

-- the exact product of two words of 64 bits, as its two halves
unfoldable pub wide_of : ℕ → ℕ → Wide
wide_of a b = record { low = a * b % 2 ^ 64; high = a * b / 2 ^ 64 }

-- a word of 32 bits shifted circularly to the left by s positions
unfoldable pub rotl32 : ℕ → ℕ → ℕ
rotl32 x s = x * 2 ^ (s % 32) % 2 ^ 32 + x / 2 ^ (32 - s % 32)

-- the byte order of a word of `width` bytes reversed
unfoldable pub bswap : ℕ → ℕ → ℕ
bswap width x = num width (reverse (le width x))

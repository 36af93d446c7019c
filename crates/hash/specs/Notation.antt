-- xxHash's description: "Operation notations", and the primes of "XXH3 Algorithm Overview".
-- X xor Y is `bit_xor X Y`, X | Y is `bit_or X Y`, X >> s is `X / 2 ^ s`, X <<< s is `rotl32 X s`; (u128)x * (u128)y is `x * y`.
use Rattle.std.specs.Prelude.{ℕ, zero, suc, ◌+◌, ◌-◌, ◌*◌, ◌%◌, ◌^◌, List, drop}
use Rattle.numbers.specs.Le.{num}

-- +, - and *: modular addition, subtraction and multiplication
abbrev pub add64 : ℕ → ℕ → ℕ
add64 x y = (x + y) % 2 ^ 64

abbrev pub sub64 : ℕ → ℕ → ℕ
sub64 x y = (x + (2 ^ 64 - y)) % 2 ^ 64

abbrev pub mul64 : ℕ → ℕ → ℕ
mul64 x y = x * y % 2 ^ 64

-- X << s, in 32 and in 64 bits
abbrev pub shl32 : ℕ → ℕ → ℕ
shl32 x s = x * 2 ^ s % 2 ^ 32

abbrev pub shl64 : ℕ → ℕ → ℕ
shl64 x s = x * 2 ^ s % 2 ^ 64

-- ~X
abbrev pub not64 : ℕ → ℕ
not64 x = 2 ^ 64 - 1 - x

-- u32 or u64 words[] = bytes[offset:..], read using little-endian convention: words[i] is `u64s bytes offset i`
unfoldable pub u32s : List ℕ → ℕ → ℕ → ℕ
u32s bytes offset i = num 4 (drop (offset + 4 * i) bytes)

unfoldable pub u64s : List ℕ → ℕ → ℕ → ℕ
u64s bytes offset i = num 8 (drop (offset + 8 * i) bytes)

-- for (i = 0; i < n; i++): what `body i` makes of the state, again and again
unfoldable pub for_up : {A : Type 0} → ℕ → (ℕ → A → A) → A → A
for_up zero body acc = acc
for_up (suc i) body acc = body i (for_up i body acc)

-- for (i = n - 1; i >= 0; i--)
unfoldable pub for_down : {A : Type 0} → ℕ → (ℕ → A → A) → A → A
for_down zero body acc = acc
for_down (suc i) body acc = for_down i body (body i acc)

abbrev pub PRIME32_1 : ℕ
PRIME32_1 = 0x9e3779b1

abbrev pub PRIME32_2 : ℕ
PRIME32_2 = 0x85ebca77

abbrev pub PRIME32_3 : ℕ
PRIME32_3 = 0xc2b2ae3d

abbrev pub PRIME64_1 : ℕ
PRIME64_1 = 0x9e3779b185ebca87

abbrev pub PRIME64_2 : ℕ
PRIME64_2 = 0xc2b2ae3d27d4eb4f

abbrev pub PRIME64_3 : ℕ
PRIME64_3 = 0x165667b19e3779f9

abbrev pub PRIME64_4 : ℕ
PRIME64_4 = 0x85ebca77c2b2ae63

abbrev pub PRIME64_5 : ℕ
PRIME64_5 = 0x27d4eb2f165667c5

abbrev pub PRIME_MX1 : ℕ
PRIME_MX1 = 0x165667919e3779f9

abbrev pub PRIME_MX2 : ℕ
PRIME_MX2 = 0x9fb21c651e98df25

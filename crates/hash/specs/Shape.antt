-- Definitions in the code's own shape, for the contracts of private functions; proofs/ ties each to the description's.
use Rattle.std.specs.Prelude.{ℕ, zero, suc, ◌+◌, ◌-◌, ◌*◌, ◌/◌, ◌%◌, ◌^◌, List, length, drop, bit_or, bit_xor}
use Rattle.numbers.specs.Le.{num}
use Rattle.numbers.specs.Wide.{bswap}
use Rattle.hash.specs.Notation.{add64, mul64, shl64, u64s, PRIME32_2, PRIME64_2, PRIME_MX2}
use Rattle.hash.specs.Secret.{seed, avalanche}
use Rattle.hash.specs.Medium.{mix_two_chunks}
use Rattle.hash.specs.declared.Hash128.{Hash128}
use Rattle.hash.specs.declared.medium.Acc.{Acc}
use Rattle.hash.specs.declared.text.Two.{Two}

-- the halves of a product, mixed
abbrev pub fold_of : ℕ → ℕ → ℕ
fold_of a b = bit_xor (a * b % 2 ^ 64) (a * b / 2 ^ 64)

-- 4-8 bytes: from the halves of the product, and from the product
unfoldable pub end4to8 : ℕ → ℕ → Hash128
end4to8 low high =
    let low₁ = bit_xor low (high / 2 ^ 3) in
    let low₂ = mul64 (bit_xor low₁ (low₁ / 2 ^ 35)) PRIME_MX2 in
    record { low = bit_xor low₂ (low₂ / 2 ^ 28); high = avalanche high }

unfoldable pub mix4to8 : ℕ → Hash128
mix4to8 m = end4to8 (m % 2 ^ 64) (add64 (m / 2 ^ 64) (shl64 (m % 2 ^ 64) 1))

-- 9-16 bytes: from the two sums, and from the product of val1 and from val2
unfoldable pub end9to16 : ℕ → ℕ → Hash128
end9to16 low high =
    let low₁ = bit_xor low (bswap 8 high) in
    record {
      low = avalanche (low₁ * PRIME64_2 % 2 ^ 64);
      high = avalanche (add64 (low₁ * PRIME64_2 / 2 ^ 64) (mul64 high PRIME64_2));
    }

unfoldable pub mix9to16 : ℕ → ℕ → ℕ → Hash128
mix9to16 m val2 n =
    end9to16 (add64 (m % 2 ^ 64) (shl64 (n - 1) 54))
    (add64 (add64 (m / 2 ^ 64) (shl64 (val2 / 2 ^ 32) 32)) (mul64 (val2 % 2 ^ 32) PRIME32_2))

-- 17-240 bytes: the words of a chunk as it was read, and a chunk of a text
unfoldable pub words_of : Two → ℕ → ℕ
words_of p zero = p.x
words_of p (suc k) = p.y

unfoldable pub two_at : List ℕ → ℕ → Two
two_at s i = record { x = u64s s i 0; y = u64s s i 1 }

-- key and value: the key's last eight bytes, or as many as it has, at the top of a word; and the word with d of them
unfoldable pub end_of : List ℕ → ℕ
end_of k = num 8 (drop (length k - 8) k) * 256 ^ (8 - length k)

abbrev pub joint_of : ℕ → ℕ → ℕ → ℕ
joint_of t h d = bit_or (t / 2 ^ (64 - 8 * d)) (h * 2 ^ (8 * d) % 2 ^ 64)

-- 129-240 bytes: chunk i with the words of the secret from o on
unfoldable pub chunk_onward : List ℕ → ℕ → ℕ → Acc → Acc
chunk_onward s i o = mix_two_chunks (u64s s (i * 32)) (u64s s (i * 32 + 16)) o seed

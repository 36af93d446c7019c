-- The words of the secret that the small inputs take, as the numbers that stand in the code; and the words of an input by where they begin.
use Rattle.std.proofs.Common.{◌≡◌, ℕ, ◌+◌, ◌-◌, ◌*◌, ◌/◌, ◌%◌, ◌^◌, ◌≤◌, List, length, drop, sym, refl, ap, ◌∙◌, add-zero, arith}
use lib.Bits.{bit_xor, bit_or}
use Rattle.numbers.specs.Le.{le, num}
use Rattle.numbers.specs.Wide.{bswap, rotl32}
use Rattle.hash.specs.Notation.{add64, sub64, mul64, shl64, u32s, u64s, PRIME32_2, PRIME64_1, PRIME64_2, PRIME_MX2}
use Rattle.hash.specs.Secret.{seed, secret, avalanche, avalanche_XXH64}
use Rattle.hash.specs.Small.{combined, modified_seed, XXH3_128_1to3, XXH3_128_4to8, XXH3_128_9to16}
use Rattle.hash.specs.declared.Hash128.{Hash128}
use Rattle.hash.specs.Shape.{mix4to8, end4to8, mix9to16, end9to16}

flip_0 : add64 (bit_xor (u32s secret 0 0) (u32s secret 0 1)) seed ≡ 0x87275a9b
unfolding u32s num secret
flip_0 = refl

flip_8 : sub64 (bit_xor (u32s secret 0 2) (u32s secret 0 3)) seed ≡ 0x302c208b
unfolding u32s num secret
flip_8 = refl

flip_16 : add64 (bit_xor (u64s secret 16 0) (u64s secret 16 1)) modified_seed ≡ 0xc4f023344dc994ac
unfolding u64s num secret modified_seed bswap le
flip_16 = refl

flip_32 : sub64 (bit_xor (u64s secret 32 0) (u64s secret 32 1)) seed ≡ 0x59973f0033362349
unfolding u64s num secret
flip_32 = refl

flip_48 : add64 (bit_xor (u64s secret 32 2) (u64s secret 32 3)) seed ≡ 0xc202797692d63d58
unfolding u64s num secret
flip_48 = refl

module _ (s : List ℕ) (i : ℕ) where
  first32 : u32s s i 0 ≡ num 4 (drop i s)
  unfolding u32s
  first32 = ap (λ (j : ℕ). num 4 (drop j s)) (add-zero i)

  pub first64 : u64s s i 0 ≡ num 8 (drop i s)
  unfolding u64s
  first64 = ap (λ (j : ℕ). num 8 (drop j s)) (add-zero i)

  pub next64 : u64s s i 1 ≡ num 8 (drop (i + 8) s)
  unfolding u64s
  next64 = refl

-- the factor of 4-8 bytes
factor : (n : ℕ) → n ≤ 8 → add64 PRIME64_1 (shl64 n 2) ≡ PRIME64_1 + n * 4
factor n h = omega arith

-- 4-8 and 9-16 bytes, in the code's shape
module _ (s : List ℕ) where
  open_8 : XXH3_128_4to8 s ≡ mix4to8 (bit_xor (add64 (bit_xor (u64s secret 16 0) (u64s secret 16 1)) modified_seed) (bit_or (u32s s 0 0) (shl64 (u32s s (length s - 4) 0) 32)) * add64 PRIME64_1 (shl64 (length s) 2))
  unfolding XXH3_128_4to8 mix4to8 end4to8
  open_8 = refl

  open_16 : XXH3_128_9to16 s ≡ mix9to16 (bit_xor (bit_xor (sub64 (bit_xor (u64s secret 32 0) (u64s secret 32 1)) seed) (u64s s 0 0)) (u64s s (length s - 8) 0) * PRIME64_1) (bit_xor (add64 (bit_xor (u64s secret 32 2) (u64s secret 32 3)) seed) (u64s s (length s - 8) 0)) (length s)
  unfolding XXH3_128_9to16 mix9to16 end9to16
  open_16 = refl

-- the description's own simpler form of a sum: val2 whole, and its lower half once less
add_twice : (h a b : ℕ) → add64 (add64 h a) b ≡ (h + (a + b)) % 2 ^ 64
add_twice h a b = omega arith

add-halves : (h a b : ℕ) → add64 (add64 h (a % 2 ^ 64)) (b % 2 ^ 64) ≡ (h + (a + b)) % 2 ^ 64
add-halves h a b = omega arith

whole_and_half : (v : ℕ) → v + v % 2 ^ 32 * 0x85ebca76 ≡ v / 2 ^ 32 * 2 ^ 32 + v % 2 ^ 32 * PRIME32_2
whole_and_half v = omega arith

val2_sum : (h v : ℕ) → add64 (add64 h v) (v % 2 ^ 32 * 0x85ebca76) ≡ add64 (add64 h (shl64 (v / 2 ^ 32) 32)) (mul64 (v % 2 ^ 32) PRIME32_2)
val2_sum h v =
    add_twice h v (v % 2 ^ 32 * 0x85ebca76) ∙ ap (λ (n : ℕ). (h + n) % 2 ^ 64) (whole_and_half v) ∙ sym (add-halves h (v / 2 ^ 32 * 2 ^ 32) (v % 2 ^ 32 * PRIME32_2))

-- 4-8 and 9-16 bytes: the steps after the words are read, in turn
pub end_8_law : (l h y a : ℕ) → y ≡ mul64 (bit_xor (bit_xor l (h / 2 ^ 3)) (bit_xor l (h / 2 ^ 3) / 2 ^ 35)) PRIME_MX2 → a ≡ avalanche h → ◌≡◌ {A = Hash128} (record { low = bit_xor y (y / 2 ^ 28); high = a }) (end4to8 l h)
unfolding end4to8
end_8_law l h y a ey ea = rw (ey, ea)

pub mix_8_law : (x y l g h : ℕ) (r : Hash128) → l ≡ mul64 x y → g ≡ x * y / 2 ^ 64 → h ≡ add64 g (shl64 l 1) → r ≡ end4to8 l h → r ≡ mix4to8 (x * y)
unfolding mix4to8
mix_8_law x y l g h r el eg eh e = rw (e, eh, eg, el)

pub end_16_law : (l h w g m y p a b : ℕ) → w ≡ bswap 8 h → g ≡ bit_xor l w * PRIME64_2 / 2 ^ 64 → m ≡ mul64 h PRIME64_2 → y ≡ add64 g m → p ≡ mul64 (bit_xor l w) PRIME64_2 → a ≡ avalanche p → b ≡ avalanche y → ◌≡◌ {A = Hash128} (record { low = a; high = b }) (end9to16 l h)
unfolding end9to16
end_16_law l h w g m y p a b ew eg em ey ep ea eb = rw (ea, ep, eb, ey, eg, em, ew)

pub mix_16_law : (x v n m l g w h : ℕ) (r : Hash128) → m ≡ mul64 x PRIME64_1 → l ≡ add64 m (shl64 (n - 1) 54) → g ≡ x * PRIME64_1 / 2 ^ 64 → w ≡ add64 g v → h ≡ add64 w (v % 2 ^ 32 * 0x85ebca76) → r ≡ end9to16 l h → r ≡ mix9to16 (x * PRIME64_1) v n
unfolding mix9to16
mix_16_law x v n m l g w h r em el eg ew eh e = rw (e, el, em, eh, ew, eg, val2_sum (x * PRIME64_1 / 2 ^ 64) v)

-- what the code computes is the description's
module _ (s : List ℕ) where
  pub law_3 : (x w y l h : ℕ) → x ≡ combined s → w ≡ bswap 4 x → y ≡ rotl32 w 13 → l ≡ avalanche_XXH64 (bit_xor 0x87275a9b x) → h ≡ avalanche_XXH64 (bit_xor 0x302c208b y) → ◌≡◌ {A = Hash128} (record { low = l; high = h }) (XXH3_128_1to3 s)
  unfolding XXH3_128_1to3
  law_3 x w y l h ex ew ey el eh =
      let p : l ≡ avalanche_XXH64 (bit_xor (add64 (bit_xor (u32s secret 0 0) (u32s secret 0 1)) seed) (combined s)) = rw (flip_0, ← ex) el in
      let q : h ≡ avalanche_XXH64 (bit_xor (sub64 (bit_xor (u32s secret 0 2) (u32s secret 0 3)) seed) (rotl32 (bswap 4 (combined s)) 13)) = rw (flip_8, ← ex, ← ew, ← ey) eh in
      rw (p, q)

  pub law_8 : (a b : ℕ) (r : Hash128) → a ≡ num 4 (drop 0 s) → b ≡ num 4 (drop (length s - 4) s) → length s ≤ 8 → r ≡ mix4to8 (bit_xor 0xc4f023344dc994ac (bit_or a (b * 2 ^ 32 % 2 ^ 64)) * (PRIME64_1 + length s * 4)) → r ≡ XXH3_128_4to8 s
  law_8 a b r ea eb h e = e ∙ sym (open_8 s ∙ rw (flip_16, first32 s 0, first32 s (length s - 4), factor (length s) h, ea, eb))

  pub law_16 : (a b : ℕ) (r : Hash128) → a ≡ num 8 (drop 0 s) → b ≡ num 8 (drop (length s - 8) s) → r ≡ mix9to16 (bit_xor (bit_xor 0x59973f0033362349 a) b * PRIME64_1) (bit_xor 0xc202797692d63d58 b) (length s) → r ≡ XXH3_128_9to16 s
  law_16 a b r ea eb e = e ∙ sym (open_16 s ∙ rw (flip_32, flip_48, first64 s 0, first64 s (length s - 8), ea, eb))

-- Products of words from their halves, in any base, and why each step of them fits a word.
-- Turns and swaps, as the library has them, are those of the definitions.
use Rattle.std.specs.Prelude.{◌≡◌, ℕ, zero, ◌+◌, ◌-◌, ◌*◌, ◌/◌, ◌%◌, ◌^◌, ◌<◌, Bool, true, false, nat_lt, bit_or, [], ◌∷◌, refl}
use Rattle.std.proofs.Common.{sym, ap, ◌∙◌, subst, le_refl, le_of_lt, le_trans, le_of_eq, lt_of_le_of_lt, lt_of_lt_of_le, add_assoc, add_comm, add-le-add, suc-mul, mul-suc, mul_assoc, mul_comm, mul_left_comm, mul-add, add-mul, mul-le-mul_left, mul-le-mul_right, mod-lt, div-add-mod', add-zero, div-one, arith, pow_pos, pow-add, shl_lt, shr_lt, ltb-true, ltb-false, Fits}
use Rattle.std.proofs.Math.Nat.{add_left_comm, add-lt-add_of_lt_of_le, mul-lt-mul_of_pos_left, div-le_of_le-mul, mod-add-mod, mul-add-mod_self_right, mul-mod_left}
use Rattle.std.proofs.Math.Arith.{digits_lt, digits_div}
use Rattle.std.proofs.Math.Pow.{split}
use Rattle.std.proofs.Math.Facts.{Fits-bits}
use Rattle.std.proofs.lemmas.Nat.{shl-shr, mod-pow-add, or_shifted}
use lib.Bits.{or_self}
use Rattle.std.specs.Int.{w32, w64, from_be_bytes, to_le_bytes, rotate_left}
use Rattle.numbers.specs.Le.{le, num}
use Rattle.numbers.specs.BytesLaws.{written_is-le}
use Rattle.numbers.specs.Wide.{bswap, rotl32}

pub product_lt : (s t : ℕ) {x y : ℕ} → x < 2 ^ s → y < 2 ^ t → x * y < 2 ^ (s + t)
product_lt s t {x} hx hy = lt_of_le_of_lt (mul-le-mul_left x (le_of_lt hy)) (shl_lt s t hx)

-- a product of two halves fits a word
pub product-fits : {x y : ℕ} → x < 2 ^ 32 → y < 2 ^ 32 → Fits w64 (x * y)
product-fits hx hy = Fits-bits (32 + 32) tt (product_lt 32 32 hx hy)

expand : (P a₀ a₁ b₀ b₁ : ℕ) → (a₁ * P + a₀) * (b₁ * P + b₀) ≡ a₁ * b₁ * (P * P) + ((a₀ * b₁ + a₁ * b₀) * P + a₀ * b₀)
expand P a₀ a₁ b₀ b₁ = simp (mul-add, add-mul, mul_assoc, mul_comm, mul_left_comm, add_assoc, add_comm, add_left_comm) refl

regroup : (q r M P z : ℕ) → (q * M + r) * P + z ≡ q * P * M + (r * P + z)
regroup q r M P z = simp (add-mul, mul_assoc, mul_comm, add_assoc, add_comm, add_left_comm) refl

-- what a multiple of M adds to a factor is lost modulo M
carry : (X P M z : ℕ) → (X * P + z) % M ≡ (X % M * P + z) % M
carry X P M z =
    ap (λ (x : ℕ). (x * P + z) % M) (sym (div-add-mod' X M))
    ∙ ap (λ (n : ℕ). n % M) (regroup (X / M) (X % M) M P z)
    ∙ mul-add-mod_self_right (X / M * P) M (X % M * P + z)

wrapped : (P M a₀ a₁ b₀ b₁ : ℕ) → M ≡ P * P → ((a₀ * b₁ + a₁ * b₀) % M * P % M + a₀ * b₀) % M ≡ (a₁ * P + a₀) * (b₁ * P + b₀) % M
wrapped P M a₀ a₁ b₀ b₁ e =
    mod-add-mod ((a₀ * b₁ + a₁ * b₀) % M * P) M (a₀ * b₀)
    ∙ sym (carry (a₀ * b₁ + a₁ * b₀) P M (a₀ * b₀))
    ∙ sym
    (ap (λ (n : ℕ). n % M) (expand P a₀ a₁ b₀ b₁ ∙ ap (λ (m : ℕ). a₁ * b₁ * m + ((a₀ * b₁ + a₁ * b₀) * P + a₀ * b₀)) (sym e))
    ∙ mul-add-mod_self_right (a₁ * b₁) M ((a₀ * b₁ + a₁ * b₀) * P + a₀ * b₀))

-- the product of two words modulo 2 ^ 64, from their halves
pub mul_law : (a b : ℕ) → ((a % 2 ^ 32 * (b / 2 ^ 32) + a / 2 ^ 32 * (b % 2 ^ 32)) % 2 ^ 64 * 2 ^ 32 % 2 ^ 64 + a % 2 ^ 32 * (b % 2 ^ 32)) % 2 ^ 64 ≡ a * b % 2 ^ 64
mul_law a b =
    wrapped (2 ^ 32) (2 ^ 64) (a % 2 ^ 32) (a / 2 ^ 32) (b % 2 ^ 32) (b / 2 ^ 32) refl
    ∙ (λ i. split a 32 i * split b 32 i % 2 ^ 64)

-- four regroupings of sums and products, which `simp` sorts

open₁ : (P a₀ a₁ b₀ b₁ : ℕ) → (a₁ * P + a₀) * (b₁ * P + b₀) ≡ a₁ * b₁ * (P * P) + a₁ * b₀ * P + a₀ * b₁ * P + a₀ * b₀
open₁ P a₀ a₁ b₀ b₁ = simp (mul-add, add-mul, mul_assoc, mul_comm, mul_left_comm, add_assoc, add_comm, add_left_comm) refl

open₂ : (P a₀ a₁ b₀ b₁ q₀ r₀ : ℕ) → a₁ * b₁ * (P * P) + a₁ * b₀ * P + a₀ * b₁ * P + (q₀ * P + r₀) ≡ a₁ * b₁ * (P * P) + (a₁ * b₀ + q₀) * P + a₀ * b₁ * P + r₀
open₂ P a₀ a₁ b₀ b₁ q₀ r₀ = simp (add-mul, mul_assoc, mul_comm, mul_left_comm, add_assoc, add_comm, add_left_comm) refl

open₃ : (P a₀ a₁ b₁ r₀ q r : ℕ) → a₁ * b₁ * (P * P) + (q * P + r) * P + a₀ * b₁ * P + r₀ ≡ a₁ * b₁ * (P * P) + q * (P * P) + (r + a₀ * b₁) * P + r₀
open₃ P a₀ a₁ b₁ r₀ q r = simp (add-mul, mul_assoc, mul_comm, mul_left_comm, add_assoc, add_comm, add_left_comm) refl

open₄ : (P a₁ b₁ r₀ q q₁ r₁ : ℕ) → a₁ * b₁ * (P * P) + q * (P * P) + (q₁ * P + r₁) * P + r₀ ≡ (a₁ * b₁ + q + q₁) * (P * P) + (r₁ * P + r₀)
open₄ P a₁ b₁ r₀ q q₁ r₁ = simp (add-mul, mul_assoc, mul_comm, mul_left_comm, add_assoc, add_comm, add_left_comm) refl

-- the product by its columns, given each column's carry and digit
columns : (P a₀ a₁ b₀ b₁ q₀ r₀ q r q₁ r₁ : ℕ) → a₀ * b₀ ≡ q₀ * P + r₀ → a₁ * b₀ + q₀ ≡ q * P + r → r + a₀ * b₁ ≡ q₁ * P + r₁ → (a₁ * P + a₀) * (b₁ * P + b₀) ≡ (a₁ * b₁ + q + q₁) * (P * P) + (r₁ * P + r₀)
columns P a₀ a₁ b₀ b₁ q₀ r₀ q r q₁ r₁ e₀ e e₁ =
    open₁ P a₀ a₁ b₀ b₁ ∙ ap (λ (x : ℕ). a₁ * b₁ * (P * P) + a₁ * b₀ * P + a₀ * b₁ * P + x) e₀
    ∙ open₂ P a₀ a₁ b₀ b₁ q₀ r₀ ∙ ap (λ (x : ℕ). a₁ * b₁ * (P * P) + x * P + a₀ * b₁ * P + r₀) e
    ∙ open₃ P a₀ a₁ b₁ r₀ q r ∙ ap (λ (x : ℕ). a₁ * b₁ * (P * P) + q * (P * P) + x * P + r₀) e₁
    ∙ open₄ P a₁ b₁ r₀ q q₁ r₁

-- the middle column's sum, and the next one's, as the program computes them
unfoldable pub middle : (P a₀ a₁ b₀ : ℕ) → ℕ
middle P a₀ a₁ b₀ = a₁ * b₀ + a₀ * b₀ / P

unfoldable pub next : (P a₀ a₁ b₀ b₁ : ℕ) → ℕ
unfolding middle
next P a₀ a₁ b₀ b₁ = middle P a₀ a₁ b₀ % P + a₀ * b₁

-- the upper two digits of the product
pub upper_digits : (P a₀ a₁ b₀ b₁ : ℕ) → zero < P → (a₁ * P + a₀) * (b₁ * P + b₀) / (P * P) ≡ a₁ * b₁ + middle P a₀ a₁ b₀ / P + next P a₀ a₁ b₀ b₁ / P
unfolding next
upper_digits P a₀ a₁ b₀ b₁ h =
    ap (λ (n : ℕ). n / (P * P))
    (columns P a₀ a₁ b₀ b₁ (a₀ * b₀ / P) (a₀ * b₀ % P) (middle P a₀ a₁ b₀ / P) (middle P a₀ a₁ b₀ % P) (next P a₀ a₁ b₀ b₁ / P) (next P a₀ a₁ b₀ b₁ % P)
    (sym (div-add-mod' (a₀ * b₀) P)) (sym (div-add-mod' (middle P a₀ a₁ b₀) P)) (sym (div-add-mod' (next P a₀ a₁ b₀ b₁) P)))
    ∙ digits_div (a₁ * b₁ + middle P a₀ a₁ b₀ / P + next P a₀ a₁ b₀ b₁ / P) (digits_lt (mod-lt (next P a₀ a₁ b₀ b₁) h) (mod-lt (a₀ * b₀) h))

abbrev pub low : ℕ → ℕ
low n = n % 2 ^ 32

abbrev pub middle_of : (a b : ℕ) → ℕ
middle_of a b = a / 2 ^ 32 * low b + low a * low b / 2 ^ 32

-- what the program computes
abbrev pub columns_of : (a b : ℕ) → ℕ
columns_of a b = a / 2 ^ 32 * (b / 2 ^ 32) + middle_of a b / 2 ^ 32 + (low (middle_of a b) + low a * (b / 2 ^ 32)) / 2 ^ 32

pub high_product_law : (a b : ℕ) → columns_of a b ≡ a * b / 2 ^ 64
unfolding next
high_product_law a b =
    sym (upper_digits (2 ^ 32) (a % 2 ^ 32) (a / 2 ^ 32) (b % 2 ^ 32) (b / 2 ^ 32) (pow_pos 32))
    ∙ (λ i. split a 32 i * split b 32 i / sym (pow-add 2 32 32) i)

-- the middle column: a product and the carry from the column below
pub middle-fits : {x₁ x₀ y₀ : ℕ} → x₁ < 2 ^ 32 → x₀ < 2 ^ 32 → y₀ < 2 ^ 32 → Fits w64 (x₁ * y₀ + x₀ * y₀ / 2 ^ 32)
middle-fits {x₁} {x₀} {y₀} h₁ h₀ l =
    Fits-bits (32 + 32) tt
    (lt_of_le_of_lt
    (le_trans (add-le-add (le_refl (x₁ * y₀)) (div-le_of_le-mul (2 ^ 32) {m = x₀ * y₀} {n = y₀} (mul-le-mul_right y₀ (le_of_lt h₀)))) (le_trans (le_of_eq (sym (suc-mul x₁ y₀))) (mul-le-mul_right y₀ h₁)))
    (lt_of_lt_of_le (mul-lt-mul_of_pos_left l (pow_pos 32)) (le_of_eq (sym (pow-add 2 32 32)))))

-- the next column: the low 32 bits of the middle one, and a product
pub next_fits : {c x₀ y₁ : ℕ} → c < 2 ^ 32 → x₀ < 2 ^ 32 → y₁ < 2 ^ 32 → Fits w64 (c + x₀ * y₁)
next_fits {c} {x₀} {y₁} hc h₀ l =
    Fits-bits (32 + 32) tt
    (lt_of_lt_of_le (add-lt-add_of_lt_of_le hc (mul-le-mul_right y₁ (le_of_lt h₀)))
    (le_trans (le_of_eq (add_comm (2 ^ 32) (2 ^ 32 * y₁) ∙ sym (mul-suc (2 ^ 32) y₁))) (le_trans (mul-le-mul_left (2 ^ 32) l) (le_of_eq (sym (pow-add 2 32 32))))))

pub result_fits : (a b : ℕ) → a < 2 ^ 64 → b < 2 ^ 64 → Fits w64 (columns_of a b)
result_fits a b ha hb = subst (λ (n : ℕ). Fits w64 n) (sym (high_product_law a b)) (Fits-bits 64 tt (shr_lt 64 64 (product_lt 64 64 ha hb)))

pub low-lt : (n : ℕ) → low n < 2 ^ 32
low-lt n = mod-lt n (pow_pos 32)

four : (a b c d : ℕ) → from_be_bytes w32 (a ∷ b ∷ c ∷ d ∷ []) ≡ num 4 (d ∷ c ∷ b ∷ a ∷ [])
unfolding num
four a b c d = omega arith

eight : (a b c d e f g h : ℕ) → from_be_bytes w64 (a ∷ b ∷ c ∷ d ∷ e ∷ f ∷ g ∷ h ∷ []) ≡ num 8 (h ∷ g ∷ f ∷ e ∷ d ∷ c ∷ b ∷ a ∷ [])
unfolding num
eight a b c d e f g h = omega arith

pub swap_four : (x : ℕ) → from_be_bytes w32 (to_le_bytes w32 x) ≡ bswap 4 x
unfolding bswap le
swap_four x = ap (from_be_bytes w32) (written_is-le 4 x) ∙ four _ _ _ _

pub swap_eight : (x : ℕ) → from_be_bytes w64 (to_le_bytes w64 x) ≡ bswap 8 x
unfolding bswap le
swap_eight x = ap (from_be_bytes w64) (written_is-le 8 x) ∙ eight _ _ _ _ _ _ _ _

-- what leaves at the top comes in below
turned : (x j : ℕ) → 0 < j → j < 32 → x < 2 ^ 32 → bit_or (x * 2 ^ j % 2 ^ 32) (x / 2 ^ (32 - j)) ≡ x * 2 ^ j % 2 ^ 32 + x / 2 ^ (32 - j)
turned x j p h l =
    let i = 32 - j in
    let e : 32 ≡ i + j = omega arith in
    let f : 32 ≡ j + i = omega arith in
    let m : x * 2 ^ j % 2 ^ (i + j) ≡ x % 2 ^ i * 2 ^ j = mod-pow-add (x * 2 ^ j) i j ∙ simp (shl-shr, mul-mod_left, add-zero) in
    let n : x * 2 ^ j % 2 ^ 32 ≡ x % 2 ^ i * 2 ^ j = ap (λ (k : ℕ). x * 2 ^ j % 2 ^ k) e ∙ m in
    rw n (or_shifted (x % 2 ^ i) j (x / 2 ^ i) (shr_lt j i (subst (λ (n : ℕ). x < 2 ^ n) f l)))

pub turns : (x k : ℕ) → x < 2 ^ 32 → rotate_left w32 x k ≡ rotl32 x k
unfolding rotl32
turns x k l = go (nat_lt 0 (k % 32)) refl
  where
    go : (b : Bool) → nat_lt 0 (k % 32) ≡ b → bit_or (x * 2 ^ (k % 32) % 2 ^ 32) (x / 2 ^ ((32 - k % 32) % 32)) ≡ x * 2 ^ (k % 32) % 2 ^ 32 + x / 2 ^ (32 - k % 32)
    go true e =
        let p = ltb-true 0 (k % 32) e in
        let h : k % 32 < 32 = omega arith in
        let s : (32 - k % 32) % 32 ≡ 32 - k % 32 = omega arith in
        rw s (turned x (k % 32) p h l)
    go false e =
        let z : k % 32 ≡ 0 = omega (arith, ltb-false 0 (k % 32) e) in
        let s : x * 2 ^ 0 % 2 ^ 32 ≡ x = omega arith in
        let t : x / 2 ^ 32 ≡ 0 = omega arith in
        let u : x / 2 ^ ((32 - 0) % 32) ≡ x = div-one x in
        rw z (rw (s, t, u) (or_self x ∙ sym (add-zero x)))

-- A number to its 24 leading bits, over the number of bits dropped.
use Prim.Native.Nat.{ℕ, suc, ◌+◌, ◌*◌, ◌/◌, ◌%◌, ◌^◌, ◌≤◌, ◌<◌, compare, Ordering}
use mathlib.Core.Path.{◌≡◌, refl, sym, ◌∙◌, subst}
use mathlib.Core.Logic.{◌⊎◌, inl, inr, ⊎_elim}
use mathlib.Core.Bool.{Bool, true, false, not}
use native.Mathlib.Omega.{arith}
use native.Mathlib.Nat.{one-mul, mod-lt, lt_of_lt_of_le, le_trans, le-div_iff_mul-le, eq-zero-or-pos, div-mul-le_self, mul-le-mul_left}
use native.Mathlib.Numerals.{add-one}
use lib.Dec.{T, leb, is_le, compare_is_eq, leb→le, le→leb, nleb→lt, eqb→eq}
use borrow.Author.Tests.{eq-eqb}
use lib.Pow.{pow_pos, pow_mono, shl_exact}
use lib.Count.{count_leading_zeros, leading_of_zero, leading_top}
use lib.IntN.{pos}
use lib.Ieee.{size, binary32, in_float}
use lib.Ieee.Digits.{size-lt, size-le, size_reaches}
use lib.Ieee.Fits.{kept-lt, nearest-le}
use lib.Ieee.Nearest.{nearest-ge}
use Rattle.garbage.specs.Ratio.{lost, rounded}

pub le_or_gt : (a b : ℕ) → (a ≤ b) ⊎ (b < a)
le_or_gt a b = go (leb a b) (leb→le a b) (nleb→lt a b)
  where
    go : (t : Bool) → (T t → a ≤ b) → (T (not t) → b < a) → (a ≤ b) ⊎ (b < a)
    go true h k = inl (h tt)
    go false h k = inr (k tt)

-- ---- how many digits
size_zero : size 0 ≡ 0
size_zero = omega (arith, size-le 0 0 (pow_pos 0))

pub size_is : (x j : ℕ) → 2 ^ j ≤ x → x < 2 ^ suc j → size x ≡ suc j
size_is x j a b =
    ⊎_elim (λ (h : size x ≤ j). absurd (omega (arith, lt_of_lt_of_le (size-lt x) (pow_mono h))))
    (λ (h : j < size x). omega (arith, size-le x (suc j) b)) (le_or_gt (size x) j)

pub zeros-size : (w x : ℕ) → x < 2 ^ w → count_leading_zeros w x + size x ≡ w
zeros-size w x h = ⊎_elim (λ (e : x ≡ 0). subst (λ (y : ℕ). count_leading_zeros w y + size y ≡ w) (sym e) (omega (arith, leading_of_zero w, size_zero)))
    (λ (p : 0 < x). let t = leading_top w x p h in omega (arith, t.1, size_is x t.0 t.2 t.3)) (eq-zero-or-pos x)

-- ---- one bit moved up
pub bit_at : (k : ℕ) → k ≤ 40 → 1 * 2 ^ k % 2 ^ 64 ≡ 2 ^ k
bit_at k h = shl_exact {a = 1} 1 k 64 (omega arith) (omega arith) ∙ one-mul (2 ^ k)

-- ---- what `compare` says
pub cmp_lt : (a b : ℕ) → a < b → compare a b ≡ Ordering.lt
cmp_lt a b h = go (compare a b) (nleb→lt a b) (eqb→eq a b)
  where
    go : (o : Ordering) → (T (not (is_le o)) → b < a) → (T (compare_is_eq o) → a ≡ b) → o ≡ Ordering.lt
    go Ordering.lt k e = refl
    go Ordering.eq k e = absurd (omega (arith, e tt))
    go Ordering.gt k e = absurd (omega (arith, k tt))

pub cmp_eq : (a b : ℕ) → a ≡ b → compare a b ≡ Ordering.eq
cmp_eq a b h = go (compare a b) (eq-eqb a b h)
  where
    go : (o : Ordering) → compare_is_eq o ≡ true → o ≡ Ordering.eq
    go Ordering.lt e = let z : ◌≡◌ {A = ℕ} 0 1 = cc in absurd (omega arith)
    go Ordering.eq e = refl
    go Ordering.gt e = let z : ◌≡◌ {A = ℕ} 0 1 = cc in absurd (omega arith)

pub cmp_gt : (a b : ℕ) → b < a → compare a b ≡ Ordering.gt
cmp_gt a b h = go (compare a b) (leb→le a b)
  where
    go : (o : Ordering) → (T (is_le o) → a ≤ b) → o ≡ Ordering.gt
    go Ordering.lt k = absurd (omega (arith, k tt))
    go Ordering.eq k = absurd (omega (arith, k tt))
    go Ordering.gt k = refl

-- ---- the number kept
pub lost-le : (x : ℕ) → x < 2 ^ 64 → lost x ≤ 40
lost-le x h = omega (arith, size-le x 64 h)

pub kept-le : (x : ℕ) → rounded (lost x) x ≤ 2 ^ 24
kept-le x = le_trans (nearest-le (x / 2 ^ lost x) (compare (x % 2 ^ lost x * 2) (2 ^ lost x))) (kept-lt 24 x)

pub kept-pos : (x : ℕ) → 0 < x → 0 < rounded (lost x) x
kept-pos x h =
    let z : 0 < size x = ⊎_elim (λ (e : size x ≡ 0). absurd (omega (arith, subst (λ (y : ℕ). x < 2 ^ y) e (size-lt x)))) (λ (p : 0 < size x). p) (eq-zero-or-pos (size x)) in
    let r : 2 ^ lost x ≤ x = size_reaches x (lost x) (omega arith) in
    lt_of_lt_of_le ((le-div_iff_mul-le (pow_pos (lost x))).1 (omega (arith, one-mul (2 ^ lost x)))) (nearest-ge (x / 2 ^ lost x) (compare (x % 2 ^ lost x * 2) (2 ^ lost x)))

-- ---- the three ways to round, as the code has them, at a u that is 2 ^ k
pub down_is : (x k u : ℕ) → u ≡ 2 ^ k → x % u * 2 < u → x / u ≡ rounded k x
down_is x k u e h = rw (← e, cmp_lt (x % u * 2) u h)

pub tie_is : (x k u : ℕ) → u ≡ 2 ^ k → x % u * 2 ≡ u → x / u + x / u % 2 ≡ rounded k x
tie_is x k u e h = rw (← e, cmp_eq (x % u * 2) u h)

pub up_is : (x k u : ℕ) → u ≡ 2 ^ k → u < x % u * 2 → x / u + 1 ≡ rounded k x
up_is x k u e h = rw (← e, cmp_gt (x % u * 2) u h, add-one)

-- half of the unit or more is left over, so the unit is 2 at least, and one more fits
pub one_more_lem : (x u : ℕ) → 0 < u → x < 2 ^ 64 → u ≤ x % u * 2 → x / u + 1 < 2 ^ 64
one_more_lem x u p h l =
    let m : x % u < u = mod-lt x p in
    let two : 2 ≤ u = omega arith in
    omega (arith, div-mul-le_self x u, mul-le-mul_left (x / u) two)

pub in_float_lem : (n : ℕ) → n ≤ 2 ^ 24 → T (in_float binary32 (pos n))
unfolding in_float
in_float_lem n h = le→leb n (2 ^ 24) h

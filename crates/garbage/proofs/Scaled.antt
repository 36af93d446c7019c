-- A number rounded in integers and scaled by two products is the number rounded to binary32.
use Prim.Native.Nat.{ℕ, suc, ◌+◌, ◌-◌, ◌*◌, ◌/◌, ◌^◌, ◌≤◌, ◌<◌}
use mathlib.Core.Path.{◌≡◌, refl, sym, ◌∙◌, ap, subst}
use mathlib.Core.Logic.{⊎_elim}
use mathlib.Core.Bool.{false}
use native.Mathlib.Omega.{arith}
use native.Mathlib.Nat.{one-mul, mul-one, mul_assoc, mul_comm, mul_right_comm, div-one, mod-one, lt_of_lt_of_le, lt_of_le_of_lt, le_trans, le_of_eq, le-suc, eq-or-lt_of_le, eq-zero-or-pos, mul-pos, mul-le-mul_right, eq_of_mul-eq-mul_right}
use lib.Dec.{lit<}
use lib.Pow.{pow_pos, pow_mono, pow-lt, pow-add, shl_lt}
use lib.IntN.{pos}
use lib.Ieee.{Float, fin, nan, inf, binary32, round, of_int, mul, size, up, down}
use lib.Ieee.Digits.{size-lt, size_reaches}
use lib.Ieee.Fits.{round-fits}
use lib.Ieee.Exact.{HasValue, round_exact}
use lib.Ieee.Nearest.{closest, closest_same}
use lib.Ieee.Scale.{grid, overflow, round_val}
use lib.Ieee.Back.{round_whole, whole_unique}
use lib.Ieee.Positive.{positive_of_value, mul_at}
use Rattle.garbage.specs.Ratio.{lost, rounded}
use Rattle.garbage.proofs.Round.{kept-le, kept-pos, lost-le, size_is, le_or_gt}

-- from one fraction to another of the same size
rescale : (x : Float) (w l num : ℕ) → 0 < l → num * l ≡ w → HasValue x false w l → HasValue x false num 1
rescale nan w l num p h v = v
rescale (inf t) w l num p h v = v
rescale (fin t m e) w l num p h v =
    (v.0, eq_of_mul-eq-mul_right l p (m * up e * 1) (num * down e) (ap (λ (x : ℕ). x * l) (mul-one (m * up e)) ∙ v.1 ∙ ap (λ (x : ℕ). x * down e) (sym h) ∙ mul_right_comm num l (down e)))

-- in units of the smallest value
in_units : (q j : ℕ) → q * 2 ^ j * 2 ^ 149 ≡ q * 2 ^ (j + 149) * 1
in_units q j = mul_assoc q (2 ^ j) (2 ^ 149) ∙ ap (λ (x : ℕ). q * x) (sym (pow-add 2 j 149)) ∙ sym (mul-one (q * 2 ^ (j + 149)))

-- q * 2 ^ j is a float as it stands, for a q of 24 bits or 2 ^ 24 itself
exact-under : (q j : ℕ) → q < 2 ^ 24 → j ≤ 64 → HasValue (round binary32 false (q * 2 ^ j) 1) false (q * 2 ^ j) 1
exact-under q j l k =
    round_exact binary32 false (q * 2 ^ j) 1 q (j + 149) (omega arith) l
    (lt_of_lt_of_le (shl_lt 24 (j + 149) l) (pow_mono {j = 277} (omega arith)))
    (in_units q j)

exact : (q j : ℕ) → q ≤ 2 ^ 24 → j ≤ 40 → HasValue (round binary32 false (q * 2 ^ j) 1) false (q * 2 ^ j) 1
exact q j h k = ⊎_elim
    (λ (e : q ≡ 2 ^ 24).
    let x : 1 * 2 ^ (24 + j) ≡ q * 2 ^ j = one-mul (2 ^ (24 + j)) ∙ pow-add 2 24 j ∙ ap (λ (y : ℕ). y * 2 ^ j) (sym e) in
    subst (λ (y : ℕ). HasValue (round binary32 false y 1) false y 1) x (exact-under 1 (24 + j) (lit< tt) (omega arith)))
    (λ (l : q < 2 ^ 24). exact-under q j l (omega arith))
    (eq-or-lt_of_le h)

-- ---- the number rounded has the value that the integers have
size_up : (x t : ℕ) → 0 < size x → size (x * 2 ^ t) ≡ size x + t
size_up x t z =
    let lo : 2 ^ (size x - 1 + t) ≤ x * 2 ^ t = le_trans (le_of_eq (pow-add 2 (size x - 1) t)) (mul-le-mul_right (2 ^ t) (size_reaches x (size x - 1) (omega arith))) in
    let u : suc (size x - 1 + t) ≡ size x + t = omega arith in
    let hi : x * 2 ^ t < 2 ^ suc (size x - 1 + t) = rw u (shl_lt (size x) t (size-lt x)) in
    size_is (x * 2 ^ t) (size x - 1 + t) lo hi ∙ u

small : (x : ℕ) → size x ≤ 24 → HasValue (round binary32 false x 1) false (rounded (lost x) x * 2 ^ lost x) 1
small x z =
    let k : lost x ≡ 0 = omega arith in
    let a : closest x 1 ≡ x = rw (div-one, mod-one) refl in
    let b : x ≡ rounded (lost x) x * 2 ^ lost x = sym (ap (λ (j : ℕ). rounded j x * 2 ^ j) k ∙ mul-one (closest x 1) ∙ a) in
    subst (λ (y : ℕ). HasValue (round binary32 false x 1) false y 1) b (round_whole binary32 false x (le_trans (le-suc x) (le_trans (size-lt x) (pow_mono {j = 24} z))))

large : (x : ℕ) → x < 2 ^ 64 → 24 < size x → HasValue (round binary32 false x 1) false (rounded (lost x) x * 2 ^ lost x) 1
large x h z =
    let k = lost x in
    let q = rounded k x in
    let d : size (x * 2 ^ 149 / 1) - 24 ≡ k + 149 = ap (λ (y : ℕ). size y - 24) (div-one (x * 2 ^ 149)) ∙ omega (arith, size_up x 149 (omega arith)) in
    let c : closest (x * 2 ^ 149) (1 * 2 ^ (k + 149)) ≡ q = closest_same (x * 2 ^ 149) (1 * 2 ^ (k + 149)) x (2 ^ k) (omega (arith, pow_pos (k + 149))) (pow_pos k) (mul_assoc x (2 ^ 149) (2 ^ k) ∙ ap (λ (y : ℕ). x * y) (mul_comm (2 ^ 149) (2 ^ k) ∙ sym (pow-add 2 k 149) ∙ sym (one-mul (2 ^ (k + 149))))) in
    let g : grid binary32 x 1 ≡ q * 2 ^ (k + 149) = ap (λ (j : ℕ). closest (x * 2 ^ 149) (1 * 2 ^ j) * 2 ^ j) d ∙ ap (λ (y : ℕ). y * 2 ^ (k + 149)) c in
    let o : grid binary32 x 1 < overflow binary32 = rw g (lt_of_le_of_lt (mul-le-mul_right (2 ^ (k + 149)) (kept-le x)) (lt_of_le_of_lt (le_of_eq (sym (pow-add 2 24 (k + 149)))) (pow-lt {j = 277} (omega (arith, lost-le x h))))) in
    rescale (round binary32 false x 1) (grid binary32 x 1) (2 ^ 149) (q * 2 ^ k) (pow_pos 149) (mul_assoc q (2 ^ k) (2 ^ 149) ∙ ap (λ (y : ℕ). q * y) (sym (pow-add 2 k 149)) ∙ sym g) (round_val binary32 x 1 o)

pub value : (x : ℕ) → x < 2 ^ 64 → HasValue (round binary32 false x 1) false (rounded (lost x) x * 2 ^ lost x) 1
value x h = ⊎_elim (small x) (large x h) (le_or_gt (size x) 24)

-- ---- the products
product : (q a : ℕ) → 0 < q → (y : Float) → HasValue y false q 1 → a ≤ 24 → mul binary32 y (of_int binary32 (pos (2 ^ a))) ≡ round binary32 false (q * 2 ^ a) 1
unfolding of_int
product q a p y v h =
    let w : HasValue (round binary32 false (2 ^ a) 1) false (2 ^ a) 1 = round_whole binary32 false (2 ^ a) (pow_mono {j = 24} h) in
    mul_at binary32 y (round binary32 false (2 ^ a) 1) q 1 (2 ^ a) 1 (positive_of_value y q 1 v p) (positive_of_value (round binary32 false (2 ^ a) 1) (2 ^ a) 1 w (pow_pos a)) (omega arith) (omega arith) v w

something : (x a b : ℕ) → x < 2 ^ 64 → a + b ≡ lost x → a ≤ 24 → b ≤ 24 → 0 < x
    → mul binary32 (mul binary32 (of_int binary32 (pos (rounded (lost x) x))) (of_int binary32 (pos (2 ^ a)))) (of_int binary32 (pos (2 ^ b))) ≡ of_int binary32 (pos x)
unfolding of_int
something x a b h e ha hb p =
    let q = rounded (lost x) x in
    let qp : 0 < q = kept-pos x p in
    let one : mul binary32 (round binary32 false q 1) (of_int binary32 (pos (2 ^ a))) ≡ round binary32 false (q * 2 ^ a) 1 = product q a qp (round binary32 false q 1) (round_whole binary32 false q (kept-le x)) ha in
    let ev : HasValue (round binary32 false (q * 2 ^ a) 1) false (q * 2 ^ a) 1 = exact q a (kept-le x) (omega arith) in
    let two : mul binary32 (round binary32 false (q * 2 ^ a) 1) (of_int binary32 (pos (2 ^ b))) ≡ round binary32 false (q * 2 ^ a * 2 ^ b) 1 = product (q * 2 ^ a) b (mul-pos qp (pow_pos a)) (round binary32 false (q * 2 ^ a) 1) ev hb in
    let m : q * 2 ^ a * 2 ^ b ≡ q * 2 ^ lost x = mul_assoc q (2 ^ a) (2 ^ b) ∙ ap (λ (y : ℕ). q * y) (sym (pow-add 2 a b) ∙ ap (λ (y : ℕ). 2 ^ y) e) in
    ap (λ (y : Float). mul binary32 y (of_int binary32 (pos (2 ^ b)))) one
    ∙ two
    ∙ ap (λ (y : ℕ). round binary32 false y 1) m
    ∙ whole_unique binary32 (round binary32 false (q * 2 ^ lost x) 1) (round binary32 false x 1) false (q * 2 ^ lost x) (round-fits binary32 false (q * 2 ^ lost x) 1) (round-fits binary32 false x 1) (exact q (lost x) (kept-le x) (lost-le x h)) (value x h)

zeros : mul binary32 (mul binary32 (of_int binary32 (pos (rounded (lost 0) 0))) (of_int binary32 (pos (2 ^ 0)))) (of_int binary32 (pos (2 ^ 0))) ≡ of_int binary32 (pos 0)
unfolding of_int mul round size
zeros = refl

size_none : lost 0 ≡ 0
unfolding size
size_none = refl

nothing : (x a b : ℕ) → a + b ≡ lost x → x ≡ 0
    → mul binary32 (mul binary32 (of_int binary32 (pos (rounded (lost x) x))) (of_int binary32 (pos (2 ^ a)))) (of_int binary32 (pos (2 ^ b))) ≡ of_int binary32 (pos x)
nothing x a b e z =
    let k : lost x ≡ 0 = ap lost z ∙ size_none in
    let a0 : a ≡ 0 = omega arith in
    let b0 : b ≡ 0 = omega arith in
    subst (λ (y : ℕ). mul binary32 (mul binary32 (of_int binary32 (pos (rounded (lost y) y))) (of_int binary32 (pos (2 ^ a)))) (of_int binary32 (pos (2 ^ b))) ≡ of_int binary32 (pos y)) (sym z)
    (rw (a0, b0) zeros)

pub scaled : (x a b : ℕ) → x < 2 ^ 64 → a + b ≡ lost x → a ≤ 24 → b ≤ 24
    → mul binary32 (mul binary32 (of_int binary32 (pos (rounded (lost x) x))) (of_int binary32 (pos (2 ^ a)))) (of_int binary32 (pos (2 ^ b))) ≡ of_int binary32 (pos x)
scaled x a b h e ha hb = ⊎_elim (nothing x a b e) (something x a b h e ha hb) (eq-zero-or-pos x)

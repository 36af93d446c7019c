-- A word of two lists as one: in the first, in the second, or of the first's end and the second's beginning.
use Rattle.std.proofs.Common.{◌≡◌, ℕ, zero, suc, ◌+◌, ◌-◌, ◌*◌, ◌/◌, ◌%◌, ◌^◌, ◌<◌, ◌≤◌, List, [], ◌∷◌, ◌++◌, length, get_or, drop, sym, refl, ap, ◌∙◌, le_refl, mul_assoc, mul_comm, add-mul, add_comm, zero-add, mul_right_comm, arith, lit≤, length-drop, drop_of_length-le, drop-drop, drop_at, pow-add, shl_exact}
use native.Mathlib.Nat.{pow-succ', div-eq_of_lt, add-mul-div_left, mul-div-mul_right, add-mul-mod_self_left}
use lib.Seq.{take-append-le, drop-append-le, drop-append-add}
use lib.Bits.{bit_or, or_shifted_r}
use Rattle.numbers.specs.Le.{num}
use Rattle.hash.specs.Notation.{u64s}
use Rattle.hash.specs.Shape.{end_of, joint_of, two_at}
use Rattle.hash.specs.declared.text.Two.{Two}
use Rattle.hash.proofs.Parts.{num-take}
use Rattle.hash.proofs.Seam.{before}
use Rattle.hash.proofs.Chunks.{chunk_law}

abbrev Bytes : List ℕ → Type 0
Bytes l = (i : ℕ) → get_or l i 0 < 256

num_nil : (n : ℕ) → num n [] ≡ 0
unfolding num
num_nil zero = refl
num_nil (suc n) = refl

-- the first a bytes, and b more
num-plus : (a b : ℕ) (l : List ℕ) → num (a + b) l ≡ num a l + 256 ^ a * num b (drop a l)
unfolding num
num-plus zero b l = rw (zero-add b) (omega arith)
num-plus (suc a) b [] =
    let e : suc a + b ≡ suc (a + b) = omega arith in
    rw (e, num_nil b) (omega arith)
num-plus (suc a) b (x ∷ l) =
    let e : suc a + b ≡ suc (a + b) = omega arith in
    let f : 256 ^ suc a * num b (drop a l) ≡ 256 * (256 ^ a * num b (drop a l)) = rw pow-succ' (mul_assoc 256 (256 ^ a) (num b (drop a l))) in
    let ih = num-plus a b l in
    rw e (omega (arith, f, ih))

-- a list of at most a bytes
num-short : (a b : ℕ) (l : List ℕ) → length l ≤ a → num (a + b) l ≡ num a l
num-short a b l h =
    let e : num b (drop a l) ≡ 0 = ap (num b) (drop_of_length-le l {i = a} h) ∙ num_nil b in
    num-plus a b l ∙ rw e (omega arith)

pos : (n : ℕ) → 0 < 256 ^ n
pos zero = omega arith
pos (suc n) = omega (arith, pos n, pow-succ' 256 n)

num-lt : (n : ℕ) (l : List ℕ) → Bytes l → num n l < 256 ^ n
unfolding num
num-lt zero l h = omega arith
num-lt (suc n) [] h = pos (suc n)
num-lt (suc n) (x ∷ l) h =
    let a : x < 256 = h 0 in
    let ih : num n l < 256 ^ n = num-lt n l (λ i. h (suc i)) in
    omega (arith, a, ih, pow-succ' 256 n)

bytes_drop : (n : ℕ) (l : List ℕ) → Bytes l → Bytes (drop n l)
bytes_drop zero l h = h
bytes_drop (suc n) [] h = h
bytes_drop (suc n) (x ∷ l) h = bytes_drop n l (λ i. h (suc i))

bits : (n : ℕ) → 256 ^ n ≡ 2 ^ (8 * n)
bits zero = refl
bits (suc n) =
    let e : 8 * suc n ≡ 8 + 8 * n = omega arith in
    pow-succ' 256 n ∙ ap (λ (x : ℕ). 256 * x) (bits n) ∙ sym (ap (λ (j : ℕ). 2 ^ j) e ∙ pow-add 2 8 (8 * n))

-- (n + c · y) · b, divided by c · b
quotient : (n y b c : ℕ) → n < c → 0 < b → 0 < c → (n + c * y) * b / (c * b) ≡ y
quotient n y b c h hb hc =
    mul-div-mul_right {m = b} (n + c * y) c hb ∙ add-mul-div_left n y {y = c} hc ∙ ap (λ (x : ℕ). x + y) (div-eq_of_lt h) ∙ zero-add y

-- the last d bytes of the first list, from the top of a word down
module _ (k : List ℕ) (bk : Bytes k) (d : ℕ) (h : d < 8) (l : d ≤ length k) where
  last-bytes : length (drop (length k - d) k) ≡ d
  last-bytes = omega (arith, length-drop (length k - d) k)

  short : (b : ℕ) → num (d + b) (drop (length k - d) k) ≡ num d (drop (length k - d) k)
  short b = num-short d b (drop (length k - d) k) (omega (arith, last-bytes))

  eight : num 8 (drop (length k - d) k) ≡ num d (drop (length k - d) k)
  eight =
      let e : 8 ≡ d + (8 - d) = omega arith in
      ap (λ (n : ℕ). num n (drop (length k - d) k)) e ∙ short (8 - d)

  end-part : end_of k / 2 ^ (64 - 8 * d) ≡ num d (drop (length k - d) k)
  unfolding end_of
  end-part =
      let a = length k - 8 in
      let b = 8 - length k in
      let c = 8 - b - d in
      let e : 8 ≡ c + (d + b) = omega arith in
      let f : a + c ≡ length k - d = omega arith in
      let g : num 8 (drop a k) ≡ num c (drop a k) + 256 ^ c * num d (drop (length k - d) k) =
      ap (λ (n : ℕ). num n (drop a k)) e ∙ num-plus c (d + b) (drop a k) ∙ ap (λ (x : List ℕ). num c (drop a k) + 256 ^ c * num (d + b) x) (drop-drop c a k ∙ ap (λ (n : ℕ). drop n k) f) ∙ ap (λ (x : ℕ). num c (drop a k) + 256 ^ c * x) (short b) in
      let i : 64 - 8 * d ≡ 8 * (c + b) = omega arith in
      let j : 2 ^ (64 - 8 * d) ≡ 256 ^ c * 256 ^ b = ap (λ (n : ℕ). 2 ^ n) i ∙ sym (bits (c + b)) ∙ pow-add 256 c b in
      ap (λ (x : ℕ). x * 256 ^ b / 2 ^ (64 - 8 * d)) g ∙ ap (λ (x : ℕ). (num c (drop a k) + 256 ^ c * num d (drop (length k - d) k)) * 256 ^ b / x) j
      ∙ quotient (num c (drop a k)) (num d (drop (length k - d) k)) (256 ^ b) (256 ^ c) (num-lt c (drop a k) (bytes_drop a k bk)) (pos b) (pos c)

-- the second list's first eight bytes, d bytes up
head-part : (v : List ℕ) (d : ℕ) → Bytes v → d < 8 → num 8 v * 2 ^ (8 * d) % 2 ^ 64 ≡ num (8 - d) v * 2 ^ (8 * d)
head-part v d bv h =
    let w = num (8 - d) v in
    let z = num d (drop (8 - d) v) in
    let q = 2 ^ (8 * d) in
    let e : 8 ≡ (8 - d) + d = omega arith in
    let g : num 8 v ≡ w + 256 ^ (8 - d) * z = ap (λ (n : ℕ). num n v) e ∙ num-plus (8 - d) d v in
    let i : 8 * (8 - d) + 8 * d ≡ 64 = omega arith in
    let j : 256 ^ (8 - d) * q ≡ 2 ^ 64 = ap (λ (x : ℕ). x * q) (bits (8 - d)) ∙ sym (pow-add 2 (8 * (8 - d)) (8 * d)) ∙ ap (λ (n : ℕ). 2 ^ n) i in
    let m : (w + 256 ^ (8 - d) * z) * q ≡ w * q + 2 ^ 64 * z = add-mul w (256 ^ (8 - d) * z) q ∙ ap (λ (x : ℕ). w * q + x) (mul_right_comm (256 ^ (8 - d)) z q ∙ ap (λ (x : ℕ). x * z) j) in
    let s : w < 2 ^ (8 * (8 - d)) = rw (bits (8 - d)) at (num-lt (8 - d) v bv) in
    ap (λ (x : ℕ). x * q % 2 ^ 64) g ∙ ap (λ (x : ℕ). x % 2 ^ 64) m ∙ add-mul-mod_self_left (w * q) (2 ^ 64) z ∙ shl_exact {a = w} (8 * (8 - d)) (8 * d) 64 s (omega arith)

module _ (k v : List ℕ) where
  -- the word of which d bytes stand in the first list
  joint_word : (d : ℕ) → Bytes k → Bytes v → d < 8 → d ≤ length k → joint_of (end_of k) (num 8 v) d ≡ num 8 (drop (length k - d) (k ++ v))
  joint_word d bk bv h l =
      let x = drop (length k - d) k in
      let p = num d x in
      let w = num (8 - d) v in
      let lx : length x ≡ d = last-bytes k bk d h l in
      let hp : p < 2 ^ (8 * d) = rw (bits d) at (num-lt d x (bytes_drop (length k - d) k bk)) in
      let e : 8 ≡ d + (8 - d) = omega arith in
      let f : num d (x ++ v) ≡ p = sym (num-take d d (x ++ v) (le_refl d)) ∙ ap (num d) (take-append-le d x v (omega (arith, lx))) ∙ num-take d d x (le_refl d) in
      let g : num 8 (x ++ v) ≡ p + 256 ^ d * w = ap (λ (n : ℕ). num n (x ++ v)) e ∙ num-plus d (8 - d) (x ++ v) ∙ ap (λ (y : ℕ). y + 256 ^ d * num (8 - d) (drop d (x ++ v))) f ∙ ap (λ (y : List ℕ). p + 256 ^ d * num (8 - d) y) (drop_at x v d lx) in
      let o : bit_or (end_of k / 2 ^ (64 - 8 * d)) (num 8 v * 2 ^ (8 * d) % 2 ^ 64) ≡ bit_or p (w * 2 ^ (8 * d)) = ap (λ (y : ℕ). bit_or y (num 8 v * 2 ^ (8 * d) % 2 ^ 64)) (end-part k bk d h l) ∙ ap (bit_or p) (head-part v d bv h) in
      o ∙ or_shifted_r w (8 * d) p hp ∙ add_comm (w * 2 ^ (8 * d)) p ∙ ap (λ (y : ℕ). p + y) (mul_comm w (2 ^ (8 * d)) ∙ ap (λ (y : ℕ). y * w) (sym (bits d)))
      ∙ sym (ap (num 8) (drop-append-le (length k - d) k v (omega arith)) ∙ g)

  pub joint_at : (t h d i r : ℕ) → Bytes k → Bytes v → t ≡ end_of k → h ≡ num 8 v → d < 8 → d ≤ length k → i ≡ length k - d → r ≡ joint_of t h d → r ≡ num 8 (drop i (k ++ v))
  joint_at t h d i r bk bv et eh l m ei e = e ∙ rw (et, eh, ei) (joint_word d bk bv l m)

  pub in_value : (i j r : ℕ) → i ≡ length k + j → r ≡ num 8 (drop j v) → r ≡ num 8 (drop i (k ++ v))
  in_value i j r ei e = e ∙ sym (ap (num 8) (ap (λ (n : ℕ). drop n (k ++ v)) ei ∙ drop-append-add k v j))

  pub in_key : (i j r : ℕ) → i + 8 ≤ length k → i ≡ j → r ≡ num 8 (drop j k) → r ≡ num 8 (drop i (k ++ v))
  in_key i j r h ei e = e ∙ ap (λ (n : ℕ). num 8 (drop n k)) (sym ei) ∙ sym (num-take 8 8 (drop i k) (le_refl 8)) ∙ ap (num 8) (before k v i 8 h) ∙ num-take 8 8 (drop i (k ++ v)) (le_refl 8)

  pub two_in_value : (i j : ℕ) (r : Two) → i ≡ length k + j → r ≡ two_at v j → r ≡ two_at (k ++ v) i
  unfolding two_at u64s
  two_in_value i j r ei e =
      let f : (o : ℕ) → num 8 (drop (j + o) v) ≡ num 8 (drop (i + o) (k ++ v)) = λ o. in_value (i + o) (j + o) (num 8 (drop (j + o) v)) (omega arith) refl in
      e ∙ rw (f (8 * 0), f (8 * 1))

  pub two_in_key : (i : ℕ) (r : Two) → i + 16 ≤ length k → r ≡ two_at k i → r ≡ two_at (k ++ v) i
  unfolding two_at u64s
  two_in_key i r h e =
      let f : (o : ℕ) → o ≤ 8 → num 8 (drop (i + o) k) ≡ num 8 (drop (i + o) (k ++ v)) = λ o l. in_key (i + o) (i + o) (num 8 (drop (i + o) k)) (omega arith) refl refl in
      e ∙ rw (f (8 * 0) (omega arith), f (8 * 1) (omega arith))

  pub two_words : (i j x y : ℕ) → j ≡ i + 8 → x ≡ num 8 (drop i (k ++ v)) → y ≡ num 8 (drop j (k ++ v)) → ◌≡◌ {A = Two} (record { x = x; y = y }) (two_at (k ++ v) i)
  two_words i j x y ej ex ey = chunk_law (k ++ v) i x y ex (ey ∙ ap (λ (n : ℕ). num 8 (drop n (k ++ v))) ej)

-- the end of a list, at the top of a word
module _ (s : List ℕ) where
  pub end-long : (r : ℕ) → 8 ≤ length s → r ≡ num 8 (drop (length s - 8) s) → r ≡ end_of s
  unfolding end_of
  end-long r h e =
      let f : 8 - length s ≡ 0 = omega arith in
      e ∙ rw f (omega arith)

  few-lt : Bytes s → length s < 8 → num 8 s < 2 ^ (8 * length s)
  few-lt bs h =
      let n = length s in
      let c : 8 ≡ n + (8 - n) = omega arith in
      let f : num 8 s ≡ num n s = ap (λ (j : ℕ). num j s) c ∙ num-short n (8 - n) s (le_refl n) in
      rw (f, ← bits n) (num-lt n s bs)

  -- moved up in two steps, of which neither is a whole word
  pub end_short : (x : ℕ) → Bytes s → length s < 8 → x ≡ num 8 s → x * 2 ^ (56 - 8 * length s) % 2 ^ 64 * 2 ^ 8 % 2 ^ 64 ≡ end_of s
  unfolding end_of
  end_short x bs h e =
      let n = length s in
      let m = num 8 s in
      let a : n - 8 ≡ 0 = omega arith in
      let b : 56 - 8 * n + 8 ≡ 8 * (8 - n) = omega arith in
      let g : m < 2 ^ (8 * n) = few-lt bs h in
      let u : m * 2 ^ (56 - 8 * n) % 2 ^ 64 ≡ m * 2 ^ (56 - 8 * n) = shl_exact {a = m} (8 * n) (56 - 8 * n) 64 g (omega arith) in
      let v : m * 2 ^ (56 - 8 * n) * 2 ^ 8 ≡ m * 2 ^ (56 - 8 * n + 8) = mul_assoc m (2 ^ (56 - 8 * n)) (2 ^ 8) ∙ ap (λ (y : ℕ). m * y) (sym (pow-add 2 (56 - 8 * n) 8)) in
      ap (λ (y : ℕ). y * 2 ^ (56 - 8 * n) % 2 ^ 64 * 2 ^ 8 % 2 ^ 64) e ∙ ap (λ (y : ℕ). y * 2 ^ 8 % 2 ^ 64) u ∙ ap (λ (y : ℕ). y % 2 ^ 64) v
      ∙ shl_exact {a = m} (8 * n) (56 - 8 * n + 8) 64 g (omega arith)
      ∙ ap (λ (y : ℕ). m * y) (ap (λ (j : ℕ). 2 ^ j) b ∙ sym (bits (8 - n))) ∙ ap (λ (j : ℕ). num 8 (drop j s) * 256 ^ (8 - n)) (sym a)

  -- fewer than eight bytes, as two words of four of which the second begins at the end's fourth byte, or as one
  pub few-by_fours : (x y : ℕ) → Bytes s → 4 ≤ length s → length s < 8 → x ≡ num 4 s → x < 2 ^ 32 → y ≡ num 4 (drop (length s - 4) s) → bit_or x (y / 2 ^ (8 * (8 - length s)) * 2 ^ 32 % 2 ^ 64) ≡ num 8 s
  few-by_fours x y bs l h ex hx ey =
      let c = 8 - length s in
      let m = drop (length s - 4) s in
      let d = num (4 - c) (drop 4 s) in
      let e : 4 ≡ c + (4 - c) = omega arith in
      let f : length s - 4 + c ≡ 4 = omega arith in
      let g : y ≡ num c m + 256 ^ c * d =
      ey ∙ ap (λ (n : ℕ). num n m) e ∙ num-plus c (4 - c) m ∙ ap (λ (z : List ℕ). num c m + 256 ^ c * num (4 - c) z) (drop-drop c (length s - 4) s ∙ ap (λ (n : ℕ). drop n s) f) in
      let q : y / 2 ^ (8 * c) ≡ d =
      ap (λ (z : ℕ). y / z) (sym (bits c)) ∙ ap (λ (z : ℕ). z / 256 ^ c) g ∙ add-mul-div_left (num c m) d {y = 256 ^ c} (pos c) ∙ ap (λ (z : ℕ). z + d) (div-eq_of_lt (num-lt c m (bytes_drop (length s - 4) s bs))) ∙ zero-add d in
      let i : 4 ≡ (4 - c) + c = omega arith in
      let j : num 4 (drop 4 s) ≡ d = ap (λ (n : ℕ). num n (drop 4 s)) i ∙ num-short (4 - c) c (drop 4 s) (omega (arith, length-drop 4 s)) in
      let k : num 4 (drop 4 s) < 2 ^ 32 = num-lt 4 (drop 4 s) (bytes_drop 4 s bs) in
      let hd : d < 2 ^ 32 = rw j at k in
      let o : bit_or x (d * 2 ^ 32) ≡ d * 2 ^ 32 + x = or_shifted_r d 32 x hx in
      let w = num-plus 4 4 s in
      ap (λ (z : ℕ). bit_or x (z * 2 ^ 32 % 2 ^ 64)) q ∙ ap (bit_or x) (shl_exact {a = d} 32 32 64 hd (lit≤ tt)) ∙ o ∙ omega (arith, ex, j, w)

  pub few-at_once : (r : ℕ) → length s ≤ 4 → r ≡ num 4 s → r ≡ num 8 s
  few-at_once r h e = e ∙ sym (num-short 4 4 s h)

-- The stripes of two lists as one: those in the first list, the one that crosses, and those in the second.
use Rattle.std.proofs.Common.{◌≡◌, ℕ, ◌+◌, ◌-◌, ◌*◌, ◌/◌, ◌<◌, ◌≤◌, List, ◌++◌, length, take, drop, sym, ap, ◌∙◌, le_refl, arith, length-drop, take-take}
use lib.Seq.{drop-append-le, take-append-le, drop-append-add, take-length}
use Rattle.hash.specs.Notation.{u64s}
use Rattle.hash.specs.Large.{accumulate}
use Rattle.hash.specs.ShapeLong.{stripes_of}
use Rattle.hash.proofs.Stripes.{stripe_same, stripes_same, stripes_plus}

module _ (k v : List ℕ) where
  pub before : (i n : ℕ) → i + n ≤ length k → take n (drop i k) ≡ take n (drop i (k ++ v))
  before i n h =
      sym (ap (take n) (drop-append-le i k v (omega arith)) ∙ take-append-le n (drop i k) v (omega (arith, length-drop i k)))

  past : (i j n : ℕ) → i ≡ length k + j → take n (drop j v) ≡ take n (drop i (k ++ v))
  past i j n e = sym (ap (λ (m : ℕ). take n (drop m (k ++ v))) e ∙ ap (take n) (drop-append-add k v j))

  in_first : (n : ℕ) → 64 * n ≤ length k → (x : List ℕ) → stripes_of k 0 0 n x ≡ stripes_of (k ++ v) 0 0 n x
  in_first n h x = stripes_same k (k ++ v) 0 0 0 n (before 0 (64 * n) (omega arith)) x

  pub all_in_first : (n : ℕ) (x r : List ℕ) → n ≤ length k / 64 → r ≡ stripes_of k 0 0 n x → r ≡ stripes_of (k ++ v) 0 0 n x
  all_in_first n x r h e = e ∙ in_first n (omega arith) x

  -- p stripes in the first list, and the one after them
  with_crossing : (b : List ℕ) (p : ℕ) → b ≡ take 64 (drop (64 * p) (k ++ v)) → 64 * p ≤ length k → (x : List ℕ) → stripes_of b 0 p 1 (stripes_of k 0 0 p x) ≡ stripes_of (k ++ v) 0 0 (p + 1) x
  with_crossing b p e h x =
      let f : 64 * p ≡ 0 + 64 * p = omega arith in
      let g : p ≡ 0 + p = omega arith in
      ap (stripes_of b 0 p 1) (in_first p h x)
      ∙ stripes_same b (k ++ v) 0 (64 * p) p 1 (ap (take 64) e ∙ take-take 64 64 (drop (64 * p) (k ++ v)) (le_refl 64)) (stripes_of (k ++ v) 0 0 p x)
      ∙ ap (λ (i : ℕ). stripes_of (k ++ v) i p 1 (stripes_of (k ++ v) 0 0 p x)) f
      ∙ ap (λ (t : ℕ). stripes_of (k ++ v) (0 + 64 * p) t 1 (stripes_of (k ++ v) 0 0 p x)) g
      ∙ sym (stripes_plus (k ++ v) 0 0 p 1 x)

  pub border_law : (b : List ℕ) (p : ℕ) (x q r : List ℕ) → p ≡ length k / 64 → b ≡ take 64 (drop (64 * p) (k ++ v)) → q ≡ stripes_of k 0 0 p x → r ≡ stripes_of b 0 p 1 q → r ≡ stripes_of (k ++ v) 0 0 (p + 1) x
  border_law b p x q r h eb eq e = rw eq at e ∙ with_crossing b p eb (omega arith) x

  -- the stripes from the p-th on, in the second list
  in_second : (p n : ℕ) → length k ≤ 64 * p → p ≤ n → (x : List ℕ) → stripes_of v (64 * p - length k) p (n - p) (stripes_of (k ++ v) 0 0 p x) ≡ stripes_of (k ++ v) 0 0 n x
  in_second p n h l x =
      let f : 0 + 64 * p ≡ length k + (64 * p - length k) = omega arith in
      let g : p ≡ 0 + p = omega arith in
      let m : p + (n - p) ≡ n = omega arith in
      stripes_same v (k ++ v) (64 * p - length k) (0 + 64 * p) p (n - p) (past (0 + 64 * p) (64 * p - length k) (64 * (n - p)) f) (stripes_of (k ++ v) 0 0 p x)
      ∙ ap (λ (t : ℕ). stripes_of (k ++ v) (0 + 64 * p) t (n - p) (stripes_of (k ++ v) 0 0 p x)) g
      ∙ sym (stripes_plus (k ++ v) 0 0 p (n - p) x)
      ∙ ap (λ (q : ℕ). stripes_of (k ++ v) 0 0 q x) m

  -- the same where the second list is taken whole, as a part: after the first stripe, and after those that begin in the first list
  then_second : (p n : ℕ) (x q r : List ℕ) → length k ≤ 64 * p → p ≤ n → q ≡ stripes_of (k ++ v) 0 0 p x → r ≡ stripes_of (take (length v) v) (64 * p - length k) p (n - p) q → r ≡ stripes_of (k ++ v) 0 0 n x
  then_second p n x q r h l eq e = rw (take-length v, eq) at e ∙ in_second p n h l x

  pub after_first : (x q r : List ℕ) → length k / 64 ≡ 0 → 240 < length k + length v → q ≡ stripes_of (k ++ v) 0 0 1 x → r ≡ stripes_of (take (length v) v) (64 - length k) 1 ((length k + length v - 1) / 64 - 1) q → r ≡ stripes_of (k ++ v) 0 0 ((length k + length v - 1) / 64) x
  after_first x q r h l eq e = then_second 1 ((length k + length v - 1) / 64) x q r (omega arith) (omega arith) eq e

  pub after_border : (n : ℕ) (x q r : List ℕ) → length k / 64 < n → q ≡ stripes_of (k ++ v) 0 0 (length k / 64 + 1) x → r ≡ stripes_of (take (length v) v) (64 * (length k / 64 + 1) - length k) (length k / 64 + 1) (n - (length k / 64 + 1)) q → r ≡ stripes_of (k ++ v) 0 0 n x
  after_border n x q r h eq e = then_second (length k / 64 + 1) n x q r (omega arith) (omega arith) eq e

  -- the last stripe, in the second list or across
  pub last_in_second : (o : ℕ) (x r : List ℕ) → 64 ≤ length v → r ≡ accumulate (u64s v (length v - 64)) o x → r ≡ accumulate (u64s (k ++ v) (length k + length v - 64)) o x
  last_in_second o x r h e =
      let f : length k + length v - 64 ≡ length k + (length v - 64) = omega arith in
      e ∙ stripe_same v (k ++ v) (length v - 64) (length k + length v - 64) (past (length k + length v - 64) (length v - 64) 64 f) o x

  pub last-across : (b : List ℕ) (i o : ℕ) (x r : List ℕ) → b ≡ take 64 (drop i (k ++ v)) → r ≡ accumulate (u64s b 0) o x → r ≡ accumulate (u64s (k ++ v) i) o x
  last-across b i o x r eb e = e ∙ stripe_same b (k ++ v) 0 i (ap (take 64) eb ∙ take-take 64 64 (drop i (k ++ v)) (le_refl 64)) o x

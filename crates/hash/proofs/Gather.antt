-- Bytes stored one run after the other from the front on are the joined list, and its part around the seam.
use Rattle.std.proofs.Common.{◌≡◌, ℕ, ◌+◌, ◌-◌, ◌≤◌, List, ◌++◌, length, take, drop, sym, ap, ◌∙◌, arith, length-append, length-drop, length-take-le, take_all, take_at}
use lib.Seq.{sets, sets-eq, length-sets, drop-append-le, take-append-add}
use Rattle.numbers.specs.LeLaws.{sets_then}

front : (z l : List ℕ) (n : ℕ) → n ≡ length l → n ≤ length z → take n (sets z 0 l) ≡ l
front z l n e h = ap (take n) (sets-eq l z 0 (omega arith)) ∙ take_at l (drop (0 + length l) z) n (sym e)

module _ (z b₁ b₂ k v : List ℕ) (m : ℕ) (p : b₁ ≡ sets z 0 k) (q : b₂ ≡ sets b₁ m v) where
  pub gathered : (n : ℕ) → m ≡ length k → n ≡ length k + length v → n ≤ length z → take n b₂ ≡ k ++ v
  gathered n e f h =
      ap (take n) (sets_then z b₁ b₂ k v 0 m p q (omega arith))
      ∙ front z (k ++ v) n (f ∙ sym (length-append k v)) h

  -- where they fill all
  filled : m ≡ length k → length z ≡ length k + length v → b₂ ≡ k ++ v
  filled e f =
      let l : length b₂ ≡ length z = ap length q ∙ length-sets b₁ m v ∙ ap length p ∙ length-sets z 0 k in
      sym (take_all (length z) b₂ (omega arith)) ∙ gathered (length z) e f (omega arith)

module _ (k v : List ℕ) (i m : ℕ) (e : m ≡ length k - i) (h₁ : i ≤ length k) (h₂ : length k ≤ i + 64) (h₃ : i + 64 ≤ length k + length v) where
  seam : take 64 (drop i (k ++ v)) ≡ drop i k ++ take (64 - m) v
  seam =
      let f : 64 ≡ length (drop i k) + (64 - m) = omega (arith, length-drop i k) in
      ap (take 64) (drop-append-le i k v h₁) ∙ ap (λ (n : ℕ). take n (drop i k ++ v)) f ∙ take-append-add (drop i k) v (64 - m)

  pub across-seam : (z b₁ b₂ : List ℕ) → length z ≡ 64 → b₁ ≡ sets z 0 (take (length k - i) (drop i k)) → b₂ ≡ sets b₁ m (take (64 - m) v) → b₂ ≡ take 64 (drop i (k ++ v))
  across-seam z b₁ b₂ lz p q =
      let a : take (length k - i) (drop i k) ≡ drop i k = take_all (length k - i) (drop i k) (omega (arith, length-drop i k)) in
      let lv : length (take (64 - m) v) ≡ 64 - m = length-take-le (64 - m) v (omega arith) in
      let lk : length (drop i k) ≡ length k - i = length-drop i k in
      filled z b₁ b₂ (drop i k) (take (64 - m) v) m (p ∙ ap (sets z 0) a) q (omega arith) (omega arith) ∙ sym seam

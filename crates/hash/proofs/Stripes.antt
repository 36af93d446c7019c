-- Stripes depend on the bytes that they read alone, and n of them go on where p stopped.
use Rattle.std.proofs.Common.{◌≡◌, ℕ, ◌+◌, ◌*◌, ◌%◌, ◌<◌, List, length, take, drop, sym, refl, ap, ◌∙◌, ap₂, add_assoc, arith}
use lib.Seq.{take-length}
use Rattle.numbers.specs.Le.{num}
use Rattle.hash.specs.Notation.{u64s, for_up}
use Rattle.hash.specs.Secret.{secret}
use Rattle.hash.specs.Large.{accumulate, accumulate_lane}
use Rattle.hash.specs.ShapeLong.{lane_of, block_end, step_at, stripes_of}
use Rattle.hash.proofs.Loops.{for_up-same, for_up-plus}
use Rattle.hash.proofs.Parts.{same_words}

-- one lane of the description is one of the code
pub lane_same : (f u : ℕ → ℕ) (k : ℕ) (x : List ℕ) → accumulate_lane f u k x ≡ lane_of k (f k) (u k) x
unfolding accumulate_lane lane_of
lane_same f u k x = refl

pub lanes-same : (f g u v : ℕ → ℕ) → ((k : ℕ) → k < 8 → f k ≡ g k) → ((k : ℕ) → k < 8 → u k ≡ v k) → (x : List ℕ) → for_up 8 (accumulate_lane f u) x ≡ for_up 8 (accumulate_lane g v) x
lanes-same f g u v p q x =
    for_up-same 8 (accumulate_lane f u) (accumulate_lane g v) x
    (λ k h y. lane_same f u k y ∙ ap₂ (λ (d w : ℕ). lane_of k d w y) (p k h) (q k h) ∙ sym (lane_same g v k y))

accumulate-same : (f g : ℕ → ℕ) (o : ℕ) → ((k : ℕ) → k < 8 → f k ≡ g k) → (x : List ℕ) → accumulate f o x ≡ accumulate g o x
unfolding accumulate
accumulate-same f g o p x = lanes-same f g (u64s secret o) (u64s secret o) p (λ k h. refl) x

module _ (a b : List ℕ) (i j : ℕ) where
  -- one stripe
  pub stripe_same : take 64 (drop i a) ≡ take 64 (drop j b) → (o : ℕ) (x : List ℕ) → accumulate (u64s a i) o x ≡ accumulate (u64s b j) o x
  unfolding u64s
  stripe_same e o x = accumulate-same (u64s a i) (u64s b j) o (λ k h. same_words a b i j 64 e (8 * k) (omega arith)) x

  pub stripes_same : (t n : ℕ) → take (64 * n) (drop i a) ≡ take (64 * n) (drop j b) → (x : List ℕ) → stripes_of a i t n x ≡ stripes_of b j t n x
  unfolding step_at u64s
  stripes_same t n e x =
      for_up-same n (step_at a i t) (step_at b j t) x
      (λ k h y. ap (block_end (t + k))
      (accumulate-same (u64s a (i + 64 * k)) (u64s b (j + 64 * k)) (8 * ((t + k) % 16))
      (λ q l. ap (λ (m : ℕ). num 8 (drop m a)) (add_assoc i (64 * k) (8 * q)) ∙ same_words a b i j (64 * n) e (64 * k + 8 * q) (omega arith) ∙ ap (λ (m : ℕ). num 8 (drop m b)) (sym (add_assoc j (64 * k) (8 * q)))) y))

-- p stripes, and then q more
pub stripes_plus : (a : List ℕ) (i t p q : ℕ) (x : List ℕ) → stripes_of a i t (p + q) x ≡ stripes_of a (i + 64 * p) (t + p) q (stripes_of a i t p x)
unfolding step_at
stripes_plus a i t p q x =
    for_up-plus p q (step_at a i t) x
    ∙ for_up-same q (λ (k : ℕ). step_at a i t (p + k)) (step_at a (i + 64 * p) (t + p)) (stripes_of a i t p x)
    (λ k h y.
    let e : t + (p + k) ≡ t + p + k = omega arith in
    let f : i + 64 * (p + k) ≡ i + 64 * p + 64 * k = omega arith in
    ap₂ (λ (m o : ℕ). block_end m (accumulate (u64s a o) (8 * (m % 16)) y)) e f)

-- of a slice up to its length
pub whole_stripes : (s : List ℕ) (n : ℕ) (x r : List ℕ) → r ≡ stripes_of (take (length s) s) 0 0 n x → r ≡ stripes_of s 0 0 n x
whole_stripes s n x r e = rw (take-length s) at e

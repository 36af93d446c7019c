-- Laws of a loop that counts up.
use Rattle.std.proofs.Common.{◌≡◌, ℕ, zero, suc, ◌+◌, ◌<◌, ◌≤◌, refl, ap, ◌∙◌, add-zero, add-suc, add-one, arith}
use Rattle.hash.specs.Notation.{for_up}

module _ {A : Type 0} where
  -- two bodies that do the same at each turn
  pub for_up-same : (n : ℕ) (f g : ℕ → A → A) (x : A) → ((i : ℕ) → i < n → (y : A) → f i y ≡ g i y) → for_up n f x ≡ for_up n g x
  unfolding for_up
  for_up-same zero f g x h = refl
  for_up-same (suc n) f g x h = ap (f n) (for_up-same n f g x (λ i l. h i (omega arith))) ∙ h n (omega arith) (for_up n g x)

  -- a turns, and then b more
  pub for_up-plus : (a b : ℕ) (f : ℕ → A → A) (x : A) → for_up (a + b) f x ≡ for_up b (λ (k : ℕ). f (a + k)) (for_up a f x)
  unfolding for_up
  for_up-plus a zero f x = ap (λ (n : ℕ). for_up n f x) (add-zero a)
  for_up-plus a (suc b) f x = ap (λ (n : ℕ). for_up n f x) (add-suc a b) ∙ ap (f (a + b)) (for_up-plus a b f x)

  -- one turn more
  pub for_up-next : (k : ℕ) (f : ℕ → A → A) (x : A) {y z : A} → y ≡ for_up k f x → z ≡ f k y → z ≡ for_up (k + 1) f x
  unfolding for_up
  for_up-next k f x ey ez = rw (add-one, ← ey) ez

  -- no turn is left
  pub for_up-done : (k n : ℕ) (f : ℕ → A → A) (x : A) {y : A} → k ≤ n → n ≤ k → y ≡ for_up k f x → y ≡ for_up n f x
  for_up-done k n f x h l e = let z : k ≡ n = omega arith in rw z at e

-- What reading refuses, by the bytes alone: how many of them say that another follows decides it.
use Rattle.std.proofs.Common.{◌≡◌, ℕ, zero, suc, ◌+◌, ◌^◌, ◌<◌, ◌≤◌, Bool, true, false, ltb, leb, ◌⊎◌, List, [], ◌∷◌, ◌++◌, length, get_or, take, drop, sym, refl, ap, ◌∙◌, inl, inr, ⊎_elim, lt_of_lt_of_le, add-one, arith, lit<, take-append-drop, length-take-le, get_or-drop, ltb-false, ltb-true, le-ltb, leb-false, leb-true}
use native.Mathlib.Nat.{pow-le-pow_right}
use Rattle.numbers.specs.Pick.{pick}
use Rattle.numbers.specs.Leb128.{shortest, in_groups, value_of, carried, Reading, got, refused, read_in, groups}
use Rattle.numbers.specs.Leb128Laws.{length_some, length_most, carried_stop, carried_on, read_at}
use Rattle.numbers.specs.GroupLaws.{Again, again, shortest-holds, value-below, reads_over}
use Rattle.numbers.specs.Theorems.{CarryOn, CutExactly, TooLongExactly}
use Rattle.numbers.specs.declared.cut.CutShort.{CutShort}
use Rattle.numbers.specs.declared.leb128.NumberRefusal.TheVariants as refusal

-- ---- the bytes that carry on, of the first `most`
carried-most : (most : ℕ) (t : List ℕ) → (carried most t ≤ most) × (carried most t ≤ length t)
unfolding carried
carried-most zero t = (omega arith, omega arith)
carried-most (suc most) [] = (omega arith, omega arith)
carried-most (suc most) (b ∷ bs) = go (leb 128 b) refl (carried-most most bs)
  where
    go : (c : Bool) → leb 128 b ≡ c → (carried most bs ≤ most) × (carried most bs ≤ length bs)
        → (carried (suc most) (b ∷ bs) ≤ suc most) × (carried (suc most) (b ∷ bs) ≤ length (b ∷ bs))
    go false e h =
        let z = carried_stop (suc most) b bs (leb-false 128 b e) in
        (omega arith, omega arith)
    go true e h =
        let z = carried_on most b bs (leb-true 128 b e) in
        (omega arith, omega arith)

carried-carry : (most : ℕ) (t : List ℕ) → CarryOn (carried most t) t
unfolding carried
carried-carry zero t k h = absurd (omega arith)
carried-carry (suc most) [] k h = absurd (omega arith)
carried-carry (suc most) (b ∷ bs) k h = go (leb 128 b) refl k h (carried-carry most bs)
  where
    go : (c : Bool) → leb 128 b ≡ c → (k : ℕ) → k < carried (suc most) (b ∷ bs) → CarryOn (carried most bs) bs → 128 ≤ get_or (b ∷ bs) k 0
    go false e k h ih = absurd (omega (arith, carried_stop (suc most) b bs (leb-false 128 b e)))
    go true e zero h ih = leb-true 128 b e
    go true e (suc k) h ih = ih k (omega (arith, carried_on most b bs (leb-true 128 b e)))

carried_least : (most k : ℕ) (t : List ℕ) → k ≤ most → CarryOn k t → k ≤ carried most t
carried_least most zero t m c = omega arith
carried_least zero (suc k) t m c = absurd (omega arith)
carried_least (suc most) (suc k) [] m c = absurd (omega (arith, c 0 (omega arith)))
carried_least (suc most) (suc k) (b ∷ bs) m c =
    let e = carried_on most b bs (c 0 (omega arith)) in
    let h = carried_least most k bs (omega arith) (λ i l. c (suc i) (omega arith)) in
    omega arith

-- what reading finds, by its three tests: n bytes carry on, and v is their number with the next
abbrev told : (at n v : ℕ) → Bool → Bool → Bool → Reading
told at n v a b c =
    pick a
    (pick b (pick c (got v (n + 1)) (refused refusal.TooLong)) (refused (refusal.CutShort (record { at = at; needed = n + 1; present = n }))))
    (refused refusal.TooLong)

-- t begins with a spelling of a number at the limit or above
abbrev Over : (most limit : ℕ) (t : List ℕ) → Type 0
Over most limit t = (n : ℕ) × (x : ℕ) × (take n t ≡ in_groups n x) × (length (shortest x) ≤ n) × (n ≤ most) × (limit ≤ x)

module _ (most limit at : ℕ) (t : List ℕ) where
  -- ---- from the bytes
  cut_if : length t < most → CarryOn (length t) t
      → read_in most limit at t ≡ refused (refusal.CutShort (record { at = at; needed = length t + 1; present = length t }))
  unfolding pick
  cut_if h c =
      let l = carried-most most t in
      let m = carried_least most (length t) t (omega arith) c in
      read_at most limit at (length t) t (omega arith) h ∙ rw (le-ltb (length t) (length t) (omega arith))

  endless : CarryOn most t → read_in most limit at t ≡ refused refusal.TooLong
  unfolding read_in pick
  endless c =
      let l = carried-most most t in
      let m = carried_least most most t (omega arith) c in
      let e : carried most t ≡ most = omega arith in
      rw (e, le-ltb most most (omega arith))

  over_if : (n x : ℕ) → take n t ≡ in_groups n x → length (shortest x) ≤ n → n ≤ most → limit ≤ x
      → read_in most limit at t ≡ refused refusal.TooLong
  over_if zero x e l m o = absurd (omega (arith, length_some x))
  over_if (suc n) x e l m o =
      let f : in_groups (suc n) x ++ drop (suc n) t ≡ t = ap (λ (a : List ℕ). a ++ drop (suc n) t) (sym e) ∙ take-append-drop (suc n) t in
      let h = lt_of_lt_of_le (shortest-holds x) (pow-le-pow_right {n = 128} (lit< tt) {i = length (shortest x)} {j = suc n} l) in
      ap (read_in most limit at) (sym f) ∙ reads_over most limit at n x (drop (suc n) t) (omega arith) h o

  -- ---- from the refusal
  cut-only : (cut : CutShort) → read_in most limit at t ≡ refused (refusal.CutShort cut)
      → (cut ≡ record { at = at; needed = length t + 1; present = length t }) × (length t < most) × CarryOn (length t) t
  unfolding read_in pick
  cut-only cut = go (ltb n most) (ltb n (length t)) (ltb v limit) refl refl refl
    where
      n : ℕ
      n = carried most t

      v : ℕ
      v = value_of (take (n + 1) t)

      go : (a b c : Bool) → ltb n most ≡ a → ltb n (length t) ≡ b → ltb v limit ≡ c
          → told at n v a b c ≡ refused (refusal.CutShort cut)
          → (cut ≡ record { at = at; needed = length t + 1; present = length t }) × (length t < most) × CarryOn (length t) t
      go true false c p q r e =
          let f : record { at = at; needed = n + 1; present = n } ≡ cut = cc in
          let g : n ≡ length t = omega (arith, ltb-false n (length t) q, (carried-most most t).1) in
          (sym f ∙ rw g, omega (arith, ltb-true n most p), λ k h. carried-carry most t k (omega arith))
      go true true true p q r e = let z : ◌≡◌ {A = ℕ} 0 1 = cc in absurd (omega arith)
      go true true false p q r e = let z : ◌≡◌ {A = ℕ} 0 1 = cc in absurd (omega arith)
      go false b c p q r e = let z : ◌≡◌ {A = ℕ} 0 1 = cc in absurd (omega arith)

  too_long-only : ((k : ℕ) → get_or t k 0 < 256) → read_in most limit at t ≡ refused refusal.TooLong → CarryOn most t ⊎ Over most limit t
  unfolding read_in pick Again
  too_long-only bytes = go (ltb n most) (ltb n (length t)) (ltb v limit) refl refl refl
    where
      n : ℕ
      n = carried most t

      v : ℕ
      v = value_of (take (n + 1) t)

      go : (a b c : Bool) → ltb n most ≡ a → ltb n (length t) ≡ b → ltb v limit ≡ c
          → told at n v a b c ≡ refused refusal.TooLong
          → CarryOn most t ⊎ Over most limit t
      go false b c p q r e = inl (λ k h. carried-carry most t k (omega (arith, ltb-false n most p)))
      go true true false p q r e =
          let m : n < most = ltb-true n most p in
          let l : n < length t = ltb-true n (length t) q in
          let x = value_of (take (suc n) t) in
          let b : x < 128 ^ suc n = rw (length-take-le (suc n) t (omega arith)) at (value-below (take (suc n) t)) in
          inr (suc n, x, again most t bytes m l, length_most n x b, omega arith, rw (add-one n) at (ltb-false v limit r))
      go true true true p q r e = let z : ◌≡◌ {A = ℕ} 0 1 = cc in absurd (omega arith)
      go true false c p q r e = let z : ◌≡◌ {A = ℕ} 0 1 = cc in absurd (omega arith)

pub cut_exactly_lem : CutExactly
cut_exactly_lem w at s cut = (
  cut-only (groups w) (2 ^ w) at (drop at s) cut,
  λ h. cut_if (groups w) (2 ^ w) at (drop at s) h.1 h.2 ∙ ap (λ c. refused (refusal.CutShort c)) (sym h.0),
)

pub too_long_exactly_lem : TooLongExactly
too_long_exactly_lem w at s b = (
  too_long-only (groups w) (2 ^ w) at (drop at s) (λ k. rw (get_or-drop at s k 0) (b (at + k))),
  ⊎_elim (endless (groups w) (2 ^ w) at (drop at s)) (λ o. over_if (groups w) (2 ^ w) at (drop at s) o.0 o.1 o.2 o.3 o.4 o.5),
)

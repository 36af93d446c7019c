-- Ids that ascend: what a search finds among them is the place, and neighbours in order make all of them ascend.
use Prim.Native.Nat.{ℕ, zero, suc, ◌≤◌, ◌<◌}
use mathlib.Core.Path.{◌≡◌, refl, sym, ◌∙◌, ap}
use mathlib.Core.List.{List, [], ◌∷◌}
use mathlib.Core.Bool.{Bool, true, false}
use native.Mathlib.Omega.{arith}
use lib.ListN.{length, get_or}
use lib.Dec.{leb, ltb}
use Rattle.std.specs.List.Sorted.{IsPartitionedBy}
use borrow.Author.Tests.{leb-true, le-leb, lt-ltb, le-ltb, ltb-true, ltb-false}
use Rattle.numbers.specs.Pick.{pick}
use Rattle.garbage.specs.Columns.{lower_in, place_in, rising_from, StandsAt, GoesTo}
use Rattle.garbage.proofs.Bools.{and_l, and_r, both, by_test, same_or}

above_all : (lo : ℕ) (xs : List ℕ) → rising_from lo xs ≡ true → (k : ℕ) → k < length xs → lo ≤ get_or xs k 0
unfolding rising_from
above_all lo [] t k q = absurd (omega arith)
above_all lo (x ∷ xs) t zero q = leb-true lo x (and_l (leb lo x) (rising_from (suc x) xs) t)
above_all lo (x ∷ xs) t (suc k) q =
    let a = leb-true lo x (and_l (leb lo x) (rising_from (suc x) xs) t) in
    let b = above_all (suc x) xs (and_r (leb lo x) (rising_from (suc x) xs) t) k (omega arith) in
    omega arith

rises : (lo : ℕ) (xs : List ℕ) → rising_from lo xs ≡ true → (j k : ℕ) → j < k → k < length xs → get_or xs j 0 < get_or xs k 0
unfolding rising_from
rises lo [] t j k p q = absurd (omega arith)
rises lo (x ∷ xs) t j zero p q = absurd (omega arith)
rises lo (x ∷ xs) t zero (suc k) p q = above_all (suc x) xs (and_r (leb lo x) (rising_from (suc x) xs) t) k (omega arith)
rises lo (x ∷ xs) t (suc j) (suc k) p q = rises (suc x) xs (and_r (leb lo x) (rising_from (suc x) xs) t) j k (omega arith) (omega arith)

place_at : (id : ℕ) (xs : List ℕ) (r : ℕ) → r ≤ length xs → ((k : ℕ) → k < r → get_or xs k 0 < id) → ((k : ℕ) → r ≤ k → k < length xs → id ≤ get_or xs k 0) → place_in id xs ≡ r
unfolding place_in
place_at id [] r h a b = omega arith
place_at id (x ∷ xs) zero h a b = rw (le-ltb x id (b 0 (omega arith) (omega arith)))
place_at id (x ∷ xs) (suc r) h a b = rw (lt-ltb x id (a 0 (omega arith))) (ap suc (place_at id xs r (omega arith) (λ k q. a (suc k) (omega arith)) (λ k p q. b (suc k) (omega arith) (omega arith))))

module _ (id : ℕ) (xs : List ℕ) (i : ℕ) where
  pub stands : rising_from 0 xs ≡ true → i < length xs → get_or xs i 0 ≡ id → StandsAt id xs i
  stands t h e = record {
    place = sym (place_at id xs i (omega arith)
        (λ k q. omega (arith, rises 0 xs t k i q h, e))
        (λ k p q. same_or k i
        (λ z. omega (arith, ap (λ (j : ℕ). get_or xs j 0) z, e))
        (λ z. omega (arith, rises 0 xs t i k (omega arith) q, e))));
    within = h;
    there = e;
  }

  -- the lower ids before it, and a higher one at it
  pub goes : rising_from 0 xs ≡ true → i ≤ length xs → ((k : ℕ) → k < i → get_or xs k 0 < id) → (i < length xs → id < get_or xs i 0) → GoesTo id xs i
  goes t h a b = record {
    place = sym (place_at id xs i h a (λ k p q. same_or k i
        (λ z. omega (arith, ap (λ (j : ℕ). get_or xs j 0) z, b (omega arith)))
        (λ z. omega (arith, rises 0 xs t i k (omega arith) q, b (omega arith)))));
    within = h;
    absent = λ q e. omega (arith, b q, e);
  }

-- ---- by count
-- among ids that ascend the lower ones stand in front
pub record Lowest (id : ℕ) (xs : List ℕ) (n : ℕ) : Type 0 where
  pub within : n ≤ length xs
  pub lower : (k : ℕ) → k < n → get_or xs k 0 < id
  pub others : (k : ℕ) → n ≤ k → k < length xs → id ≤ get_or xs k 0

pub lowest : (id lo : ℕ) (xs : List ℕ) → rising_from lo xs ≡ true → Lowest id xs (lower_in id xs)
unfolding rising_from lower_in pick
lowest id lo [] t = record { within = omega arith; lower = λ k q. absurd (omega arith); others = λ k p q. absurd (omega arith) }
lowest id lo (x ∷ xs) t = go (lowest id (suc x) xs (and_r (leb lo x) (rising_from (suc x) xs) t)) (ltb x id) refl
  where
    r : rising_from (suc x) xs ≡ true
    r = and_r (leb lo x) (rising_from (suc x) xs) t

    above : (k : ℕ) → k < length xs → suc x ≤ get_or xs k 0
    above = above_all (suc x) xs r

    below : Lowest id xs (lower_in id xs) → ltb x id ≡ true → (k : ℕ) → k < suc (lower_in id xs) → get_or (x ∷ xs) k 0 < id
    below l e zero q = ltb-true x id e
    below l e (suc k) q = l.lower k (omega arith)

    beyond : Lowest id xs (lower_in id xs) → (k : ℕ) → suc (lower_in id xs) ≤ k → k < suc (length xs) → id ≤ get_or (x ∷ xs) k 0
    beyond l zero p q = absurd (omega arith)
    beyond l (suc k) p q = l.others k (omega arith) (omega arith)

    all : id ≤ x → (k : ℕ) → k < suc (length xs) → id ≤ get_or (x ∷ xs) k 0
    all h zero q = h
    all h (suc k) q = omega (arith, above k (omega arith), h)

    none : (n : ℕ) → id ≤ x → Lowest id xs n → Lowest id (x ∷ xs) n
    none zero h l = record { within = omega arith; lower = λ k q. absurd (omega arith); others = λ k p q. all h k q }
    none (suc n) h l = absurd (omega (arith, l.lower 0 (omega arith), above 0 (omega (arith, l.within)), h))

    go : Lowest id xs (lower_in id xs) → (b : Bool) → ltb x id ≡ b → Lowest id (x ∷ xs) (pick b (suc (lower_in id xs)) (lower_in id xs))
    go l true e = record { within = omega (arith, l.within); lower = below l e; others = beyond l }
    go l false e = none (lower_in id xs) (ltb-false x id e) l

-- ---- neighbours
pub all_rise : (xs : List ℕ) → ((k : ℕ) → suc k < length xs → get_or xs k 0 < get_or xs (suc k) 0) → rising_from 0 xs ≡ true
unfolding rising_from
all_rise [] h = refl
all_rise (x ∷ xs) h = both (leb 0 x) (rising_from (suc x) xs) (le-leb 0 x (omega arith)) (from x xs h)
  where
    from : (x : ℕ) (xs : List ℕ) → ((k : ℕ) → suc k < suc (length xs) → get_or (x ∷ xs) k 0 < get_or (x ∷ xs) (suc k) 0) → rising_from (suc x) xs ≡ true
    from x [] h = refl
    from x (y ∷ ys) h = both (leb (suc x) y) (rising_from (suc y) ys) (le-leb (suc x) y (h 0 (omega arith))) (from y ys (λ k q. h (suc k) (omega arith)))

pub one_falls : (xs : List ℕ) (k : ℕ) → suc k < length xs → get_or xs (suc k) 0 ≤ get_or xs k 0 → rising_from 0 xs ≡ false
one_falls xs k h e = by_test (rising_from 0 xs) (λ t. absurd (let r : get_or xs k 0 < get_or xs (suc k) 0 = rises 0 xs t k (suc k) (omega arith) h in omega arith)) (λ t. t)

-- ---- as a search asks for it
any_default : (xs : List ℕ) (k d : ℕ) → k < length xs → get_or xs k d ≡ get_or xs k 0
any_default [] k d h = absurd (omega arith)
any_default (x ∷ xs) zero d h = refl
any_default (x ∷ xs) (suc k) d h = any_default xs k d (omega arith)

pub parted : (id : ℕ) (xs : List ℕ) → rising_from 0 xs ≡ true → IsPartitionedBy (λ y. ltb y id) xs
parted id xs t i j d p q h = same_or i j
    (λ e. ap (λ (k : ℕ). ltb (get_or xs k d) id) e ∙ h)
    (λ n. lt-ltb (get_or xs i d) id (omega (arith, ltb-true (get_or xs j d) id h, rises 0 xs t i j (omega arith) q, any_default xs i d (omega arith), any_default xs j d q)))

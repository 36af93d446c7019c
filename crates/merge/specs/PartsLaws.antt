-- Laws of the table of parts, in the shape of the tests.
use Prim.Native.Nat.{ℕ, zero, suc, ◌+◌, ◌-◌, ◌<◌, ◌≤◌}
use Rattle.std.specs.Prelude.{◌≡◌, Bool, true, false, ◌&&◌, leb, take, get_or, set}
use Rattle.std.proofs.Math.Path.{refl}
use Rattle.std.proofs.Common.{◌∙◌}
use mathlib.Core.List.{List, [], ◌∷◌}
use native.Mathlib.Omega.{arith}
use borrow.Author.Tests.{lt-leb, le-leb, leb-true}
use Rattle.std.proofs.Math.ListN.{length}
use Rattle.merge.specs.declared.parts.Part.{Part}
use Rattle.merge.specs.declared.parts.MergeScanner.{MergeScanner}
use Rattle.merge.specs.Parts.{inside, all_inside, table_ok, no_part}

pub both : (a b : Bool) → (a && b) ≡ true → (a ≡ true) × (b ≡ true)
both true true h = (refl, refl)
both true false h = let c : ◌≡◌ {A = ℕ} 0 1 = cc in absurd (omega arith)
both false b h = let c : ◌≡◌ {A = ℕ} 0 1 = cc in absurd (omega arith)

module _ (size : ℕ) (p : Part) where
  pub in_start : size < p.start → inside size p ≡ false
  unfolding inside
  in_start h = let l : size < p.start + p.length = omega arith in rw (lt-leb _ _ l)

  module _ (g : p.start ≤ size) where
    pub in_length : size - p.start < p.length → inside size p ≡ false
    unfolding inside
    in_length h = let l : size < p.start + p.length = omega arith in rw (lt-leb _ _ l)

    pub in_at : p.length ≤ size - p.start → inside size p ≡ leb p.at p.length
    unfolding inside
    in_at h = let l : p.start + p.length ≤ size = omega arith in rw (le-leb _ _ l)

  pub in_both : inside size p ≡ true → (p.start + p.length ≤ size) × (p.at ≤ p.length)
  unfolding inside
  in_both h = let b = both _ _ h in (leb-true _ _ b.0, leb-true _ _ b.1)

  pub both_in : p.start + p.length ≤ size → p.at ≤ p.length → inside size p ≡ true
  unfolding inside
  both_in f g = rw (le-leb _ _ f, le-leb _ _ g)

module _ (size : ℕ) (m : MergeScanner) where
  pub ok-many : 16 < m.count → table_ok size m ≡ false
  unfolding table_ok
  ok-many h = rw (lt-leb _ _ h)

  pub ok-few : m.count ≤ 16 → table_ok size m ≡ all_inside size (take m.count m.parts)
  unfolding table_ok
  ok-few h = rw (le-leb _ _ h)

  pub ok-both : table_ok size m ≡ true → (m.count ≤ 16) × (all_inside size (take m.count m.parts) ≡ true)
  unfolding table_ok
  ok-both h = let b = both _ _ h in (leb-true _ _ b.0, b.1)

  pub both_ok : m.count ≤ 16 → all_inside size (take m.count m.parts) ≡ true → table_ok size m ≡ true
  both_ok f g = ok-few f ∙ g

module _ (size : ℕ) where
  in_split : (p : Part) (l : List Part) → all_inside size (p ∷ l) ≡ true → (inside size p ≡ true) × (all_inside size l ≡ true)
  in_split p l h = both (inside size p) (all_inside size l) h

  pub in_get : (n : ℕ) (ps : List Part) (k : ℕ) → all_inside size (take n ps) ≡ true → k < n → k < length ps → inside size (get_or ps k no_part) ≡ true
  in_get zero ps k h a b = absurd (omega arith)
  in_get (suc n) [] k h a b = absurd (omega arith)
  in_get (suc n) (p ∷ ps) zero h a b = (in_split p (take n ps) h).0
  in_get (suc n) (p ∷ ps) (suc k) h a b = in_get n ps k (in_split p (take n ps) h).1 (omega arith) (omega arith)

  pub in_set : (n : ℕ) (ps : List Part) (k : ℕ) (q : Part) → inside size q ≡ true → all_inside size (take n ps) ≡ true → all_inside size (take n (set ps k q)) ≡ true
  in_set zero ps k q s h = refl
  in_set (suc n) [] k q s h = refl
  in_set (suc n) (p ∷ ps) zero q s h = let i = (in_split p (take n ps) h).1 in rw (s, i)
  in_set (suc n) (p ∷ ps) (suc k) q s h = let i = in_split p (take n ps) h in let r = in_set n ps k q s i.1 in let j = i.0 in rw (j, r)

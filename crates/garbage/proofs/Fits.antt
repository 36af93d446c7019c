-- Which totals fit their widths: of one entry, of a list, of a list with an entry put in or grown.
use Prim.Native.Nat.{ℕ, zero, suc, ◌+◌, ◌≤◌, ◌<◌, ◌^◌}
use mathlib.Core.Path.{◌≡◌, refl, sym, ◌∙◌, ap, ap₂}
use mathlib.Core.List.{List, [], ◌∷◌}
use mathlib.Core.Bool.{Bool, true, false, ◌&&◌}
use native.Mathlib.Omega.{arith}
use lib.ListN.{length, set}
use lib.Dec.{ltb, leb}
use borrow.Author.Tests.{ltb-true, lt-ltb, le-leb, lt-leb, leb-true}
use Rattle.numbers.specs.Pick.{pick}
use Rattle.std.specs.Prelude.{Ok, Err, Option, Some, None}
use Rattle.garbage.specs.declared.map.CountRefusal.TheVariants.{MapFull, SumTooBig}
use Rattle.garbage.specs.Entries.{Entry, plus, fits, all_fit, judged}
use Rattle.garbage.proofs.Bools.{and_l, and_r, both, and_true, by_test}
use Rattle.garbage.proofs.Insert.{put}

pub fits_all : (e : Entry) → e.frames < 2 ^ 32 → e.stated < 2 ^ 64 → e.disk < 2 ^ 64 → fits e ≡ true
unfolding fits
fits_all e a b c = rw (lt-ltb e.frames (2 ^ 32) a, lt-ltb e.stated (2 ^ 64) b, lt-ltb e.disk (2 ^ 64) c)

pub fits_each : (e : Entry) → fits e ≡ true → (e.frames < 2 ^ 32) × (e.stated < 2 ^ 64) × (e.disk < 2 ^ 64)
unfolding fits
fits_each e h =
    let b = and_r (ltb e.frames (2 ^ 32)) (ltb e.stated (2 ^ 64) && ltb e.disk (2 ^ 64)) h in (
      ltb-true e.frames (2 ^ 32) (and_l (ltb e.frames (2 ^ 32)) (ltb e.stated (2 ^ 64) && ltb e.disk (2 ^ 64)) h),
      ltb-true e.stated (2 ^ 64) (and_l (ltb e.stated (2 ^ 64)) (ltb e.disk (2 ^ 64)) b),
      ltb-true e.disk (2 ^ 64) (and_r (ltb e.stated (2 ^ 64)) (ltb e.disk (2 ^ 64)) b),
    )

pub none-fit : all_fit [] ≡ true
unfolding all_fit
none-fit = refl

module _ (x : Entry) (l : List Entry) where
  pub fit-head : all_fit (x ∷ l) ≡ true → fits x ≡ true
  unfolding all_fit
  fit-head h = and_l (fits x) (all_fit l) h

  pub fit-tail : all_fit (x ∷ l) ≡ true → all_fit l ≡ true
  unfolding all_fit
  fit-tail h = and_r (fits x) (all_fit l) h

  pub fit_cons : fits x ≡ true → all_fit l ≡ true → all_fit (x ∷ l) ≡ true
  unfolding all_fit
  fit_cons p q = both (fits x) (all_fit l) p q

-- one entry of a list that fits, set: its own test
pub fit-set : (l : List Entry) (i : ℕ) (x : Entry) → i < length l → all_fit l ≡ true → all_fit (set l i x) ≡ fits x
unfolding all_fit
fit-set [] i x h f = absurd (omega arith)
fit-set (y ∷ l) zero x h f = ap (λ (b : Bool). fits x && b) (fit-tail y l f) ∙ and_true (fits x)
fit-set (y ∷ l) (suc i) x h f = ap₂ (λ (a b : Bool). a && b) (fit-head y l f) (fit-set l i x (omega arith) (fit-tail y l f))

-- one entry that fits, put in
pub fit_put : (l : List Entry) (i : ℕ) (x : Entry) → fits x ≡ true → all_fit l ≡ true → all_fit (put l i x) ≡ true
fit_put l zero x h f = fit_cons x l h f
fit_put [] (suc i) x h f = fit_cons x [] h f
fit_put (y ∷ l) (suc i) x h f = fit_cons y (put l i x) (fit-head y l f) (fit_put l i x h (fit-tail y l f))

-- ---- one total that passes its width
module _ (x e : Entry) where
  pub no_frames : (x.frames + e.frames < 2 ^ 32 → ⊥) → fits (plus x e) ≡ false
  no_frames h = by_test (fits (plus x e)) (λ t. absurd (h (fits_each (plus x e) t).0)) (λ t. t)

  pub no_stated : (x.stated + e.stated < 2 ^ 64 → ⊥) → fits (plus x e) ≡ false
  no_stated h = by_test (fits (plus x e)) (λ t. absurd (h (fits_each (plus x e) t).1)) (λ t. t)

  pub no_disk : (x.disk + e.disk < 2 ^ 64 → ⊥) → fits (plus x e) ≡ false
  no_disk h = by_test (fits (plus x e)) (λ t. absurd (h (fits_each (plus x e) t).2)) (λ t. t)

-- ---- what is judged
module _ (l : List Entry) where
  pub judged_big : all_fit l ≡ false → judged l ≡ (Err SumTooBig)
  unfolding judged pick
  judged_big f = rw f

  pub judged_full : all_fit l ≡ true → 64 < length l → judged l ≡ (Err MapFull)
  unfolding judged pick
  judged_full f h = rw (f, lt-leb (length l) 64 h)

  pub judged-made : all_fit l ≡ true → length l ≤ 64 → judged l ≡ Ok l
  unfolding judged pick
  judged-made f h = rw (f, le-leb (length l) 64 h)

-- what was made is the list that was judged, and fits
pub made-is : (l r : List Entry) → judged l ≡ Ok r → (r ≡ l) × (all_fit l ≡ true) × (length l ≤ 64)
unfolding judged pick
made-is l r h = go (all_fit l) refl (leb (length l) 64) refl h
  where
    go : (f : Bool) → all_fit l ≡ f → (k : Bool) → leb (length l) 64 ≡ k → pick f (pick k (Ok l) (Err MapFull)) (Err SumTooBig) ≡ Ok r → (r ≡ l) × (all_fit l ≡ true) × (length l ≤ 64)
    go true p true q e = (cc, p, leb-true (length l) 64 q)
    go true p false q e = absurd (let z : ◌≡◌ {A = ℕ} 0 1 = cc in omega arith)
    go false p k q e = absurd (let z : ◌≡◌ {A = ℕ} 0 1 = cc in omega arith)

-- ---- the sum of two entries, or none
some_same : (x y : Entry) → ◌≡◌ {A = Option Entry} (Some x) (Some y) → x ≡ y
some_same x y h = cc

module _ (x e : Entry) (r : Option Entry) (h : r ≡ pick (fits (plus x e)) (Some (plus x e)) None) where
  pub summed : (sum : Entry) → r ≡ Some sum → (fits (plus x e) ≡ true) × (sum ≡ plus x e)
  unfolding pick
  summed sum q = by_test (fits (plus x e))
      (λ t. (t, some_same sum (plus x e) (sym q ∙ h ∙ rw t)))
      (λ t. absurd (let z : ◌≡◌ {A = Option Entry} (Some sum) None = sym q ∙ h ∙ rw t in let y : ◌≡◌ {A = ℕ} 0 1 = cc in omega arith))

  pub unsummed : r ≡ None → fits (plus x e) ≡ false
  unfolding pick
  unsummed q = by_test (fits (plus x e))
      (λ t. absurd (let z : ◌≡◌ {A = Option Entry} (Some (plus x e)) None = sym (h ∙ rw t) ∙ q in let y : ◌≡◌ {A = ℕ} 0 1 = cc in omega arith))
      (λ t. t)

-- Tests joined by and, and the three ways in which two numbers stand to each other.
use Prim.Native.Nat.{ℕ, ◌<◌}
use mathlib.Core.Path.{◌≡◌, refl}
use mathlib.Core.Bool.{Bool, true, false, ◌&&◌}
use native.Mathlib.Omega.{arith}
use lib.Dec.{ltb, eqb}
use borrow.Author.Tests.{ltb-true, ltb-false, eqb-true, eqb-false}

pub and_l : (a b : Bool) → (a && b) ≡ true → a ≡ true
and_l true b e = refl
and_l false b e = e

pub and_r : (a b : Bool) → (a && b) ≡ true → b ≡ true
and_r true b e = e
and_r false b e = absurd (let z : ◌≡◌ {A = ℕ} 0 1 = cc in omega arith)

pub both : (a b : Bool) → a ≡ true → b ≡ true → (a && b) ≡ true
both a b p q = rw (p, q)

pub and_true : (b : Bool) → (b && true) ≡ b
and_true true = refl
and_true false = refl

pub tri : {A : Type 0} (a b : ℕ) → (a < b → A) → (a ≡ b → A) → (b < a → A) → A
tri {A} a b f g h = go (ltb a b) refl (ltb b a) refl
  where
    go : (p : Bool) → ltb a b ≡ p → (q : Bool) → ltb b a ≡ q → A
    go true p q r = f (ltb-true a b p)
    go false p true r = h (ltb-true b a r)
    go false p false r = g (let x = ltb-false a b p in let y = ltb-false b a r in omega arith)

-- equal or not
pub same_or : {A : Type 0} (a b : ℕ) → (a ≡ b → A) → ((a ≡ b → ⊥) → A) → A
same_or {A} a b f g = go (eqb a b) refl
  where
    go : (t : Bool) → eqb a b ≡ t → A
    go true e = f (eqb-true a b e)
    go false e = g (eqb-false a b e)

-- a test that is true or not
pub by_test : {A : Type 0} (b : Bool) → (b ≡ true → A) → (b ≡ false → A) → A
by_test true f g = f refl
by_test false f g = g refl

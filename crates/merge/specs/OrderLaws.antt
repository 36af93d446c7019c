-- Laws of the order of keys: std's order of byte strings is this one, and it may be asked in two parts.
use Prim.Native.Nat.{ℕ, zero, suc, ◌<◌, ◌≤◌}
use Rattle.std.specs.Prelude.{◌≡◌, Bool, true, false, ltb, take, drop}
use Rattle.std.specs.Ordering.{nat_cmp, ordering_then}
use Rattle.std.specs.Cmp.Lexicographic.{slice_cmp}
use Rattle.std.specs.declared.cmp.Ordering.{Ordering}
use Rattle.std.specs.declared.cmp.Ordering.TheVariants.{Less, Greater}
use Rattle.std.proofs.Math.Path.{refl}
use mathlib.Core.List.{List, [], ◌∷◌}
use native.Mathlib.Omega.{arith}
use borrow.Author.Tests.{ltb-true, ltb-false, eq-eqb, ne_eqb}
use Rattle.numbers.specs.Pick.{pick}
use Rattle.merge.specs.Order.{order_of}

order-step : (x y : ℕ) (r : Ordering) (t u : Bool) → ltb x y ≡ t → ltb y x ≡ u → ordering_then (nat_cmp x y) r ≡ pick t Less (pick u Greater r)
unfolding pick
order-step x y r true u p q = rw p
order-step x y r false true p q =
    let l : y < x = ltb-true _ _ q in
    rw (p, ne_eqb x y (λ e. omega arith))
order-step x y r false false p q =
    let f : y ≤ x = ltb-false _ _ p in
    let g : x ≤ y = ltb-false _ _ q in
    let e : x ≡ y = omega arith in
    rw (p, eq-eqb x y e)

pub order_is : (a b : List ℕ) → slice_cmp nat_cmp a b ≡ order_of a b
unfolding order_of
order_is [] [] = refl
order_is [] (y ∷ b) = refl
order_is (x ∷ a) [] = refl
order_is (x ∷ a) (y ∷ b) = rw (order_is a b) (order-step x y (order_of a b) _ _ refl refl)

-- two strings are in the order of their first n bytes, or, where those are the same, of what follows
pub order_split : (n : ℕ) (a b : List ℕ) → ordering_then (order_of (take n a) (take n b)) (order_of (drop n a) (drop n b)) ≡ order_of a b
unfolding order_of pick
order_split zero a b = refl
order_split (suc n) [] [] = refl
order_split (suc n) [] (y ∷ b) = refl
order_split (suc n) (x ∷ a) [] = refl
order_split (suc n) (x ∷ a) (y ∷ b) = step (ltb x y) (ltb y x) _ _ _ (order_split n a b)
  where
    step : (t u : Bool) (r s o : Ordering) → ordering_then r s ≡ o → ordering_then (pick t Less (pick u Greater r)) s ≡ pick t Less (pick u Greater o)
    step true u r s o e = refl
    step false true r s o e = refl
    step false false r s o e = e

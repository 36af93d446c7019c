-- The list of an array that a closure makes from the index, for callers to cite.
use Prim.Native.Nat.{ℕ, zero, suc, ◌+◌, ◌<◌}
use mathlib.Core.Path.{◌≡◌, subst, ◌∙◌}
use mathlib.Core.List.{List, map}
use native.Mathlib.Omega.{arith}
use lib.ListN.{get_or}
use denote.Param.Members.{Mut, Called}
use Rattle.std.specs.Array.{IsFromFnResultFrom, IsFromFnResult}
use Rattle.std.specs.List.{range_with_len}
use Rattle.std.proofs.lemmas.List.FromFn.{fill_by_all}

-- a closure that its calls leave as it was, and that answers h at each index
module _ {F B : Type 0} (g : Mut F (ℕ × Unit {0}) B) (f : F) (ys : List B) (h : ℕ → B)
    (answers : (i : ℕ) (y : B) (q : F) → Called g f (i, tt) y q → (q ≡ f) × (y ≡ h i)) where
  made-at : (n i k j : ℕ) (d : B) → IsFromFnResultFrom g f ys i n → k < n → i + k ≡ j → get_or ys j d ≡ h j
  made-at zero i k j d e l m = absurd (omega arith)
  made-at (suc n) i zero j d (q, y, here, call, rest) l m =
      let z : i ≡ j = omega arith in
      subst (λ (x : ℕ). get_or ys x d ≡ h x) z (here.1 d ∙ (answers i y q call).1)
  made-at (suc n) i (suc k) j d (q, y, here, call, rest) l m =
      let e = subst (λ (p : F). IsFromFnResultFrom g p ys (i + 1) n) (answers i y q call).0 rest in
      made-at n (i + 1) k j d e (omega arith) (omega arith)

  pub made : (n : ℕ) (d : B) → IsFromFnResult g f ys n → ys ≡ map h (range_with_len 0 n)
  made n d r = fill_by_all h ys n d r.long (λ (k : ℕ) (l : k < n). made-at n 0 k k d r.each l (omega arith))

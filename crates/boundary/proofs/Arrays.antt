-- The list of an array that a closure makes from another's elements.
use Prim.Native.Nat.{ℕ, zero, suc, ◌+◌, ◌<◌}
use mathlib.Core.Path.{◌≡◌, sym, subst, ◌∙◌}
use mathlib.Core.List.{List, map}
use native.Mathlib.Omega.{arith}
use lib.ListN.{length, get_or}
use denote.Param.Members.{Mut, Called}
use Rattle.std.specs.Array.{IsFromFnResultFrom, IsFromFnResult, IsMapOf}
use Rattle.std.specs.List.{range_with_len}
use Rattle.std.proofs.lemmas.List.{ext_get_or, get_or-map, length-map}
use Rattle.std.proofs.lemmas.List.FromFn.{fill_by_all}

-- a closure that answers v of each element, whatever it keeps
module _ {F A B : Type 0} (g : Mut F (A × Unit {0}) B) (f : F) (xs : List A) (ys : List B) (v : A → B) where
  pub mapped : (n : ℕ) (d : A) → IsMapOf g f xs ys n → n ≡ length xs → ((p : F) (x : A) (y : B) (q : F) → Called g p (x, tt) y q → y ≡ v x) → ys ≡ map v xs
  mapped n d r e answers =
      let each = λ (i : ℕ) (l : i < length ys).
      let c = r.at i d (v d) (omega (arith, r.long)) in
      answers c.0 _ _ c.1 c.2 ∙ sym (get_or-map v xs i d (v d) (omega (arith, r.long, e))) in
      ext_get_or (v d) ys (map v xs) (r.long ∙ e ∙ sym (length-map xs v)) each

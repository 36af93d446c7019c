-- What a refusal that was mapped was before.
use Rattle.std.specs.Prelude.{ℕ, ◌≡◌, Result, Ok, Err, MatchResult}
use Rattle.std.specs.Result.{IsErrAnd}
use Rattle.std.proofs.Common.{sym, ◌∙◌, ap, subst, refl}
use native.Mathlib.Omega.{arith}

module _ {T E D : Type 0} (Q : E → D → Type 0) where
  abbrev Mapped : Result T E → Result T D → Type 0
  Mapped before after = MatchResult before (λ x. after ≡ Ok x) (λ e. IsErrAnd after (Q e))

  pub was_err : (before : Result T E) (after : Result T D) → Mapped before after → (d : D) → after ≡ Err d → (e : E) × (before ≡ Err e) × Q e d
  was_err (Ok x) after m d h = absurd (let q : ◌≡◌ {A = Result T D} (Ok x) (Err d) = sym m ∙ h in let z : ◌≡◌ {A = ℕ} 0 1 = cc in omega arith)
  was_err (Err e) (Ok y) m d h = absurd m
  was_err (Err e) (Err y) m d h = let q : y ≡ d = cc in (e, refl, subst (Q e) q m)

  pub was_ok : (before : Result T E) (after : Result T D) → Mapped before after → (x : T) → after ≡ Ok x → before ≡ Ok x
  was_ok (Ok y) after m x h = let q : ◌≡◌ {A = Result T D} (Ok x) (Ok y) = sym h ∙ m in let e : y ≡ x = cc in ap (λ (v : T). Ok v) e
  was_ok (Err e) (Ok y) m x h = absurd m
  was_ok (Err e) (Err y) m x h = absurd (let z : ◌≡◌ {A = ℕ} 0 1 = cc in omega arith)

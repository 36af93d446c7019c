-- The scan as one: its bound is never met, since an entry moves at least 4 bytes on inside the file, so it is a step and then the scan from there on.
use Prim.Native.Nat.{ℕ, zero, suc, ◌+◌, ◌-◌, ◌/◌, ◌<◌, ◌≤◌}
use mathlib.Core.Path.{◌≡◌, refl, sym, ap, ◌∙◌}
use mathlib.Core.List.{List, [], ◌∷◌}
use native.Mathlib.Omega.{arith}
use lib.ListN.{length}
use Rattle.frames.specs.Scan.{Scanned, step_of}
use Rattle.frames.specs.Scans.{Walk, go_on, walk_in, walk_from, ahead}
use Rattle.frames.specs.StepLaws.{whole}
use Rattle.frames.specs.Theorems.{WalkOn}
use Rattle.frames.specs.declared.steps.Scanner.{Scanner}
use Rattle.frames.specs.declared.steps.ScanEntry.{ScanEntry}
use Rattle.frames.specs.declared.steps.Step.TheVariants as step

module _ (s : List ℕ) where
  -- two ways to go on that agree after an entry
  agree : (x : Scanned) (f g : Scanner → Walk) → ((e : ScanEntry) (next : Scanner) → x ≡ step.Entry e next → f next ≡ g next) → go_on x f ≡ go_on x g
  unfolding go_on
  agree (step.Entry e next) f g h = ap (λ (v : Walk). record { entries = e ∷ v.entries; last = v.last }) (h e next refl)
  agree (step.End at next) f g h = refl
  agree (step.Refused why next) f g h = refl

  -- how far an entry moves on
  moves : (w next : Scanner) (e : ScanEntry) → step_of s w ≡ step.Entry e next → (w.at + 4 ≤ next.at) × (next.at ≤ length s)
  moves w next e q =
      let p = whole s w e next q in
      let n = ap (λ (v : Scanner). v.at) (sym p.next) in
      let r = p.room in
      (omega (arith, n), omega (arith, n, r))

  -- any two bounds that are enough
  enough : (m n : ℕ) (w : Scanner) → (length s - w.at) / 4 < m → (length s - w.at) / 4 < n → walk_in m s w ≡ walk_in n s w
  unfolding walk_in
  enough zero n w h k = absurd (omega arith)
  enough (suc m) zero w h k = absurd (omega arith)
  enough (suc m) (suc n) w h k =
      agree (step_of s w) (walk_in m s) (walk_in n s)
      (λ e next q. let p = moves w next e q in let a = p.0 in let b = p.1 in enough m n next (omega arith) (omega arith))

pub walk_on_lem : WalkOn
unfolding walk_in
walk_on_lem s w =
    enough s ((length s - w.at) / 4 + 1) (suc ((length s - w.at) / 4)) w (omega arith) (omega arith)
    ∙ agree s (step_of s w) (walk_in ((length s - w.at) / 4) s) (walk_from s)
    (λ e next q. let p = moves s w next e q in let a = p.0 in let b = p.1 in enough s ((length s - w.at) / 4) ((length s - next.at) / 4 + 1) next (omega arith) (omega arith))

-- a step that gives an entry, and one that ends the scan
pub walk_entry : (s : List ℕ) (w next : Scanner) (e : ScanEntry) → step_of s w ≡ step.Entry e next → walk_from s w ≡ ahead (e ∷ []) (walk_from s next)
unfolding go_on
walk_entry s w next e q = walk_on_lem s w ∙ ap (λ (x : Scanned). go_on x (walk_from s)) q

pub walk_end : (s : List ℕ) (w next : Scanner) (at : ℕ) → step_of s w ≡ step.End at next → walk_from s w ≡ record { entries = []; last = step.End at next }
unfolding go_on
walk_end s w next at q = walk_on_lem s w ∙ ap (λ (x : Scanned). go_on x (walk_from s)) q

pub walk_refused : (s : List ℕ) (w next : Scanner) (why : _) → step_of s w ≡ step.Refused why next → walk_from s w ≡ record { entries = []; last = step.Refused why next }
unfolding go_on
walk_refused s w next why q = walk_on_lem s w ∙ ap (λ (x : Scanned). go_on x (walk_from s)) q

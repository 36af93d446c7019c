-- Laws of the writer that runs stand on: what an append that is taken knows, and a finished writer.
use Rattle.std.specs.Prelude.{ℕ, ◌+◌, ◌<◌, ◌≤◌, ◌≡◌, Bool, true, false, eqb, Result, Ok, Err}
use Rattle.std.proofs.Math.Path.{refl, sym}
use Rattle.std.proofs.Common.{◌∙◌, true≢false}
use native.Mathlib.Omega.{arith}
use Rattle.std.proofs.Math.Decide.{ℕ_discrete}
use borrow.Author.Tests.{eq-eqb, ltb-false}
use Rattle.numbers.specs.Pick.{pick}
use Rattle.frames.specs.Shape.{size_of}
use Rattle.frames.specs.Write.{most, over_of, judged, grown}
use Rattle.frames.specs.declared.shape.Shape.{Shape}
use Rattle.frames.specs.declared.state.Writer.{Writer}
use Rattle.frames.specs.declared.refused.AppendRefusal.{AppendRefusal}
use Rattle.frames.specs.declared.refused.AppendRefusal.TheVariants.{Finished}

pub judge_finished : (w : Writer) (n : ℕ) (f : Shape) → w.finished ≡ true → judged w n f ≡ Err Finished
unfolding judged pick
judge_finished w n f h = simp h

-- What an append that is taken knows: the tests, the other way round.

pick-go : (b : Bool) (r : AppendRefusal) (x : Result Writer AppendRefusal) (after : Writer) → pick b (Err r) x ≡ Ok after → (b ≡ false) × (x ≡ Ok after)
unfolding pick
pick-go true r x after h = absurd (let z : ◌≡◌ {A = ℕ} 0 1 = cc in omega arith)
pick-go false r x after h = (refl, h)

pick_off : (b x : Bool) → pick b true x ≡ false → (b ≡ false) × (x ≡ false)
unfolding pick
pick_off true x h = absurd (let z : ◌≡◌ {A = ℕ} 0 1 = cc in omega arith)
pick_off false x h = (refl, h)

pub some_number : (k : ℕ) → eqb k 0 ≡ false → 0 < k
some_number k e = by (ℕ_discrete k 0)
  where
    by : Dec (k ≡ 0) → 0 < k
    by (yes z) = absurd (true≢false (sym (eq-eqb k 0 z) ∙ e))
    by (no z) = omega arith

grown_is : (a b : Writer) → ◌≡◌ {A = Result Writer AppendRefusal} (Ok a) (Ok b) → a ≡ b
grown_is a b h = cc

pub record Taken (w : Writer) (n : ℕ) (f : Shape) : Type 0 where
  pub some : 0 < f.key
  pub short : f.key ≤ 65535
  pub small : f.value ≤ 4294967295
  pub room : w.offset + size_of f + 4 ≤ n
  pub items : w.items + 1 ≤ most
  pub disk : w.disk + f.value ≤ most
  pub total : w.stated + f.stated ≤ most

pub taken : (w : Writer) (n : ℕ) (f : Shape) (after : Writer) → judged w n f ≡ Ok after → Taken w n f × (grown w f ≡ after)
unfolding judged over_of pick
taken w n f after e =
    let p₁ = pick-go _ _ _ after e in
    let p₂ = pick-go _ _ _ after p₁.1 in
    let p₃ = pick-go _ _ _ after p₂.1 in
    let p₄ = pick-go _ _ _ after p₃.1 in
    let p₅ = pick-go _ _ _ after p₄.1 in
    let p₆ = pick-go _ _ _ after p₅.1 in
    let q₁ = pick_off _ _ p₆.0 in
    let q₂ = pick_off _ _ q₁.1 in (
      record {
        some = some_number f.key p₂.0;
        short = ltb-false _ _ p₃.0;
        small = ltb-false _ _ p₄.0;
        room = ltb-false _ _ p₅.0;
        items = ltb-false _ _ q₁.0;
        disk = ltb-false _ _ q₂.0;
        total = ltb-false _ _ q₂.1;
      },
      grown_is _ after p₆.1,
    )

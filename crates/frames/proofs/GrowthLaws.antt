-- The cases of an append's judgement, one law for each answer, as the code tests for them.
use Rattle.std.specs.Prelude.{ℕ, ◌+◌, ◌-◌, ◌<◌, ◌≤◌, ◌≡◌, Bool, true, false, Option, Some, None, Result, Ok, Err, ok_or, if◌then◌else◌}
use Rattle.std.proofs.Common.{refl, sym, ◌∙◌}
use native.Mathlib.Omega.{arith}
use borrow.Author.Tests.{lt-ltb, le-ltb, eq-eqb, ne_eqb}
use Rattle.frames.specs.Shape.{size_of}
use Rattle.frames.specs.Write.{over_of, judged, first_of, grown}
use Rattle.frames.specs.declared.place.Place.{Place}
use Rattle.frames.specs.declared.shape.Shape.{Shape}
use Rattle.frames.specs.declared.state.Writer.{Writer}
use Rattle.frames.specs.declared.refused.AppendRefusal.{AppendRefusal}
use Rattle.frames.specs.declared.refused.AppendRefusal.TheVariants.{BadKey, ValueTooLong, NoRoom, SumTooBig}

module _ (w : Writer) (n : ℕ) (f : Shape) (on : w.finished ≡ false) where
  pub judge_empty : f.key ≡ 0 → judged w n f ≡ Err BadKey
  unfolding judged
  judge_empty h = simp (on, eq-eqb _ _ h)

  module _ (some : f.key ≡ 0 → ⊥) where
    pub judge_long : 65535 < f.key → judged w n f ≡ Err BadKey
    unfolding judged
    judge_long h = simp (on, ne_eqb _ _ some, lt-ltb _ _ h)

    module _ (short : f.key ≤ 65535) where
      pub judge_value : 4294967295 < f.value → judged w n f ≡ Err ValueTooLong
      unfolding judged
      judge_value h = simp (on, ne_eqb _ _ some, le-ltb _ _ short, lt-ltb _ _ h)

      module _ (small : f.value ≤ 4294967295) (r z : ℕ) (left : r ≡ n - w.offset) (size : z ≡ size_of f) where
        pub judge_room : r < z + 4 → judged w n f ≡ Err NoRoom
        unfolding judged
        judge_room h =
            let l : n < w.offset + size_of f + 4 = omega arith in
            simp (on, ne_eqb _ _ some, le-ltb _ _ short, le-ltb _ _ small, lt-ltb _ _ l)

        module _ (fits : z + 4 ≤ r) where
          enough : w.offset + size_of f + 4 ≤ n
          enough = omega arith

          pub judge_over : over_of w f ≡ true → judged w n f ≡ Err SumTooBig
          unfolding judged
          judge_over o = simp (on, ne_eqb _ _ some, le-ltb _ _ short, le-ltb _ _ small, le-ltb _ _ enough, o)

          pub judge_go : over_of w f ≡ false → judged w n f ≡ Ok (grown w f)
          unfolding judged
          judge_go o = simp (on, ne_eqb _ _ some, le-ltb _ _ short, le-ltb _ _ small, le-ltb _ _ enough, o)

-- the totals, counted: none where one would pass its width
module _ (b : Bool) (x : Writer) (o : Option Writer) (r : Result Writer AppendRefusal) (counts : o ≡ (if b then None else Some x)) (or : r ≡ ok_or o SumTooBig) where
  is : r ≡ ok_or (if b then None else Some x) SumTooBig
  is = rw (← counts) or

  pub counted_over : (why : AppendRefusal) → r ≡ Err why → (why ≡ SumTooBig) × (b ≡ true)
  counted_over why e = by b (sym is ∙ e)
    where
      by : (c : Bool) → ok_or (if c then None else Some x) SumTooBig ≡ Err why → (why ≡ SumTooBig) × (c ≡ true)
      by true q = (cc, refl)
      by false q = absurd (let z : ◌≡◌ {A = ℕ} 0 1 = cc in omega arith)

  pub counted_fits : (y : Writer) → r ≡ Ok y → (b ≡ false) × (x ≡ y)
  counted_fits y e = by b (sym is ∙ e)
    where
      by : (c : Bool) → ok_or (if c then None else Some x) SumTooBig ≡ Ok y → (c ≡ false) × (x ≡ y)
      by true q = absurd (let z : ◌≡◌ {A = ℕ} 0 1 = cc in omega arith)
      by false q = (refl, cc)

-- where the first key lies, of a file's first frame and of a later one
pub first_here : (items : ℕ) (here first : Place) → items ≡ 0 → here ≡ first_of items here first
unfolding first_of
first_here items here first h = simp (eq-eqb _ _ h)

pub first_kept : (items : ℕ) (here first : Place) → (items ≡ 0 → ⊥) → first ≡ first_of items here first
unfolding first_of
first_kept items here first h = simp (ne_eqb _ _ h)

-- One id more is counted where it is lower.
use Rattle.std.proofs.Common.{◌≡◌, ◌<◌, ◌≤◌, ◌+◌, ℕ, zero, suc, List, [], ◌∷◌, drop, length, get_or, refl, ap, ◌∙◌, arith}
use lib.ListN.{drop_of_length-le}
use borrow.Author.Tests.{lt-ltb, le-ltb}
use Rattle.numbers.specs.Pick.{pick}
use Rattle.garbage.specs.Columns.{lower_in}
use Rattle.garbage.proofs.ids.lower.Goals as goal
use Rattle.garbage.proofs.ids.lower.Goals.{then-x-id, else-x-id}

counted : (id : ℕ) (xs : List ℕ) (j : ℕ) → j < length xs → get_or xs j 0 < id → lower_in id (drop j xs) ≡ suc (lower_in id (drop (suc j) xs))
unfolding lower_in pick
counted id [] j h l = absurd (omega arith)
counted id (x ∷ xs) zero h l = rw (lt-ltb x id l) refl
counted id (x ∷ xs) (suc j) h l = counted id xs j (omega arith) l

passed : (id : ℕ) (xs : List ℕ) (j : ℕ) → j < length xs → id ≤ get_or xs j 0 → lower_in id (drop j xs) ≡ lower_in id (drop (suc j) xs)
unfolding lower_in pick
passed id [] j h l = absurd (omega arith)
passed id (x ∷ xs) zero h l = rw (le-ltb x id l) refl
passed id (x ∷ xs) (suc j) h l = passed id xs j (omega arith) l

none_left : (id : ℕ) (xs : List ℕ) (j : ℕ) → length xs ≤ j → lower_in id (drop j xs) ≡ 0
unfolding lower_in
none_left id xs j h = rw (drop_of_length-le xs {i = j} h) refl

pub loop-x-preserved : goal.loop-x-preserved
loop-x-preserved c =
    let j = c.loop-x.x-index in
    let xs = c.args.ids.now in
    let s : suc j ≡ j + 1 = omega arith in
    elim c.if-x-id.branch [
      | then-x-id w ↦ let e = counted c.args.id xs j c.loop-x-test.true w.if-x-id.true ∙ ap (λ (k : ℕ). suc (lower_in c.args.id (drop k xs))) s in (omega (arith, e, c.loop-x.invariant.0, w.n-is), omega (arith, c.loop-x.invariant.1, w.n-is))
      | else-x-id w ↦ let e = passed c.args.id xs j c.loop-x-test.true (omega (arith, w.if-x-id.false)) ∙ ap (λ (k : ℕ). lower_in c.args.id (drop k xs)) s in (omega (arith, e, c.loop-x.invariant.0, w.n-is), omega (arith, c.loop-x.invariant.1, w.n-is))
    ]

pub returns : goal.returns
returns c = let e = none_left c.args.id c.args.ids.now c.loop-x.x-index (omega (arith, c.loop-x-test.false)) in omega (arith, e, c.loop-x.invariant.0)

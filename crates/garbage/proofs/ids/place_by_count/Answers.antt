-- Where the lower ids end, the id stands, or a higher one, or nothing.
use Rattle.std.proofs.Common.{◌≡◌, ◌<◌, ℕ, List, true, length, get_or, sym, subst, arith}
use Rattle.garbage.specs.Columns.{lower_in, rising_from, GoesTo}
use Rattle.garbage.proofs.Placing.{stands, goes, Lowest, lowest}
use Rattle.garbage.proofs.ids.place_by_count.Goals as goal
use Rattle.garbage.proofs.ids.place_by_count.Goals.{else-i-ids-via-then-i-ids+else-ids-i, else-i-ids-via-else-i-ids}

absent : (id : ℕ) (xs : List ℕ) (i : ℕ) → rising_from 0 xs ≡ true → i ≡ lower_in id xs → (i < length xs → get_or xs i 0 ≡ id → ⊥) → GoesTo id xs i
absent id xs i t e n =
    let l : Lowest id xs i = subst (Lowest id xs) (sym e) (lowest id 0 xs t) in
    goes id xs i t l.within l.lower (λ q. omega (arith, n q, l.others i (omega arith) q))

pub returns-then-ids-i : goal.returns-then-ids-i
returns-then-ids-i c = stands c.args.id c.args.ids.now c.lower-i.result c.requires c.if-i-ids.true c.if-ids-i.true

pub returns : goal.returns
returns c =
    absent c.args.id c.args.ids.now c.lower-i.result c.requires c.lower-i.ensures
    (elim c.else-i-ids.branch [
      | else-i-ids-via-then-i-ids+else-ids-i w ↦ λ q e. w.if-ids-i.false e
      | else-i-ids-via-else-i-ids w ↦ λ q e. omega (arith, w.if-i-ids.false)
    ])

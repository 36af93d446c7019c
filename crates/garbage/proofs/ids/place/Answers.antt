-- The lower ids come first; what stands behind them is the id or a higher one.
use Rattle.std.proofs.Common.{rules, ◌≡◌, ◌<◌, ◌≤◌, ℕ, List, true, false, length, get_or, ltb, arith}
use Rattle.std.specs.List.Sorted.{IsPartitionPoint}
use Rattle.std.proofs.lemmas.List.Sorted.{IsPartitionPoint-from_clause}
use borrow.Author.Tests.{ltb-true, ltb-false}
use Rattle.garbage.specs.Columns.{rising_from, GoesTo}
use Rattle.garbage.proofs.Placing.{stands, goes, parted}
use Rattle.garbage.proofs.ids.place.Goals as goal
use Rattle.garbage.proofs.ids.place.Goals.{else-i-ids-via-then-i-ids+else-ids-i, else-i-ids-via-else-i-ids}

absent : (id : ℕ) (xs : List ℕ) (i : ℕ) → rising_from 0 xs ≡ true → i ≤ length xs → IsPartitionPoint (λ y. ltb y id ≡ true) (λ y. ltb y id ≡ false) xs i
    → (i < length xs → get_or xs i 0 ≡ id → ⊥) → GoesTo id xs i
absent id xs i t b p n = goes id xs i t b (λ k q. ltb-true (get_or xs k 0) id (p.0 k 0 (omega arith) q)) (λ q. omega (arith, n q, ltb-false (get_or xs i 0) id (p.1 i 0 (omega arith) q)))

pub returns-then-ids-i : goal.returns-then-ids-i
returns-then-ids-i c = stands c.args.id c.args.ids.now c.partition_point-i.result c.requires c.if-i-ids.true c.if-ids-i.true

pub returns : goal.returns
returns c =
    let p = IsPartitionPoint-from_clause (λ (y : ℕ). ltb y c.args.id) c.args.ids.now c.partition_point-i.result c.partition_point-i.ensures.partitioned (parted c.args.id c.args.ids.now c.requires)
    (λ a r f k. (search rules, search rules)) in
    absent c.args.id c.args.ids.now c.partition_point-i.result c.requires c.partition_point-i.ensures.bound p
    (elim c.else-i-ids.branch [
      | else-i-ids-via-then-i-ids+else-ids-i w ↦ λ q e. w.if-ids-i.false e
      | else-i-ids-via-else-i-ids w ↦ λ q e. omega (arith, w.if-i-ids.false)
    ])

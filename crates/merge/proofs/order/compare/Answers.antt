-- std's order is this one, and so is what it says of two parts in turn.
use Rattle.std.proofs.Common.{◌≡◌, ℕ, List, true, false, take, drop, refl, sym, ◌∙◌}
use borrow.Author.Tests.{clash}
use Rattle.std.specs.Ordering.{ordering_then, is_ne, nat_cmp}
use Rattle.std.specs.Cmp.Lexicographic.{slice_cmp}
use Rattle.std.specs.declared.cmp.Ordering.{Ordering}
use Rattle.std.specs.declared.cmp.Ordering.TheVariants.{Less, Equal, Greater}
use Rattle.merge.specs.Order.{order_of}
use Rattle.merge.specs.OrderLaws.{order_is, order_split}
use Rattle.merge.proofs.order.compare.Goals as goal

decided : (o s r : Ordering) → ordering_then o s ≡ r → is_ne o ≡ true → o ≡ r
decided Less s r e n = e
decided Equal s r e n = absurd (clash n)
decided Greater s r e n = e

left_over : (o s r : Ordering) → ordering_then o s ≡ r → is_ne o ≡ false → s ≡ r
left_over Less s r e n = absurd (clash (sym n))
left_over Equal s r e n = e
left_over Greater s r e n = absurd (clash (sym n))

asked : (o : Ordering) (p q x y : List ℕ) → o ≡ slice_cmp nat_cmp p q → p ≡ x → q ≡ y → o ≡ order_of x y
asked o p q x y e f g = e ∙ order_is p q ∙ rw (f, g) refl

pub returns-then-is_ne : goal.returns-then-is_ne
returns-then-is_ne c =
    let a = c.args.a.now in
    let b = c.args.b.now in
    let o : c.cmp-first.result ≡ order_of (take 8 a) (take 8 b) = asked c.cmp-first.result _ _ (take 8 a) (take 8 b) c.cmp-first.ensures c.part.ensures.0 c.part-2.ensures.0 in
    decided c.cmp-first.result (order_of (drop 8 a) (drop 8 b)) (order_of a b) (rw o (order_split 8 a b)) (sym c.is_ne.ensures ∙ c.if-is_ne.true)

pub returns : goal.returns
returns c =
    let a = c.args.a.now in
    let b = c.args.b.now in
    let o : c.cmp-first.result ≡ order_of (take 8 a) (take 8 b) = asked c.cmp-first.result _ _ (take 8 a) (take 8 b) c.cmp-first.ensures c.part.ensures.0 c.part-2.ensures.0 in
    let s : c.cmp.result ≡ order_of (drop 8 a) (drop 8 b) = asked c.cmp.result _ _ (drop 8 a) (drop 8 b) c.cmp.ensures c.tail.ensures.0 c.tail-2.ensures.0 in
    s ∙ left_over c.cmp-first.result (order_of (drop 8 a) (drop 8 b)) (order_of a b) (rw o (order_split 8 a b)) (sym c.is_ne.ensures ∙ c.if-is_ne.false)

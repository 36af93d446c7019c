-- Neighbours in order make all of the ids ascend.
use Rattle.std.proofs.Common.{rules, ◌≡◌, ℕ, List, Bool, true, false, ltb, ◌&&◌, take, sym, ◌∙◌, ap, add-one}
use Rattle.std.specs.List.{IsAllAdjacentAnswer}
use Rattle.std.proofs.lemmas.List.Sorted.{answers_always}
use borrow.Author.Tests.{ltb-true, ltb-false, le-leb}
use Rattle.garbage.specs.Columns.{rising_from}
use Rattle.garbage.proofs.Placing.{all_rise, one_falls}
use Rattle.garbage.proofs.ids.in_order.Goals as goal

answered : (xs : List ℕ) (r : Bool) → IsAllAdjacentAnswer (λ x y b. b ≡ ltb x y) xs r → r ≡ rising_from 0 xs
answered xs true h = sym (all_rise xs (λ k q. ltb-true _ _ (rw (← add-one k) (sym (h k 0 (rw add-one q))))))
answered xs false h = sym (one_falls xs h.0 (rw (← add-one h.0) h.1) (rw (← add-one h.0) (ltb-false _ _ (sym (h.2 0)))))

pub returns : goal.returns
returns c =
    answered _ _ (c.is_sorted_by.ensures.cases ltb (answers_always _ _ _ (λ f a r g k. search rules)))
    ∙ sym (ap (λ (b : Bool). b && rising_from 0 (take c.args.count c.args.ids.now)) (le-leb c.args.count 64 c.if-count-gt64.false))

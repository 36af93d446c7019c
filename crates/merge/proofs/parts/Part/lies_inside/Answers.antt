-- Each answer is a case of the definition.
use Rattle.std.proofs.Common.{◌∙◌, sym}
use Rattle.std.proofs.lemmas.Bool.{false≢true}
use borrow.Author.Tests.{lt-leb, leb-true, leb-false}
use Rattle.merge.specs.PartsLaws.{in_start, in_length, in_at}
use Rattle.merge.proofs.parts.Part.lies_inside.Goals.{then-self-size, else-self-size}
use Rattle.merge.proofs.parts.Part.lies_inside.Goals as goal

pub returns-then-self-size-2 : goal.returns-then-self-size-2
returns-then-self-size-2 c = let t = c.if-self-size-2.true in
    elim c.if-self-size.branch [
      | then-self-size w ↦ sym (in_at c.args.size c.args.self w.if-self-size.true (leb-true _ _ (sym w.value-is ∙ t)))
      | else-self-size w ↦ absurd (false≢true (sym (lt-leb _ _ w.if-self-size.false) ∙ sym w.value-is ∙ t))
    ]

pub returns-else-self-size-2 : goal.returns-else-self-size-2
returns-else-self-size-2 c = let f = c.if-self-size-2.false in
    elim c.if-self-size.branch [
      | then-self-size w ↦ f ∙ sym (in_length c.args.size c.args.self w.if-self-size.true (leb-false _ _ (sym w.value-is ∙ f)))
      | else-self-size w ↦ f ∙ sym (in_start c.args.size c.args.self w.if-self-size.false)
    ]

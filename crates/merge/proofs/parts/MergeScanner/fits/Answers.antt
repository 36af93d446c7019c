-- Each answer is a case of the definition.
use Rattle.std.proofs.Common.{sym, ◌∙◌, rules, tests, take}
use borrow.Author.Tests.{lt-leb}
use Rattle.std.proofs.lemmas.Iterator.{YieldsList-from_slice}
use Rattle.std.proofs.lemmas.Iterator.Search.{all_from_yields_List}
use Rattle.merge.specs.Parts.{inside}
use Rattle.merge.specs.PartsLaws.{ok-many, ok-few}
use Rattle.merge.proofs.parts.MergeScanner.fits.Goals as goal

pub returns-then-self-le16 : goal.returns-then-self-le16
returns-then-self-le16 c = let m = c.args.self in
    all_from_yields_List (inside c.args.size) _ _ _ c.all.ensures.ran (YieldsList-from_slice (take m.count m.parts) cc) (λ x b q k. search (rules, tests)) ∙ sym (ok-few c.args.size m c.if-self-le16.true)

pub returns-else-self-le16 : goal.returns-else-self-le16
returns-else-self-le16 c = let m = c.args.self in
    let h = c.if-self-le16.false in
    lt-leb _ _ h ∙ sym (ok-many c.args.size m h)

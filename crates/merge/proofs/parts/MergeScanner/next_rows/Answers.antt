-- 13 before all else; all else is what was written.
use Rattle.std.proofs.Common.{sym, ap, ◌∙◌, Bor, List, ℕ}
use Rattle.merge.specs.RowsLaws.{rowed, numbered, rowed_bad}
use Rattle.merge.proofs.parts.MergeScanner.next_rows.Goals as goal

pub returns-then-not-fits-clause-answer : goal.returns-then-not-fits-clause-answer
returns-then-not-fits-clause-answer c = (rowed_bad c.args.image.now c.args.self c.args.rows.now (sym c.fits.ensures ∙ c.if-not-fits.true)).0

pub returns-then-not-fits-clause-numbers : goal.returns-then-not-fits-clause-numbers
returns-then-not-fits-clause-numbers c = (rowed_bad c.args.image.now c.args.self c.args.rows.now (sym c.fits.ensures ∙ c.if-not-fits.true)).1

pub returns-clause-answer : goal.returns-clause-answer
returns-clause-answer c = let b = c.begin-pass.ensures in
    rowed c.args.image.now c.args.self c.args.rows.now _ _ (ap (λ (i : Bor (List ℕ)). i.now) b.image) b.state _ _ _ c.write-n.ensures.wrote (sym c.fits.ensures ∙ c.if-not-fits.false) _ c.front-first.ensures _ _ c.then_some.ensures c.told.ensures

pub returns-clause-numbers : goal.returns-clause-numbers
returns-clause-numbers c = let b = c.begin-pass.ensures in
    numbered c.args.image.now c.args.self c.args.rows.now _ _ (ap (λ (i : Bor (List ℕ)). i.now) b.image) b.state _ _ _ c.write-n.ensures.wrote

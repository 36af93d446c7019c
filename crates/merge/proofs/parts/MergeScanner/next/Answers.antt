-- 13 before all else; then what goes first.
use Rattle.std.proofs.Common.{◌≡◌, sym, ◌∙◌, length, arith}
use Rattle.merge.specs.MergeLaws.{at-parts, next_bad, next_takes, next_ends, next_refused}
use Rattle.merge.proofs.parts.MergeScanner.next.Goals as goal

pub returns-then-not-fits : goal.returns-then-not-fits
returns-then-not-fits c = sym (next_bad c.args.self c.args.image.now (sym c.fits.ensures ∙ c.if-not-fits.true))

pub take-requires : goal.take-requires
take-requires c = let l : length c.args.self.parts ≡ 16 = c.well_formed.0.1.1.1.0.1.0.1 in
    let f = rw (c.begin.ensures.image, c.begin.ensures.state) at c.front.ensures in
    omega (arith, at-parts c.args.self c.args.image.now c.in-Ok-Some.first (sym f ∙ c.in-Ok-Some.is ∙ rw c.in-Ok-Some.field-0-is))

pub returns-in-Ok-Some : goal.returns-in-Ok-Some
returns-in-Ok-Some c = let f = rw (c.begin.ensures.image, c.begin.ensures.state) at c.front.ensures in
    rw c.take.ensures (sym (next_takes c.args.self c.args.image.now (sym c.fits.ensures ∙ c.if-not-fits.false) _ (sym f ∙ c.in-Ok-Some.is ∙ rw c.in-Ok-Some.field-0-is)))

pub returns-in-Ok-None : goal.returns-in-Ok-None
returns-in-Ok-None c = let f = rw (c.begin.ensures.image, c.begin.ensures.state) at c.front.ensures in
    sym (next_ends c.args.self c.args.image.now (sym c.fits.ensures ∙ c.if-not-fits.false) (sym f ∙ c.in-Ok-None.is ∙ rw c.in-Ok-None.field-0-is))

pub returns-in-Err : goal.returns-in-Err
returns-in-Err c = let f = rw (c.begin.ensures.image, c.begin.ensures.state) at c.front.ensures in
    sym (next_refused c.args.self c.args.image.now (sym c.fits.ensures ∙ c.if-not-fits.false) _ (sym f ∙ c.in-Err.is))

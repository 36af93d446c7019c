-- What is left, drained, is the whole drained; the bytes left fall.
use Rattle.std.proofs.Common.{sym, ap, ◌∙◌, ◌≡◌, Bor, List, ℕ, Option, Some, None, Ok, rules}
use Rattle.merge.specs.declared.heads.Head.{Head}
use Rattle.merge.specs.Merge.{front_of}
use Rattle.merge.specs.Drain.{drain_of}
use Rattle.merge.specs.DrainLaws.{drain_bad, drain_end, drain_refused, drain_stop, drain_less, drain_on}
use Rattle.merge.proofs.parts.MergeScanner.drain_blobs.Goals.{in_default-via-in-Ok+in_default, in_default-via-in_default}
use Rattle.merge.proofs.parts.MergeScanner.drain_blobs.Goals as goal

pub returns-then-not-fits : goal.returns-then-not-fits
returns-then-not-fits c = sym (drain_bad c.args.image.now c.args.key.now c.args.handle c.args.self (sym c.fits.ensures ∙ c.if-not-fits.true))

pub loop-first-init : goal.loop-first-init
unfolding drain_of
loop-first-init c = let b = c.begin-pass.ensures in
    record { image = ap (λ (i : Bor (List ℕ)). i.now) b.image; whole = rw b.state }

pub returns-in_default : goal.returns-in_default
returns-in_default c = let v = c.loop-first in
    let p = v.pass in
    let f = c.front-front in
    elim c.in_default.branch [
      | in_default-via-in-Ok+in_default w ↦
          let n : w.in_default.field-0 ≡ None = search rules in
          drain_end _ _ _ _ _ v.invariant.whole _ v.invariant.image p.going.ok _ f.ensures _ c.over.ensures _ w.in_default.is n
      | in_default-via-in_default w ↦ drain_refused _ _ _ _ _ v.invariant.whole _ v.invariant.image p.going.ok _ f.ensures _ c.over.ensures _ w.in_default.is
    ]

pub returns-in-Some : goal.returns-in-Some
returns-in-Some c = let v = c.loop-first in
    let q = rw c.in-Ok-Some.is at c.in-Ok-Some.field-0-is in
    let f : front_of v.pass.image.now v.pass.state ≡ Ok (Some c.in-Ok-Some.first) = sym c.front-front.ensures ∙ c.in-Ok-Some.is ∙ ap (λ (o : Option Head). Ok o) q in
    drain_stop _ _ _ _ _ v.invariant.whole _ v.invariant.image v.pass.going.ok _ f _ (sym c.in-Some.is ∙ c.stop.ensures)

pub loop-first-smaller : goal.loop-first-smaller
loop-first-smaller c = let v = c.loop-first in
    let q = rw c.in-Ok-Some.is at c.in-Ok-Some.field-0-is in
    let f : front_of v.pass.image.now v.pass.state ≡ Ok (Some c.in-Ok-Some.first) = sym c.front-front.ensures ∙ c.in-Ok-Some.is ∙ ap (λ (o : Option Head). Ok o) q in
    rw c.take.ensures.state (drain_less _ _ _ _ _ v.invariant.whole _ v.invariant.image v.pass.going.ok _ f)

pub loop-first-preserved : goal.loop-first-preserved
loop-first-preserved c = let v = c.loop-first in
    let q = rw c.in-Ok-Some.is at c.in-Ok-Some.field-0-is in
    let f : front_of v.pass.image.now v.pass.state ≡ Ok (Some c.in-Ok-Some.first) = sym c.front-front.ensures ∙ c.in-Ok-Some.is ∙ ap (λ (o : Option Head). Ok o) q in
    let n : c.stop.result ≡ None = search rules in
    record {
      image = ap (λ (i : Bor (List ℕ)). i.now) c.take.ensures.image ∙ v.invariant.image;
      whole = rw c.take.ensures.state (drain_on _ _ _ _ _ v.invariant.whole _ v.invariant.image v.pass.going.ok _ f (sym n ∙ c.stop.ensures));
    }

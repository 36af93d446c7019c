-- What is left, written on what is there, is the whole.
use Rattle.std.proofs.Common.{◌≡◌, ◌∙◌, ap, sym, List, ℕ, Bor, None, subst, rules, refl, length, ◌/◌, arith}
use Rattle.merge.specs.MergeLaws.{next_takes}
use Rattle.merge.specs.Rows.{Wrote}
use Rattle.merge.specs.RowsLaws.{Stays, writing_starts, writing_on, wrote-all, wrote-some, end_stays, refused_stays}
use Rattle.merge.proofs.rows.write.Goals as goal

pub loop-done-init : goal.loop-done-init
loop-done-init c = record { image = refl; writing = writing_starts _ _ _ }

pub returns-in_default-clause-wrote : goal.returns-in_default-clause-wrote
returns-in_default-clause-wrote c = let v = c.loop-done in
    let i = ap (λ (b : Bor (List ℕ)). b.now) v.invariant.image in
    let n : c.in_default.field-0 ≡ None = search rules in
    wrote-some _ _ _ _ _ _ v.invariant.writing (subst (λ (b : List ℕ). Stays b v.pass.state) i (end_stays v.pass.image.now v.pass.state v.pass.going.ok (sym c.front.ensures ∙ c.in_default.is ∙ rw n)))

pub returns-in_default-2-clause-wrote : goal.returns-in_default-2-clause-wrote
returns-in_default-2-clause-wrote c = let v = c.loop-done in
    let i = ap (λ (b : Bor (List ℕ)). b.now) v.invariant.image in
    wrote-some _ _ _ _ _ _ v.invariant.writing (subst (λ (b : List ℕ). Stays b v.pass.state) i (refused_stays v.pass.image.now v.pass.state v.pass.going.ok _ (sym c.front.ensures ∙ c.in_default.is)))

pub loop-done-preserved : goal.loop-done-preserved
loop-done-preserved c = let v = c.loop-done in
    let i = ap (λ (b : Bor (List ℕ)). b.now) v.invariant.image in
    let f = sym c.front.ensures ∙ c.in-Ok-Some.is ∙ rw c.in-Ok-Some.field-0-is in
    record {
      image = c.take.ensures.image ∙ v.invariant.image;
      writing = writing_on _ _ _ _ _ _ v.invariant.writing c.loop-done-test.true _ _ (rw (c.take.ensures.state, ← i) (next_takes v.pass.state v.pass.image.now v.pass.going.ok _ f)) _ c.put_row.ensures;
    }

pub returns-clause-wrote : goal.returns-clause-wrote
returns-clause-wrote c = let v = c.loop-done in
    let h = c.loop-done-test.false in
    let e : v.done ≡ length c.args.rows.now / 9 = omega (arith, v.auto.done-end) in
    subst (Wrote c.args.pass.now.image.now c.args.pass.now.state c.args.rows.now v.pass.state v.rows) e (wrote-all _ _ _ _ _ _ v.invariant.writing h)

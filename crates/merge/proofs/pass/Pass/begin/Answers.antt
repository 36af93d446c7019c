-- So far as i the leaves are the heads; and the tournament is won over them.
use Rattle.std.proofs.Common.{◌≡◌, length, arith, get_or-take}
use Rattle.std.proofs.Math.Seq.{length-take-le}
use Rattle.merge.specs.Parts.{no_part}
use Rattle.merge.specs.PartsLaws.{ok-both, in_get}
use Rattle.merge.specs.TournamentLaws.{filling_starts, filling_on, begun}
use Rattle.merge.proofs.pass.Pass.begin.Goals as goal

pub shared_ref_as_front-part-items : goal.shared_ref_as_front-part-items
shared_ref_as_front-part-items c = (ok-both (length c.args.image.now) c.args.state c.requires).0

pub loop-i-init : goal.loop-i-init
loop-i-init c = filling_starts _ _ _ (ok-both (length c.args.image.now) c.args.state c.requires).0

pub head_at-shown-requires : goal.head_at-shown-requires
head_at-shown-requires c = let l : length c.args.state.parts ≡ 16 = c.well_formed.1.0.1.1.1.0.1.0.1 in
    let m = c.args.state in
    let few = c.loop-i.invariant.few in
    let t = length-take-le m.count m.parts (omega (arith, few)) in
    let h = rw t at c.loop-i-test.true in
    rw (get_or-take m.count m.parts c.loop-i.i no_part h) (in_get (length c.args.image.now) m.count m.parts _ (ok-both (length c.args.image.now) m c.requires).1 h (omega arith))

pub loop-i-preserved : goal.loop-i-preserved
loop-i-preserved c = let l : length c.args.state.parts ≡ 16 = c.well_formed.1.0.1.1.1.0.1.0.1 in
    let v = c.loop-i in
    let m = c.args.state in
    let few = v.invariant.few in
    let t = length-take-le m.count m.parts (omega (arith, few)) in
    let h = rw t at c.loop-i-test.true in
    let shown = rw (get_or-take m.count m.parts v.i no_part h) at c.head_at-shown.ensures in
    filling_on _ _ _ l _ _ _ v.invariant h _ shown _ c.keep.ensures.leaf _ _ c.keep.ensures.refusal c.or-refusal.ensures

pub invariant_of-result : goal.invariant_of-result
invariant_of-result c = let l : length c.args.state.parts ≡ 16 = c.well_formed.1.0.1.1.1.0.1.0.1 in
    let v = c.loop-i in
    let m = c.args.state in
    let few = v.invariant.few in
    let t = length-take-le m.count m.parts (omega (arith, few)) in
    record { going = begun _ _ _ _ _ _ l c.requires v.invariant (rw t at c.loop-i-test.false) (rw t at v.auto.i-end) c.build.ensures }

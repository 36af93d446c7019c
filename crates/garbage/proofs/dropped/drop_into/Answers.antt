-- A malformed map is refused first; then the addition gives the answer.
use Rattle.std.proofs.Common.{rules, ◌∙◌, ap, sym, refl}
use Rattle.garbage.specs.declared.map.FragmentationMap.{FragmentationMap}
use Rattle.garbage.specs.Maps.{map_of}
use Rattle.garbage.specs.Columns.{held}
use Rattle.garbage.proofs.Sound.{cols, well-ready}
use Rattle.garbage.proofs.Dropping.{counted, uncounted}
use Rattle.garbage.proofs.dropped.drop_into.Goals as goal

pub add_one-requires : goal.add_one-requires
add_one-requires c =
    well-ready _ (sym c.well_formed-2.ensures ∙ c.if-well_formed.true)
    (c.told-ids, c.told-frames, c.told-stated, c.told-disk) c.fits-frames c.fits-stated c.fits-disk

pub returns-then-well_formed : goal.returns-then-well_formed
returns-then-well_formed c =
    let m = map_of c.args.count.now (cols c.args.ids.now c.args.frames.now c.args.stated.now c.args.disk.now) in
    ap (λ (d : FragmentationMap). record { answer = c.add_one.result; map = d }) (search rules)
    ∙ counted m m c.args.p refl c.add_one.result (held c.add_one.new.self) c.one_of.result (sym c.well_formed-2.ensures ∙ c.if-well_formed.true) c.one_of.ensures c.add_one.ensures.is

pub returns : goal.returns
returns c =
    let m = map_of c.args.count.now (cols c.args.ids.now c.args.frames.now c.args.stated.now c.args.disk.now) in
    uncounted m m c.args.p refl m (sym c.well_formed-2.ensures ∙ c.if-well_formed.false) refl

-- The drops one after another, or the map as it came in.
use Rattle.std.proofs.Common.{◌≡◌, true, false, List, Err, map, sym, ◌∙◌}
use Rattle.numbers.specs.Pick.{pick}
use Rattle.numbers.specs.declared.handle.BlobIndirection.{BlobIndirection}
use Rattle.garbage.specs.declared.map.CountRefusal.TheVariants.{MapFull}
use Rattle.garbage.specs.declared.map.FragmentationMap.{FragmentationMap}
use Rattle.garbage.specs.declared.dropped.Dropped.{Dropped}
use Rattle.garbage.specs.Maps.{entries_of, well_formed}
use Rattle.garbage.specs.Drops.{one, answered}
use Rattle.garbage.specs.Batch.{in_turn, batch_of}
use Rattle.garbage.specs.Columns.{held}
use Rattle.garbage.proofs.Sound.{told-ready}
use Rattle.garbage.proofs.Turning.{ended, refused}
use Rattle.garbage.proofs.batch.drop_all.Goals as goal

module _ (m : FragmentationMap) (ps : List BlobIndirection) where
  malformed : well_formed m ≡ false → ◌≡◌ {A = Dropped} (record { answer = Err MapFull; map = m }) (batch_of m ps)
  unfolding pick
  malformed h = sym (rw h)

  sound : well_formed m ≡ true → answered m (in_turn (map one ps) (entries_of m)) ≡ batch_of m ps
  unfolding pick
  sound h = sym (rw h)

pub returns-then-not-well_formed : goal.returns-then-not-well_formed
returns-then-not-well_formed c = c.refused.ensures ∙ malformed c.args.m c.args.pointers.now (sym c.well_formed-2.ensures ∙ c.if-not-well_formed.true)

pub drop_each-requires : goal.drop_each-requires
drop_each-requires c = told-ready c.args.m (sym c.well_formed-2.ensures ∙ c.if-not-well_formed.false) c.told.ensures

pub returns-in-Ok : goal.returns-in-Ok
returns-in-Ok c =
    ended c.args.m (held c.drop_each.new.self) c.drop_each.result _ c.drop_each.ensures.ends c.in-Ok.is
    ∙ sound c.args.m c.args.pointers.now (sym c.well_formed-2.ensures ∙ c.if-not-well_formed.false)

pub returns-in-Err : goal.returns-in-Err
returns-in-Err c =
    c.refused-in-Err.ensures ∙ refused c.args.m (held c.drop_each.new.self) c.drop_each.result _ c.in-Err.why c.drop_each.ensures.ends c.in-Err.is
    ∙ sound c.args.m c.args.pointers.now (sym c.well_formed-2.ensures ∙ c.if-not-well_formed.false)

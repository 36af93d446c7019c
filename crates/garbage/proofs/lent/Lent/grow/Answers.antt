-- The sum at the id's slot fits exactly where all of the whole fits.
use Rattle.std.proofs.Common.{Ok, ap, ◌∙◌}
use Rattle.garbage.specs.declared.map.FragmentationMap.{FragmentationMap}
use Rattle.garbage.specs.Maps.{columns_of, entry_at}
use Rattle.garbage.specs.Columns.{held, written}
use Rattle.garbage.proofs.Fits.{summed, unsummed}
use Rattle.garbage.proofs.Slots.{too_big, grown}
use Rattle.garbage.proofs.lent.Lent.grow.Goals as goal

pub returns-in-Some-clause-is : goal.returns-in-Some-clause-is
returns-in-Some-clause-is c =
    let s = summed (entry_at (columns_of (held c.args.self.now)) c.args.i) c.args.e c.plus.result c.plus.ensures c.in-Some.sum c.in-Some.is in
    ap (λ (m : FragmentationMap). record { answer = Ok tt; map = m }) (c.write.ensures.is ∙ ap (written c.args.i (held c.args.self.now)) s.1)
    ∙ grown (held c.args.self.now) c.requires.0 c.args.e c.args.i c.requires.1 s.0

pub returns-in-None-clause-is : goal.returns-in-None-clause-is
returns-in-None-clause-is c =
    too_big (held c.args.self.now) c.requires.0 c.args.e c.args.i c.requires.1
    (unsummed (entry_at (columns_of (held c.args.self.now)) c.args.i) c.args.e c.plus.result c.plus.ensures c.in-None.is)

-- What stands at the id's place is overwritten, or the entry put in there.
use Rattle.std.proofs.Common.{◌∙◌}
use Rattle.garbage.specs.Columns.{held}
use Rattle.garbage.specs.Stored.{latter}
use Rattle.garbage.proofs.Slots.{overwritten, added_at}
use Rattle.garbage.proofs.lent.Lent.replace.Goals as goal

pub returns-in-Ok-clause-is : goal.returns-in-Ok-clause-is
returns-in-Ok-clause-is c = c.write.ensures.is ∙ overwritten (held c.args.self.now) c.requires.1 c.args.e c.in-Ok.i c.in-Ok.ensures latter

pub returns-in-Err-clause-is : goal.returns-in-Err-clause-is
returns-in-Err-clause-is c = c.insert.ensures.is ∙ added_at (held c.args.self.now) c.requires.1 c.args.e c.in-Err.i c.in-Err.ensures latter

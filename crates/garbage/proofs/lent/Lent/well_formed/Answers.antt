-- The ids as numbers ascend exactly when the entries do.
use Rattle.std.proofs.Common.{◌∙◌}
use Rattle.garbage.specs.Columns.{held}
use Rattle.garbage.proofs.Sound.{ordered}
use Rattle.garbage.proofs.lent.Lent.well_formed.Goals as goal

pub returns : goal.returns
returns c = c.in_order.ensures ∙ ordered (held c.args.self.now) c.requires

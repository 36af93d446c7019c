-- The ids as numbers ascend exactly when the entries do.
use Rattle.std.proofs.Common.{rules, ◌∙◌}
use Rattle.garbage.proofs.Sound.{ordered}
use Rattle.garbage.proofs.map.FragmentationMap.well_formed.Goals as goal

pub returns : goal.returns
returns c = c.in_order.ensures ∙ ordered c.args.self.now (search rules, search rules, search rules, search rules)

-- Each position is that of the part at its index.
use Rattle.std.proofs.Common.{rules}
use Rattle.merge.specs.declared.parts.Part.{Part}
use Rattle.merge.specs.Parts.{no_part}
use Rattle.boundary.proofs.Arrays.{mapped}
use Rattle.boundary.proofs.merged.ats_of.Goals as goal

pub returns : goal.returns
returns c = mapped _ _ _ _ (λ (p : Part). p.at) 16 no_part c.map.ensures.items (search rules) (λ p x y q k. search rules)

-- The map is the definition's.
use Rattle.std.proofs.Common.{◌≡◌, length, List, ap, rules}
use Rattle.merge.specs.declared.parts.Part.{Part}
use Rattle.merge.specs.Parts.{moved, no_part, start_of}
use Rattle.merge.proofs.Pieces.{mapped}
use Rattle.merge.proofs.parts.MergeScanner.start.Goals as goal

pub returns : goal.returns
unfolding start_of
returns c = let l : length c.args.parts ≡ 16 = c.well_formed.0.1.0.1 in
    ap (λ (ps : List Part). record { count = c.args.count; parts = ps }) (mapped _ _ _ _ _ (moved 0) no_part c.map.ensures.items l (λ p q x y k. search rules))

-- The definition, written out.
use Rattle.std.proofs.Common.{rules}
use Rattle.merge.specs.Parts.{taken_of}
use Rattle.merge.proofs.parts.MergeScanner.take.Goals as goal

pub returns : goal.returns
unfolding taken_of
returns c = search rules

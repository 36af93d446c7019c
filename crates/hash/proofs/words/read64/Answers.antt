-- Eight bytes side by side are the word.
use Rattle.std.proofs.Common.{◌∙◌}
use Rattle.hash.proofs.Bytes.{word8}
use Rattle.hash.proofs.words.read64.Goals as goal

pub returns : goal.returns
returns c = c.from_le_bytes.ensures ∙ word8 c.args.s.now c.args.i

-- Four bytes side by side are the word.
use Rattle.std.proofs.Common.{◌∙◌}
use Rattle.hash.proofs.Bytes.{word4}
use Rattle.hash.proofs.words.read32.Goals as goal

pub returns : goal.returns
returns c = c.from_le_bytes.ensures ∙ word4 c.args.s.now c.args.i

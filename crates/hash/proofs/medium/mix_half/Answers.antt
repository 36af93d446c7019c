-- The secret's words with a seed of 0 are its words.
use Rattle.hash.proofs.Chunks.{half_law}
use Rattle.std.proofs.Common.{rules}
use Rattle.hash.proofs.medium.mix_half.Goals as goal

pub returns : goal.returns
returns c = search (rules, half_law)

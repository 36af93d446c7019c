-- The two words are the chunk.
use Rattle.hash.proofs.Chunks.{chunk_law}
use Rattle.std.proofs.Common.{rules}
use Rattle.hash.proofs.text.chunk.Goals as goal

pub returns : goal.returns
returns c = search (rules, chunk_law)

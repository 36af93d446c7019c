-- The secret's words are the code's numbers.
use Rattle.hash.proofs.Small.{law_16}
use Rattle.std.proofs.Common.{rules}
use Rattle.hash.proofs.short.from_9_to_16.Goals as goal

pub returns : goal.returns
returns c = search (rules, law_16)

-- The secret's words are the code's numbers.
use Rattle.hash.proofs.Small.{law_3}
use Rattle.std.proofs.Common.{rules}
use Rattle.hash.proofs.short.from_1_to_3.Goals as goal

pub returns : goal.returns
returns c = search (rules, law_3)

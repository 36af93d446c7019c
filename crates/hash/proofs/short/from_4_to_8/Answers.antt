-- The secret's words are the code's numbers, and the sum of the factor does not wrap.
use Rattle.hash.proofs.Small.{law_8}
use Rattle.std.proofs.Common.{rules}
use Rattle.hash.proofs.short.from_4_to_8.Goals as goal

pub returns : goal.returns
returns c = search (rules, law_8)

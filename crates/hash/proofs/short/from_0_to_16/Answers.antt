-- Each length falls in one case.
use Rattle.hash.proofs.Classes.{is_0, is_3, is_8, is_16}
use Rattle.std.proofs.Common.{rules}
use Rattle.hash.proofs.short.from_0_to_16.Goals as goal

pub returns-then-n-gt8 : goal.returns-then-n-gt8
returns-then-n-gt8 c = search (rules, is_16)

pub returns-then-n-gt3 : goal.returns-then-n-gt3
returns-then-n-gt3 c = search (rules, is_8)

pub returns-then-n-gt0 : goal.returns-then-n-gt0
returns-then-n-gt0 c = search (rules, is_3)

pub returns : goal.returns
returns c = search (rules, is_0)

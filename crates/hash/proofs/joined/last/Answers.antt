-- The last 64 bytes stand in value (last_in_second), or across (last-across).
use Rattle.hash.proofs.Seam.{last_in_second, last-across}
use Rattle.std.proofs.Common.{rules}
use Rattle.hash.proofs.joined.last.Goals as goal

pub returns-then-n-ge64 : goal.returns-then-n-ge64
returns-then-n-ge64 c = search (rules, last_in_second)

pub returns : goal.returns
returns c = search (rules, last-across)

-- All stripes, the last 64 bytes and the two halves are the description's of the joined string (large-joined).
use Rattle.hash.proofs.JoinedLarge.{large-joined}
use Rattle.std.proofs.Common.{rules}
use Rattle.hash.proofs.joined.large.Goals as goal

pub returns : goal.returns
returns c = search (rules, large-joined)

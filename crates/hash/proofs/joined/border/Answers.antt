-- The stripes in key and the one across are the joined string's (border_law).
use Rattle.hash.proofs.Seam.{border_law}
use Rattle.std.proofs.Common.{rules}
use Rattle.hash.proofs.joined.border.Goals as goal

pub returns : goal.returns
returns c = search (rules, border_law)

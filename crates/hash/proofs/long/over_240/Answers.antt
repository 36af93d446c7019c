-- A slice up to its length is the slice.
use Rattle.hash.proofs.Classes.{whole_length, whole-more, whole-large}
use Rattle.std.proofs.Common.{rules}
use Rattle.hash.proofs.long.over_240.Goals as goal

pub slice_bounds-from_241-end : goal.slice_bounds-from_241-end
slice_bounds-from_241-end c = search (rules, whole_length)

pub from_241-requires : goal.from_241-requires
from_241-requires c = search (rules, whole-more)

pub returns : goal.returns
returns c = search (rules, whole-large)

-- A slice up to its length is the slice.
use Rattle.hash.proofs.Classes.{whole_length, whole_upto, whole-more, whole}
use Rattle.std.proofs.Common.{rules}
use Rattle.hash.proofs.medium.upto_240.Goals as goal

pub slice_bounds-from_17_to_240-end : goal.slice_bounds-from_17_to_240-end
slice_bounds-from_17_to_240-end c = search (rules, whole_length)

pub from_17_to_240-requires : goal.from_17_to_240-requires
from_17_to_240-requires c = (search (rules, whole-more), search (rules, whole_upto))

pub returns : goal.returns
returns c = search (rules, whole)

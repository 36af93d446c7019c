-- Slices up to their lengths are the slices.
use Rattle.hash.proofs.Classes.{whole_length, whole_sum, whole-both}
use Rattle.std.proofs.Common.{rules}
use Rattle.hash.proofs.joined.upto_32.Goals as goal

pub slice_bounds-from_0_to_32-end : goal.slice_bounds-from_0_to_32-end
slice_bounds-from_0_to_32-end c = search (rules, whole_length)

pub slice_bounds-from_0_to_32-end-2 : goal.slice_bounds-from_0_to_32-end-2
slice_bounds-from_0_to_32-end-2 c = search (rules, whole_length)

pub from_0_to_32-requires : goal.from_0_to_32-requires
from_0_to_32-requires c = search (rules, whole_sum)

pub returns : goal.returns
returns c = search (rules, whole-both)

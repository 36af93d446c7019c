-- A slice up to its length is the slice.
use Rattle.hash.proofs.Classes.{whole_length, whole_upto, whole}
use Rattle.std.proofs.Common.{rules}
use Rattle.hash.proofs.short.upto_16.Goals as goal

pub slice_bounds-from_0_to_16-end : goal.slice_bounds-from_0_to_16-end
slice_bounds-from_0_to_16-end c = search (rules, whole_length)

pub from_0_to_16-requires : goal.from_0_to_16-requires
from_0_to_16-requires c = search (rules, whole_upto)

pub returns : goal.returns
returns c = search (rules, whole)

-- Slices up to their lengths are the slices.
use Rattle.hash.proofs.Classes.{whole_length, whole-both}
use Rattle.std.proofs.Common.{rules}
use Rattle.hash.proofs.joined.over_240.Goals as goal

pub slice_bounds-from_241-end : goal.slice_bounds-from_241-end
slice_bounds-from_241-end c = search (rules, whole_length)

pub slice_bounds-from_241-end-2 : goal.slice_bounds-from_241-end-2
slice_bounds-from_241-end-2 c = search (rules, whole_length)

pub returns : goal.returns
returns c = search (rules, whole-both)

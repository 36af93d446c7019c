-- The first stripe and those after it (from_first), or all in a loop; a slice up to its length is the slice.
use Rattle.std.proofs.Common.{arith, rules}
use Rattle.hash.proofs.Classes.{whole_length}
use Rattle.hash.proofs.FirstEight.{from_first}
use Rattle.hash.proofs.Stripes.{whole_stripes}
use Rattle.hash.proofs.long.stripes.Goals as goal

pub slice_bounds-stripes-end : goal.slice_bounds-stripes-end
slice_bounds-stripes-end c = search (rules, whole_length)

pub stripes-requires : goal.stripes-requires
stripes-requires c = (omega (arith, whole_length c.args.s.now), omega arith, omega arith)

pub returns-then-n-le8 : goal.returns-then-n-le8
returns-then-n-le8 c = let a = c.args in from_first a.s.now a.n _ _ _ (omega arith) c.accumulate.ensures c.stripes.ensures

pub slice_bounds-begin-end : goal.slice_bounds-begin-end
slice_bounds-begin-end c = search (rules, whole_length)

pub begin-requires : goal.begin-requires
begin-requires c = omega (arith, whole_length c.args.s.now)

pub returns : goal.returns
returns c = search (rules, whole_stripes)

-- The first stripe crosses (after_first), all stripes stand in key (all_in_first), or those of border are followed by those in value (after_border).
use Rattle.std.proofs.Common.{arith, rules}
use Rattle.hash.proofs.Classes.{whole_length}
use Rattle.hash.proofs.Seam.{all_in_first, after_first, after_border}
use Rattle.hash.proofs.joined.stripes.Goals as goal

pub slice_bounds-stripes-end : goal.slice_bounds-stripes-end
slice_bounds-stripes-end c = search (rules, whole_length)

pub stripes-requires : goal.stripes-requires
stripes-requires c = let a = c.args in (omega (arith, whole_length a.s.now.value.now), omega arith, omega arith)

pub returns-then-n-le8 : goal.returns-then-n-le8
returns-then-n-le8 c = search (rules, after_first)

pub slice_bounds-go_on-end : goal.slice_bounds-go_on-end
slice_bounds-go_on-end c = search (rules, whole_length)

pub go_on-requires : goal.go_on-requires
go_on-requires c = let a = c.args in omega (arith, whole_length a.s.now.value.now)

pub returns-then-p-eq0 : goal.returns-then-p-eq0
returns-then-p-eq0 c = search (rules, after_first)

pub returns-then-n-p : goal.returns-then-n-p
returns-then-n-p c = search (rules, all_in_first)

pub slice_bounds-go_on-end-2 : goal.slice_bounds-go_on-end-2
slice_bounds-go_on-end-2 c = search (rules, whole_length)

pub go_on-requires-2 : goal.go_on-requires-2
go_on-requires-2 c = let a = c.args in omega (arith, whole_length a.s.now.value.now)

pub returns : goal.returns
returns c = search (rules, after_border)

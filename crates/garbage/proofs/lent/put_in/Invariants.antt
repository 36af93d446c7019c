-- The element put in is carried upwards from its place: below j the list with it stands already, from j on what was there.
use mathlib.Core.Path.{◌≡◌}
use mathlib.Core.List.{◌++◌}
use lib.ListN.{get_or, take, drop}
use Rattle.garbage.proofs.Insert.{put}
use Rattle.garbage.proofs.lent.put_in.Given as goal

abbrev pub invariant-loop-j : goal.invariant-loop-j
invariant-loop-j g l = (l.column ≡ take l.j (put l.initial.column l.i l.fn.x) ++ drop l.j l.initial.column) × (l.carried ≡ get_or (put l.initial.column l.i l.fn.x) l.j l.fn.x)

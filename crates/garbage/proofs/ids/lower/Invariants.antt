-- Those that are counted, and those among the rest that are lower, are all.
use Rattle.std.proofs.Common.{◌≡◌, ◌+◌, ◌≤◌, drop}
use Rattle.garbage.specs.Columns.{lower_in}
use Rattle.garbage.proofs.ids.lower.Given as goal

abbrev pub invariant-loop-x : goal.invariant-loop-x
invariant-loop-x l = (l.n + lower_in l.id (drop l.x-index l.ids) ≡ lower_in l.id l.ids) × (l.n ≤ l.x-index)

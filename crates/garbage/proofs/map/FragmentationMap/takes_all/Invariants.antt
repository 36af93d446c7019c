-- What is left fits exactly when all does.
use Rattle.std.proofs.Common.{◌≡◌, ◌-◌}
use Rattle.garbage.specs.Maps.{columns_of, rows, entries_of}
use Rattle.garbage.specs.Columns.{sums_fit}
use Rattle.garbage.proofs.map.FragmentationMap.takes_all.Given as goal

abbrev pub invariant-loop-i : goal.invariant-loop-i
invariant-loop-i l = sums_fit (rows (columns_of l.source) l.i (l.source.count - l.i)) (entries_of l.self) ≡ sums_fit (entries_of l.source) (entries_of l.self)

-- So far the map holds what the entries so far made, and what is left comes to the whole.
use Rattle.std.proofs.Common.{◌-◌}
use Rattle.garbage.specs.Maps.{columns_of, rows, entries_of}
use Rattle.garbage.specs.Batch.{in_turn}
use Rattle.garbage.specs.Columns.{held, Same}
use Rattle.garbage.proofs.Turning.{Turned}
use Rattle.garbage.proofs.lent.Lent.add_each.Given as goal

abbrev pub invariant-loop-i : goal.invariant-loop-i
invariant-loop-i l = record {
  same : Same l.initial.self l.self;
  turned : Turned (held l.initial.self) (held l.self) (rows (columns_of l.source) l.i (l.source.count - l.i)) (in_turn (entries_of l.source) (entries_of (held l.initial.self)));
}

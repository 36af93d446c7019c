-- So far the map holds what the pointers so far made, and what is left comes to the whole.
use Rattle.std.proofs.Common.{map, drop}
use Rattle.garbage.specs.Maps.{entries_of}
use Rattle.garbage.specs.Drops.{one}
use Rattle.garbage.specs.Batch.{in_turn}
use Rattle.garbage.specs.Columns.{held, Same}
use Rattle.garbage.proofs.Turning.{Turned}
use Rattle.garbage.proofs.lent.Lent.drop_each.Given as goal

abbrev pub invariant-loop-p : goal.invariant-loop-p
invariant-loop-p l = record {
  same : Same l.initial.self l.self;
  turned : Turned (held l.initial.self) (held l.self) (map one (drop l.p-index l.pointers)) (in_turn (map one l.pointers) (entries_of (held l.initial.self)));
}

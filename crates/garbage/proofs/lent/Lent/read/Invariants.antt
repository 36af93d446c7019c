-- So far the map holds what the entries so far make.
use Rattle.std.proofs.Common.{◌≡◌, drop, []}
use Rattle.garbage.specs.Maps.{holding}
use Rattle.garbage.specs.Stored.{entries_in, instead_all}
use Rattle.garbage.specs.Columns.{held, Same}
use Rattle.garbage.proofs.lent.Lent.read.Given as goal

abbrev pub invariant-loop-i : goal.invariant-loop-i
invariant-loop-i l = record {
  same : Same l.initial.self l.self;
  read : held l.self ≡ holding (held l.initial.self) (instead_all (entries_in l.i (drop 4 l.s)) []);
}

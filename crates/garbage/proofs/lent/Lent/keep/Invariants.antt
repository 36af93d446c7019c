-- So far the map holds what is kept of the entries so far.
use Rattle.std.proofs.Common.{◌≡◌}
use Rattle.garbage.specs.Maps.{columns_of, rows, holding}
use Rattle.garbage.specs.Merges.{kept_of}
use Rattle.garbage.specs.Columns.{held, Same}
use Rattle.garbage.proofs.lent.Lent.keep.Given as goal

abbrev pub invariant-loop-i : goal.invariant-loop-i
invariant-loop-i l = record {
  same : Same l.initial.self l.self;
  kept : held l.self ≡ holding l.map (kept_of l.listing (rows (columns_of l.map) 0 l.i));
}

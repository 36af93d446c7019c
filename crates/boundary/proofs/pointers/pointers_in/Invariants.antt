-- So far every row is narrow, and the list begins with their pointers.
use Rattle.std.proofs.Common.{◌≡◌, true, length}
use lib.ListN.{take}
use mathlib.Core.List.{map}
use Rattle.std.specs.List.{list_all}
use Rattle.boundary.specs.Pointers.{narrow, pointer_at}
use Rattle.boundary.proofs.pointers.pointers_in.Given as goal

abbrev pub invariant-loop-i : goal.invariant-loop-i
invariant-loop-i l = record { room : length l.list ≡ 1024; narrow : list_all narrow (take l.i l.rows) ≡ true; laid : take l.i l.list ≡ map pointer_at (take l.i l.rows) }

-- So far the entries so far are written.
use Rattle.std.proofs.Common.{◌≡◌}
use Rattle.std.proofs.lemmas.List.Edits.{sets}
use Rattle.garbage.specs.Maps.{rows}
use Rattle.garbage.specs.Stored.{entries_bytes}
use Rattle.garbage.proofs.Sound.{cols}
use Rattle.garbage.proofs.stored.put_entries.Given as goal

abbrev pub invariant-loop-i : goal.invariant-loop-i
invariant-loop-i l = l.buf ≡ sets l.initial.buf 4 (entries_bytes (rows (cols l.ids l.frames l.stated l.disk) 0 l.i))

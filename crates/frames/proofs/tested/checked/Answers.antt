-- Each answer is a case of the definition.
use Rattle.std.proofs.Common.{sym}
use Rattle.frames.proofs.ScanLaws.{checked-end, checked-refused, checked-entry, checked_wrong}
use Rattle.frames.proofs.tested.checked.Goals as goal

pub returns-then-eq : goal.returns-then-eq
returns-then-eq c = sym (checked-entry _ _ _ _ _ c.in-Entry.is _ c.entry_sum-computed.ensures _ c.eq.ensures c.if-eq.true)

pub returns-in-End : goal.returns-in-End
returns-in-End c = sym (checked-end _ _ _ _ c.in-End.is)

pub returns-in-Refused : goal.returns-in-Refused
returns-in-Refused c = rw c.into.ensures (sym (checked-refused _ _ _ _ c.in-Refused.is))

pub returns-else-eq : goal.returns-else-eq
returns-else-eq c = sym (checked_wrong _ _ _ _ _ c.in-Entry.is _ c.entry_sum-computed.ensures _ c.eq.ensures c.if-eq.false)

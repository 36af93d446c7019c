-- The handle is laid down where it fits, and nothing where it does not.
use Rattle.std.proofs.Common.{arith}
use Rattle.numbers.specs.WroteLaws.{wrote_not, wrote_all}
use Rattle.numbers.specs.Handle.{handle_bytes}
use Rattle.numbers.specs.HandleLaws.{handle-some}
use Rattle.numbers.proofs.handle.ValueHandle.encode.Goals as goal

pub returns-then-room-n : goal.returns-then-room-n
returns-then-room-n c = let a = c.args in
    let w = wrote_not (handle_bytes a.self) a.buf.now a.at _ _ c.handle_size-n.ensures.size c.room.ensures c.if-room-n.true in
    record { answer = w.0; bytes = w.1 }

pub spell_handle-requires : goal.spell_handle-requires
spell_handle-requires c = omega (arith, handle-some c.args.self)

pub returns : goal.returns
returns c = let a = c.args in
    let w = wrote_all (handle_bytes a.self) a.buf.now _ a.at _ _ c.handle_size-n.ensures.size c.room.ensures c.if-room-n.false c.spell_handle.ensures.bytes in
    record { answer = w.0; bytes = w.1 }

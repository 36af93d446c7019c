-- The handle and the stated length are laid down where both fit, and nothing where they do not.
use Rattle.std.proofs.Common.{◌≡◌, ◌+◌, length, arith}
use Rattle.numbers.specs.Handle.{indirection_bytes}
use Rattle.numbers.specs.HandleLaws.{handle-some, length_indirection, indirection_laid}
use Rattle.numbers.specs.WroteLaws.{wrote_not, wrote_all}
use Rattle.numbers.proofs.handle.BlobIndirection.encode.Goals as goal

pub returns-then-room-n : goal.returns-then-room-n
returns-then-room-n c = let a = c.args in
    let n = c.handle_size.result + c.size.result in
    let e : n ≡ length (indirection_bytes a.self) = omega (arith, length_indirection a.self) in
    let w = wrote_not (indirection_bytes a.self) a.buf.now a.at n c.room.result e c.room.ensures c.if-room-n.true in
    record { answer = w.0; bytes = w.1 }

pub spell_handle-stated_at-requires : goal.spell_handle-stated_at-requires
spell_handle-stated_at-requires c = omega (arith, length_indirection c.args.self, handle-some c.args.self.handle)

pub spell-requires : goal.spell-requires
spell-requires c = omega (arith, length_indirection c.args.self, handle-some c.args.self.handle)

pub returns : goal.returns
returns c = let a = c.args in
    let n = c.handle_size.result + c.size.result in
    let e : n ≡ length (indirection_bytes a.self) = omega (arith, length_indirection a.self) in
    let w = wrote_all (indirection_bytes a.self) a.buf.now _ a.at n c.room.result e c.room.ensures c.if-room-n.false
    (indirection_laid a.self a.buf.now _ _ a.at _ c.spell_handle-stated_at.ensures.bytes c.spell_handle-stated_at.ensures.end c.spell.ensures.bytes) in
    record { answer = w.0; bytes = w.1 }

-- Each answer is a case of the definition.
use Rattle.frames.proofs.FinishLaws.{finish-again, finish-empty, finish_full, finish-done}
use Rattle.frames.proofs.state.Writer.finish.Goals as goal

pub returns-then-self : goal.returns-then-self
returns-then-self c =
    let p = finish-again c.args.self c.args.buf.now c.if-self.true in
    record { answer = rw c.refused.ensures p.0; bytes = p.1 }

pub returns-then-self-eq0 : goal.returns-then-self-eq0
returns-then-self-eq0 c =
    let p = finish-empty c.args.self c.args.buf.now c.if-self.false c.if-self-eq0.true in
    record { answer = rw c.refused-then-self-eq0.ensures p.0; bytes = p.1 }

pub returns-then-room-lt4 : goal.returns-then-room-lt4
returns-then-room-lt4 c =
    let p = finish_full c.args.self c.args.buf.now c.if-self.false c.if-self-eq0.false _ c.room.ensures c.if-room-lt4.true in
    record { answer = rw c.refused-then-room-lt4.ensures p.0; bytes = p.1 }

pub returns : goal.returns
returns c =
    let p = finish-done c.args.self c.args.buf.now c.if-self.false c.if-self-eq0.false _ c.room.ensures c.if-room-lt4.false _ c.put_end.ensures _ c.report.ensures in
    record { answer = p.0; bytes = p.1 }

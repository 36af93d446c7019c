-- What is taken is written as the definition says; what is refused leaves every byte as it is.
use Rattle.frames.specs.Shape.{item_of}
use Rattle.frames.proofs.AnswerLaws.{append_refused, append_written, append_fits}
use Rattle.frames.proofs.state.Writer.append_raw.Goals as goal

pub returns-in_err-appended-clause-bytes : goal.returns-in_err-appended-clause-bytes
returns-in_err-appended-clause-bytes c =
    let a = c.args in
    append_refused a.self a.buf.now (item_of a.key.now a.seqno a.stated a.value.now) _ c.shape.ensures _ c.answer.ensures _ c.in_err-appended.was

pub put-requires : goal.put-requires
put-requires c =
    let a = c.args in
    let p = append_fits a.self a.buf.now (item_of a.key.now a.seqno a.stated a.value.now) _ c.shape.ensures _ c.answer.ensures _ c.in_ok-appended.was in
    record { key = p.0; value = p.1; room = p.2 }

pub returns-clause-bytes : goal.returns-clause-bytes
returns-clause-bytes c =
    let a = c.args in
    append_written a.self a.buf.now (item_of a.key.now a.seqno a.stated a.value.now) _ c.shape.ensures _ c.answer.ensures _ c.in_ok-appended.was _ _ c.put.ensures c.put_end.ensures

-- A raw append of the value's length, where a u32 holds it; where none does, it is refused by 2 whatever it states.
use mathlib.Core.Path.{◌∙◌}
use Rattle.frames.proofs.PlainLaws.{plain-append}
use borrow.Author.Rules.{rules}
use Rattle.frames.proofs.state.Writer.append.Goals as goal

pub returns : goal.returns
returns c = let a = c.args in
    let r = c.append_raw.ensures in
    let p = plain-append a.self a.buf.now a.key.now a.seqno c.lesser-stated.result a.value.now (search rules) in
    record { answer = r.answer ∙ p.0; bytes = r.bytes ∙ p.1 }

-- The bytes that all have room overwrite as many.
use Rattle.std.proofs.Common.{sym, arith, take_all}
use Rattle.numbers.specs.LeLaws.{overwritten}
use Rattle.numbers.proofs.number.lay.Goals as goal

pub returns-then-buf-at : goal.returns-then-buf-at
returns-then-buf-at g c = let a = c.args in
    let n = c.told-bytes in
    let all = take_all g.row.N a.bytes.now (omega arith) in
    overwritten a.buf.now a.bytes.now _ _ a.at a.at a.at _ g.row.N (omega arith) (omega arith) (omega arith) (omega arith) c.copy_from_slice.ensures.after (sym all)

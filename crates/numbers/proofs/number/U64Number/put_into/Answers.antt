-- The library's 8 bytes of a number are those of `le`.
use Rattle.std.proofs.Common.{rules}
use Rattle.numbers.specs.BytesLaws.{laid}
use Rattle.numbers.proofs.number.U64Number.put_into.Goals as goal

pub returns : goal.returns
returns c = let a = c.args in
    laid 8 a.self _ a.at _ a.buf.now _ _ c.lay.ensures c.to_le_bytes.ensures (search rules) (search rules)

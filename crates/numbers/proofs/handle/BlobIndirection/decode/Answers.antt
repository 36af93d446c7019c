-- Each answer is the one that decoding left to right finds from the handle and the number read so far.
use Rattle.std.proofs.Common.{◌+◌, refl, sym, ◌∙◌, arith}
use Rattle.numbers.specs.HandleLaws.{IndirectionRead, within-handle}
use Rattle.numbers.specs.Leb128Laws.{within}
use Rattle.numbers.specs.declared.handle.BlobIndirection.{BlobIndirection}
use Rattle.numbers.proofs.Decoding.{read-number, read-refused, handed_on}
use Rattle.numbers.proofs.Theorems.{theorems}
use Rattle.numbers.proofs.handle.BlobIndirection.decode.Goals as goal

pub returns-in_err-handle : goal.returns-in_err-handle
returns-in_err-handle c = let a = c.args in
    let why = c.in_err-handle.field-0.0 in
    let e = sym c.decode.ensures ∙ c.in_err-handle.was in
    handed_on c.from_residual.result why c.from_residual.ensures.1 ∙ sym ((theorems.indirection_refuses a.at 0 a.s.now (record { offset = 0; file = 0; size = 0 }) why).0 e)

pub overflow_add-at : goal.overflow_add-at
overflow_add-at c = let h = c.in_ok-handle.handle in
    omega (arith, within-handle c.args.at c.args.s.now h.value h.used (sym c.decode.ensures ∙ c.in_ok-handle.was))

pub returns-in_err-stated : goal.returns-in_err-stated
returns-in_err-stated c = let a = c.args in
    let why = c.in_err-stated.field-0.0 in
    let h = c.in_ok-handle.handle in
    let e = read-refused _ _ why c.read.ensures c.in_err-stated.was in
    handed_on c.from_residual-in_err-stated.result why c.from_residual-in_err-stated.ensures.1 ∙ sym ((theorems.indirection_refuses a.at h.used a.s.now h.value why).1 (sym c.decode.ensures ∙ c.in_ok-handle.was) e)

pub overflow_add-result : goal.overflow_add-result
overflow_add-result c = let s = c.in_ok-stated.stated in
    omega (arith, within 32 (c.args.at + c.in_ok-handle.handle.used) c.args.s.now s.value s.used (read-number _ _ s c.read.ensures c.in_ok-stated.was))

pub returns : goal.returns
returns c = let a = c.args in
    let h = c.in_ok-handle.handle in
    let stated = c.in_ok-stated.stated in
    let i : BlobIndirection = record { handle = h.value; stated = stated.value } in
    let read : IndirectionRead a.at a.s.now i (h.used + stated.used) = record {
      n = h.used;
      k = stated.used;
      handle = sym c.decode.ensures ∙ c.in_ok-handle.was;
      stated = read-number _ _ stated c.read.ensures c.in_ok-stated.was;
      all = refl;
    } in
    sym ((theorems.indirection_reads a.at (h.used + stated.used) a.s.now i).1 read)

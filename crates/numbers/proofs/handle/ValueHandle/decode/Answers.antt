-- Each answer is the one that decoding left to right finds from the numbers read so far.
use Rattle.std.proofs.Common.{◌+◌, refl, sym, ◌∙◌, arith}
use Rattle.numbers.specs.Leb128Laws.{within}
use Rattle.numbers.specs.HandleLaws.{HandleRead}
use Rattle.numbers.specs.declared.handle.ValueHandle.{ValueHandle}
use Rattle.numbers.proofs.Decoding.{read-number, read-refused, handed_on}
use Rattle.numbers.proofs.Theorems.{theorems}
use Rattle.numbers.proofs.handle.ValueHandle.decode.Goals as goal

pub returns-in_err-offset : goal.returns-in_err-offset
returns-in_err-offset c = let a = c.args in
    let why = c.in_err-offset.field-0.0 in
    let e = read-refused _ _ why c.read.ensures c.in_err-offset.was in
    handed_on c.from_residual.result why c.from_residual.ensures.1 ∙ sym ((theorems.handle_refuses a.at 0 0 0 0 a.s.now why).0 e)

pub overflow_add-at : goal.overflow_add-at
overflow_add-at c = let o = c.in_ok-offset.offset in
    omega (arith, within 64 c.args.at c.args.s.now o.value o.used (read-number _ _ o c.read.ensures c.in_ok-offset.was))

pub returns-in_err-file : goal.returns-in_err-file
returns-in_err-file c = let a = c.args in
    let why = c.in_err-file.field-0.0 in
    let offset = c.in_ok-offset.offset in
    let o = read-number _ _ offset c.read.ensures c.in_ok-offset.was in
    let e = read-refused _ _ why c.read-2.ensures c.in_err-file.was in
    handed_on c.from_residual-in_err-file.result why c.from_residual-in_err-file.ensures.1 ∙ sym ((theorems.handle_refuses a.at offset.value offset.used 0 0 a.s.now why).1 o e)

pub overflow_add-at-2 : goal.overflow_add-at-2
overflow_add-at-2 c = let f = c.in_ok-file.file in
    omega (arith, within 64 (c.args.at + c.in_ok-offset.offset.used) c.args.s.now f.value f.used (read-number _ _ f c.read-2.ensures c.in_ok-file.was))

pub overflow_add-at-3 : goal.overflow_add-at-3
overflow_add-at-3 c = let f = c.in_ok-file.file in
    omega (arith, within 64 (c.args.at + c.in_ok-offset.offset.used) c.args.s.now f.value f.used (read-number _ _ f c.read-2.ensures c.in_ok-file.was))

pub returns-in_err-size : goal.returns-in_err-size
returns-in_err-size c = let a = c.args in
    let why = c.in_err-size.field-0.0 in
    let offset = c.in_ok-offset.offset in
    let file = c.in_ok-file.file in
    let o = read-number _ _ offset c.read.ensures c.in_ok-offset.was in
    let f = read-number _ _ file c.read-2.ensures c.in_ok-file.was in
    let e = read-refused _ _ why c.read-3.ensures c.in_err-size.was in
    handed_on c.from_residual-in_err-size.result why c.from_residual-in_err-size.ensures.1 ∙ sym ((theorems.handle_refuses a.at offset.value offset.used file.value file.used a.s.now why).2 o f e)

pub overflow_add-result : goal.overflow_add-result
overflow_add-result c = let s = c.in_ok-size.size in
    omega (arith, within 32 (c.args.at + c.in_ok-offset.offset.used + c.in_ok-file.file.used) c.args.s.now s.value s.used (read-number _ _ s c.read-3.ensures c.in_ok-size.was))

pub overflow_add-result-2 : goal.overflow_add-result-2
overflow_add-result-2 c = let s = c.in_ok-size.size in
    omega (arith, within 32 (c.args.at + c.in_ok-offset.offset.used + c.in_ok-file.file.used) c.args.s.now s.value s.used (read-number _ _ s c.read-3.ensures c.in_ok-size.was))

pub returns : goal.returns
returns c = let a = c.args in
    let offset = c.in_ok-offset.offset in
    let file = c.in_ok-file.file in
    let size = c.in_ok-size.size in
    let h : ValueHandle = record { offset = offset.value; file = file.value; size = size.value } in
    let read : HandleRead a.at a.s.now h (offset.used + file.used + size.used) = record {
      n = offset.used;
      m = file.used;
      k = size.used;
      offset = read-number _ _ offset c.read.ensures c.in_ok-offset.was;
      file = read-number _ _ file c.read-2.ensures c.in_ok-file.was;
      size = read-number _ _ size c.read-3.ensures c.in_ok-size.was;
      all = refl;
    } in
    sym ((theorems.handle_reads a.at (offset.used + file.used + size.used) a.s.now h).1 read)

-- Each answer is a case of the definition.
use Rattle.std.proofs.Common.{sym, ◌∙◌}
use Rattle.std.proofs.lemmas.Result.{err_from_is_err_and}
use Rattle.frames.proofs.ScanLaws.{frame-header, frame-key, frame-value, frame-whole, at_cut, at-meta, at-blob, at_other, tail-has}
use borrow.Author.Rules.{rules}
use Rattle.frames.proofs.steps.Scanner.read.Goals as goal

pub returns-in_err-has : goal.returns-in_err-has
returns-in_err-has c =
    let p = err_from_is_err_and c.from_residual.result c.from_residual.ensures.1 in
    rw (p.1, p.2, c.in_err-has.ensures.1) (sym (at_cut _ _ c.requires c.in_err-has.ensures.0))

pub marked-requires : goal.marked-requires
marked-requires c = search (rules, tail-has)

pub returns-then-marked : goal.returns-then-marked
returns-then-marked c = sym (search (rules, at-meta))

pub marked-requires-2 : goal.marked-requires-2
marked-requires-2 c = search (rules, tail-has)

pub returns-then-not-marked : goal.returns-then-not-marked
returns-then-not-marked c = sym (search (rules, at_other))

pub returns-in_err-has-2 : goal.returns-in_err-has-2
returns-in_err-has-2 c =
    let p = err_from_is_err_and c.from_residual-in_err-has-2.result c.from_residual-in_err-has-2.ensures.1 in
    let b = at-blob _ _ c.requires c.in_ok-has.ensures _ c.tail-frame.ensures.0 _ c.marked.ensures c.if-marked.false _ c.marked-2.ensures (search rules) in
    rw (p.1, p.2, c.in_err-has-2.ensures.1) (sym (b ∙ frame-header _ _ c.in_err-has-2.ensures.0))

pub returns-in_err-has-3 : goal.returns-in_err-has-3
returns-in_err-has-3 c =
    let p = err_from_is_err_and c.from_residual-in_err-has-3.result c.from_residual-in_err-has-3.ensures.1 in
    let b = at-blob _ _ c.requires c.in_ok-has.ensures _ c.tail-frame.ensures.0 _ c.marked.ensures c.if-marked.false _ c.marked-2.ensures (search rules) in
    rw (p.1, p.2, c.in_err-has-3.ensures.1) (sym (b ∙ frame-key _ _ c.in_ok-has-2.ensures _ c.tail-frame.ensures.0 _ c.read_header-header.ensures c.in_err-has-3.ensures.0))

pub returns-in_err-has-4 : goal.returns-in_err-has-4
returns-in_err-has-4 c =
    let p = err_from_is_err_and c.from_residual-in_err-has-4.result c.from_residual-in_err-has-4.ensures.1 in
    let b = at-blob _ _ c.requires c.in_ok-has.ensures _ c.tail-frame.ensures.0 _ c.marked.ensures c.if-marked.false _ c.marked-2.ensures (search rules) in
    rw (p.1, p.2, c.in_err-has-4.ensures.1) (sym (b ∙ frame-value _ _ c.in_ok-has-2.ensures _ c.tail-frame.ensures.0 _ c.read_header-header.ensures c.in_ok-has-3.ensures c.in_err-has-4.ensures.0))

pub returns : goal.returns
returns c =
    let b = at-blob _ _ c.requires c.in_ok-has.ensures _ c.tail-frame.ensures.0 _ c.marked.ensures c.if-marked.false _ c.marked-2.ensures (search rules) in
    rw c.going.ensures (sym (b ∙ frame-whole _ _ c.in_ok-has-2.ensures _ c.tail-frame.ensures.0 _ c.read_header-header.ensures c.in_ok-has-3.ensures c.in_ok-has-4.ensures))

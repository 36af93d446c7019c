-- The answer of the definition, by the verdict on the lengths.
use Rattle.std.proofs.Common.{◌≡◌, sym, ◌∙◌}
use Rattle.std.proofs.lemmas.Result.{err_from_is_err_and}
use borrow.Author.Rules.{rules}
use native.Mathlib.Omega.{arith}
use Rattle.frames.specs.Write.{handed_back}
use Rattle.frames.specs.WriteLaws.{taken}
use Rattle.frames.proofs.Mapped.{was_err, was_ok}
use Rattle.frames.proofs.AnswerLaws.{answer_refused, answer_taken}
use Rattle.frames.proofs.state.Writer.answer.Goals as goal

pub returns-in_err-writer : goal.returns-in_err-writer
returns-in_err-writer c =
    let p = err_from_is_err_and c.from_residual.result c.from_residual.ensures.1 in
    let q = was_err _ _ _ c.map_err.ensures.cases _ c.in_err-writer.was in
    let r : c.in_err-writer.field-0.0 ≡ handed_back c.args.self q.0 = (let learnt = q.2 in search rules) in
    rw (p.1, p.2, r) (sym (answer_refused _ _ _ q.0 (sym c.grown.ensures ∙ q.1)))

pub pointer-requires : goal.pointer-requires
pointer-requires c =
    let t = taken _ _ _ _ (sym c.grown.ensures ∙ was_ok _ _ _ c.map_err.ensures.cases _ c.in_ok-writer.was) in
    let small = t.0.small in
    omega arith

pub returns : goal.returns
returns c = answer_taken _ _ _ _ (sym c.grown.ensures ∙ was_ok _ _ _ c.map_err.ensures.cases _ c.in_ok-writer.was) _ c.pointer.ensures _ c.report.ensures _ c.then_some.ensures

-- Each answer is a case of the definition.
use Rattle.std.proofs.Common.{sym}
use Rattle.std.proofs.lemmas.Result.{err_from_is_err_and}
use borrow.Author.Rules.{rules}
use Rattle.frames.specs.WriteLaws.{judge_finished}
use Rattle.frames.proofs.Fields.{grown_law}
use Rattle.frames.proofs.GrowthLaws.{judge_empty, judge_long, judge_value, judge_room, judge_over, judge_go, counted_over, counted_fits, first_here, first_kept}
use Rattle.frames.proofs.state.Writer.grown.Goals as goal
use Rattle.frames.proofs.state.Writer.grown.Goals.{then-shape-eq0-via-then-shape-eq0, then-shape-eq0-via-else-shape-eq0+then-shape-gt-KEY_MOST}

pub returns-then-self : goal.returns-then-self
returns-then-self c = sym (search (rules, judge_finished))

pub returns-then-shape-eq0 : goal.returns-then-shape-eq0
returns-then-shape-eq0 c = sym (elim c.then-shape-eq0.branch [ then-shape-eq0-via-then-shape-eq0 w ↦ judge_empty _ _ _ c.if-self.false w.if-shape-eq0.true | then-shape-eq0-via-else-shape-eq0+then-shape-gt-KEY_MOST w ↦ judge_long _ _ _ c.if-self.false w.if-shape-eq0.false w.if-shape-gt-KEY_MOST.true ])

pub returns-then-shape-gt-VALUE_MOST : goal.returns-then-shape-gt-VALUE_MOST
returns-then-shape-gt-VALUE_MOST c = sym (search (rules, judge_value))

pub returns-then-room-size : goal.returns-then-room-size
returns-then-room-size c = sym (search (rules, judge_room))

pub returns-in_err-counted : goal.returns-in_err-counted
returns-in_err-counted c =
    let p = err_from_is_err_and c.from_residual.result c.from_residual.ensures.1 in
    let q = counted_over _ _ _ _ c.counted.ensures c.ok_or.ensures.value _ c.in_err-counted.was in
    rw (p.1, p.2, q.0) (sym (judge_over _ _ _ c.if-self.false c.if-shape-eq0.false c.if-shape-gt-KEY_MOST.false c.if-shape-gt-VALUE_MOST.false _ _ c.room.ensures c.size-size.ensures c.if-room-size.false q.1))

pub returns-then-self-eq0 : goal.returns-then-self-eq0
returns-then-self-eq0 c =
    let q = counted_fits _ _ _ _ c.counted.ensures c.ok_or.ensures.value _ c.in_ok-counted.was in
    let go = judge_go _ _ _ c.if-self.false c.if-shape-eq0.false c.if-shape-gt-KEY_MOST.false c.if-shape-gt-VALUE_MOST.false _ _ c.room.ensures c.size-size.ensures c.if-room-size.false q.0 in
    rw (← q.1, grown_law c.args.self c.args.shape _ _ c.size-size.ensures (first_here _ _ _ c.if-self-eq0.true)) (sym go)

pub returns-else-self-eq0 : goal.returns-else-self-eq0
returns-else-self-eq0 c =
    let q = counted_fits _ _ _ _ c.counted.ensures c.ok_or.ensures.value _ c.in_ok-counted.was in
    let go = judge_go _ _ _ c.if-self.false c.if-shape-eq0.false c.if-shape-gt-KEY_MOST.false c.if-shape-gt-VALUE_MOST.false _ _ c.room.ensures c.size-size.ensures c.if-room-size.false q.0 in
    rw (← q.1, grown_law c.args.self c.args.shape _ _ c.size-size.ensures (first_kept _ _ _ c.if-self-eq0.false)) (sym go)

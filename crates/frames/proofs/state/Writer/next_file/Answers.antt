-- Each answer is a case of the definition.
use Rattle.std.proofs.Common.{sym}
use native.Mathlib.Omega.{arith}
use Rattle.frames.proofs.FinishLaws.{next_early, next_last, next-done}
use Rattle.frames.proofs.state.Writer.next_file.Goals as goal

pub returns-then-not-self : goal.returns-then-not-self
returns-then-not-self c = rw c.refused.ensures (sym (next_early c.args.self c.if-not-self.true))

pub returns-in_default : goal.returns-in_default
returns-in_default c =
    let none = c.in_default.ensures in
    rw c.refused-in_default.ensures (sym (next_last c.args.self c.if-not-self.false (omega arith)))

pub returns : goal.returns
returns c =
    let some = c.in-Some.ensures in
    sym (next-done c.args.self c.if-not-self.false (omega arith) c.new.result _ (rw (← some.1) c.new.ensures) c.use_target_size.ensures)

-- Each answer is a case of the definition.
use Rattle.std.proofs.Common.{sym}
use native.Mathlib.Omega.{arith}
use Rattle.frames.proofs.CountLaws.{over-items, over-disk, over-stated, over_none}
use Rattle.frames.proofs.state.Writer.counted.Goals as goal

pub returns-in_err-checked_add : goal.returns-in_err-checked_add
returns-in_err-checked_add c =
    let items = c.in_err-checked_add.ensures in
    rw c.from_residual.ensures (sym (over-items _ _ (omega arith)))

pub returns-in_err-checked_add-2 : goal.returns-in_err-checked_add-2
returns-in_err-checked_add-2 c =
    let items = c.in_ok-checked_add.ensures in
    let disk = c.in_err-checked_add-2.ensures in
    rw c.from_residual-in_err-checked_add-2.ensures (sym (over-disk _ _ (omega arith) (omega arith)))

pub returns-in_err-checked_add-3 : goal.returns-in_err-checked_add-3
returns-in_err-checked_add-3 c =
    let items = c.in_ok-checked_add.ensures in
    let disk = c.in_ok-checked_add-2.ensures in
    let stated = c.in_err-checked_add-3.ensures in
    rw c.from_residual-in_err-checked_add-3.ensures (sym (over-stated _ _ (omega arith) (omega arith) (omega arith)))

pub returns : goal.returns
returns c =
    let items = c.in_ok-checked_add.ensures in
    let disk = c.in_ok-checked_add-2.ensures in
    let stated = c.in_ok-checked_add-3.ensures in
    rw (items.1, disk.1, stated.1) (sym (over_none _ _ (omega arith) (omega arith) (omega arith)))

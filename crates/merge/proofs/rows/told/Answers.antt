-- Each answer is a case of the definition.
use Rattle.std.proofs.Common.{refl, true, false}
use Rattle.merge.specs.RowsLaws.{said_rows, said_full, said_end, said_refused}
use Rattle.merge.proofs.rows.told.Goals as goal

pub returns-in_err-first : goal.returns-in_err-first
returns-in_err-first c = said_refused c.args.first _ _ _ _ c.in_err-first.was c.from_residual.ensures.1

pub returns-in-Some-Some : goal.returns-in-Some-Some
returns-in-Some-Some c = rw c.in-Some-Some.is-1 (said_rows c.args.first true c.in-Some-Some.n _ c.in_ok-first.was _ c.in-Some-Some.is-0 refl)

pub returns-in-Some-None : goal.returns-in-Some-None
returns-in-Some-None c = rw c.in-Some-None.is-1 (said_full c.args.first false 0 _ c.in_ok-first.was _ c.in-Some-None.is-0 refl)

pub returns-in-None-default : goal.returns-in-None-default
returns-in-None-default c = said_end c.args.first _ _ _ c.in_ok-first.was c.in-None-default.is-0

-- The stripes in turn are the description's.
use Rattle.std.proofs.Common.{arith, rules}
use Rattle.hash.proofs.FirstEight.{early_2, early_3, early_4, early_5, early_6, early_7}
use Rattle.hash.proofs.early.stripes.Goals as goal

pub returns-then-n-eq2 : goal.returns-then-n-eq2
returns-then-n-eq2 c = search (rules, early_2)

pub returns-then-n-eq3 : goal.returns-then-n-eq3
returns-then-n-eq3 c = search (rules, early_3)

pub returns-then-n-eq4 : goal.returns-then-n-eq4
returns-then-n-eq4 c = search (rules, early_4)

pub returns-then-n-eq5 : goal.returns-then-n-eq5
returns-then-n-eq5 c = search (rules, early_5)

pub returns-then-n-eq6 : goal.returns-then-n-eq6
returns-then-n-eq6 c = search (rules, early_6)

pub returns : goal.returns
returns c = let a = c.args in early_7 a.s.now a.i a.acc a.n (omega arith) c.accumulate-a.ensures c.accumulate-b.ensures c.accumulate-c.ensures c.accumulate-d.ensures c.accumulate-e.ensures c.accumulate-f.ensures c.accumulate.ensures

-- Nine stores one after another are the row.
use native.Mathlib.Omega.{arith}
use lib.ListN.{length-set}
use Rattle.merge.specs.RowsLaws.{nine_stores}
use Rattle.merge.proofs.rows.put_row.Goals as goal

pub bounds-rows-at-2 : goal.bounds-rows-at-2
bounds-rows-at-2 c = simp length-set (omega arith)

pub bounds-rows-at-3 : goal.bounds-rows-at-3
bounds-rows-at-3 c = simp length-set (omega arith)

pub bounds-rows-at-4 : goal.bounds-rows-at-4
bounds-rows-at-4 c = simp length-set (omega arith)

pub bounds-rows-at-5 : goal.bounds-rows-at-5
bounds-rows-at-5 c = simp length-set (omega arith)

pub bounds-rows-at-6 : goal.bounds-rows-at-6
bounds-rows-at-6 c = simp length-set (omega arith)

pub bounds-rows-at-7 : goal.bounds-rows-at-7
bounds-rows-at-7 c = simp length-set (omega arith)

pub bounds-rows-at-8 : goal.bounds-rows-at-8
bounds-rows-at-8 c = simp length-set (omega arith)

pub bounds-rows-at-9 : goal.bounds-rows-at-9
bounds-rows-at-9 c = simp length-set (omega arith)

pub shape_of-rows : goal.shape_of-rows
shape_of-rows c = simp length-set

pub returns : goal.returns
returns c = let x = c.args.x in
    nine_stores c.args.rows.now c.args.at x.part x.file x.offset x.key.at x.key.len x.seqno x.stated x.value.at x.value.len

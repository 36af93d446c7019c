-- The pass over the table that the columns are: its answer as a number, its positions as a column.
use mathlib.Core.Path.{ap, ◌∙◌}
use Rattle.merge.specs.Rows.{rowed_of, rowed_in}
use Rattle.merge.specs.declared.parts.MergeScanner.{MergeScanner}
use Rattle.merge.specs.declared.rows.Rowed.{Rowed}
use Rattle.boundary.specs.Tables.{ats_of, rowed_number}
use Rattle.boundary.proofs.merged.pd_rows.Goals as goal

pub returns : goal.returns
returns c = let s = c.args in
    let m = c.table_of.ensures in
    let r = c.next_rows-rowed.ensures in
    let e = r.answer ∙ ap (λ (x : MergeScanner). rowed_of x s.image.now s.rows.now) m in
    record {
      number = c.number_of.ensures ∙ ap (λ (x : Rowed). rowed_number x.answer) e;
      places = c.ats_of.ensures ∙ ap (λ (x : Rowed). ats_of x.state.parts) e;
      rows = r.numbers ∙ ap (λ (x : MergeScanner). rowed_in x s.image.now s.rows.now) m;
    }

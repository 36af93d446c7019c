-- What is left, written on what is there, is the whole.
use Rattle.std.proofs.Common.{◌≡◌}
use Rattle.merge.specs.RowsLaws.{Writing}
use Rattle.merge.proofs.rows.write.Given as goal

abbrev pub invariant-loop-done : goal.invariant-loop-done
invariant-loop-done l = record {
  image : l.pass.image ≡ l.initial.pass.image;
  writing : Writing l.initial.pass.image.now l.initial.pass.state l.initial.rows l.pass.state l.rows l.done;
}

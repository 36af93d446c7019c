-- So far as i the leaves are the heads.
use Rattle.merge.specs.TournamentLaws.{Filling}
use Rattle.merge.proofs.pass.Pass.begin.Given as goal

abbrev pub invariant-loop-i : goal.invariant-loop-i
invariant-loop-i l = Filling l.image l.fn.state.count l.fn.state.parts l.tree l.refusal l.i

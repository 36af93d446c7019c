-- From node j on every node is won.
use Rattle.merge.specs.TournamentLaws.{Building}
use Rattle.merge.proofs.tournament.build.Given as goal

abbrev pub invariant-loop-j : goal.invariant-loop-j
invariant-loop-j l = Building l.image l.initial.tree l.tree l.j

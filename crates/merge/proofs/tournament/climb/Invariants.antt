-- Every node but j is won, and the hole moves up.
use Rattle.merge.specs.TournamentLaws.{Climbing}
use Rattle.merge.proofs.tournament.climb.Given as goal

abbrev pub invariant-loop-j : goal.invariant-loop-j
invariant-loop-j l = Climbing l.image l.initial.tree l.tree l.j

abbrev pub decreases-loop-j : goal.decreases-loop-j
decreases-loop-j l = l.j

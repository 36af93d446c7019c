-- The bytes passed so far carry on; their number, the next weight and what is left of the width are known.
use Rattle.std.proofs.Common.{◌*◌}
use Rattle.numbers.specs.Leb128.{groups}
use Rattle.numbers.proofs.Reading.{Passed, Left}
use Rattle.numbers.proofs.leb128.read.Given as goal

abbrev pub invariant-loop-i : goal.invariant-loop-i
invariant-loop-i g l = let w = 8 * g.T.Number.width in
    Passed (groups w) l.i l.value l.weight l.t × Left w l.i l.left

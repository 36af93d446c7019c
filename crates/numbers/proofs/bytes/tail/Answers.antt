-- What stands behind the lesser of `at` and the length, to the end.
use Rattle.numbers.specs.PartLaws.{rest, rest-place}
use Rattle.std.proofs.Common.{rules}
use Rattle.numbers.proofs.bytes.tail.Goals as goal

pub returns : goal.returns
returns c = (search (rules, rest), rest-place c.args.s.ref_ptr _ _ c.lesser-a.ensures)

-- The front of what stands from `at` on.
use Rattle.std.proofs.Common.{sym, length-take-le, rules}
use Rattle.numbers.specs.PartLaws.{front}
use Rattle.numbers.proofs.bytes.part.Goals as goal

pub slice_bounds-result-end : goal.slice_bounds-result-end
slice_bounds-result-end c = sym (length-take-le _ _ (search rules))

pub returns : goal.returns
returns c = (search (rules, front), search rules)

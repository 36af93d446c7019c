-- What is there is read, by eight or by bytes.
use Rattle.std.proofs.Common.{ap, ◌∙◌, arith, rules}
use lib.Seq.{take-length}
use Rattle.numbers.specs.Le.{num}
use Rattle.hash.proofs.Classes.{whole_length}
use Rattle.hash.proofs.border.head.Goals as goal

pub slice_bounds-few-end : goal.slice_bounds-few-end
slice_bounds-few-end c = search (rules, whole_length)

pub few-requires : goal.few-requires
few-requires c = omega (arith, whole_length c.args.s.now)

pub returns : goal.returns
returns c = let s = c.args.s.now in c.few.ensures ∙ ap (num 8) (take-length s)

-- What is there is read, and a short list moved up.
use Rattle.std.proofs.Common.{ℕ, ap, ◌∙◌, arith, rules}
use lib.Seq.{take-length}
use Rattle.numbers.specs.Le.{num}
use Rattle.hash.proofs.Classes.{whole_length}
use Rattle.hash.proofs.Joint.{end-long, end_short}
use Rattle.hash.proofs.border.end.Goals as goal

pub returns-then-n-ge8 : goal.returns-then-n-ge8
returns-then-n-ge8 c = search (rules, end-long)

pub slice_bounds-few-end : goal.slice_bounds-few-end
slice_bounds-few-end c = search (rules, whole_length)

pub few-requires : goal.few-requires
few-requires c = omega (arith, whole_length c.args.s.now)

pub returns : goal.returns
returns c = let s = c.args.s.now in end_short s _ (λ (i : ℕ). (c.type_inv.s i).fits) (omega arith) (c.few.ensures ∙ ap (num 8) (take-length s))

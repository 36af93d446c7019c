-- Two words of four bytes, the second moved past what both have; or the bytes that are there.
use Rattle.std.proofs.Common.{ℕ, ap, ◌∙◌, arith, rules}
use lib.Seq.{take-length}
use Rattle.numbers.specs.Le.{num}
use Rattle.hash.proofs.Classes.{whole_length}
use Rattle.hash.proofs.Joint.{few-by_fours, few-at_once}
use Rattle.hash.proofs.border.few.Goals as goal

pub returns-then-n-ge4 : goal.returns-then-n-ge4
returns-then-n-ge4 c = let s = c.args.s.now in few-by_fours s _ _ (λ (i : ℕ). (c.type_inv.s i).fits) (omega arith) (omega arith) c.read32.ensures (omega arith) c.read32-then-n-ge4.ensures

pub slice_bounds-get-end : goal.slice_bounds-get-end
slice_bounds-get-end c = search (rules, whole_length)

pub returns : goal.returns
returns c = let s = c.args.s.now in few-at_once s _ (omega arith) (c.get.ensures ∙ ap (num 4) (take-length s))

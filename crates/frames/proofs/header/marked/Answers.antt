-- Four bytes, each below 256, are the mark exactly where they are its number.
use mathlib.Core.Path.{ap, ◌∙◌}
use Prim.Native.Nat.{ℕ}
use native.Mathlib.Omega.{arith}
use lib.Dec.{eqb}
use Rattle.frames.specs.LayoutLaws.{starts-le}
use borrow.Author.Rules.{rules}
use Rattle.frames.proofs.header.marked.Goals as goal

pub returns : goal.returns
returns c = let a = c.args in
    ap (λ (n : ℕ). eqb n a.mark) c.get.ensures ∙ starts-le 4 a.mark a.p.now (search rules) (λ (i : ℕ). omega (arith, c.type_inv.p i)) (search rules)

-- The bits lost, then the rounding at that many.
use native.Mathlib.Omega.{arith}
use mathlib.Core.Path.{◌∙◌, ap, ap₂}
use Prim.Native.Nat.{ℕ}
use Rattle.garbage.specs.Ratio.{rounded}
use Rattle.garbage.proofs.Round.{lost-le}
use Rattle.garbage.proofs.ratio.round24.Goals as goal

pub round_at-m-requires : goal.round_at-m-requires
round_at-m-requires c = omega (arith, c.lost_bits-k.ensures, lost-le c.args.x c.ranges.x.fits)

pub returns : goal.returns
returns c = ap₂ (λ (m k : ℕ). record { mantissa = m; shift = k })
    (c.round_at-m.ensures ∙ ap (λ (k : ℕ). rounded k c.args.x) c.lost_bits-k.ensures)
    c.lost_bits-k.ensures

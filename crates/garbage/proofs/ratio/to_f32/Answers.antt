-- The rounded mantissa, cast and scaled by two exact products, is the number rounded.
use native.Mathlib.Omega.{arith}
use mathlib.Core.Path.{◌≡◌, ◌∙◌, ap, ap₂, subst, sym}
use Prim.Native.Nat.{ℕ, ◌≤◌, ◌/◌, ◌-◌}
use lib.IntN.{pos}
use lib.Dec.{T}
use lib.Ieee.{Float, binary32, in_float, of_int, mul}
use Rattle.garbage.specs.Ratio.{lost, rounded}
use Rattle.garbage.specs.declared.ratio.Rounded.{Rounded}
use Rattle.garbage.proofs.Round.{kept-le, lost-le, in_float_lem}
use Rattle.garbage.proofs.Scaled.{scaled}
use Rattle.garbage.proofs.ratio.to_f32.Goals as goal

pub int_to_float-m : goal.int_to_float-m
int_to_float-m c = subst (λ (r : Rounded). T (in_float binary32 (pos r.mantissa))) (sym c.round24-r.ensures) (in_float_lem (rounded (lost c.args.x) c.args.x) (kept-le c.args.x))

pub power-requires : goal.power-requires
power-requires c = let e : c.round24-r.result.shift ≡ lost c.args.x = ap (λ (r : Rounded). r.shift) c.round24-r.ensures in
    omega (arith, lost-le c.args.x c.ranges.x.fits)

pub power-requires-2 : goal.power-requires-2
power-requires-2 c = let e : c.round24-r.result.shift ≡ lost c.args.x = ap (λ (r : Rounded). r.shift) c.round24-r.ensures in
    omega (arith, lost-le c.args.x c.ranges.x.fits)

pub returns : goal.returns
returns c = let x : ℕ = c.args.x in
    let r = c.round24-r.ensures in
    let e : c.round24-r.result.shift ≡ lost x = ap (λ (r : Rounded). r.shift) r in
    let l : lost x ≤ 40 = lost-le x c.ranges.x.fits in
    ap₂ (λ (u v : Float). mul binary32 u v)
    (ap₂ (λ (u v : Float). mul binary32 u v) (ap (λ (w : Rounded). of_int binary32 (pos w.mantissa)) r) c.power.ensures)
    c.power-2.ensures
    ∙ scaled x (c.round24-r.result.shift / 2) (c.round24-r.result.shift - c.round24-r.result.shift / 2) c.ranges.x.fits (omega arith) (omega arith) (omega arith)

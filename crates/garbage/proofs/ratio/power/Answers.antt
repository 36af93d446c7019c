-- A power of two up to 2^24 is a float as it stands.
use native.Mathlib.Omega.{arith}
use mathlib.Core.Path.{ap, subst, sym}
use Prim.Native.Nat.{ℕ, ◌^◌}
use lib.IntN.{pos}
use lib.Dec.{T}
use lib.Ieee.{binary32, in_float, of_int}
use lib.Pow.{pow_mono}
use Rattle.garbage.proofs.Round.{bit_at, in_float_lem}
use Rattle.garbage.proofs.ratio.power.Goals as goal

pub int_to_float-result : goal.int_to_float-result
int_to_float-result c = subst (λ (n : ℕ). T (in_float binary32 (pos n))) (sym (bit_at c.args.k (omega (arith, c.requires)))) (in_float_lem (2 ^ c.args.k) (pow_mono {j = 24} c.requires))

pub returns : goal.returns
returns c = ap (λ (n : ℕ). of_int binary32 (pos n)) (bit_at c.args.k (omega (arith, c.requires)))

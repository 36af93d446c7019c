-- What owning the arrays tells: each has 64 elements, each element fits its width.
use Prim.Native.Nat.{ℕ, zero, suc, ◌+◌, ◌≤◌, ◌<◌, ◌^◌}
use mathlib.Core.Path.{◌≡◌}
use mathlib.Core.Bool.{true}
use mathlib.Core.List.{List, [], ◌∷◌}
use native.Mathlib.Omega.{arith}
use mir.Val.{Val, bits}
use mir.Syntax.{Width, w32, w64}
use lib.ListN.{length, get_or}
use denote.Plain.{UInt}
use denote.Array.{each}
use denote.Shadow.{shadow}
use Rattle.garbage.specs.Entries.{all_fit}
use Rattle.garbage.specs.Maps.{Columns, entry_at, rows}
use Rattle.garbage.specs.Columns.{Whole}
use Rattle.garbage.proofs.Fits.{fits_all, fit_cons, none-fit}
use Rattle.garbage.proofs.lent.told.Goals as goal

abbrev Below : Width → List ℕ → Type 0
Below w xs = (i : ℕ) → i < length xs → get_or xs i 0 < 2 ^ bits w

below : (w : Width) (xs : List ℕ) (us : List Val) → shadow (each (UInt w).Denot (UInt w).own_val xs us) → Below w xs
below w [] [] s i h = absurd (omega arith)
below w [] (u ∷ us) s i h = absurd s
below w (x ∷ xs) [] s i h = absurd s
below w (x ∷ xs) (u ∷ us) s zero h = s.0.1
below w (x ∷ xs) (u ∷ us) s (suc i) h = below w xs us s.1 i (omega arith)

fit-rows : (c : Columns) → Whole c → Below w32 c.frames → Below w64 c.stated → Below w64 c.disk → (i n : ℕ) → i + n ≤ 64 → all_fit (rows c i n) ≡ true
unfolding rows
fit-rows c w f s d i zero h = none-fit
fit-rows c w f s d i (suc n) h =
    fit_cons (entry_at c i) (rows c (suc i) n) (fits_all (entry_at c i) (f i (omega (arith, w.1))) (s i (omega (arith, w.2))) (d i (omega (arith, w.3)))) (fit-rows c w f s d (suc i) n (omega arith))

pub returns : goal.returns
returns c = record {
  whole = (c.well_formed.0.1.0.1, c.well_formed.1.0.1.0.1, c.well_formed.1.1.0.1.0.1, c.well_formed.1.1.1.0.1.0.1);
  fit = λ n h. fit-rows (record { ids = c.args.ids; frames = c.args.frames; stated = c.args.stated; disk = c.args.disk }) (c.well_formed.0.1.0.1, c.well_formed.1.0.1.0.1, c.well_formed.1.1.0.1.0.1, c.well_formed.1.1.1.0.1.0.1)
      (below w32 c.args.frames c.well_formed.1.0.0 c.well_formed.1.0.1.1)
      (below w64 c.args.stated c.well_formed.1.1.0.0 c.well_formed.1.1.0.1.1)
      (below w64 c.args.disk c.well_formed.1.1.1.0.0 c.well_formed.1.1.1.0.1.1)
      0 n (omega arith);
}

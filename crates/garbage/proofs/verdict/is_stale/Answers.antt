-- The verdict by what the map holds of the id, with the ratio that it was judged by.
use Prim.Native.Nat.{ℕ}
use mathlib.Core.Path.{◌≡◌, refl, sym, ◌∙◌, ap}
use mathlib.Core.Bool.{true, false}
use lib.Ieee.{Float, le}
use Rattle.numbers.specs.Pick.{pick}
use Rattle.std.proofs.Common.{Option, Some, None, Result, Ok, Err}
use Rattle.garbage.specs.declared.map.MapFull.{MapFull}
use Rattle.garbage.specs.declared.verdict.StaleVerdict.{StaleVerdict}
use Rattle.garbage.specs.declared.verdict.StaleVerdict.TheVariants as stale
use Rattle.garbage.specs.Entries.{Entry}
use Rattle.garbage.specs.Ratio.{ratio_of}
use Rattle.garbage.specs.Verdicts.{stale_by}
use Rattle.garbage.proofs.verdict.is_stale.Goals as goal

module _ (total : ℕ) (t : Float) (l r : Result (Option Entry) MapFull) (e : l ≡ r) where
  same : (v : Result (Option Entry) MapFull) (d : StaleVerdict) → l ≡ v → d ≡ stale_by v total t → d ≡ stale_by r total t
  same v d q h = h ∙ ap (λ (x : Result (Option Entry) MapFull). stale_by x total t) (sym q ∙ e)

module _ (x : Entry) (total : ℕ) (t r : Float) (e : r ≡ ratio_of x.stated total) where
  so : le t r ≡ true → stale.Stale r ≡ stale_by (Ok (Some x)) total t
  unfolding pick
  so h = rw (← e, h)

  not_so : le t r ≡ false → stale.Kept r ≡ stale_by (Ok (Some x)) total t
  unfolding pick
  not_so h = rw (← e, h)

pub returns-then-r-threshold : goal.returns-then-r-threshold
returns-then-r-threshold c = let e = c.in-Ok-Some.e in
    same c.args.report.stated c.args.threshold c.get.result _ c.get.ensures (Ok (Some e)) _ (c.in-Ok-Some.is ∙ ap (λ (o : Option Entry). Ok o) c.in-Ok-Some.field-0-is) (so e c.args.report.stated c.args.threshold c.ratio-r.result c.ratio-r.ensures c.if-r-threshold.true)

pub returns-else-r-threshold : goal.returns-else-r-threshold
returns-else-r-threshold c = let e = c.in-Ok-Some.e in
    same c.args.report.stated c.args.threshold c.get.result _ c.get.ensures (Ok (Some e)) _ (c.in-Ok-Some.is ∙ ap (λ (o : Option Entry). Ok o) c.in-Ok-Some.field-0-is) (not_so e c.args.report.stated c.args.threshold c.ratio-r.result c.ratio-r.ensures c.if-r-threshold.false)

pub returns-in-Ok-None : goal.returns-in-Ok-None
returns-in-Ok-None c = same c.args.report.stated c.args.threshold c.get.result _ c.get.ensures (Ok None) stale.NoEntry (c.in-Ok-None.is ∙ ap (λ (o : Option Entry). Ok o) c.in-Ok-None.field-0-is) refl

pub returns-in-Err : goal.returns-in-Err
returns-in-Err c = same c.args.report.stated c.args.threshold c.get.result _ c.get.ensures (Err (record {})) stale.Refused c.in-Err.is refl

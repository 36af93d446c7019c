-- The verdict by what the map holds of the id.
use Prim.Native.Nat.{ℕ}
use mathlib.Core.Path.{◌≡◌, refl, sym, ◌∙◌, ap}
use borrow.Author.Tests.{eq-eqb, ne_eqb}
use Rattle.numbers.specs.Pick.{pick}
use Rattle.std.proofs.Common.{Option, Some, None, Result, Ok, Err}
use Rattle.garbage.specs.declared.map.MapFull.{MapFull}
use Rattle.garbage.specs.declared.verdict.DeadVerdict.{DeadVerdict}
use Rattle.garbage.specs.declared.verdict.DeadVerdict.TheVariants as dead
use Rattle.garbage.specs.Entries.{Entry}
use Rattle.garbage.specs.Verdicts.{dead_by}
use Rattle.garbage.proofs.verdict.is_dead.Goals as goal

module _ (total : ℕ) (l r : Result (Option Entry) MapFull) (e : l ≡ r) where
  same : (v : Result (Option Entry) MapFull) (d : DeadVerdict) → l ≡ v → d ≡ dead_by v total → d ≡ dead_by r total
  same v d q h = h ∙ ap (λ (x : Result (Option Entry) MapFull). dead_by x total) (sym q ∙ e)

so : (x : Entry) (total : ℕ) → x.stated ≡ total → dead.Dead ≡ dead_by (Ok (Some x)) total
unfolding pick
so x total h = sym (rw (eq-eqb x.stated total h))

not_so : (x : Entry) (total : ℕ) → (x.stated ≡ total → ⊥) → dead.Wanted ≡ dead_by (Ok (Some x)) total
unfolding pick
not_so x total h = sym (rw (ne_eqb x.stated total h))

pub returns-then-e-report : goal.returns-then-e-report
returns-then-e-report c = let e = c.in-Ok-Some.e in
    same c.args.report.stated c.get.result _ c.get.ensures (Ok (Some e)) dead.Dead (c.in-Ok-Some.is ∙ ap (λ (o : Option Entry). Ok o) c.in-Ok-Some.field-0-is) (so e c.args.report.stated c.if-e-report.true)

pub returns-else-e-report : goal.returns-else-e-report
returns-else-e-report c = let e = c.in-Ok-Some.e in
    same c.args.report.stated c.get.result _ c.get.ensures (Ok (Some e)) dead.Wanted (c.in-Ok-Some.is ∙ ap (λ (o : Option Entry). Ok o) c.in-Ok-Some.field-0-is) (not_so e c.args.report.stated c.if-e-report.false)

pub returns-in-Ok-None : goal.returns-in-Ok-None
returns-in-Ok-None c = same c.args.report.stated c.get.result _ c.get.ensures (Ok None) dead.NoEntry (c.in-Ok-None.is ∙ ap (λ (o : Option Entry). Ok o) c.in-Ok-None.field-0-is) refl

pub returns-in-Err : goal.returns-in-Err
returns-in-Err c = same c.args.report.stated c.get.result _ c.get.ensures (Err (record {})) dead.Refused c.in-Err.is refl

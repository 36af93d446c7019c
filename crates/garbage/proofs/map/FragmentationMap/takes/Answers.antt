-- The id's total stands at its place, or there is none and the entry fits by itself.
use Rattle.std.proofs.Common.{rules, ◌≡◌, Bool, true, false, refl, List, sym, ap, ◌∙◌, Option, Some, None, is_some}
use Rattle.numbers.specs.Pick.{pick}
use Rattle.garbage.specs.Entries.{Entry, plus, fits}
use Rattle.garbage.specs.Maps.{entries_of}
use Rattle.garbage.specs.Columns.{total_of}
use Rattle.garbage.proofs.Fits.{fits_all}
use Rattle.garbage.proofs.Finding.{slot_found, slot_none}
use Rattle.garbage.proofs.Summing.{total-is, or_nothing, fits-same}
use Rattle.garbage.proofs.Sound.{well-rising}
use Rattle.garbage.proofs.map.FragmentationMap.takes.Goals as goal

there : (x e : Entry) (l : List Entry) (r : Option Entry) (o : Option Entry) → r ≡ pick (fits (plus x e)) (Some (plus x e)) None → Some x ≡ o → total_of e.id l ≡ or_nothing e.id o
    → is_some r ≡ fits (plus (total_of e.id l) e)
unfolding pick
there x e l r o p f t = ap is_some p ∙ go (fits (plus x e)) ∙ ap (λ (y : Entry). fits (plus y e)) (ap (or_nothing e.id) f ∙ sym t)
  where
    go : (b : Bool) → is_some (pick b (Some (plus x e)) None) ≡ b
    go true = refl
    go false = refl

absent : (e : Entry) (l : List Entry) (o : Option Entry) → None ≡ o → total_of e.id l ≡ or_nothing e.id o → fits e ≡ true → true ≡ fits (plus (total_of e.id l) e)
absent e l o f t h = sym (ap (λ (y : Entry). fits (plus y e)) (t ∙ ap (or_nothing e.id) (sym f)) ∙ fits-same e ∙ h)

pub place-requires : goal.place-requires
place-requires c = (well-rising c.args.self.now c.requires (search rules, search rules, search rules, search rules)).rising

pub returns-in-Ok : goal.returns-in-Ok
returns-in-Ok c =
    let m = c.args.self.now in
    let e = c.args.e in
    let w = well-rising m c.requires (search rules, search rules, search rules, search rules) in
    c.is_some.ensures
    ∙ there c.entry.result e (entries_of m) c.plus.result _ c.plus.ensures (ap (λ (x : Entry). Some x) c.entry.ensures ∙ slot_found m w e.id c.in-Ok.i c.in-Ok.ensures) (total-is e.id (entries_of m))

pub returns-in-Err : goal.returns-in-Err
returns-in-Err c =
    let m = c.args.self.now in
    let e = c.args.e in
    let w = well-rising m c.requires (search rules, search rules, search rules, search rules) in
    absent e (entries_of m) _ (slot_none m w e.id _ c.in-Err.ensures) (total-is e.id (entries_of m)) (fits_all e (search rules) (search rules) (search rules))

-- The entry at the id's place is the id's, or there is none.
use Rattle.std.proofs.Common.{rules, ◌≡◌, true, false, ℕ, sym, ap, ◌∙◌, Option, Some, None, Result, Ok, Err}
use Rattle.numbers.specs.Pick.{pick}
use Rattle.garbage.specs.declared.map.FragmentationMap.{FragmentationMap}
use Rattle.garbage.specs.declared.map.MapFull.{MapFull}
use Rattle.garbage.specs.Entries.{Entry}
use Rattle.garbage.specs.Maps.{entries_of, well_formed}
use Rattle.garbage.specs.Lookups.{found, lookup_of}
use Rattle.garbage.proofs.Finding.{slot_found, slot_none}
use Rattle.garbage.proofs.Sound.{well-rising}
use Rattle.garbage.proofs.map.FragmentationMap.get.Goals as goal

module _ (m : FragmentationMap) (id : ℕ) where
  sound : (o : Option Entry) → well_formed m ≡ true → o ≡ found id (entries_of m) → ◌≡◌ {A = Result (Option Entry) MapFull} (Ok o) (lookup_of m id)
  unfolding pick
  sound o h e = ap (λ (x : Option Entry). Ok x) e ∙ sym (rw h)

  unsound : well_formed m ≡ false → ◌≡◌ {A = Result (Option Entry) MapFull} (Err (record {})) (lookup_of m id)
  unfolding pick
  unsound h = sym (rw h)

pub returns-in_err-sound : goal.returns-in_err-sound
returns-in_err-sound c =
    let r : c.from_residual.result ≡ Err c.in_err-sound.field-0.0 = search rules in
    r ∙ unsound c.args.self c.args.id (c.in_err-sound.ensures {u = tt})

pub place-requires : goal.place-requires
place-requires c = (well-rising c.args.self (c.in_ok-sound.ensures {u = tt}) (search rules, search rules, search rules, search rules)).rising

pub returns-in-Ok : goal.returns-in-Ok
returns-in-Ok c =
    let h = c.in_ok-sound.ensures {u = tt} in
    let w = well-rising c.args.self h (search rules, search rules, search rules, search rules) in
    sound c.args.self c.args.id (Some c.entry.result) h (ap (λ (x : Entry). Some x) c.entry.ensures ∙ slot_found c.args.self w c.args.id c.in-Ok.i c.in-Ok.ensures)

pub returns-in-Err : goal.returns-in-Err
returns-in-Err c =
    let h = c.in_ok-sound.ensures {u = tt} in
    let w = well-rising c.args.self h (search rules, search rules, search rules, search rules) in
    sound c.args.self c.args.id None h (slot_none c.args.self w c.args.id _ c.in-Err.ensures)

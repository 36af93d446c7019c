-- What is kept stands in the map's own columns.
use Rattle.std.proofs.Common.{rules, ◌≡◌, true, false, List, ℕ, Ok, Err, refl, sym, ap, ◌∙◌}
use Rattle.numbers.specs.Pick.{pick}
use Rattle.garbage.specs.declared.map.FragmentationMap.{FragmentationMap}
use Rattle.garbage.specs.declared.pruned.Pruned.{Pruned}
use Rattle.garbage.specs.Maps.{entries_of, holding, well_formed}
use Rattle.garbage.specs.Merges.{kept_of, pruned_of}
use Rattle.garbage.specs.Columns.{held}
use Rattle.garbage.proofs.Sound.{well-few}
use Rattle.garbage.proofs.map.FragmentationMap.prune.Goals as goal

module _ (m : FragmentationMap) (ids : List ℕ) where
  kept : well_formed m ≡ true → (d : FragmentationMap) → d ≡ holding m (kept_of ids (entries_of m)) → ◌≡◌ {A = Pruned} (record { answer = Ok tt; map = d }) (pruned_of m ids)
  unfolding pick
  kept h d e = ap (λ (k : FragmentationMap). record { answer = Ok tt; map = k }) e ∙ sym (rw h)

  malformed : well_formed m ≡ false → ◌≡◌ {A = Pruned} (record { answer = Err (record {}); map = m }) (pruned_of m ids)
  unfolding pick
  malformed h = sym (rw h)

pub returns-then-not-well_formed : goal.returns-then-not-well_formed
returns-then-not-well_formed c = malformed c.args.self c.args.listing.now (sym c.well_formed-2.ensures ∙ c.if-not-well_formed.true)

pub keep-requires : goal.keep-requires
keep-requires c = (well-few c.args.self (sym c.well_formed-2.ensures ∙ c.if-not-well_formed.false), (search rules, search rules, search rules, search rules), refl)

pub returns : goal.returns
returns c = kept c.args.self c.args.listing.now (sym c.well_formed-2.ensures ∙ c.if-not-well_formed.false) (held c.keep.new.self) c.keep.ensures.is

-- What a map holds of an id, at the place that a search finds.
use Prim.Native.Nat.{ℕ, suc, ◌≤◌, ◌<◌}
use mathlib.Core.Path.{◌≡◌, refl, sym, ◌∙◌, ap}
use mathlib.Core.List.{List, [], ◌∷◌}
use mathlib.Core.Bool.{Bool, true, false}
use native.Mathlib.Omega.{arith}
use lib.ListN.{length, get_or, take}
use lib.Dec.{ltb, leb}
use borrow.Author.Tests.{ltb-true, ltb-false, leb-true, eq-eqb, ne_eqb}
use Rattle.numbers.specs.Pick.{pick}
use Rattle.std.specs.Prelude.{Some, None}
use Rattle.garbage.specs.declared.map.FragmentationMap.{FragmentationMap}
use Rattle.garbage.specs.Entries.{Entry, ascending_from}
use Rattle.garbage.specs.Maps.{columns_of, entry_at, entries_of}
use Rattle.garbage.specs.Lookups.{found}
use Rattle.garbage.specs.Columns.{Rising, StandsAt, GoesTo, one_more, place_in}
use Rattle.garbage.proofs.Bools.{and_l, and_r}
use Rattle.garbage.proofs.Added.{no_entry, place_of}
use Rattle.garbage.proofs.Slots.{place_below, there_is, same_id, not_there}
use Rattle.garbage.proofs.Sound.{rising-order}

-- ---- one entry more in front
module _ (id : ℕ) (x : Entry) (l : List Entry) where
  pub found_here : x.id ≡ id → found id (x ∷ l) ≡ Some x
  unfolding found pick
  found_here h = rw (eq-eqb x.id id h)

  pub found-past : (x.id ≡ id → ⊥) → found id (x ∷ l) ≡ found id l
  unfolding found pick
  found-past h = rw (ne_eqb x.id id h)

pub found_in_none : (id : ℕ) → found id [] ≡ None
unfolding found
found_in_none id = refl

-- no id below the first of a list in order
pub found_above : (id lo : ℕ) (l : List Entry) → id < lo → ascending_from lo l ≡ true → found id l ≡ None
unfolding ascending_from
found_above id lo [] h t = found_in_none id
found_above id lo (x ∷ l) h t =
    let a : lo ≤ x.id = leb-true lo x.id (and_l (leb lo x.id) (ascending_from (suc x.id) l) t) in
    found-past id x l (λ z. omega arith)
    ∙ found_above id (suc x.id) l (omega arith) (and_r (leb lo x.id) (ascending_from (suc x.id) l) t)

-- ---- at the place
found_at : (id : ℕ) (l : List Entry) → place_of id l < length l → (get_or l (place_of id l) no_entry).id ≡ id → found id l ≡ Some (get_or l (place_of id l) no_entry)
unfolding place_in
found_at id [] h q = absurd (omega arith)
found_at id (x ∷ l) h q = go (ltb x.id id) refl h q (found_at id l)
  where
    go : (b : Bool) → ltb x.id id ≡ b → one_more b (place_of id l) < suc (length l) → (get_or (x ∷ l) (one_more b (place_of id l)) no_entry).id ≡ id
        → (place_of id l < length l → (get_or l (place_of id l) no_entry).id ≡ id → found id l ≡ Some (get_or l (place_of id l) no_entry))
        → found id (x ∷ l) ≡ Some (get_or (x ∷ l) (one_more b (place_of id l)) no_entry)
    go true t h q ih = found-past id x l (λ z. omega (arith, ltb-true x.id id t)) ∙ ih (omega arith) q
    go false t h q ih = found_here id x l q

found_not : (id lo : ℕ) (l : List Entry) → ascending_from lo l ≡ true → (place_of id l < length l → (get_or l (place_of id l) no_entry).id ≡ id → ⊥) → found id l ≡ None
unfolding place_in ascending_from
found_not id lo [] t h = found_in_none id
found_not id lo (x ∷ l) t h = go (ltb x.id id) refl h (found_not id (suc x.id) l (and_r (leb lo x.id) (ascending_from (suc x.id) l) t))
  where
    go : (b : Bool) → ltb x.id id ≡ b → (one_more b (place_of id l) < suc (length l) → (get_or (x ∷ l) (one_more b (place_of id l)) no_entry).id ≡ id → ⊥)
        → ((place_of id l < length l → (get_or l (place_of id l) no_entry).id ≡ id → ⊥) → found id l ≡ None)
        → found id (x ∷ l) ≡ None
    go true q h ih = found-past id x l (λ z. omega (arith, ltb-true x.id id q)) ∙ ih (λ p. h (omega arith))
    go false q h ih =
        let k : id ≤ x.id = ltb-false x.id id q in
        let n : x.id ≡ id → ⊥ = h (omega arith) in
        found-past id x l n
        ∙ found_above id (suc x.id) l (omega arith) (and_r (leb lo x.id) (ascending_from (suc x.id) l) t)

-- ---- in a map
module _ (m : FragmentationMap) (w : Rising m) (id r : ℕ) where
  pub slot_found : StandsAt id (take m.count m.ids) r → Some (entry_at (columns_of m) r) ≡ found id (entries_of m)
  slot_found s =
      let a : get_or (entries_of m) (place_of id (entries_of m)) no_entry ≡ entry_at (columns_of m) r = there_is m w id r s in
      sym (found_at id (entries_of m) (place_below m w id r s) (ap (λ (x : Entry). x.id) a ∙ same_id m w id r s) ∙ ap Some a)

  pub slot_none : GoesTo id (take m.count m.ids) r → None ≡ found id (entries_of m)
  slot_none g = sym (found_not id 0 (entries_of m) (rising-order m w) (not_there m w id r g))

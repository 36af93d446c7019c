-- Entries added one after another: what is known after each turn, and what the turns come to.
use Prim.Native.Nat.{ℕ, ◌≤◌}
use mathlib.Core.Path.{◌≡◌, refl, sym, ◌∙◌, ap, subst}
use mathlib.Core.List.{List, [], ◌∷◌}
use mathlib.Core.Bool.{true}
use native.Mathlib.Omega.{arith}
use lib.ListN.{length}
use Rattle.std.specs.Prelude.{Ok, Err, Result}
use Rattle.garbage.specs.declared.map.CountRefusal.{CountRefusal}
use Rattle.garbage.specs.declared.map.CountRefusal.TheVariants.{MapFull, SumTooBig}
use Rattle.garbage.specs.declared.map.FragmentationMap.{FragmentationMap}
use Rattle.garbage.specs.declared.dropped.Dropped.{Dropped}
use Rattle.garbage.specs.Entries.{Entry, plus, added, ascending_from, all_fit, judged, Outcome}
use Rattle.garbage.specs.Maps.{columns_of, map_of, entries_of, holding, empty_map}
use Rattle.garbage.specs.declared.merged.Merged.{Merged}
use Rattle.garbage.specs.Drops.{answered}
use Rattle.garbage.specs.Merges.{merge_answered}
use Rattle.garbage.specs.Batch.{afterwards, in_turn}
use Rattle.garbage.specs.Columns.{Whole, Ready, Ends}
use Rattle.garbage.proofs.Added.{add_ascending, add_longer}
use Rattle.garbage.proofs.Fits.{made-is}
use Rattle.garbage.proofs.Slots.{rows-length}
use Rattle.garbage.proofs.Sound.{rising-order}
use Rattle.garbage.proofs.Holding.{holds-own, rows_with, holding-again, ready_with}

pub plus-id : (x e : Entry) → x.id ≡ e.id → (plus x e).id ≡ x.id
plus-id x e h = refl

pub add_in_order : (e : Entry) (l : List Entry) → ascending_from 0 l ≡ true → ascending_from 0 (added e l) ≡ true
add_in_order e l t = add_ascending plus plus-id 0 e l (omega arith) t

differ : (why : CountRefusal) → ◌≡◌ {A = Result (Unit {0}) CountRefusal} (Ok tt) (Err why) → ⊥
differ why e = let z : ◌≡◌ {A = ℕ} 0 1 = cc in omega arith

-- After some turns the map d holds l in the columns of m, and what is left of them comes to the outcome of all.
pub record Turned (m d : FragmentationMap) (es : List Entry) (o : Outcome) : Type 0 where
  pub whole : Whole (columns_of m)
  pub list : List Entry
  pub is : d ≡ holding m list
  pub few : length list ≤ 64
  pub order : ascending_from 0 list ≡ true
  pub fit : all_fit list ≡ true
  pub left : in_turn es list ≡ o

pub turned-ready : (m d : FragmentationMap) (es : List Entry) (o : Outcome) → Turned m d es o → Ready d
turned-ready m d es o t = subst Ready (sym t.is) (ready_with m t.whole t.list t.few t.order t.fit)

pub turned-first : (m : FragmentationMap) (es : List Entry) → Ready m → Turned m (map_of m.count (columns_of m)) es (in_turn es (entries_of m))
turned-first m es r = record {
  whole = r.sound.whole;
  list = entries_of m;
  is = holds-own m r.sound.few r.sound.whole;
  few = omega (arith, rows-length (columns_of m) 0 m.count, r.sound.few);
  order = rising-order m r.sound;
  fit = r.fit;
  left = refl;
}

module _ (m d : FragmentationMap) (e : Entry) (es : List Entry) (o : Outcome) (t : Turned m d (e ∷ es) o) where
  abbrev l : List Entry
  l = t.list

  -- an addition, said of the list
  said : (r : Result (Unit {0}) CountRefusal) (d' : FragmentationMap) → ◌≡◌ {A = Dropped} (record { answer = r; map = d' }) (answered d (judged (added e (entries_of d))))
      → ◌≡◌ {A = Dropped} (record { answer = r; map = d' }) (answered (holding m l) (judged (added e l)))
  said r d' a =
      a ∙ ap (λ (k : FragmentationMap). answered k (judged (added e (entries_of k)))) t.is
      ∙ ap (λ (x : List Entry). answered (holding m l) (judged (added e x))) (rows_with (columns_of m) l)

  left : afterwards (judged (added e l)) (in_turn es) ≡ o
  unfolding in_turn
  left = t.left

  pub turned-on : (d' : FragmentationMap) → ◌≡◌ {A = Dropped} (record { answer = Ok tt; map = d' }) (answered d (judged (added e (entries_of d)))) → Turned m d' es o
  turned-on d' a = go (judged (added e l)) (made-is (added e l)) (said (Ok tt) d' a) left
    where
      go : (u : Outcome) → ((r : List Entry) → u ≡ Ok r → (r ≡ added e l) × (all_fit (added e l) ≡ true) × (length (added e l) ≤ 64))
          → ◌≡◌ {A = Dropped} (record { answer = Ok tt; map = d' }) (answered (holding m l) u) → afterwards u (in_turn es) ≡ o → Turned m d' es o
      go (Ok r) f a q =
          let k = f r refl in
          record {
            whole = t.whole;
            list = r;
            is = ap (λ (x : Dropped). x.map) a ∙ holding-again m l r (omega (arith, (add_longer plus e l).0, ap length k.0));
            few = omega (arith, k.2, ap length k.0);
            order = ap (ascending_from 0) k.0 ∙ add_in_order e l t.order;
            fit = ap all_fit k.0 ∙ k.1;
            left = q;
          }
      go (Err SumTooBig) f a q = absurd (differ SumTooBig (ap (λ (x : Dropped). x.answer) a))
      go (Err MapFull) f a q = absurd (differ MapFull (ap (λ (x : Dropped). x.answer) a))

  pub turned-out : (why : CountRefusal) (d' : FragmentationMap) → ◌≡◌ {A = Dropped} (record { answer = Err why; map = d' }) (answered d (judged (added e (entries_of d)))) → Ends m o (Err why) d'
  turned-out why d' a = go (judged (added e l)) (said (Err why) d' a) left
    where
      go : (u : Outcome) → ◌≡◌ {A = Dropped} (record { answer = Err why; map = d' }) (answered (holding m l) u) → afterwards u (in_turn es) ≡ o → Ends m o (Err why) d'
      go (Ok r) a q = absurd (differ why (sym (ap (λ (x : Dropped). x.answer) a)))
      go (Err SumTooBig) a q = subst (λ (x : Outcome). Ends m x (Err why) d') q (ap (λ (x : Dropped). x.answer) a)
      go (Err MapFull) a q = subst (λ (x : Outcome). Ends m x (Err why) d') q (ap (λ (x : Dropped). x.answer) a)

pub turned-last : (m d : FragmentationMap) (o : Outcome) → Turned m d [] o → Ends m o (Ok tt) d
unfolding in_turn
turned-last m d o t = subst (λ (x : Outcome). Ends m x (Ok tt) d) t.left (refl, t.is)

pub turned-list : (m d : FragmentationMap) (es fs : List Entry) (o : Outcome) → es ≡ fs → Turned m d es o → Turned m d fs o
turned-list m d es fs o e t = subst (λ (x : List Entry). Turned m d x o) e t

pub ends-as : (m : FragmentationMap) (o : Outcome) (r s : Result (Unit {0}) CountRefusal) (d : FragmentationMap) → r ≡ s → Ends m o s d → Ends m o r d
ends-as m o r s d e h = subst (λ (x : Result (Unit {0}) CountRefusal). Ends m o x d) (sym e) h

-- ---- what a walk of additions gives
module _ (m d : FragmentationMap) (r : Result (Unit {0}) CountRefusal) where
  pub ended : (o : Outcome) → Ends m o r d → r ≡ Ok tt → ◌≡◌ {A = Dropped} (record { answer = Ok tt; map = d }) (answered m o)
  ended (Ok l) h q = ap (λ (k : FragmentationMap). record { answer = Ok tt; map = k }) h.1
  ended (Err why) h q = absurd (differ why (sym q ∙ h))

  pub refused : (o : Outcome) (why : CountRefusal) → Ends m o r d → r ≡ Err why → ◌≡◌ {A = Dropped} (record { answer = Err why; map = m }) (answered m o)
  refused (Ok l) why h q = absurd (differ why (sym h.0 ∙ q))
  refused (Err SumTooBig) why h q = ap (λ (x : Result (Unit {0}) CountRefusal). record { answer = x; map = m }) (sym q ∙ h)
  refused (Err MapFull) why h q = ap (λ (x : Result (Unit {0}) CountRefusal). record { answer = x; map = m }) (sym q ∙ h)

module _ (s t d : FragmentationMap) (r : Result (Unit {0}) CountRefusal) where
  pub merges : (o : Outcome) → Ends t o r d → r ≡ Ok tt → ◌≡◌ {A = Merged} (record { answer = Ok tt; source = empty_map; target = d }) (merge_answered s t o)
  merges (Ok l) h q = ap (λ (k : FragmentationMap). record { answer = Ok tt; source = empty_map; target = k }) h.1
  merges (Err why) h q = absurd (differ why (sym q ∙ h))

  pub leaves : (o : Outcome) (why : CountRefusal) → Ends t o r d → r ≡ Err why → ◌≡◌ {A = Merged} (record { answer = Err why; source = s; target = t }) (merge_answered s t o)
  leaves (Ok l) why h q = absurd (differ why (sym h.0 ∙ q))
  leaves (Err SumTooBig) why h q = ap (λ (x : Result (Unit {0}) CountRefusal). record { answer = x; source = s; target = t }) (sym q ∙ h)
  leaves (Err MapFull) why h q = ap (λ (x : Result (Unit {0}) CountRefusal). record { answer = x; source = s; target = t }) (sym q ∙ h)

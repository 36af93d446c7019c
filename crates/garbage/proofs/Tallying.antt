-- What is found of an id after drops: the tally of its pointers, and of no others.
use Prim.Native.Nat.{ℕ, suc, ◌+◌}
use mathlib.Core.Path.{◌≡◌, refl, sym, ◌∙◌, ap, ap₂}
use mathlib.Core.List.{List, [], ◌∷◌, ◌++◌, map, Permᴰ}
use mathlib.Core.Bool.{true}
use native.Mathlib.Omega.{arith}
use native.Mathlib.Nat.{add_comm}
use lib.Dec.{leb}
use borrow.Author.Tests.{eq-eqb, ne_eqb}
use Rattle.numbers.specs.Pick.{pick}
use Rattle.numbers.specs.declared.handle.BlobIndirection.{BlobIndirection}
use Rattle.std.specs.Prelude.{Option, Some, None}
use Rattle.garbage.specs.Entries.{Entry, plus, added, added_all, ascending_from}
use Rattle.garbage.specs.Lookups.{found}
use Rattle.garbage.specs.Drops.{one}
use Rattle.garbage.specs.Tallies.{of_file, stated_in, disk_in, tally}
use Rattle.garbage.proofs.Bools.{and_r, tri, same_or}
use Rattle.garbage.proofs.Finding.{found_here, found-past, found_in_none, found_above}
use Rattle.garbage.proofs.Summing.{to_past, to_same, to_before, to_none, swapped, all_cons, all_none, all_one, order-all}

abbrev pub ones : List BlobIndirection → List Entry
ones ps = map one ps

-- ---- an entry added, and what is found after it
abbrev onto : Option Entry → Entry → Entry
onto (Some x) e = plus x e
onto None e = e

found-own : (id lo : ℕ) (e : Entry) (l : List Entry) → e.id ≡ id → ascending_from lo l ≡ true → found id (added e l) ≡ Some (onto (found id l) e)
unfolding ascending_from
found-own id lo e [] h t = ap (found id) (to_none e) ∙ found_here id e [] h ∙ ap (λ (x : Option Entry). Some (onto x e)) (sym (found_in_none id))
found-own id lo e (x ∷ l) h t =
    let b = and_r (leb lo x.id) (ascending_from (suc x.id) l) t in
    tri x.id e.id
    (λ p.
    let n : x.id ≡ id → ⊥ = λ z. omega arith in
    ap (found id) (to_past e x l p) ∙ found-past id x (added e l) n ∙ found-own id (suc x.id) e l h b ∙ ap (λ (y : Option Entry). Some (onto y e)) (sym (found-past id x l n)))
    (λ p.
    let q : x.id ≡ id = p ∙ h in
    ap (found id) (to_same e x l p) ∙ found_here id (plus x e) l q ∙ ap (λ (y : Option Entry). Some (onto y e)) (sym (found_here id x l q)))
    (λ p.
    ap (found id) (to_before e x l p) ∙ found_here id e (x ∷ l) h
    ∙ ap (λ (y : Option Entry). Some (onto y e)) (sym (found-past id x l (λ z. omega arith) ∙ found_above id (suc x.id) l (omega arith) b)))

found-other : (id : ℕ) (e : Entry) (l : List Entry) → (e.id ≡ id → ⊥) → found id (added e l) ≡ found id l
found-other id e [] h = ap (found id) (to_none e) ∙ found-past id e [] h
found-other id e (x ∷ l) h = tri x.id e.id
    (λ p. ap (found id) (to_past e x l p) ∙ same_or x.id id
    (λ q. found_here id x (added e l) q ∙ sym (found_here id x l q))
    (λ q. found-past id x (added e l) q ∙ found-other id e l h ∙ sym (found-past id x l q)))
    (λ p. ap (found id) (to_same e x l p) ∙ found-past id (plus x e) l (λ z. h (sym p ∙ z)) ∙ sym (found-past id x l (λ z. h (sym p ∙ z))))
    (λ p. ap (found id) (to_before e x l p) ∙ found-past id e (x ∷ l) h)

-- ---- the pointers of one file
module _ (id : ℕ) (p : BlobIndirection) (ps : List BlobIndirection) where
  pub of_own : p.handle.file ≡ id → of_file id (p ∷ ps) ≡ p ∷ of_file id ps
  unfolding of_file pick
  of_own h = rw (eq-eqb p.handle.file id h)

  pub of_other : (p.handle.file ≡ id → ⊥) → of_file id (p ∷ ps) ≡ of_file id ps
  unfolding of_file pick
  of_other h = rw (ne_eqb p.handle.file id h)

pub of_none : (id : ℕ) → of_file id [] ≡ []
unfolding of_file
of_none id = refl

pub of_append : (id : ℕ) (ps qs : List BlobIndirection) → of_file id (ps ++ qs) ≡ of_file id ps ++ of_file id qs
of_append id [] qs = ap (λ (t : List BlobIndirection). t ++ of_file id qs) (sym (of_none id))
of_append id (p ∷ ps) qs = same_or p.handle.file id
    (λ h. of_own id p (ps ++ qs) h ∙ ap (λ (t : List BlobIndirection). p ∷ t) (of_append id ps qs) ∙ ap (λ (t : List BlobIndirection). t ++ of_file id qs) (sym (of_own id p ps h)))
    (λ h. of_other id p (ps ++ qs) h ∙ of_append id ps qs ∙ ap (λ (t : List BlobIndirection). t ++ of_file id qs) (sym (of_other id p ps h)))

-- ---- one pointer more
entry-is : {a a' b b' x x' y y' : ℕ} → a ≡ a' → b ≡ b' → x ≡ x' → y ≡ y' → ◌≡◌ {A = Entry} (record { id = a; frames = b; stated = x; disk = y }) (record { id = a'; frames = b'; stated = x'; disk = y' })
entry-is a b x y = cc

one_more_lem : (id : ℕ) (p : BlobIndirection) (qs : List BlobIndirection) → p.handle.file ≡ id → Some (onto (tally id qs) (one p)) ≡ tally id (p ∷ qs)
unfolding stated_in disk_in
one_more_lem id p [] h = ap Some (entry-is h refl (omega arith) (omega arith))
one_more_lem id p (q ∷ qs) h = ap Some (entry-is refl (omega arith) (add_comm (q.stated + stated_in qs) p.stated) (add_comm (q.handle.size + disk_in qs) p.handle.size))

none_ascending : ascending_from 0 [] ≡ true
unfolding ascending_from
none_ascending = refl

pub tallied : (id : ℕ) (ps : List BlobIndirection) → found id (added_all (ones ps) []) ≡ tally id (of_file id ps)
tallied id [] = ap (found id) (all_none []) ∙ found_in_none id ∙ ap (tally id) (sym (of_none id))
tallied id (p ∷ ps) =
    let l : List Entry = added_all (ones ps) [] in
    ap (found id) (all_cons (one p) (ones ps) [] ∙ all_one (ones ps) (one p) [])
    ∙ same_or p.handle.file id
    (λ h.
    found-own id 0 (one p) l h (order-all (ones ps) [] none_ascending)
    ∙ ap (λ (x : Option Entry). Some (onto x (one p))) (tallied id ps)
    ∙ one_more_lem id p (of_file id ps) h
    ∙ ap (tally id) (sym (of_own id p ps h)))
    (λ h. found-other id (one p) l h ∙ tallied id ps ∙ ap (tally id) (sym (of_other id p ps h)))

-- ---- in any order the same
pub permuted : {ps qs : List BlobIndirection} → Permᴰ ps qs → (l : List Entry) → added_all (ones ps) l ≡ added_all (ones qs) l
unfolding added_all
permuted Permᴰ.nil l = refl
permuted (Permᴰ.cons {a = g} {b = h} {l₂ = hs} e d) l = permuted d (added (one g) l) ∙ ap (λ (z : BlobIndirection). added_all (ones hs) (added (one z) l)) e
permuted (Permᴰ.swap {a = a} {b = b} {l = gs} p q) l =
    ap (added_all (ones gs)) (swapped (one b) (one a) l ∙ ap₂ (λ (u v : BlobIndirection). added (one u) (added (one v) l)) p q)
permuted (Permᴰ.trans d e) l = permuted d l ∙ permuted e l

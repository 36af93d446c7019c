-- An entry added to a list of entries: where it goes, at the place that a search finds, and that the ids stay in order.
use Prim.Native.Nat.{ℕ, suc, ◌≤◌, ◌<◌}
use mathlib.Core.Path.{◌≡◌, refl, ap}
use mathlib.Core.List.{List, [], ◌∷◌, map}
use mathlib.Core.Bool.{Bool, true, false, ◌&&◌}
use native.Mathlib.Omega.{arith}
use lib.ListN.{length, get_or, set}
use lib.Dec.{ltb, leb, eqb}
use borrow.Author.Tests.{lt-ltb, le-ltb, le-leb, eq-eqb, ne_eqb}
use Rattle.numbers.specs.Pick.{pick}
use Rattle.garbage.specs.Entries.{Entry, joined, ascending_from}
use Rattle.garbage.specs.Columns.{one_more, place_in}
use Rattle.garbage.proofs.Bools.{and_l, and_r, both, tri}
use Rattle.garbage.proofs.Insert.{put}

-- ---- the three cases, and none
module _ (f : Entry → Entry → Entry) (e x : Entry) (l : List Entry) where
  pub add-past : x.id < e.id → joined f e (x ∷ l) ≡ x ∷ joined f e l
  unfolding joined pick
  add-past h = rw (lt-ltb x.id e.id h)

  pub add_same : x.id ≡ e.id → joined f e (x ∷ l) ≡ f x e ∷ l
  unfolding joined pick
  add_same h = rw (le-ltb x.id e.id (omega arith), eq-eqb x.id e.id h)

  pub add-before : e.id < x.id → joined f e (x ∷ l) ≡ e ∷ x ∷ l
  unfolding joined pick
  add-before h = rw (le-ltb x.id e.id (omega arith), ne_eqb x.id e.id (λ q. omega arith))

pub add_none : (f : Entry → Entry → Entry) (e : Entry) → joined f e [] ≡ e ∷ []
unfolding joined
add_none f e = refl

-- ---- at the place that a search finds
abbrev pub no_entry : Entry
no_entry = record { id = 0; frames = 0; stated = 0; disk = 0 }

abbrev pub ids_of : List Entry → List ℕ
ids_of l = map (λ (e : Entry). e.id) l

abbrev pub place_of : ℕ → List Entry → ℕ
place_of id l = place_in id (ids_of l)

pub place-le : (id : ℕ) (l : List Entry) → place_of id l ≤ length l
unfolding place_in
place-le id [] = omega arith
place-le id (e ∷ l) = go (ltb e.id id) (place-le id l)
  where
    go : (b : Bool) → place_of id l ≤ length l → one_more b (place_of id l) ≤ suc (length l)
    go true h = omega arith
    go false h = omega arith

-- the id is there
pub add-found : (f : Entry → Entry → Entry) (e : Entry) (l : List Entry) → place_of e.id l < length l → (get_or l (place_of e.id l) no_entry).id ≡ e.id
    → joined f e l ≡ set l (place_of e.id l) (f (get_or l (place_of e.id l) no_entry) e)
unfolding place_in joined pick
add-found f e [] h q = absurd (omega arith)
add-found f e (x ∷ l) h q = go (ltb x.id e.id) h q (add-found f e l)
  where
    go : (b : Bool) → one_more b (place_of e.id l) < suc (length l) → (get_or (x ∷ l) (one_more b (place_of e.id l)) no_entry).id ≡ e.id
        → (place_of e.id l < length l → (get_or l (place_of e.id l) no_entry).id ≡ e.id → joined f e l ≡ set l (place_of e.id l) (f (get_or l (place_of e.id l) no_entry) e))
        → pick b (x ∷ joined f e l) (pick (eqb x.id e.id) (f x e ∷ l) (e ∷ x ∷ l)) ≡ set (x ∷ l) (one_more b (place_of e.id l)) (f (get_or (x ∷ l) (one_more b (place_of e.id l)) no_entry) e)
    go true h q ih = ap (λ (t : List Entry). x ∷ t) (ih (omega arith) q)
    go false h q ih = rw (eq-eqb x.id e.id q)

-- the id is not there
pub add_fresh : (f : Entry → Entry → Entry) (e : Entry) (l : List Entry) → (place_of e.id l < length l → (get_or l (place_of e.id l) no_entry).id ≡ e.id → ⊥)
    → joined f e l ≡ put l (place_of e.id l) e
unfolding place_in joined pick
add_fresh f e [] h = refl
add_fresh f e (x ∷ l) h = go (ltb x.id e.id) h (add_fresh f e l)
  where
    go : (b : Bool) → (one_more b (place_of e.id l) < suc (length l) → (get_or (x ∷ l) (one_more b (place_of e.id l)) no_entry).id ≡ e.id → ⊥)
        → ((place_of e.id l < length l → (get_or l (place_of e.id l) no_entry).id ≡ e.id → ⊥) → joined f e l ≡ put l (place_of e.id l) e)
        → pick b (x ∷ joined f e l) (pick (eqb x.id e.id) (f x e ∷ l) (e ∷ x ∷ l)) ≡ put (x ∷ l) (one_more b (place_of e.id l)) e
    go true h ih = ap (λ (t : List Entry). x ∷ t) (ih (λ p. h (omega arith)))
    go false h ih = rw (ne_eqb x.id e.id (h (omega arith)))

-- ---- the ids stay in order
pub add_ascending : (f : Entry → Entry → Entry) → ((x e : Entry) → x.id ≡ e.id → (f x e).id ≡ x.id) → (lo : ℕ) (e : Entry) (l : List Entry) → lo ≤ e.id → ascending_from lo l ≡ true → ascending_from lo (joined f e l) ≡ true
unfolding ascending_from joined pick
add_ascending f k lo e [] h t = both (leb lo e.id) true (le-leb lo e.id h) refl
add_ascending f k lo e (x ∷ l) h t =
    let a = and_l (leb lo x.id) (ascending_from (suc x.id) l) t in
    let b = and_r (leb lo x.id) (ascending_from (suc x.id) l) t in
    tri x.id e.id
    (λ p. rw (lt-ltb x.id e.id p) (both (leb lo x.id) (ascending_from (suc x.id) (joined f e l)) a (add_ascending f k (suc x.id) e l p b)))
    (λ p. rw (le-ltb x.id e.id (omega arith), eq-eqb x.id e.id p, k x e p) t)
    (λ p. rw (le-ltb x.id e.id (omega arith), ne_eqb x.id e.id (λ q. omega arith))
    (both (leb lo e.id) (leb (suc e.id) x.id && ascending_from (suc x.id) l) (le-leb lo e.id h) (both (leb (suc e.id) x.id) (ascending_from (suc x.id) l) (le-leb (suc e.id) x.id p) b)))

-- ---- it is as long, or one longer
pub add_longer : (f : Entry → Entry → Entry) (e : Entry) (l : List Entry) → (length l ≤ length (joined f e l)) × (length (joined f e l) ≤ suc (length l))
unfolding joined pick
add_longer f e [] = (omega arith, omega arith)
add_longer f e (x ∷ l) = go (ltb x.id e.id) (eqb x.id e.id) (add_longer f e l)
  where
    go : (b b' : Bool) → (length l ≤ length (joined f e l)) × (length (joined f e l) ≤ suc (length l))
        → (suc (length l) ≤ length (pick b (x ∷ joined f e l) (pick b' (f x e ∷ l) (e ∷ x ∷ l)))) × (length (pick b (x ∷ joined f e l) (pick b' (f x e ∷ l) (e ∷ x ∷ l))) ≤ suc (suc (length l)))
    go true b' h = (omega (arith, h.0), omega (arith, h.1))
    go false true h = (omega arith, omega arith)
    go false false h = (omega arith, omega arith)

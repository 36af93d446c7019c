-- Lists merged least front first: sorted lists give a sorted list, and the entries are those of the lists.
use Prim.Native.Nat.{ℕ, zero, suc, ◌+◌, ◌<◌}
use mathlib.Core.Path.{◌≡◌, refl, sym, ap, subst, ◌∙◌}
use mathlib.Core.List.{List, [], ◌∷◌}
use mathlib.Core.Bool.{Bool, true, false}
use native.Mathlib.Omega.{arith}
use borrow.Author.Tests.{eq-eqb, ne_eqb, eqb-true, eqb-false}
use lib.Dec.{eqb}
use lib.ListN.{length, get_or, set}
use lib.Seq.{get_or-set_same, get_or-set_other}
use Rattle.numbers.specs.Pick.{pick}
use Rattle.merge.specs.declared.heads.MergeEntry.{MergeEntry}
use Rattle.merge.specs.Sorted.{Leq, All, Sorted}
use Rattle.merge.specs.SortedLaws.{leq_trans}
use Rattle.merge.specs.Theorems.{from_part}

-- lists taken from their fronts, the least front each time, until all are empty
pub data Merges (image : List ℕ) : List (List MergeEntry) → List MergeEntry → Type 0 where
  done : {ls : List (List MergeEntry)} → ((j : ℕ) → get_or ls j [] ≡ []) → Merges image ls []
  next : {ls : List (List MergeEntry)} {out : List MergeEntry} {x : MergeEntry} {l : List MergeEntry} (k : ℕ) → get_or ls k [] ≡ x ∷ l
      → ((j : ℕ) (y : MergeEntry) (r : List MergeEntry) → get_or ls j [] ≡ y ∷ r → Leq image x y)
      → Merges image (set ls k l) out → Merges image ls (x ∷ out)

lists_set : (Q : List MergeEntry → Type 0) (ls : List (List MergeEntry)) (k : ℕ) (l : List MergeEntry) → Q l → ((j : ℕ) → Q (get_or ls j [])) → (j : ℕ) → Q (get_or (set ls k l) j [])
lists_set Q [] k l a u j = u j
lists_set Q (h ∷ ls) zero l a u zero = a
lists_set Q (h ∷ ls) zero l a u (suc j) = u (suc j)
lists_set Q (h ∷ ls) (suc k) l a u zero = u zero
lists_set Q (h ∷ ls) (suc k) l a u (suc j) = lists_set Q ls k l a (λ i. u (suc i)) j

merged-all : (P : MergeEntry → Type 0) {image : List ℕ} {ls : List (List MergeEntry)} {out : List MergeEntry} → Merges image ls out → ((j : ℕ) → All P (get_or ls j [])) → All P out
merged-all P (done e) u = tt
merged-all P {image} {ls} (next {l = l} k g least r) u =
    let a = subst (All P) g (u k) in
    (a.0, merged-all P r (lists_set (All P) ls k l a.1 u))

all_map : (image : List ℕ) (x y : MergeEntry) (l : List MergeEntry) → Leq image x y → All (Leq image y) l → All (Leq image x) l
all_map image x y [] h a = tt
all_map image x y (z ∷ l) h a = (leq_trans h a.0, all_map image x y l h a.1)

front : (image : List ℕ) (x : MergeEntry) (l : List MergeEntry) → Sorted image l → ((y : MergeEntry) (r : List MergeEntry) → l ≡ y ∷ r → Leq image x y) → All (Leq image x) l
unfolding Sorted
front image x [] s f = tt
front image x (y ∷ r) s f = (f y r refl, all_map image x y r (f y r refl) s.0)

pub merged_sorted : {image : List ℕ} {ls : List (List MergeEntry)} {out : List MergeEntry} → Merges image ls out → ((j : ℕ) → Sorted image (get_or ls j [])) → Sorted image out
unfolding Sorted
merged_sorted (done e) s = tt
merged_sorted {image} {ls} (next {x = x} {l = l} k g least r) s =
    let t = subst (Sorted image) g (s k) in (
      merged-all (Leq image x) r (lists_set (All (Leq image x)) ls k l t.0 (λ j. front image x (get_or ls j []) (s j) (least j))),
      merged_sorted r (lists_set (Sorted image) ls k l t.1 s),
    )

here_of : (j : ℕ) (x : MergeEntry) (l : List MergeEntry) → x.part ≡ j → from_part j (x ∷ l) ≡ x ∷ from_part j l
unfolding from_part pick
here_of j x l e = rw (eq-eqb _ _ e)

other_of : (j : ℕ) (x : MergeEntry) (l : List MergeEntry) → (x.part ≡ j → ⊥) → from_part j (x ∷ l) ≡ from_part j l
unfolding from_part pick
other_of j x l e = rw (ne_eqb _ _ e)

in_lists : (ls : List (List MergeEntry)) (k : ℕ) (x : MergeEntry) (l : List MergeEntry) → get_or ls k [] ≡ x ∷ l → k < length ls
in_lists [] k x l e = let c : ◌≡◌ {A = ℕ} 0 1 = cc in absurd (omega arith)
in_lists (h ∷ ls) zero x l e = omega arith
in_lists (h ∷ ls) (suc k) x l e = let q = in_lists ls k x l e in omega arith

exact-at : (j k : ℕ) (ls : List (List MergeEntry)) (x : MergeEntry) (l out : List MergeEntry) → get_or ls k [] ≡ x ∷ l → x.part ≡ k → from_part j out ≡ get_or (set ls k l) j [] → (b : Bool) → eqb k j ≡ b → from_part j (x ∷ out) ≡ get_or ls j []
exact-at j k ls x l out g n h true q =
    let e : k ≡ j = eqb-true _ _ q in
    here_of j x out (n ∙ e) ∙ ap (λ (r : List MergeEntry). x ∷ r) (h ∙ subst (λ (i : ℕ). get_or (set ls k l) i [] ≡ l) e (get_or-set_same ls k l [] (in_lists ls k x l g))) ∙ sym g ∙ ap (λ (i : ℕ). get_or ls i []) e
exact-at j k ls x l out g n h false q =
    let e = eqb-false k j q in
    other_of j x out (λ (p : x.part ≡ j). e (sym n ∙ p)) ∙ h ∙ get_or-set_other ls k j l [] (λ (p : j ≡ k). e (sym p))

abbrev pub Numbered : ℕ → List MergeEntry → Type 0
Numbered j l = All (λ (x : MergeEntry). x.part ≡ j) l

numbered_set : (ls : List (List MergeEntry)) (k : ℕ) (x : MergeEntry) (l : List MergeEntry) → get_or ls k [] ≡ x ∷ l → ((j : ℕ) → Numbered j (get_or ls j [])) → (j : ℕ) → (b : Bool) → eqb j k ≡ b → Numbered j (get_or (set ls k l) j [])
numbered_set ls k x l g u j true q =
    let e : j ≡ k = eqb-true _ _ q in
    let a = subst (Numbered k) g (u k) in
    subst (λ (i : ℕ). Numbered i (get_or (set ls k l) i [])) (sym e) (subst (Numbered k) (sym (get_or-set_same ls k l [] (in_lists ls k x l g))) a.1)
numbered_set ls k x l g u j false q = subst (Numbered j) (sym (get_or-set_other ls k j l [] (eqb-false j k q))) (u j)

pub exact : {image : List ℕ} {ls : List (List MergeEntry)} {out : List MergeEntry} → Merges image ls out → ((j : ℕ) → Numbered j (get_or ls j [])) → (j : ℕ) → from_part j out ≡ get_or ls j []
unfolding from_part
exact (done e) u j = sym (e j)
exact {image} {ls} (next {out} {x} {l} k g least r) u j =
    let a = subst (Numbered k) g (u k) in
    exact-at j k ls x l out g a.0 (exact r (λ i. numbered_set ls k x l g u i _ refl) j) _ refl

unfoldable pub total : List (List MergeEntry) → ℕ
total [] = 0
total (l ∷ ls) = length l + total ls

pub total-less : (ls : List (List MergeEntry)) (k : ℕ) (x : MergeEntry) (l : List MergeEntry) → get_or ls k [] ≡ x ∷ l → total (set ls k l) < total ls
unfolding total
total-less [] k x l e = let c : ◌≡◌ {A = ℕ} 0 1 = cc in absurd (omega arith)
total-less (h ∷ ls) zero x l e = let q : length h ≡ suc (length l) = ap length e in omega arith
total-less (h ∷ ls) (suc k) x l e = let q = total-less ls k x l e in omega arith

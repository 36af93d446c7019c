-- Arrangements of maps agree with arrangements of lists of entries; there the order and the grouping make no difference.
use Prim.Native.Nat.{ℕ, ◌≤◌}
use mathlib.Core.Path.{◌≡◌, refl, sym, ◌∙◌, ap, ap₂, subst}
use mathlib.Core.List.{List, [], ◌∷◌, ◌++◌, map-append, append-nil}
use mathlib.Core.Bool.{true}
use native.Mathlib.Omega.{arith}
use lib.ListN.{length}
use lib.Dec.{leb}
use borrow.Author.Tests.{le-leb}
use Rattle.numbers.specs.Pick.{pick}
use Rattle.numbers.specs.Handle.{indirection_bytes, indirection_of}
use Rattle.numbers.specs.RoundTripLaws.{indirection_back}
use Rattle.numbers.specs.declared.handle.BlobIndirection.{BlobIndirection}
use Rattle.numbers.specs.Reading.{got}
use Rattle.garbage.specs.declared.map.FragmentationMap.{FragmentationMap}
use Rattle.std.specs.Prelude.{Ok, Err}
use Rattle.garbage.specs.declared.map.CountRefusal.TheVariants.{MapFull, SumTooBig}
use Rattle.garbage.specs.Entries.{Entry, added, added_all, ascending_from, all_fit, judged, Outcome}
use Rattle.garbage.specs.Maps.{columns_of, entries_of, holding, well_formed, empty_map, rows}
use Rattle.garbage.specs.Drops.{one, answered}
use Rattle.garbage.specs.Records.{read, record_of}
use Rattle.garbage.specs.Merges.{merge_answered, merged_of}
use Rattle.garbage.specs.Batch.{afterwards, in_turn}
use Rattle.garbage.specs.Tallies.{Typed, AllTyped}
use Rattle.garbage.specs.declared.merged.Merged.{Merged}
use Rattle.garbage.specs.declared.record.RecordDropped.{RecordDropped}
use Rattle.garbage.specs.Arrangements.{Ran, ran, refused, onward, by_answer, dropping, drop_each, merging, Arrangement, leaf, node, arranged, pointers_of}
use Rattle.garbage.proofs.Bools.{both}
use Rattle.garbage.proofs.Fits.{made-is, judged-made, none-fit}
use Rattle.garbage.proofs.Sound.{well_ascending}
use Rattle.garbage.proofs.Holding.{rows_with}
use Rattle.garbage.proofs.Turning.{add_in_order}
use Rattle.garbage.proofs.Summing.{all_none, all_append, all_swap, all-all, fit_all, long-all, order-all, turns_judged, turns_made}
use Rattle.garbage.proofs.Tallying.{ones}

-- ---- a map that holds a list, and outcomes that agree
pub record Holds (m : FragmentationMap) (l : List Entry) : Type 0 where
  pub entries : entries_of m ≡ l
  pub well : well_formed m ≡ true

pub data Agrees : Outcome → Ran → Type 0 where
  agree-made : {l : List Entry} {m : FragmentationMap} → Holds m l → Agrees (Ok l) (ran m)
  agree_big : Agrees (Err SumTooBig) refused
  agree_full : Agrees (Err MapFull) refused

in_order : (m : FragmentationMap) (l : List Entry) → Holds m l → ascending_from 0 l ≡ true
in_order m l h = ap (ascending_from 0) (sym h.entries) ∙ well_ascending m h.well

pub held : (m : FragmentationMap) (l : List Entry) → length l ≤ 64 → ascending_from 0 l ≡ true → Holds (holding m l) l
held m l k t = record {
  entries = rows_with (columns_of m) l;
  well = both (leb (length l) 64) (ascending_from 0 (entries_of (holding m l))) (le-leb (length l) 64 k) (ap (ascending_from 0) (rows_with (columns_of m) l) ∙ t);
}

pub none_ascending : ascending_from 0 [] ≡ true
unfolding ascending_from
none_ascending = refl

pub empty_holds : Holds empty_map []
unfolding rows ascending_from
empty_holds = record { entries = refl; well = refl }

-- ---- a drop
abbrev by_outcome : FragmentationMap → Outcome → Ran
by_outcome m (Ok l) = ran (holding m l)
by_outcome m (Err SumTooBig) = refused
by_outcome m (Err MapFull) = refused

pub spelled : (p : BlobIndirection) → Typed p → indirection_of 0 (indirection_bytes p) ≡ got p (length (indirection_bytes p))
spelled p t = indirection_back p 0 (indirection_bytes p) [] t.0 t.1 t.2 t.3 (sym (append-nil (indirection_bytes p)))

module _ (m : FragmentationMap) (l : List Entry) (h : Holds m l) (p : BlobIndirection) (t : Typed p) where
  record_is : record_of m true (indirection_bytes p) ≡ read (answered m (judged (added (one p) l)))
  unfolding pick
  record_is = rw (h.well, spelled p t, h.well, h.entries)

  drop-is : dropping p m ≡ by_outcome m (judged (added (one p) l))
  drop-is = ap (λ (d : RecordDropped). by_answer d.answer d.map) record_is ∙ go (judged (added (one p) l))
    where
      go : (o : Outcome) → by_answer (read (answered m o)).answer (read (answered m o)).map ≡ by_outcome m o
      go (Ok x) = refl
      go (Err SumTooBig) = refl
      go (Err MapFull) = refl

pub each : (ps : List BlobIndirection) (m : FragmentationMap) (l : List Entry) → Holds m l → AllTyped ps → Agrees (in_turn (ones ps) l) (drop_each ps m)
unfolding in_turn drop_each
each [] m l h t = agree-made h
each (p ∷ ps) m l h t =
    subst (λ (x : Ran). Agrees (afterwards (judged (added (one p) l)) (in_turn (ones ps))) (onward x (drop_each ps))) (sym (drop-is m l h p t.0))
    (go (judged (added (one p) l)) (made-is (added (one p) l)) (λ x k. each ps (holding m x) x k t.1))
  where
    go : (o : Outcome) → ((x : List Entry) → o ≡ Ok x → (x ≡ added (one p) l) × (all_fit (added (one p) l) ≡ true) × (length (added (one p) l) ≤ 64))
        → ((x : List Entry) → Holds (holding m x) x → Agrees (in_turn (ones ps) x) (drop_each ps (holding m x)))
        → Agrees (afterwards o (in_turn (ones ps))) (onward (by_outcome m o) (drop_each ps))
    go (Ok x) f ih =
        let k = f x refl in
        ih x (held m x (omega (arith, k.2, ap length k.0)) (ap (ascending_from 0) k.0 ∙ add_in_order (one p) l (in_order m l h)))
    go (Err SumTooBig) f ih = agree_big
    go (Err MapFull) f ih = agree_full

-- ---- a merge
module _ (s t : FragmentationMap) (a b : List Entry) (hs : Holds s a) (ht : Holds t b) where
  merge_said : merged_of s t ≡ merge_answered s t (judged (added_all a b))
  unfolding pick
  merge_said = rw (hs.well, ht.well, hs.entries, ht.entries)

  merge_is : merging s t ≡ by_outcome t (judged (added_all a b))
  merge_is = ap (λ (d : Merged). by_answer d.answer d.target) merge_said ∙ go (judged (added_all a b))
    where
      go : (o : Outcome) → by_answer (merge_answered s t o).answer (merge_answered s t o).target ≡ by_outcome t o
      go (Ok x) = refl
      go (Err SumTooBig) = refl
      go (Err MapFull) = refl

  merged : Agrees (judged (added_all a b)) (merging s t)
  merged = subst (Agrees (judged (added_all a b))) (sym merge_is) (go (judged (added_all a b)) (made-is (added_all a b)))
    where
      go : (o : Outcome) → ((x : List Entry) → o ≡ Ok x → (x ≡ added_all a b) × (all_fit (added_all a b) ≡ true) × (length (added_all a b) ≤ 64)) → Agrees o (by_outcome t o)
      go (Ok x) f = let k = f x refl in agree-made (held t x (omega (arith, k.2, ap length k.0)) (ap (ascending_from 0) k.0 ∙ order-all a b (in_order t b ht)))
      go (Err SumTooBig) f = agree_big
      go (Err MapFull) f = agree_full

-- ---- arrangements of lists
unfoldable pub outcome : Arrangement → Outcome
unfolding in_turn judged added_all
outcome (leaf ps) = in_turn (ones ps) []
outcome (node a b) = afterwards (outcome a) (λ t. afterwards (outcome b) (λ s. judged (added_all s t)))

typed-left : (ps qs : List BlobIndirection) → AllTyped (ps ++ qs) → AllTyped ps
typed-left [] qs t = tt
typed-left (p ∷ ps) qs t = (t.0, typed-left ps qs t.1)

typed-right : (ps qs : List BlobIndirection) → AllTyped (ps ++ qs) → AllTyped qs
typed-right [] qs t = t
typed-right (p ∷ ps) qs t = typed-right ps qs t.1

node-agrees : (o q : Outcome) (x y : Ran) → Agrees o x → Agrees q y → Agrees (afterwards o (λ t. afterwards q (λ s. judged (added_all s t)))) (onward x (λ t. onward y (λ s. merging s t)))
node-agrees (Ok l) (Ok k) (ran m) (ran n) (agree-made h) (agree-made j) = merged n m k l j h
node-agrees (Ok l) q (ran m) y (agree-made h) agree_big = agree_big
node-agrees (Ok l) q (ran m) y (agree-made h) agree_full = agree_full
node-agrees o q x y agree_big k = agree_big
node-agrees o q x y agree_full k = agree_full

pub agrees : (a : Arrangement) → AllTyped (pointers_of a) → Agrees (outcome a) (arranged a)
unfolding outcome arranged pointers_of
agrees (leaf ps) t = each ps empty_map [] empty_holds t
agrees (node a b) t = node-agrees (outcome a) (outcome b) (arranged a) (arranged b) (agrees a (typed-left (pointers_of a) (pointers_of b) t)) (agrees b (typed-right (pointers_of a) (pointers_of b) t))

-- ---- the sum of an arrangement is that of its pointers
abbrev pub sum : Arrangement → List Entry
sum (leaf ps) = added_all (ones ps) []
sum (node a b) = added_all (sum b) (sum a)

pub sum_is : (a : Arrangement) → sum a ≡ added_all (ones (pointers_of a)) []
unfolding pointers_of
sum_is (leaf ps) = refl
sum_is (node a b) =
    ap₂ added_all (sum_is b) (sum_is a)
    ∙ all-all (ones (pointers_of b)) [] (added_all (ones (pointers_of a)) [])
    ∙ ap (added_all (ones (pointers_of b))) (all_none (added_all (ones (pointers_of a)) []))
    ∙ sym (all_append (ones (pointers_of a)) (ones (pointers_of b)) [])
    ∙ ap (λ (t : List Entry). added_all t []) (sym (map-append one (pointers_of a) (pointers_of b)))

sum_swap : (a b : Arrangement) → added_all (sum b) (sum a) ≡ added_all (sum a) (sum b)
unfolding pointers_of
sum_swap a b =
    sum_is (node a b) ∙ ap (λ (t : List Entry). added_all t []) (map-append one (pointers_of a) (pointers_of b)) ∙ all_append (ones (pointers_of a)) (ones (pointers_of b)) []
    ∙ all_swap (ones (pointers_of b)) (ones (pointers_of a)) []
    ∙ sym (sum_is (node b a) ∙ ap (λ (t : List Entry). added_all t []) (map-append one (pointers_of b) (pointers_of a)) ∙ all_append (ones (pointers_of b)) (ones (pointers_of a)) [])

-- ---- made exactly where the sum fits
pub out_yes : (a : Arrangement) → all_fit (sum a) ≡ true → length (sum a) ≤ 64 → outcome a ≡ Ok (sum a)
unfolding outcome
out_yes (leaf ps) f k = turns_judged (ones ps) [] f (omega arith) ∙ judged-made (added_all (ones ps) []) f k
out_yes (node a b) f k =
    let s : added_all (sum b) (sum a) ≡ added_all (sum a) (sum b) = sum_swap a b in
    let fb : all_fit (sum b) ≡ true = fit_all (sum a) (sum b) (ap all_fit (sym s) ∙ f) in
    let x : outcome a ≡ Ok (sum a) = out_yes a (fit_all (sum b) (sum a) f) (omega (arith, long-all (sum b) (sum a))) in
    let y : outcome b ≡ Ok (sum b) = out_yes b fb (omega (arith, long-all (sum a) (sum b), ap length s)) in
    ap₂ (λ (o p : Outcome). afterwards o (λ t. afterwards p (λ u. judged (added_all u t)))) x y ∙ judged-made (added_all (sum b) (sum a)) f k

pub out-made : (a : Arrangement) (r : List Entry) → outcome a ≡ Ok r → (r ≡ sum a) × (all_fit (sum a) ≡ true) × (length (sum a) ≤ 64)
unfolding outcome
out-made (leaf ps) r h = turns_made (ones ps) [] r none_ascending none-fit (omega arith) h
out-made (node a b) r h = go (outcome a) (outcome b) (out-made a) (out-made b) h
  where
    go : (o p : Outcome)
        → ((t : List Entry) → o ≡ Ok t → (t ≡ sum a) × (all_fit (sum a) ≡ true) × (length (sum a) ≤ 64))
        → ((t : List Entry) → p ≡ Ok t → (t ≡ sum b) × (all_fit (sum b) ≡ true) × (length (sum b) ≤ 64))
        → afterwards o (λ t. afterwards p (λ u. judged (added_all u t))) ≡ Ok r
        → (r ≡ added_all (sum b) (sum a)) × (all_fit (added_all (sum b) (sum a)) ≡ true) × (length (added_all (sum b) (sum a)) ≤ 64)
    go (Ok x) (Ok y) ia ib q =
        made-is (added_all (sum b) (sum a)) r (ap₂ (λ (u v : List Entry). judged (added_all v u)) (sym (ia x refl).0) (sym (ib y refl).0) ∙ q)
    go (Ok x) (Err SumTooBig) ia ib q = absurd (let z : ◌≡◌ {A = ℕ} 0 1 = cc in omega arith)
    go (Ok x) (Err MapFull) ia ib q = absurd (let z : ◌≡◌ {A = ℕ} 0 1 = cc in omega arith)
    go (Err SumTooBig) p ia ib q = absurd (let z : ◌≡◌ {A = ℕ} 0 1 = cc in omega arith)
    go (Err MapFull) p ia ib q = absurd (let z : ◌≡◌ {A = ℕ} 0 1 = cc in omega arith)

-- ---- from one side of an agreement to the other
pub record Made (o : Outcome) (m : FragmentationMap) : Type 0 where
  pub list : List Entry
  pub is : o ≡ Ok list
  pub holds : Holds m list

pub made_of : (o : Outcome) (x : Ran) (m : FragmentationMap) → Agrees o x → x ≡ ran m → Made o m
made_of (Ok l) (ran n) m (agree-made h) e = record { list = l; is = refl; holds = subst (λ (k : FragmentationMap). Holds k l) (let z : n ≡ m = cc in z) h }
made_of o x m agree_big e = absurd (let z : ◌≡◌ {A = ℕ} 0 1 = cc in omega arith)
made_of o x m agree_full e = absurd (let z : ◌≡◌ {A = ℕ} 0 1 = cc in omega arith)

pub record Got (x : Ran) (l : List Entry) : Type 0 where
  pub map : FragmentationMap
  pub is : x ≡ ran map
  pub holds : Holds map l

pub got_of : (o : Outcome) (x : Ran) (l : List Entry) → Agrees o x → o ≡ Ok l → Got x l
got_of (Ok k) (ran n) l (agree-made h) e = record { map = n; is = refl; holds = subst (Holds n) (let z : k ≡ l = cc in z) h }
got_of o x l agree_big e = absurd (let z : ◌≡◌ {A = ℕ} 0 1 = cc in omega arith)
got_of o x l agree_full e = absurd (let z : ◌≡◌ {A = ℕ} 0 1 = cc in omega arith)

-- The merge's theorems: each call takes the least front, so a run merges the lists of the parts.
use Prim.Native.Nat.{ℕ, zero, suc, ◌+◌, ◌*◌, ◌<◌, ◌≤◌}
use mathlib.Core.Path.{◌≡◌, refl, sym, ap, ap₂, subst, ◌∙◌}
use mathlib.Core.List.{List, [], ◌∷◌}
use mathlib.Core.Bool.{Bool, true, false}
use native.Mathlib.Omega.{arith}
use native.Mathlib.Nat.{zero-add, add-zero, suc-mul, mul-le-mul_right}
use lib.ListN.{length, take, get_or, set}
use lib.Seq.{take-set-lt, get_or-take}
use Rattle.numbers.specs.declared.handle.ValueHandle.{ValueHandle}
use Rattle.merge.specs.declared.parts.Part.{Part}
use Rattle.merge.specs.declared.parts.MergeScanner.{MergeScanner}
use Rattle.merge.specs.declared.heads.MergeEntry.{MergeEntry}
use Rattle.std.specs.Prelude.{Option, Some, None, Ok, Err}
use Rattle.std.specs.declared.cmp.Ordering.{Ordering}
use Rattle.std.specs.declared.cmp.Ordering.TheVariants.{Less, Equal, Greater}
use Rattle.numbers.specs.Pick.{pick}
use Rattle.frames.specs.Scan.{Scanned}
use Rattle.frames.specs.declared.steps.Step.TheVariants as scanned
use Rattle.merge.specs.declared.drain.Outcome.TheVariants as outcome
use Rattle.merge.specs.declared.refusals.MergeRefusal.TheVariants as merge
use Rattle.merge.specs.declared.refusals.DrainRefusal.TheVariants as refusal
use Rattle.merge.specs.declared.next.Merged.{Merged}
use Rattle.merge.specs.declared.drain.Drained.{Drained}
use Rattle.merge.specs.Parts.{inside, all_inside, table_ok, moved, no_part, start_of, taken_of}
use Rattle.merge.specs.PartsLaws.{in_both, ok-both, both}
use Rattle.merge.specs.declared.heads.Head.{Head}
use Rattle.merge.specs.Merge.{Answer, scan_at, Foremost, shown, head_of, first, foremost, front_of, settle, next_of}
use Rattle.merge.specs.MergeLaws.{next-ok, at_count, taken-ok, falls, given_by}
use Rattle.merge.specs.Rows.{listed, given}
use Rattle.merge.specs.RowsLaws.{given-none, bad_stays}
use Rattle.merge.specs.Drain.{Leaving, judged, stop_of, judged_by, drained_by, left_in, left, drain_in, drain_of}
use Rattle.merge.specs.DrainLaws.{enough, drain_bad}
use Rattle.merge.specs.Sorted.{Leq, Sorted}
use Rattle.merge.specs.Theorems.{Reads, ended, found, ReadsAll, empty, part, Gives, over, one, from_part, Started}
use Rattle.merge.specs.Theorems.{MergeEnds, MergeExact, MergeSorted, MergeBounded, DrainSame, DrainEnough, Theorems}
use Rattle.merge.proofs.Merges.{Merges, done, next, merged_sorted, Numbered, exact, total, total-less}
use Rattle.merge.proofs.Fronts.{Front, blank, taken, fronts}

-- the parts of a state read so
abbrev Holds : List ℕ → MergeScanner → List (List MergeEntry) → Type 0
Holds image m ls = ReadsAll image 0 (take m.count m.parts) ls

-- one call
data Turn (image : List ℕ) (m : MergeScanner) (ls : List (List MergeEntry)) : Type 0 where
  stops : (next_of m image).answer ≡ Ok None → ((j : ℕ) → get_or ls j [] ≡ []) → Turn image m ls
  gives : {x : MergeEntry} {l : List MergeEntry} (k : ℕ) → (next_of m image).answer ≡ Ok (Some x) → get_or ls k [] ≡ x ∷ l
      → ((j : ℕ) (y : MergeEntry) (r : List MergeEntry) → get_or ls j [] ≡ y ∷ r → Leq image x y)
      → table_ok (length image) (next_of m image).state ≡ true → Holds image (next_of m image).state (set ls k l) → Turn image m ls

moved-parts : (n : ℕ) (ps : List Part) (j k : ℕ) → j < n → set (take n ps) j (moved k (get_or (take n ps) j no_part)) ≡ take n (set ps j (moved k (get_or ps j no_part)))
moved-parts n ps j k h = ap (λ (q : Part). set (take n ps) j (moved k q)) (get_or-take n ps j no_part h) ∙ sym (take-set-lt n ps j (moved k (get_or ps j no_part)) h)

turn_by : (image : List ℕ) (m : MergeScanner) (ls : List (List MergeEntry)) → table_ok (length image) m ≡ true → (f : Foremost) → front_of image m ≡ f → next_of m image ≡ settle m f
    → Front image 0 (take m.count m.parts) ls f → Turn image m ls
unfolding settle taken_of
turn_by image m ls ok f e q (blank d) = stops (ap (λ (r : Merged). r.answer) q) d
turn_by image m ls ok f e q (taken {x} {l} j g n least t) =
    let k = x.next in
    let z : x.entry.part ≡ j = n ∙ zero-add j in
    let a = at_count m image x e in
    let b : j < m.count = omega arith in
    let s : (next_of m image).state ≡ taken_of m x.entry.part k = ap (λ (r : Merged). r.state) q in
    gives j (ap (λ (r : Merged). r.answer) q) g least
    (ap (table_ok (length image)) s ∙ taken-ok m image x e ok)
    (subst (λ (r : MergeScanner). Holds image r (set ls j l)) (sym s)
    (subst (λ (i : ℕ). ReadsAll image 0 (take m.count (set m.parts i (moved k (get_or m.parts i no_part)))) (set ls j l)) (sym z)
    (subst (λ (ps : List Part). ReadsAll image 0 ps (set ls j l)) (moved-parts m.count m.parts j k b) t)))

turn : (image : List ℕ) (m : MergeScanner) (ls : List (List MergeEntry)) → table_ok (length image) m ≡ true → Holds image m ls → Turn image m ls
turn image m ls ok h = turn_by image m ls ok _ refl (next-ok m image ok) (fronts h)

-- the whole run
record Whole (image : List ℕ) (m : MergeScanner) (ls : List (List MergeEntry)) : Type 0 where
  out : List MergeEntry
  runs : Gives image m out
  merges : Merges image ls out

run_by : (f : ℕ) (image : List ℕ) (m : MergeScanner) (ls : List (List MergeEntry)) → total ls < suc f
    → ((n : MergeScanner) (ks : List (List MergeEntry)) → total ks < f → table_ok (length image) n ≡ true → Holds image n ks → Whole image n ks)
    → Turn image m ls → Whole image m ls
run_by f image m ls t rest (stops e a) = record { out = []; runs = over e; merges = done a }
run_by f image m ls t rest (gives {x} {l} k e a u c r) =
    let b = total-less ls k x l a in
    let w = rest (next_of m image).state (set ls k l) (omega arith) c r in
    record { out = x ∷ w.out; runs = one e w.runs; merges = next k a u w.merges }

run : (f : ℕ) (image : List ℕ) (m : MergeScanner) (ls : List (List MergeEntry)) → total ls < f → table_ok (length image) m ≡ true → Holds image m ls → Whole image m ls
run zero image m ls t g h = absurd (omega arith)
run (suc f) image m ls t g h = run_by f image m ls t (run f image) (turn image m ls g h)

whole : (image : List ℕ) (count : ℕ) (parts : List Part) (ls : List (List MergeEntry)) → Started image count parts ls → Whole image (start_of count parts) ls
unfolding start_of
whole image count parts ls s = run (suc (total ls)) image (start_of count parts) ls (omega arith) s.ok s.reads

-- two runs of one state are the same
pub gives_one : {image : List ℕ} {m : MergeScanner} {a b : List MergeEntry} → Gives image m a → Gives image m b → a ≡ b
gives_one (over e) (over f) = refl
gives_one (over e) (one f s) = let c : ◌≡◌ {A = ℕ} 0 1 = cc in absurd (omega arith)
gives_one (one e r) (over f) = let c : ◌≡◌ {A = ℕ} 0 1 = cc in absurd (omega arith)
gives_one (one {x = x} e r) (one {x = y} f s) = let q : x ≡ y = cc in ap₂ (λ (z : MergeEntry) (l : List MergeEntry). z ∷ l) q (gives_one r s)

reads_numbered : {image : List ℕ} {i : ℕ} {p : Part} {l : List MergeEntry} → Reads image i p l → Numbered i l
reads_numbered (ended q) = tt
reads_numbered (found q r) = (refl, reads_numbered r)

all_numbered : {image : List ℕ} {i : ℕ} {ps : List Part} {ls : List (List MergeEntry)} → ReadsAll image i ps ls → (j : ℕ) → Numbered (i + j) (get_or ls j [])
all_numbered empty j = tt
all_numbered {image} {i} (part q h) zero = rw add-zero (reads_numbered q)
all_numbered {image} {i} (part {ls = ls} q h) (suc j) =
    let e : suc i + j ≡ i + suc j = omega arith in
    subst (λ (k : ℕ). Numbered k (get_or ls j [])) e (all_numbered h j)

pub merge_ends_lem : MergeEnds
merge_ends_lem image count parts ls s = let w = whole image count parts ls s in (w.out, w.runs)

pub merge_exact_lem : MergeExact
merge_exact_lem image count parts ls s out g j =
    let w = whole image count parts ls s in
    ap (from_part j) (gives_one g w.runs) ∙ exact w.merges (λ i. subst (λ (k : ℕ). Numbered k (get_or ls i [])) (zero-add i) (all_numbered s.reads i)) j

pub merge_sorted_lem : MergeSorted
merge_sorted_lem image count parts ls s sorted out g =
    let w = whole image count parts ls s in
    subst (Sorted image) (sym (gives_one g w.runs)) (merged_sorted w.merges sorted)

-- every entry takes four bytes at least of those left
given-by_answer : (image : List ℕ) (m : MergeScanner) (k : ℕ) (a : Answer) → (next_of m image).answer ≡ a → 4 * length (given k image (next_of m image).state) ≤ left (next_of m image).state
    → 4 * length (listed a (given k image (next_of m image).state)) ≤ left m
unfolding listed
given-by_answer image m k (Ok (Some x)) e h = let f = falls m image x e in omega arith
given-by_answer image m k (Ok None) e h = omega arith
given-by_answer image m k (Err w) e h = omega arith

by_left : (k : ℕ) (image : List ℕ) (m : MergeScanner) → 4 * length (given k image m) ≤ left m
unfolding given
by_left zero image m = omega arith
by_left (suc k) image m = given-by_answer image m k (next_of m image).answer refl (by_left k image (next_of m image).state)

-- sixteen parts have at most sixteen times the image's bytes
left_in_lem : (size n : ℕ) (ps : List Part) → all_inside size (take n ps) ≡ true → left_in n ps ≤ n * size
unfolding left_in
left_in_lem size zero ps h = omega arith
left_in_lem size (suc n) [] h = omega arith
left_in_lem size (suc n) (p ∷ ps) h =
    let b = both (inside size p) (all_inside size (take n ps)) h in
    let i = in_both size p b.0 in
    let r = left_in_lem size n ps b.1 in
    let e : suc n * size ≡ n * size + size = suc-mul n size in
    omega arith

by_image : (image : List ℕ) (m : MergeScanner) (k : ℕ) (c : Bool) → table_ok (length image) m ≡ c → length (given k image m) ≤ 4 * length image
by_image image m k true h =
    let b = ok-both (length image) m h in
    let l = left_in_lem (length image) m.count m.parts b.1 in
    let g = by_left k image m in
    let s : m.count * length image ≤ 16 * length image = mul-le-mul_right (length image) b.0 in
    omega arith
by_image image m k false h =
    let n = given-none image m (bad_stays image m h) k in
    rw n (omega arith)

pub merge_bounded_lem : MergeBounded
merge_bounded_lem image m k = (by_left k image m, by_image image m k _ refl)

-- A sound table stays one, so 13 is given of the state that came in or never.

abbrev NotBad : Foremost → Type 0
NotBad f = f ≡ Err merge.BadPart → ⊥

shown-ok : (i : ℕ) (p : Part) (s : Scanned) → NotBad (shown i p s)
unfolding shown
shown-ok i p (scanned.Entry e n) h = let o : ◌≡◌ {A = ℕ} 0 1 = cc in omega arith
shown-ok i p (scanned.End at n) h = let o : ◌≡◌ {A = ℕ} 0 1 = cc in omega arith
shown-ok i p (scanned.Refused w n) h = let o : ◌≡◌ {A = ℕ} 0 1 = cc in omega arith

pick-ok : (t : Bool) (x y : Head) → NotBad (pick t (Ok (Some x)) (Ok (Some y)))
unfolding pick
pick-ok true x y h = let o : ◌≡◌ {A = ℕ} 0 1 = cc in omega arith
pick-ok false x y h = let o : ◌≡◌ {A = ℕ} 0 1 = cc in omega arith

first-ok : (image : List ℕ) (a b : Foremost) → NotBad a → NotBad b → NotBad (first image a b)
unfolding first
first-ok image (Ok None) b p q = q
first-ok image (Err w) b p q = p
first-ok image (Ok (Some x)) (Ok None) p q = p
first-ok image (Ok (Some x)) (Err w) p q = q
first-ok image (Ok (Some x)) (Ok (Some y)) p q = pick-ok _ x y

front-ok : (image : List ℕ) (i : ℕ) (ps : List Part) → NotBad (foremost image i ps)
unfolding foremost head_of
front-ok image i [] h = let o : ◌≡◌ {A = ℕ} 0 1 = cc in omega arith
front-ok image i (p ∷ ps) h = first-ok image _ _ (shown-ok i p (scan_at image p)) (front-ok image (suc i) ps) h

answer_ok : (m : MergeScanner) (f : Foremost) → NotBad f → (settle m f).answer ≡ Err merge.BadPart → ⊥
unfolding settle
answer_ok m (Ok None) n h = let o : ◌≡◌ {A = ℕ} 0 1 = cc in omega arith
answer_ok m (Ok (Some x)) n h = let o : ◌≡◌ {A = ℕ} 0 1 = cc in omega arith
answer_ok m (Err w) n h = let z : w ≡ merge.BadPart = cc in n (rw z)

next_sound : (image : List ℕ) (m : MergeScanner) (x : MergeEntry) → table_ok (length image) m ≡ true → (next_of m image).answer ≡ Ok (Some x) → table_ok (length image) (next_of m image).state ≡ true
next_sound image m x t h = let g = given_by m image x h in ap (table_ok (length image)) g.state ∙ taken-ok m image g.head g.front t

abbrev OfBad : Leaving → Type 0
OfBad o = o ≡ Err (refusal.Merge merge.BadPart)

-- no verdict on an entry is 13
verdict-ok : (a b c : Bool) (o : Leaving) → pick a (pick b (Some (Ok outcome.Found)) (pick c (Some (Ok outcome.Past)) None)) None ≡ Some o → OfBad o → ⊥
unfolding pick
verdict-ok true true c o e h = let q : ◌≡◌ {A = Leaving} (Ok outcome.Found) o = cc in let z : ◌≡◌ {A = Leaving} (Ok outcome.Found) (Err (refusal.Merge merge.BadPart)) = q ∙ h in let o : ◌≡◌ {A = ℕ} 0 1 = cc in omega arith
verdict-ok true false true o e h = let q : ◌≡◌ {A = Leaving} (Ok outcome.Past) o = cc in let z : ◌≡◌ {A = Leaving} (Ok outcome.Past) (Err (refusal.Merge merge.BadPart)) = q ∙ h in let o : ◌≡◌ {A = ℕ} 0 1 = cc in omega arith
verdict-ok true false false o e h = let z : ◌≡◌ {A = ℕ} 0 1 = cc in omega arith
verdict-ok false b c o e h = let z : ◌≡◌ {A = ℕ} 0 1 = cc in omega arith

judged-ok : (w : Ordering) (x : MergeEntry) (handle : ValueHandle) (o : Leaving) → judged w x handle ≡ Some o → OfBad o → ⊥
unfolding judged
judged-ok Less x handle o e h = let z : ◌≡◌ {A = ℕ} 0 1 = cc in omega arith
judged-ok Greater x handle o e h = let q : ◌≡◌ {A = Leaving} (Err refusal.NotMatched) o = cc in let z : ◌≡◌ {A = Leaving} (Err refusal.NotMatched) (Err (refusal.Merge merge.BadPart)) = q ∙ h in let o : ◌≡◌ {A = ℕ} 0 1 = cc in omega arith
judged-ok Equal x handle o e h = verdict-ok _ _ _ o e h

module _ (image key : List ℕ) (handle : ValueHandle) where
  not_judged : (m : MergeScanner) (rest : Drained) (v : Option Leaving) → ((o : Leaving) → v ≡ Some o → OfBad o → ⊥) → (OfBad rest.outcome → ⊥) → OfBad (judged_by m rest v).outcome → ⊥
  unfolding judged_by
  not_judged m rest None n f h = f h
  not_judged m rest (Some o) n f h = n o refl h

  not_stopped : (x : MergeEntry) (o : Leaving) → stop_of image x key handle ≡ Some o → OfBad o → ⊥
  unfolding stop_of
  not_stopped x o e h = judged-ok _ x handle o e h

  not_drained : (m : MergeScanner) (rest : Drained) (a : Answer) → ((x : MergeEntry) → a ≡ Ok (Some x) → OfBad rest.outcome → ⊥) → (a ≡ Err merge.BadPart → ⊥)
      → OfBad (drained_by image key handle m rest a).outcome → ⊥
  unfolding drained_by
  not_drained m rest (Ok (Some x)) f g h = not_judged m rest _ (not_stopped x) (f x refl) h
  not_drained m rest (Ok None) f g h = let o : ◌≡◌ {A = ℕ} 0 1 = cc in omega arith
  not_drained m rest (Err w) f g h = let z : w ≡ merge.BadPart = cc in g (rw z)

  never_bad : (k : ℕ) (m : MergeScanner) → table_ok (length image) m ≡ true → OfBad (drain_in k image key handle m).outcome → ⊥
  unfolding drain_in
  never_bad zero m t h = let o : ◌≡◌ {A = ℕ} 0 1 = cc in omega arith
  never_bad (suc k) m t h = not_drained m _ (next_of m image).answer
      (λ x e. never_bad k (next_of m image).state (next_sound image m x t e))
      (λ e. answer_ok m _ (front-ok image 0 (take m.count m.parts)) (sym (ap (λ (r : Merged). r.answer) (next-ok m image t)) ∙ e)) h

  bad_by : (m : MergeScanner) (b : Bool) → table_ok (length image) m ≡ b → (drain_of m image key handle).outcome ≡ Err (refusal.Merge merge.BadPart) → (table_ok (length image) m ≡ false) × ((drain_of m image key handle).state ≡ m)
  unfolding drain_of
  bad_by m true t h = absurd (never_bad (suc (left m)) m t h)
  bad_by m false t h = (t, ap (λ (d : Drained). d.state) (drain_bad image key handle m t))

pub drain_same_lem : DrainSame
drain_same_lem image key handle m h = bad_by image key handle m _ refl h

pub drain_enough_lem : DrainEnough
unfolding drain_of
drain_enough_lem image key handle m k h = enough image key handle k (suc (left m)) m h (omega arith)

pub theorems : Theorems
theorems = record {
  merge_ends = merge_ends_lem;
  merge_exact = merge_exact_lem;
  merge_sorted = merge_sorted_lem;
  merge_bounded = merge_bounded_lem;
  drain_same = drain_same_lem;
  drain_enough = drain_enough_lem;
}

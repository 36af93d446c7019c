-- Laws of the merge's definition: its cases, and where what goes first comes from.
use Rattle.std.specs.Prelude.{ℕ, zero, suc, ◌+◌, ◌<◌, ◌≤◌, ◌≡◌, refl, List, [], ◌∷◌, Bool, true, false, ◌⊎◌, ltb, eqb, length, take, drop, get_or, set, Some, None, Ok, Err}
use Rattle.std.specs.Ordering.{nat_cmp, ordering_then, is_lt}
use Rattle.std.specs.declared.cmp.Ordering.{Ordering}
use Rattle.std.specs.declared.cmp.Ordering.TheVariants.{Less, Equal, Greater}
use Rattle.std.proofs.Common.{sym, ap, subst, ◌∙◌, inl, inr, ⊎_elim, arith, length-take, get_or-take}
use borrow.Author.Tests.{eq-eqb, ne_eqb, le-ltb, ltb-true, ltb-false, eqb-true, eqb-false}
use Rattle.numbers.specs.Pick.{pick}
use Rattle.frames.specs.Scan.{part_at}
use Rattle.frames.specs.declared.steps.Scanner.{Scanner}
use Rattle.frames.specs.declared.steps.ScanEntry.{ScanEntry}
use Rattle.frames.specs.declared.steps.ScanRefusal.{ScanRefusal}
use Rattle.frames.specs.Scan.{Scanned}
use Rattle.frames.specs.declared.steps.Step.TheVariants as scanned
use Rattle.merge.specs.declared.parts.Part.{Part}
use Rattle.merge.specs.declared.parts.MergeScanner.{MergeScanner}
use Rattle.merge.specs.declared.heads.Head.{Head}
use Rattle.merge.specs.declared.heads.MergeEntry.{MergeEntry}
use Rattle.merge.specs.declared.refusals.MergeRefusal.{MergeRefusal}
use Rattle.merge.specs.declared.refusals.MergeRefusal.TheVariants as refusal
use Rattle.merge.specs.declared.next.Merged.{Merged}
use Rattle.merge.specs.Order.{order_of}
use Rattle.merge.specs.Parts.{inside, table_ok, moved, no_part, taken_of}
use Rattle.merge.specs.PartsLaws.{in_both, both_in, in_get, in_set, ok-both, both_ok}
use Rattle.frames.specs.StepLaws.{stepped}
use Rattle.merge.specs.Merge.{scan_at, entry_of, ranked, ahead, Foremost, shown, head_of, first, foremost, front_of, settle, next_of}
use Rattle.merge.specs.Drain.{left_in, left}

-- The rank of two entries, as the code compares them.

lower-first : (p p' : ℕ) (t e : Bool) → ltb p p' ≡ t → eqb p p' ≡ e → is_lt (nat_cmp p p') ≡ ltb p p'
lower-first p p' true e q r = rw q
lower-first p p' false true q r = rw (q, r)
lower-first p p' false false q r = rw (q, r)

by-part : (s s' p p' : ℕ) (e : Bool) → eqb s' s ≡ e → s ≤ s' → is_lt (ordering_then (nat_cmp s' s) (nat_cmp p p')) ≡ pick (eqb s s') (ltb p p') (ltb s' s)
unfolding pick
by-part s s' p p' true q h =
    let e : s' ≡ s = eqb-true _ _ q in
    rw (le-ltb _ _ h, q, eq-eqb s s' (sym e)) (lower-first p p' _ _ refl refl)
by-part s s' p p' false q h = let n = eqb-false s' s q in rw (le-ltb _ _ h, q, ne_eqb s s' (λ e. n (sym e)))

by-seqno : (s s' p p' : ℕ) (t : Bool) → ltb s' s ≡ t → is_lt (ordering_then (nat_cmp s' s) (nat_cmp p p')) ≡ pick (eqb s s') (ltb p p') (ltb s' s)
unfolding pick
by-seqno s s' p p' true q = let l : s' < s = ltb-true _ _ q in rw (q, ne_eqb s s' (λ e. omega arith))
by-seqno s s' p p' false q = by-part s s' p p' _ refl (ltb-false _ _ q)

ranked_by : (o : Ordering) (s p s' p' : ℕ) → is_lt (ordering_then (ordering_then o (nat_cmp s' s)) (nat_cmp p p')) ≡ ranked o s p s' p'
unfolding ranked pick
ranked_by Less s p s' p' = refl
ranked_by Greater s p s' p' = refl
ranked_by Equal s p s' p' = by-seqno s s' p p' _ refl

pub goes_law : (image : List ℕ) (x y : MergeEntry) (a b : List ℕ) (o : Ordering) → a ≡ part_at image x.key → b ≡ part_at image y.key → o ≡ order_of a b
    → is_lt (ordering_then (ordering_then o (nat_cmp y.seqno x.seqno)) (nat_cmp x.part y.part)) ≡ ahead image x y
unfolding ahead
goes_law image x y a b o p q e = rw (e, p, q) (ranked_by _ x.seqno x.part y.seqno y.part)

-- an entry found in a part lies in it, past the position
pub record Found (p : Part) (e : ScanEntry) (n : Scanner) : Type 0 where
  pub offset : e.offset ≡ p.at
  pub past : p.at + 4 ≤ n.at
  pub end : n.at ≤ p.length
  pub key : e.key.at ≤ p.length
  pub value : e.value.at ≤ p.length

pub found : (image : List ℕ) (p : Part) (e : ScanEntry) (n : Scanner) → scan_at image p ≡ scanned.Entry e n → Found p e n
unfolding scan_at
found image p e n h =
    let f = stepped e n (take p.length (drop p.start image)) p.at h in
    let l : length (take p.length (drop p.start image)) ≤ p.length = omega (arith, length-take p.length (drop p.start image)) in
    record { offset = f.offset; past = f.past; end = omega arith; key = omega arith; value = omega arith }

-- the sums that make an entry's places do not wrap
module _ (image : List ℕ) (p : Part) (s : Scanned) (q : s ≡ scan_at image p) (i : inside (length image) p ≡ true) (e : ScanEntry) (n : Scanner) (h : s ≡ scanned.Entry e n) where
  pub key_in : p.start + e.key.at ≤ length image
  key_in = let f = found image p e n (sym q ∙ h) in let b = in_both (length image) p i in omega arith

  pub value_in : p.start + e.value.at ≤ length image
  value_in = let f = found image p e n (sym q ∙ h) in let b = in_both (length image) p i in omega arith

-- what a part shows, as the code tests for it
module _ (image : List ℕ) (i : ℕ) (p : Part) (s : Scanned) (q : s ≡ scan_at image p) where
  pub head-entry : (e : ScanEntry) (n : Scanner) (x : MergeEntry) → x ≡ entry_of i p e → s ≡ scanned.Entry e n → Ok (Some (record { entry = x; next = n.at })) ≡ head_of image i p
  unfolding head_of shown
  head-entry e n x f h = rw (← q, h, f)

  pub head-end : (at : ℕ) (n : Scanner) → s ≡ scanned.End at n → Ok None ≡ head_of image i p
  unfolding head_of shown
  head-end at n h = rw (← q, h)

  pub head-refused : {w : ScanRefusal} (n : Scanner) → s ≡ scanned.Refused w n → Err (refusal.Scan i w) ≡ head_of image i p
  unfolding head_of shown
  head-refused n h = rw (← q, h)

-- the part that an entry that goes first comes from
pub record From (image : List ℕ) (i : ℕ) (ps : List Part) (x : Head) : Type 0 where
  pub j : ℕ
  pub e : ScanEntry
  pub n : Scanner
  pub within : j < length ps
  pub scan : scan_at image (get_or ps j no_part) ≡ scanned.Entry e n
  pub entry : x.entry ≡ entry_of (i + j) (get_or ps j no_part) e
  pub position : x.next ≡ n.at

abbrev some : Head → Foremost
some x = Ok (Some x)

pick_some : (t : Bool) (x y z : Head) → pick t (some x) (some y) ≡ some z → (some x ≡ some z) ⊎ (some y ≡ some z)
unfolding pick
pick_some true x y z h = inl h
pick_some false x y z h = inr h

pub first_of : (image : List ℕ) (a b : Foremost) (x : Head) → first image a b ≡ Ok (Some x) → (a ≡ Ok (Some x)) ⊎ (b ≡ Ok (Some x))
unfolding first
first_of image (Ok None) b x h = inr h
first_of image (Err w) b x h = let o : ◌≡◌ {A = ℕ} 0 1 = cc in absurd (omega arith)
first_of image (Ok (Some y)) (Ok None) x h = inl h
first_of image (Ok (Some y)) (Err w) x h = let o : ◌≡◌ {A = ℕ} 0 1 = cc in absurd (omega arith)
first_of image (Ok (Some y)) (Ok (Some z)) x h = pick_some _ y z x h

record Shown (i : ℕ) (p : Part) (s : Scanned) (x : Head) : Type 0 where
  e : ScanEntry
  n : Scanner
  scan : s ≡ scanned.Entry e n
  entry : x.entry ≡ entry_of i p e
  position : x.next ≡ n.at

shown_of : (i : ℕ) (p : Part) (s : Scanned) (x : Head) → shown i p s ≡ Ok (Some x) → Shown i p s x
unfolding shown
shown_of i p (scanned.Entry e n) x h = record { e = e; n = n; scan = refl; entry = (cc); position = (cc) }
shown_of i p (scanned.End at n) x h = let o : ◌≡◌ {A = ℕ} 0 1 = cc in absurd (omega arith)
shown_of i p (scanned.Refused w n) x h = let o : ◌≡◌ {A = ℕ} 0 1 = cc in absurd (omega arith)

pub foremost_of : (image : List ℕ) (i : ℕ) (ps : List Part) (x : Head) → foremost image i ps ≡ Ok (Some x) → From image i ps x
unfolding foremost head_of
foremost_of image i [] x h = let o : ◌≡◌ {A = ℕ} 0 1 = cc in absurd (omega arith)
foremost_of image i (p ∷ ps) x h = ⊎_elim
    (λ (g : shown i p (scan_at image p) ≡ Ok (Some x)).
    let v = shown_of i p (scan_at image p) x g in
    let z : i ≡ i + 0 = omega arith in
    record { j = 0; e = v.e; n = v.n; within = omega arith; scan = v.scan; entry = subst (λ (n : ℕ). x.entry ≡ entry_of n p v.e) z v.entry; position = v.position })
    (λ (g : foremost image (suc i) ps ≡ Ok (Some x)).
    let f = foremost_of image (suc i) ps x g in
    let z : suc i + f.j ≡ i + suc f.j = omega arith in
    record { j = suc f.j; e = f.e; n = f.n; within = omega arith; scan = f.scan; entry = subst (λ (n : ℕ). x.entry ≡ entry_of n (get_or ps f.j no_part) f.e) z f.entry; position = f.position })
    (first_of image (shown i p (scan_at image p)) (foremost image (suc i) ps) x h)

-- a table from which an entry was taken is one still, and fewer bytes are left in it
module _ (m : MergeScanner) (image : List ℕ) (x : Head) (h : front_of image m ≡ Ok (Some x)) where
  from : From image 0 (take m.count m.parts) x
  from = foremost_of image 0 (take m.count m.parts) x h

  pub at_count : x.entry.part < m.count
  at_count =
      let f = from in
      let e : x.entry.part ≡ 0 + f.j = ap (λ (y : MergeEntry). y.part) f.entry in
      omega (arith, length-take m.count m.parts)

  pub at-parts : x.entry.part < length m.parts
  at-parts =
      let f = from in
      let e : x.entry.part ≡ 0 + f.j = ap (λ (y : MergeEntry). y.part) f.entry in
      omega (arith, length-take m.count m.parts)

  at_part : Found (get_or m.parts x.entry.part no_part) from.e from.n
  at_part =
      let f = from in
      let e : 0 + f.j ≡ x.entry.part = sym (ap (λ (y : MergeEntry). y.part) f.entry) in
      let z : f.j ≡ x.entry.part = omega arith in
      let k : f.j < m.count = omega (arith, at_count) in
      let g = get_or-take m.count m.parts f.j no_part k in
      let s = rw (g, z) at f.scan in
      found image (get_or m.parts x.entry.part no_part) f.e f.n s

  pub past-part : ((get_or m.parts x.entry.part no_part).at + 4 ≤ x.next) × (x.next ≤ (get_or m.parts x.entry.part no_part).length)
  past-part = let f = from in let q = f.position in let g = at_part in (omega arith, omega arith)

  pub moved_in : table_ok (length image) m ≡ true → inside (length image) (moved x.next (get_or m.parts x.entry.part no_part)) ≡ true
  moved_in t =
      let b = ok-both (length image) m t in
      let i = in_both (length image) _ (in_get (length image) m.count m.parts x.entry.part b.1 at_count at-parts) in
      let p = past-part in
      both_in (length image) (moved x.next (get_or m.parts x.entry.part no_part)) i.0 p.1

  pub taken-ok : table_ok (length image) m ≡ true → table_ok (length image) (taken_of m x.entry.part x.next) ≡ true
  unfolding taken_of
  taken-ok t =
      let b = ok-both (length image) m t in
      both_ok (length image) (taken_of m x.entry.part x.next) b.0 (in_set (length image) m.count m.parts x.entry.part _ (moved_in t) b.1)

left_less : (n : ℕ) (ps : List Part) (k next : ℕ) → k < n → k < length ps → (get_or ps k no_part).at + 4 ≤ next → next ≤ (get_or ps k no_part).length
    → left_in n (set ps k (moved next (get_or ps k no_part))) + 4 ≤ left_in n ps
unfolding left_in
left_less zero ps k next h l a b = absurd (omega arith)
left_less (suc n) [] k next h l a b = absurd (omega arith)
left_less (suc n) (p ∷ ps) zero next h l a b = omega arith
left_less (suc n) (p ∷ ps) (suc k) next h l a b = let q = left_less n ps k next (omega arith) (omega arith) a b in omega arith

pub taken-left : (m : MergeScanner) (image : List ℕ) (x : Head) → front_of image m ≡ Ok (Some x) → left (taken_of m x.entry.part x.next) + 4 ≤ left m
unfolding taken_of
taken-left m image x h =
    let p = past-part m image x h in
    left_less m.count m.parts x.entry.part x.next (at_count m image x h) (at-parts m image x h) p.0 p.1

-- a call by its cases
module _ (m : MergeScanner) (image : List ℕ) where
  pub next-ok : table_ok (length image) m ≡ true → next_of m image ≡ settle m (front_of image m)
  unfolding next_of pick
  next-ok h = rw h

  pub next_bad : table_ok (length image) m ≡ false → next_of m image ≡ record { state = m; answer = Err refusal.BadPart }
  unfolding next_of pick
  next_bad h = rw h

-- a call of a sound table, by what goes first
module _ (m : MergeScanner) (image : List ℕ) (ok : table_ok (length image) m ≡ true) where
  pub next_takes : (x : Head) → front_of image m ≡ Ok (Some x) → next_of m image ≡ record { state = taken_of m x.entry.part x.next; answer = Ok (Some x.entry) }
  unfolding settle
  next_takes x h = next-ok m image ok ∙ ap (settle m) h

  pub next_ends : front_of image m ≡ Ok None → next_of m image ≡ record { state = m; answer = Ok None }
  unfolding settle
  next_ends h = next-ok m image ok ∙ ap (settle m) h

  pub next_refused : (w : MergeRefusal) → front_of image m ≡ Err w → next_of m image ≡ record { state = m; answer = Err w }
  unfolding settle
  next_refused w h = next-ok m image ok ∙ ap (settle m) h

-- what a call that gives an entry did
pub record Given (m : MergeScanner) (image : List ℕ) (x : MergeEntry) : Type 0 where
  pub head : Head
  pub entry : head.entry ≡ x
  pub ok : table_ok (length image) m ≡ true
  pub front : front_of image m ≡ Ok (Some head)
  pub state : (next_of m image).state ≡ taken_of m head.entry.part head.next

given-ok : (m : MergeScanner) (image : List ℕ) (x : MergeEntry) → table_ok (length image) m ≡ true → (f : Foremost) → front_of image m ≡ f
    → next_of m image ≡ settle m f → (settle m f).answer ≡ Ok (Some x) → Given m image x
unfolding settle
given-ok m image x t (Ok None) e q h = let o : ◌≡◌ {A = ℕ} 0 1 = cc in absurd (omega arith)
given-ok m image x t (Ok (Some y)) e q h = record { head = y; entry = (cc); ok = t; front = e; state = ap (λ (r : Merged). r.state) q }
given-ok m image x t (Err w) e q h = let o : ◌≡◌ {A = ℕ} 0 1 = cc in absurd (omega arith)

given_if : (m : MergeScanner) (image : List ℕ) (b : Bool) → table_ok (length image) m ≡ b → (x : MergeEntry) → (next_of m image).answer ≡ Ok (Some x) → Given m image x
given_if m image true t x h = let e = next-ok m image t in given-ok m image x t _ refl e (sym (ap (λ (r : Merged). r.answer) e) ∙ h)
given_if m image false t x h =
    let e = ap (λ (r : Merged). r.answer) (next_bad m image t) in
    let o : ◌≡◌ {A = ℕ} 0 1 = cc in
    absurd (omega arith)

pub given_by : (m : MergeScanner) (image : List ℕ) (x : MergeEntry) → (next_of m image).answer ≡ Ok (Some x) → Given m image x
given_by m image x h = given_if m image _ refl x h

-- every entry taken lowers the bytes left by four at least
pub falls : (m : MergeScanner) (image : List ℕ) (x : MergeEntry) → (next_of m image).answer ≡ Ok (Some x) → left (next_of m image).state + 4 ≤ left m
falls m image x h = let g = given_by m image x h in rw g.state (taken-left m image g.head g.front)

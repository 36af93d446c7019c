-- Laws of the drain: its cases, and that one call more than bytes are left is enough.
use Rattle.std.specs.Prelude.{ℕ, zero, suc, ◌<◌, ◌≤◌, ◌≡◌, refl, List, Bool, true, false, ltb, eqb, length, Option, Some, None, Ok, Err, MatchResult}
use Rattle.std.specs.Ordering.{nat_cmp}
use Rattle.std.specs.declared.cmp.Ordering.{Ordering}
use Rattle.std.specs.declared.cmp.Ordering.TheVariants.{Less, Equal, Greater}
use Rattle.std.proofs.Common.{sym, ap, subst, ◌∙◌, arith}
use borrow.Author.Tests.{lt-ltb, le-ltb, eq-eqb, ne_eqb, ltb-true, ltb-false, eqb-true, eqb-false}
use Rattle.numbers.specs.Pick.{pick}
use Rattle.numbers.specs.declared.handle.ValueHandle.{ValueHandle}
use Rattle.frames.specs.Scan.{part_at}
use Rattle.merge.specs.declared.parts.MergeScanner.{MergeScanner}
use Rattle.merge.specs.declared.heads.Head.{Head}
use Rattle.merge.specs.declared.heads.MergeEntry.{MergeEntry}
use Rattle.merge.specs.declared.next.Merged.{Merged}
use Rattle.merge.specs.declared.refusals.MergeRefusal.{MergeRefusal}
use Rattle.merge.specs.declared.refusals.MergeRefusal.TheVariants as merge
use Rattle.merge.specs.declared.refusals.DrainRefusal.TheVariants as refusal
use Rattle.merge.specs.declared.drain.Outcome.TheVariants as outcome
use Rattle.merge.specs.declared.drain.Drained.{Drained}
use Rattle.merge.specs.Order.{order_of}
use Rattle.merge.specs.Parts.{table_ok, taken_of}
use Rattle.merge.specs.Merge.{Answer, Foremost, front_of, next_of}
use Rattle.merge.specs.MergeLaws.{next_bad, next_takes, next_ends, next_refused, falls}
use Rattle.merge.specs.Drain.{Leaving, judged, stop_of, leave, judged_by, drained_by, left, drain_in, drain_of}

-- What a comparison of numbers says of them.
data Met (a b : ℕ) : Ordering → Type 0 where
  under : a < b → Met a b Less
  same : a ≡ b → Met a b Equal
  over : b < a → Met a b Greater

met-by : (a b : ℕ) (t u : Bool) → ltb a b ≡ t → eqb a b ≡ u → Met a b (nat_cmp a b)
met-by a b true u p q = rw p (under (ltb-true _ _ p))
met-by a b false true p q = rw (p, q) (same (eqb-true _ _ q))
met-by a b false false p q =
    let l : b ≤ a = ltb-false _ _ p in
    let n = eqb-false a b q in
    let g : b < a = omega (arith, n) in
    rw (p, q) (over g)

met : (a b : ℕ) (r : Ordering) → r ≡ nat_cmp a b → Met a b r
met a b r e = rw e (met-by a b _ _ refl refl)

is_under : (a b : ℕ) → Met a b Less → a < b
is_under a b (under l) = l

is_same : (a b : ℕ) → Met a b Equal → b ≡ a
is_same a b (same e) = sym e

is_over : (a b : ℕ) → Met a b Greater → b < a
is_over a b (over l) = l

-- Where the drain stops, by the code's tests.
module _ (image : List ℕ) (x : MergeEntry) (key : List ℕ) (handle : ValueHandle) (k : List ℕ) (p : k ≡ part_at image x.key) (o : Ordering) (e : o ≡ order_of k key) where
  right : (w : Ordering) → o ≡ w → order_of (part_at image x.key) key ≡ w
  right w h = rw (← p) (sym e ∙ h)

  pub stop_less : o ≡ Less → None ≡ stop_of image x key handle
  unfolding stop_of judged
  stop_less h = rw (right _ h)

  pub stop_greater : o ≡ Greater → Some (Err refusal.NotMatched) ≡ stop_of image x key handle
  unfolding stop_of judged
  stop_greater h = rw (right _ h)

  module _ (h : o ≡ Equal) where
    pub stop_file : (x.file ≡ handle.file → ⊥) → None ≡ stop_of image x key handle
    unfolding stop_of judged pick
    stop_file f = rw (right _ h, ne_eqb _ _ f)

    module _ (f : x.file ≡ handle.file) (r : Ordering) (q : r ≡ nat_cmp handle.offset x.offset) where
      numbers : Met handle.offset x.offset r
      numbers = met handle.offset x.offset r q

      pub stop_found : r ≡ Equal → Some (Ok outcome.Found) ≡ stop_of image x key handle
      unfolding stop_of judged pick
      stop_found g = let c = is_same _ _ (rw g at numbers) in rw (right _ h, eq-eqb _ _ f, eq-eqb _ _ c)

      pub stop_past : r ≡ Less → Some (Ok outcome.Past) ≡ stop_of image x key handle
      unfolding stop_of judged pick
      stop_past g = let c = is_under _ _ (rw g at numbers) in rw (right _ h, eq-eqb _ _ f, ne_eqb x.offset handle.offset (λ d. omega arith), lt-ltb _ _ c)

      pub stop_short : r ≡ Greater → None ≡ stop_of image x key handle
      unfolding stop_of judged pick
      stop_short g =
          let c = is_over _ _ (rw g at numbers) in
          let l : x.offset ≤ handle.offset = omega arith in
          rw (right _ h, eq-eqb _ _ f, ne_eqb x.offset handle.offset (λ d. omega arith), le-ltb _ _ l)

-- More calls than bytes are left are as good as any more.
module _ (image key : List ℕ) (handle : ValueHandle) where
  abbrev calls : ℕ → MergeScanner → Drained
  calls k m = drain_in k image key handle m

  same_drained : (m : MergeScanner) (f g : Drained) (a : Answer) → ((x : MergeEntry) → a ≡ Ok (Some x) → f ≡ g) → drained_by image key handle m f a ≡ drained_by image key handle m g a
  unfolding drained_by
  same_drained m f g (Ok (Some x)) e = ap (λ (r : Drained). judged_by m r (stop_of image x key handle)) (e x refl)
  same_drained m f g (Ok None) e = refl
  same_drained m f g (Err w) e = refl

  pub enough : (k j : ℕ) (m : MergeScanner) → left m < k → left m < j → calls k m ≡ calls j m
  unfolding drain_in
  enough zero j m p q = absurd (omega arith)
  enough (suc k) zero m p q = absurd (omega arith)
  enough (suc k) (suc j) m p q = same_drained m _ _ (next_of m image).answer
      (λ x h. let f = falls m image x h in enough k j (next_of m image).state (omega arith) (omega arith))

  -- 13 hands back the state as it came in
  pub drain_bad : (m : MergeScanner) → table_ok (length image) m ≡ false → drain_of m image key handle ≡ leave m (Err (refusal.Merge merge.BadPart))
  unfolding drain_of drain_in drained_by
  drain_bad m t = let e = next_bad m image t in rw e

  -- The loop: what is left, drained, is the whole drained.
  module _ (m : MergeScanner) (w : Drained) (whole : calls (suc (left m)) m ≡ w) (i : List ℕ) (same-image : i ≡ image) (sound : table_ok (length i) m ≡ true) where
    ok : table_ok (length image) m ≡ true
    ok = subst (λ (b : List ℕ). table_ok (length b) m ≡ true) same-image sound

    at : (f : Foremost) → front_of i m ≡ f → front_of image m ≡ f
    at f h = subst (λ (b : List ℕ). front_of b m ≡ f) same-image h

    opened : drained_by image key handle m (calls (left m) (next_of m image).state) (next_of m image).answer ≡ w
    unfolding drain_in
    opened = whole

    leaves-by : (f : Foremost) → front_of image m ≡ f → ((x : Head) → f ≡ Ok (Some x) → ⊥) → (o : Leaving) → MatchResult f (λ _. o ≡ Ok outcome.End) (λ why. o ≡ Err (refusal.Merge why)) → leave m o ≡ w
    unfolding drained_by
    leaves-by (Ok (Some x)) h n o q = absurd (n x refl)
    leaves-by (Ok None) h n o q = rw q (rw (next_ends m image ok h) at opened)
    leaves-by (Err why) h n o q = rw q (rw (next_refused m image ok why h) at opened)

    module _ (f : Foremost) (e : f ≡ front_of i m) (o : Leaving) (q : MatchResult f (λ _. o ≡ Ok outcome.End) (λ why. o ≡ Err (refusal.Merge why))) where
      pub drain_end : (x : Option Head) → f ≡ Ok x → x ≡ None → leave m o ≡ w
      drain_end x g d = leaves-by f (at f (sym e)) (λ y k. let c : ◌≡◌ {A = Foremost} (Ok None) (Ok (Some y)) = sym (g ∙ rw d) ∙ k in let z : ◌≡◌ {A = ℕ} 0 1 = cc in omega arith) o q

      pub drain_refused : (why : MergeRefusal) → f ≡ Err why → leave m o ≡ w
      drain_refused why g = leaves-by f (at f (sym e)) (λ y k. let c : ◌≡◌ {A = Foremost} (Err why) (Ok (Some y)) = sym g ∙ k in let z : ◌≡◌ {A = ℕ} 0 1 = cc in omega arith) o q

    module _ (x : Head) (found : front_of i m ≡ Ok (Some x)) where
      h : front_of image m ≡ Ok (Some x)
      h = at (Ok (Some x)) found

      abbrev s : MergeScanner
      s = taken_of m x.entry.part x.next

      shut : judged_by m (calls (left m) s) (stop_of image x.entry key handle) ≡ w
      unfolding drained_by
      shut = rw (next_takes m image ok x h) at opened

      pub drain_stop : (o : Leaving) → Some o ≡ stop_of image x.entry key handle → leave m o ≡ w
      unfolding judged_by
      drain_stop o q = rw (← q) at shut

      pub drain_less : left s < left m
      drain_less =
          let e = next_takes m image ok x h in
          let g = falls m image x.entry (ap (λ (r : Merged). r.answer) e) in
          let z : left (next_of m image).state ≡ left s = ap (λ (r : Merged). left r.state) e in
          omega arith

      pub drain_on : None ≡ stop_of image x.entry key handle → calls (suc (left s)) s ≡ w
      unfolding judged_by
      drain_on q =
          let l : left s < left m = drain_less in
          enough (suc (left s)) (left m) s (omega arith) l ∙ (rw (← q) at shut)

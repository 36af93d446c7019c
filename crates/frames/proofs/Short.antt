-- A file that is cut: a frame that lies whole before the cut is read as before, since a step looks no further than its frame; the first that does not is cut short, and none after it lies whole.
use Prim.Native.Nat.{ℕ, zero, suc, ◌+◌, ◌-◌, ◌<◌, ◌≤◌, min}
use mathlib.Core.Path.{◌≡◌, refl, sym, ap, ◌∙◌}
use mathlib.Core.List.{List, [], ◌∷◌}
use mathlib.Core.Bool.{true, false}
use native.Mathlib.Omega.{arith}
use native.Mathlib.Decide.{dec_lt}
use borrow.Author.Tests.{le-leb, lt-leb}
use lib.ListN.{length, take, drop, length-take, length-drop}
use lib.Seq.{take-nil, take-take}
use lib.Dec.{leb}
use Rattle.numbers.specs.Pick.{pick}
use Rattle.numbers.specs.Le.{num}
use Rattle.numbers.specs.declared.cut.CutShort.{CutShort}
use Rattle.frames.specs.Layout.{blob, meta, header_length, header_of, starts}
use Rattle.frames.specs.LayoutLaws.{le-blob, le-meta}
use Rattle.frames.specs.Scan.{Scanned, going, cut_at, entry_of, frame_of, frame_at, part_at, sum_at, step_of}
use Rattle.frames.proofs.ScanLaws.{at_cut, at-blob, frame-header, frame-key, frame-value, frame-whole, checked-refused, checked-entry}
use Rattle.frames.specs.Scans.{Walk, go_on, walk_from, ahead, ends_at, begin_at, whole_before}
use Rattle.frames.specs.Theorems.{Cut}
use Rattle.frames.specs.declared.place.Place.{Place}
use Rattle.frames.specs.declared.header.Header.{Header}
use Rattle.frames.specs.declared.steps.Scanner.{Scanner}
use Rattle.frames.specs.declared.steps.ScanEntry.{ScanEntry}
use Rattle.frames.specs.declared.steps.ScanRefusal.TheVariants as scan
use Rattle.frames.specs.declared.steps.Step.TheVariants as step
use Rattle.frames.specs.StepLaws.{Whole, whole}
use Rattle.frames.proofs.Moved.{end-at}
use Rattle.frames.proofs.Walking.{walk_on_lem, walk_entry, walk_refused}

-- Fronts of lists.

drop-take : (at cut : ℕ) (l : List ℕ) → drop at (take cut l) ≡ take (cut - at) (drop at l)
drop-take zero cut l = let e : cut - 0 ≡ cut = omega arith in rw e
drop-take (suc at) zero l = let e : 0 - suc at ≡ 0 = omega arith in rw e
drop-take (suc at) (suc cut) [] = sym (take-nil (suc cut - suc at))
drop-take (suc at) (suc cut) (x ∷ l) = let e : suc cut - suc at ≡ cut - at = omega arith in rw e (drop-take at cut l)

num-take : (width n : ℕ) (l : List ℕ) → width ≤ n → num width (take n l) ≡ num width l
unfolding num
num-take zero n l h = refl
num-take (suc width) zero l h = absurd (omega arith)
num-take (suc width) (suc n) [] h = refl
num-take (suc width) (suc n) (b ∷ l) h = let e = num-take width n l (omega arith) in rw e

num-part : (width at n : ℕ) (l : List ℕ) → at + width ≤ n → num width (drop at (take n l)) ≡ num width (drop at l)
num-part width at n l h = rw (drop-take at n l) (num-take width (n - at) (drop at l) (omega arith))

starts-take : (mark : List ℕ) (n : ℕ) (l : List ℕ) → length mark ≤ n → starts mark (take n l) ≡ starts mark l
unfolding starts
starts-take [] n l h = refl
starts-take (m ∷ mark) zero l h = absurd (omega arith)
starts-take (m ∷ mark) (suc n) [] h = refl
starts-take (m ∷ mark) (suc n) (b ∷ l) h = let e = starts-take mark n l (omega arith) in rw e

header-take : (n : ℕ) (l : List ℕ) → header_length ≤ n → header_of (take n l) ≡ header_of l
unfolding header_of
header-take n l h = λ i. record {
  sum = record { low = num-part 8 4 n l (omega arith) i; high = num-part 8 12 n l (omega arith) i };
  seqno = num-part 8 20 n l (omega arith) i;
  key = num-part 2 28 n l (omega arith) i;
  stated = num-part 4 30 n l (omega arith) i;
  size = num-part 4 34 n l (omega arith) i;
}

part-take : (s : List ℕ) (cut : ℕ) (p : Place) → p.at + p.len ≤ cut → part_at (take cut s) p ≡ part_at s p
part-take s cut p h = rw (drop-take p.at cut s) (take-take p.len (cut - p.at) (drop p.at s) (omega arith))

-- A step over a frame of which the file is cut at a byte.

abbrev Short : List ℕ → Scanner → Type 0
Short s w = (cut : CutShort) × (step_of s w ≡ step.Refused (scan.CutShort cut) w)

few : (s : List ℕ) (w : Scanner) → w.ended ≡ false → length s - w.at < 4 → Short s w
unfolding step_of
few s w on h = (_, checked-refused s (frame_at s w) _ w (at_cut s w on h))

module _ (s : List ℕ) (cut : ℕ) (w : Scanner) (e : ScanEntry) (next : Scanner) (p : Whole s w (header_of (drop w.at s)) e next) where
  abbrev h : Header
  h = header_of (drop w.at s)

  abbrev there : List ℕ
  there = drop w.at (take cut s)

  room : w.at + header_length + h.key + h.size ≤ length s
  room = p.room

  front : there ≡ take (cut - w.at) (drop w.at s)
  front = drop-take w.at cut s

  long : length (take cut s) ≡ min cut (length s)
  long = length-take cut s

  size : length there ≡ length (take cut s) - w.at
  size = length-drop w.at (take cut s)

  no_end : w.at + 4 ≤ cut → starts meta there ≡ false
  no_end f = rw front (starts-take meta (cut - w.at) (drop w.at s) (omega arith) ∙ p.no_end)

  mark : w.at + 4 ≤ cut → starts blob there ≡ true
  mark f = rw front (starts-take blob (cut - w.at) (drop w.at s) (omega arith) ∙ p.mark)

  header : w.at + header_length ≤ cut → h ≡ header_of there
  header f = sym (rw front (header-take (cut - w.at) (drop w.at s) (omega arith)))

  marked : w.at + 4 ≤ cut → frame_at (take cut s) w ≡ frame_of (take cut s) w
  marked f =
      let x = room in
      let y = long in
      at-blob (take cut s) w p.on (omega arith) there refl false (sym (rw le-meta (no_end f))) refl true (sym (rw le-blob (mark f))) refl

  sum_same : w.at + header_length + h.key + h.size ≤ cut → sum_at (take cut s) e ≡ sum_at s e
  unfolding sum_at
  sum_same f =
      let k : part_at (take cut s) (entry_of w.at h).key ≡ part_at s (entry_of w.at h).key = part-take s cut (entry_of w.at h).key (omega arith) in
      let v : part_at (take cut s) (entry_of w.at h).value ≡ part_at s (entry_of w.at h).value = part-take s cut (entry_of w.at h).value (omega arith) in
      rw (← p.entry, k, v)

  -- whole before the cut
  before : w.at + header_length + h.key + h.size ≤ cut → step_of (take cut s) w ≡ step.Entry e next
  unfolding step_of
  before f =
      let x = room in
      let y = long in
      let z = size in
      let a = marked (omega arith) ∙ frame-whole (take cut s) w (omega arith) there refl h (header (omega arith)) (omega arith) (omega arith) in
      checked-entry (take cut s) (frame_at (take cut s) w) e h.sum next (rw (← p.entry, ← p.next) a) (sum_at s e) (sym (sum_same f)) true (sym p.same) refl

  cut_short : (at needed present : ℕ) → frame_of (take cut s) w ≡ cut_at at needed present w → w.at + 4 ≤ cut → Short (take cut s) w
  unfolding step_of
  cut_short at needed present q f = (_, checked-refused (take cut s) (frame_at (take cut s) w) _ w (marked f ∙ q))

  -- not whole
  across : cut < w.at + header_length + h.key + h.size → Short (take cut s) w
  across f = by (dec_lt cut (w.at + 4)) (dec_lt cut (w.at + header_length)) (dec_lt cut (w.at + header_length + h.key))
    where
      by : Dec (cut < w.at + 4) → Dec (cut < w.at + header_length) → Dec (cut < w.at + header_length + h.key) → Short (take cut s) w
      by (yes a) b c = let y = long in few (take cut s) w p.on (omega arith)
      by (no a) (yes b) c =
          let x = room in
          let y = long in
          let z = size in
          cut_short _ _ _ (frame-header (take cut s) w (omega arith)) (omega arith)
      by (no a) (no b) (yes c) =
          let x = room in
          let y = long in
          let z = size in
          cut_short _ _ _ (frame-key (take cut s) w (omega arith) there refl h (header (omega arith)) (omega arith)) (omega arith)
      by (no a) (no b) (no c) =
          let x = room in
          let y = long in
          let z = size in
          cut_short _ _ _ (frame-value (take cut s) w (omega arith) there refl h (header (omega arith)) (omega arith) (omega arith)) (omega arith)

  -- where the step after the frame begins
  ends-at : next.at ≡ w.at + header_length + h.key + h.size
  ends-at = rw (← p.next)

  stays_on : next.ended ≡ false
  stays_on = rw (← p.next)

-- The scan of the whole file, taken apart at its first step.

module _ (s : List ℕ) (m : ℕ) where
  only_end : (w : Scanner) → walk_from s w ≡ ends_at [] m → step_of s w ≡ step.End m (record { at = m; ended = true })
  unfolding go_on
  only_end w q = by (step_of s w) refl (sym (walk_on_lem s w) ∙ q)
    where
      by : (x : Scanned) → step_of s w ≡ x → go_on x (walk_from s) ≡ ends_at [] m → step_of s w ≡ step.End m (record { at = m; ended = true })
      by (step.Entry e next) p g = absurd (let l : e ∷ (walk_from s next).entries ≡ [] = ap (λ (v : Walk). v.entries) g in let z : ◌≡◌ {A = ℕ} 0 1 = cc in omega arith)
      by (step.End at next) p g = p ∙ ap (λ (v : Walk). v.last) g
      by (step.Refused why next) p g = p ∙ ap (λ (v : Walk). v.last) g

  an_entry : (w : Scanner) (e : ScanEntry) (es : List ScanEntry) → walk_from s w ≡ ends_at (e ∷ es) m
      → (next : Scanner) × (step_of s w ≡ step.Entry e next) × (walk_from s next ≡ ends_at es m)
  unfolding go_on
  an_entry w e es q = by (step_of s w) refl (sym (walk_on_lem s w) ∙ q)
    where
      by : (x : Scanned) → step_of s w ≡ x → go_on x (walk_from s) ≡ ends_at (e ∷ es) m
          → (next : Scanner) × (step_of s w ≡ step.Entry e next) × (walk_from s next ≡ ends_at es m)
      by (step.Entry f next) p g =
          let l : f ∷ (walk_from s next).entries ≡ e ∷ es = ap (λ (v : Walk). v.entries) g in
          let a : f ≡ e = cc in
          let b : (walk_from s next).entries ≡ es = cc in
          let c : (walk_from s next).last ≡ step.End m (record { at = m; ended = true }) = ap (λ (v : Walk). v.last) g in
          (next, p ∙ rw a, λ i. record { entries = b i; last = c i })
      by (step.End at next) p g = absurd (let l : [] ≡ e ∷ es = ap (λ (v : Walk). v.entries) g in let z : ◌≡◌ {A = ℕ} 0 1 = cc in omega arith)
      by (step.Refused why next) p g = absurd (let l : [] ≡ e ∷ es = ap (λ (v : Walk). v.entries) g in let z : ◌≡◌ {A = ℕ} 0 1 = cc in omega arith)

  -- the first step begins where the scanner stands
  begins : (es : List ScanEntry) (w : Scanner) → walk_from s w ≡ ends_at es m → begin_at es m ≡ w.at
  begins [] w q = sym (end-at s w _ m (only_end w q))
  begins (e ∷ es) w q =
      let p = an_entry w e es q in
      sym (ap (λ (x : ScanEntry). x.offset) (whole s w e p.0 p.1).entry)

  -- the entries, and then 7
  abbrev Stops : List ℕ → Scanner → List ScanEntry → Type 0
  Stops t w es = (at : ℕ) × (why : CutShort) × (walk_from t w ≡ record { entries = es; last = step.Refused (scan.CutShort why) (going at) })

  here : (t : List ℕ) (w : Scanner) → w.ended ≡ false → Short t w → Stops t w []
  here t w on c =
      let v : w ≡ going w.at = λ i. record { at = w.at; ended = on i } in
      (w.at, c.0, walk_refused t w w _ c.1 ∙ ap (λ (x : Scanner). record { entries = []; last = step.Refused (scan.CutShort c.0) x }) v)

  module _ (cut : ℕ) (h : cut < m + 4) where
    stops : (es : List ScanEntry) (w : Scanner) → w.ended ≡ false → walk_from s w ≡ ends_at es m → Stops (take cut s) w (whole_before cut es m)
    unfolding whole_before pick
    stops [] w on q =
        let z = end-at s w _ m (only_end w q) in
        let y = length-take cut s in
        here (take cut s) w on (few (take cut s) w on (omega arith))
    stops (e ∷ es) w on q =
        let p = an_entry w e es q in
        by p.0 p.1 (begins es p.0 p.2) (stops es p.0 (stays_on s cut w e p.0 (whole s w e p.0 p.1)) p.2) (dec_lt cut p.0.at)
      where
        by : (next : Scanner) → step_of s w ≡ step.Entry e next → begin_at es m ≡ next.at → Stops (take cut s) next (whole_before cut es m) → Dec (cut < next.at)
            → Stops (take cut s) w (pick (leb (begin_at es m) cut) (e ∷ whole_before cut es m) [])
        by next x b more (yes c) =
            let p = whole s w e next x in
            let a = ends-at s cut w e next p in
            let f : leb (begin_at es m) cut ≡ false = lt-leb (begin_at es m) cut (omega arith) in
            rw f (here (take cut s) w on (across s cut w e next p (omega arith)))
        by next x b more (no c) =
            let p = whole s w e next x in
            let a = ends-at s cut w e next p in
            let f : leb (begin_at es m) cut ≡ true = le-leb (begin_at es m) cut (omega arith) in
            rw f (more.0, more.1, walk_entry (take cut s) w next e (before s cut w e next p (omega arith)) ∙ ap (ahead (e ∷ [])) more.2)

pub short : Cut
short s es m cut q h = stops s m cut h es (going 0) refl q

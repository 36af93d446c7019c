-- What a step that gives an entry was: the tests the other way round, and from them that the entry is its frame's bytes, lies in the file, and is moved past.
use Rattle.std.specs.Prelude.{ℕ, ◌+◌, ◌-◌, ◌≤◌, refl, Bool, ◌&&◌, length, drop, ltb, eqb}
use Rattle.std.proofs.Math.Path.{◌≡◌, sym, ap}
use Rattle.std.proofs.Common.{ap₂, ◌∙◌, arith, ltb-false, eqb-true, length-drop, drop-drop, length-take-le}
use mathlib.Core.List.{List, [], ◌∷◌, ◌++◌}
use Rattle.std.proofs.Math.Bool.{true, false}
use Rattle.std.proofs.Math.ListN.{take}
use Rattle.std.proofs.Math.Seq.{take-add}
use Rattle.hash.specs.declared.Hash128.{Hash128}
use Rattle.numbers.specs.Pick.{pick}
use Rattle.numbers.specs.Le.{le, num, Octets}
use Rattle.numbers.specs.LeLaws.{le-num, octets_drop}
use Rattle.frames.specs.Layout.{blob, meta, header_length, header_bytes, header_of, header_for, frame_bytes, starts, same_sum}
use Rattle.frames.specs.Scan.{Framed, framed, going, reading, entry_of, frame_of, frame_at, part_at, sum_at, item_at, checked_of, step_of}
use Rattle.frames.specs.declared.header.Header.{Header}
use Rattle.frames.specs.declared.steps.Scanner.{Scanner}
use Rattle.frames.specs.declared.steps.ScanEntry.{ScanEntry}
use Rattle.frames.specs.declared.steps.Untested.{Untested}
use Rattle.frames.specs.declared.steps.FrameRefusal.{FrameRefusal}
use Rattle.frames.specs.declared.steps.FrameRefusal.TheVariants as frame
use Rattle.frames.specs.declared.steps.ScanRefusal.{ScanRefusal}
use Rattle.frames.specs.declared.steps.Step.TheVariants as step

-- a step from w that gave the entry e and left n, of a frame whose header is h
pub record Whole (s : List ℕ) (w : Scanner) (h : Header) (e : ScanEntry) (n : Scanner) : Type 0 where
  pub on : w.ended ≡ false
  pub no_end : starts meta (drop w.at s) ≡ false
  pub mark : starts blob (drop w.at s) ≡ true
  pub entry : entry_of w.at h ≡ e
  pub next : going (w.at + header_length + h.key + h.size) ≡ n
  pub room : w.at + header_length + h.key + h.size ≤ length s
  pub same : same_sum h.sum (sum_at s e) ≡ true

module _ (e : ScanEntry) (sum : Hash128) (next : Scanner) where
  abbrev Is : Framed → Type 0
  Is x = x ≡ framed e sum next

  at-end : (b : Bool) (at : ℕ) (n : Scanner) (x : Framed) → Is (pick b (step.End at n) x) → (b ≡ false) × Is x
  unfolding pick
  at-end true at n x h = absurd (let z : ◌≡◌ {A = ℕ} 0 1 = cc in omega arith)
  at-end false at n x h = (refl, h)

  at-refusal : (b : Bool) (why : FrameRefusal) (n : Scanner) (x : Framed) → Is (pick b (step.Refused why n) x) → (b ≡ false) × Is x
  unfolding pick
  at-refusal true why n x h = absurd (let z : ◌≡◌ {A = ℕ} 0 1 = cc in omega arith)
  at-refusal false why n x h = (refl, h)

  at_mark : (b : Bool) (why : FrameRefusal) (n : Scanner) (x : Framed) → Is (pick b x (step.Refused why n)) → (b ≡ true) × Is x
  unfolding pick
  at_mark true why n x h = (refl, h)
  at_mark false why n x h = absurd (let z : ◌≡◌ {A = ℕ} 0 1 = cc in omega arith)

  at_read : (s : List ℕ) (at needed : ℕ) (w : Scanner) (x : Framed) → Is (reading s at needed w x) → (needed ≤ length s - at) × Is x
  unfolding reading pick
  at_read s at needed w x h =
      let p = at-refusal (ltb (length s - at) needed) _ w x h in
      (ltb-false _ _ p.0, p.1)

-- a scanned entry is a framed one whose sum is right
right : (b : Bool) (f e : ScanEntry) (next' next : Scanner) (why : ScanRefusal) → pick b (step.Entry f next') (step.Refused why next') ≡ step.Entry e next
    → (b ≡ true) × (f ≡ e) × (next' ≡ next)
unfolding pick
right true f e next' next why h = (refl, cc, cc)
right false f e next' next why h = absurd (let z : ◌≡◌ {A = ℕ} 0 1 = cc in omega arith)

checked : (s : List ℕ) (e : ScanEntry) (next : Scanner) (f : Framed) → checked_of s f ≡ step.Entry e next
    → (sum : Hash128) × (f ≡ framed e sum next) × (same_sum sum (sum_at s e) ≡ true)
unfolding checked_of pick
checked s e next (step.Entry u next') h =
    let p = right _ u.entry e next' next _ h in
    (u.stored, λ i. step.Entry (record { entry = p.1 i; stored = u.stored }) (p.2 i), rw (← p.1) p.0)
checked s e next (step.End at next') h = absurd (let z : ◌≡◌ {A = ℕ} 0 1 = cc in omega arith)
checked s e next (step.Refused (frame.CutShort cut) next') h = absurd (let z : ◌≡◌ {A = ℕ} 0 1 = cc in omega arith)
checked s e next (step.Refused (frame.InvalidHeader at) next') h = absurd (let z : ◌≡◌ {A = ℕ} 0 1 = cc in omega arith)

-- two framed entries that are one
entries : (a b : ScanEntry) (x y : Hash128) (n m : Scanner) → framed a x n ≡ framed b y m → (a ≡ b) × (x ≡ y) × (n ≡ m)
entries a b x y n m h =
    let u : ◌≡◌ {A = Untested} (record { entry = a; stored = x }) (record { entry = b; stored = y }) = cc in
    (ap (λ (v : Untested). v.entry) u, ap (λ (v : Untested). v.stored) u, cc)

pub whole : (s : List ℕ) (w : Scanner) (e : ScanEntry) (next : Scanner) → step_of s w ≡ step.Entry e next → Whole s w (header_of (drop w.at s)) e next
unfolding step_of frame_at frame_of checked
whole s w e next q =
    let h = header_of (drop w.at s) in
    let c = checked s e next (frame_at s w) q in
    let x = c.0 in
    let p₁ = at-end e x next w.ended w.at w _ c.1 in
    let p₂ = at_read e x next s w.at 4 w _ p₁.1 in
    let p₃ = at-end e x next (starts meta (drop w.at s)) w.at _ _ p₂.1 in
    let p₄ = at_mark e x next (starts blob (drop w.at s)) _ _ _ p₃.1 in
    let p₅ = at_read e x next s (w.at + 4) 34 w _ p₄.1 in
    let p₆ = at_read e x next s (w.at + header_length) h.key w _ p₅.1 in
    let p₇ = at_read e x next s (w.at + header_length + h.key) h.size w _ p₆.1 in
    let p₈ = entries _ e _ x _ next p₇.1 in
    let r₅ = p₅.0 in
    let r₆ = p₆.0 in
    let r₇ = p₇.0 in
    record {
      on = p₁.0;
      no_end = p₃.0;
      mark = p₄.0;
      entry = p₈.0;
      next = p₈.2;
      room = omega (arith, r₅, r₆, r₇);
      same = rw p₈.1 c.2;
    }

-- where the entry lies, and where the next step begins
pub record Stepped (s : List ℕ) (at : ℕ) (e : ScanEntry) (n : Scanner) : Type 0 where
  pub offset : e.offset ≡ at
  pub key-at : e.key.at ≡ at + header_length
  pub value-at : e.value.at ≡ at + header_length + e.key.len
  pub next : n ≡ going (at + header_length + e.key.len + e.value.len)
  pub past : at + 4 ≤ n.at
  pub end : n.at ≤ length s
  pub key : e.key.at ≤ length s
  pub value : e.value.at ≤ length s

pub stepped : (e : ScanEntry) (n : Scanner) (s : List ℕ) (at : ℕ) → step_of s (going at) ≡ step.Entry e n → Stepped s at e n
stepped e n s at q =
    let p = whole s (going at) e n q in
    let h = header_of (drop at s) in
    let o : e.offset ≡ at = ap (λ (y : ScanEntry). y.offset) (sym p.entry) in
    let k : e.key.at ≡ at + header_length = ap (λ (y : ScanEntry). y.key.at) (sym p.entry) in
    let l : e.key.len ≡ h.key = ap (λ (y : ScanEntry). y.key.len) (sym p.entry) in
    let v : e.value.at ≡ at + header_length + h.key = ap (λ (y : ScanEntry). y.value.at) (sym p.entry) in
    let z : e.value.len ≡ h.size = ap (λ (y : ScanEntry). y.value.len) (sym p.entry) in
    let m : n.at ≡ at + header_length + h.key + h.size = ap (λ (y : Scanner). y.at) (sym p.next) in
    let r = p.room in
    record {
      offset = o;
      key-at = k;
      value-at = omega (arith, v, l);
      next = sym p.next ∙ ap₂ (λ (a b : ℕ). going (at + header_length + a + b)) (sym l) (sym z);
      past = omega (arith, m);
      end = omega (arith, m, r);
      key = omega (arith, k, r);
      value = omega (arith, v, r);
    }

-- The other direction of a step: the entry is the bytes of its frame.

one_byte : (b m : ℕ) (l k : List ℕ) (x t : Bool) → eqb b m ≡ t → pick t x false ≡ true → (x ≡ true → l ≡ k) → b ∷ l ≡ m ∷ k
unfolding pick
one_byte b m l k x true e g more = ap₂ (λ (y : ℕ) (z : List ℕ). y ∷ z) (eqb-true b m e) (more g)
one_byte b m l k x false e g more = absurd (let z : ◌≡◌ {A = ℕ} 0 1 = cc in omega arith)

mark-is : (mark p : List ℕ) → starts mark p ≡ true → take (length mark) p ≡ mark
unfolding starts
mark-is [] p h = refl
mark-is (m ∷ mark) [] h = absurd (let z : ◌≡◌ {A = ℕ} 0 1 = cc in omega arith)
mark-is (m ∷ mark) (b ∷ p) h = one_byte b m (take (length mark) p) mark (starts mark p) (eqb b m) refl h (mark-is mark p)

sum_is : (a b : Hash128) → same_sum a b ≡ true → a ≡ b
sum_is a b h = by (eqb a.low b.low) refl h
  where
    by : (t : Bool) → eqb a.low b.low ≡ t → (t && eqb a.high b.high) ≡ true → a ≡ b
    by true e g = λ i. record { low = eqb-true a.low b.low e i; high = eqb-true a.high b.high g i }
    by false e g = absurd (let z : ◌≡◌ {A = ℕ} 0 1 = cc in omega arith)

module _ (p : List ℕ) (long : header_length ≤ length p) (f : Octets p) (mark : starts blob p ≡ true) where
  -- a number of the header is its bytes
  field : (n at : ℕ) → at + n ≤ header_length → take n (drop at p) ≡ le n (num n (drop at p))
  field n at h = let l = length-drop at p in sym (le-num n (drop at p) (omega arith) (octets_drop at p f))

  header_is : take header_length p ≡ header_bytes (header_of p)
  unfolding header_bytes header_of
  header_is =
      take-add 34 4 p
      ∙ rw (
        take-add 30 4 p,
        take-add 28 2 p,
        take-add 20 8 p,
        take-add 12 8 p,
        take-add 4 8 p,
        mark-is blob p mark,
        field 4 34 (omega arith),
        field 4 30 (omega arith),
        field 2 28 (omega arith),
        field 8 20 (omega arith),
        field 8 12 (omega arith),
        field 8 4 (omega arith),
      )

module _ (s : List ℕ) (f : Octets s) (w : Scanner) (e : ScanEntry) (n : Scanner) (q : step_of s w ≡ step.Entry e n) where
  abbrev at : ℕ
  at = w.at

  abbrev p : List ℕ
  p = drop at s

  abbrev h : Header
  h = header_of p

  known : Whole s w h e n
  known = whole s w e n q

  long : length p ≡ length s - at
  long = length-drop at s

  key-bytes : part_at s e.key ≡ take h.key (drop header_length p)
  key-bytes = rw (← known.entry) (ap (take h.key) (sym (drop-drop header_length at s)))

  value-bytes : part_at s e.value ≡ take h.size (drop (header_length + h.key) p)
  value-bytes =
      let d : drop (at + header_length + h.key) s ≡ drop (header_length + h.key) p =
      (let o : at + header_length + h.key ≡ at + (header_length + h.key) = omega arith in ap (λ (k : ℕ). drop k s) o) ∙ sym (drop-drop (header_length + h.key) at s) in
      rw (← known.entry) (ap (take h.size) d)

  key-length : length (part_at s e.key) ≡ h.key
  key-length =
      let r = known.room in
      let l = long in
      let d = length-drop header_length p in
      rw key-bytes (length-take-le h.key (drop header_length p) (omega arith))

  value-length : length (part_at s e.value) ≡ h.size
  value-length =
      let r = known.room in
      let l = long in
      let d = length-drop (header_length + h.key) p in
      rw value-bytes (length-take-le h.size (drop (header_length + h.key) p) (omega arith))

  header_for_lem : header_for (item_at s e) ≡ h
  unfolding sum_at
  header_for_lem = λ i. record {
    sum = sym (sum_is h.sum (sum_at s e) known.same) i;
    seqno = ap (λ (y : ScanEntry). y.seqno) (sym known.entry) i;
    key = key-length i;
    stated = ap (λ (y : ScanEntry). y.stated) (sym known.entry) i;
    size = value-length i;
  }

  pub frame_is : take (n.at - at) p ≡ frame_bytes (item_at s e)
  unfolding frame_bytes
  frame_is =
      let r = known.room in
      let l = long in
      let m : n.at - at ≡ header_length + h.key + h.size = (let z = ap (λ (y : Scanner). y.at) known.next in omega arith) in
      rw (m, header_for_lem, take-add (header_length + h.key) h.size p, take-add header_length h.key p, key-bytes, value-bytes)
      (ap (λ (x : List ℕ). x ++ take h.key (drop header_length p) ++ take h.size (drop (header_length + h.key) p)) (header_is p (omega arith) (octets_drop at s f) known.mark))

-- The cases of a scan step, one law for each answer.
use Prim.Native.Nat.{ℕ, ◌+◌, ◌-◌, ◌<◌, ◌≤◌, min}
use mathlib.Core.Path.{◌≡◌, sym, ap, ◌∙◌}
use mathlib.Core.List.{List, ◌++◌}
use mathlib.Core.Bool.{Bool, true, false}
use native.Mathlib.Omega.{arith}
use borrow.Author.Tests.{lt-ltb, le-ltb}
use lib.ListN.{length, take, drop, length-drop}
use lib.Seq.{take-add, drop-drop}
use Rattle.hash.specs.declared.Hash128.{Hash128}
use Rattle.hash.specs.XXH3.{xxh3_128}
use Rattle.numbers.specs.Le.{le}
use Rattle.numbers.specs.PartLaws.{take_min}
use Rattle.frames.specs.Layout.{header_length, blob, meta, header_of, starts, same_sum}
use Rattle.frames.specs.LayoutLaws.{le-blob, le-meta}
use Rattle.frames.specs.Refusals.{widened}
use Rattle.frames.specs.Scan.{Framed, framed, going, cut_at, reading, entry_of, frame_of, frame_at, part_at, sum_at, checked_of}
use Rattle.frames.specs.declared.place.Place.{Place}
use Rattle.frames.specs.declared.header.Header.{Header}
use Rattle.frames.specs.declared.steps.Scanner.{Scanner}
use Rattle.frames.specs.declared.steps.ScanEntry.{ScanEntry}
use Rattle.frames.specs.declared.steps.FrameRefusal.{FrameRefusal}
use Rattle.frames.specs.declared.steps.FrameRefusal.TheVariants as frame
use Rattle.frames.specs.declared.steps.ScanRefusal.TheVariants as scan
use Rattle.frames.specs.declared.steps.Step.TheVariants as step

-- the bytes that a read needs are there, or not
module _ (s : List ℕ) (at needed : ℕ) (w : Scanner) (more : Framed) where
  pub reading-cut : length s - at < needed → reading s at needed w more ≡ cut_at at needed (length s - at) w
  unfolding reading
  reading-cut h = simp (lt-ltb _ _ h)

  pub reading-on : needed ≤ length s - at → reading s at needed w more ≡ more
  unfolding reading
  reading-on h = simp (le-ltb _ _ h)

-- a frame whose mark was read
module _ (s : List ℕ) (w : Scanner) where
  pub frame-header : length s - (w.at + 4) < 34 → frame_of s w ≡ cut_at (w.at + 4) 34 (length s - (w.at + 4)) w
  unfolding frame_of
  frame-header less = reading-cut s (w.at + 4) 34 w _ less

  -- p is the file from the mark on, as the code has it
  module _ (has : 34 ≤ length s - (w.at + 4)) (p : List ℕ) (q : p ≡ drop w.at s) (h : Header) (e : h ≡ header_of p) where
    head : header_of (drop w.at s) ≡ h
    head = rw (← q) (sym e)

    pub frame-key : length s - (w.at + header_length) < h.key → frame_of s w ≡ cut_at (w.at + header_length) h.key (length s - (w.at + header_length)) w
    unfolding frame_of
    frame-key less = rw head (reading-on s (w.at + 4) 34 w _ has ∙ reading-cut s (w.at + header_length) h.key w _ less)

    module _ (key : h.key ≤ length s - (w.at + header_length)) where
      pub frame-value : length s - (w.at + header_length + h.key) < h.size
          → frame_of s w ≡ cut_at (w.at + header_length + h.key) h.size (length s - (w.at + header_length + h.key)) w
      unfolding frame_of
      frame-value less =
          rw head (reading-on s (w.at + 4) 34 w _ has ∙ (reading-on s (w.at + header_length) h.key w _ key ∙ reading-cut s (w.at + header_length + h.key) h.size w _ less))

      pub frame-whole : h.size ≤ length s - (w.at + header_length + h.key)
          → frame_of s w ≡ framed (entry_of w.at h) h.sum (going (w.at + header_length + h.key + h.size))
      unfolding frame_of
      frame-whole value =
          rw head (reading-on s (w.at + 4) 34 w _ has ∙ (reading-on s (w.at + header_length) h.key w _ key ∙ reading-on s (w.at + header_length + h.key) h.size w _ value))

-- a step up to the sum
module _ (s : List ℕ) (w : Scanner) where
  pub at_ended : w.ended ≡ true → frame_at s w ≡ step.End w.at w
  unfolding frame_at
  at_ended h = simp h

  module _ (on : w.ended ≡ false) where
    pub at_cut : length s - w.at < 4 → frame_at s w ≡ cut_at w.at 4 (length s - w.at) w
    unfolding frame_at reading
    at_cut h = simp (on, lt-ltb _ _ h)

    -- p is the file from the scanner's place on, and m says whether it starts with META
    module _ (has : 4 ≤ length s - w.at) (p : List ℕ) (q : p ≡ drop w.at s) (m : Bool) (e : m ≡ starts (le 4 0x4154_454d) p) where
      is-meta : starts meta (drop w.at s) ≡ m
      is-meta = sym (e ∙ rw (le-meta, q))

      pub at-meta : m ≡ true → frame_at s w ≡ step.End w.at (record { at = w.at; ended = true })
      unfolding frame_at reading
      at-meta h = simp (on, le-ltb _ _ has, is-meta, h)

      -- and b whether with BLOB
      module _ (no_end : m ≡ false) (b : Bool) (f : b ≡ starts (le 4 0x424f_4c42) p) where
        is-blob : starts blob (drop w.at s) ≡ b
        is-blob = sym (f ∙ rw (le-blob, q))

        pub at-blob : b ≡ true → frame_at s w ≡ frame_of s w
        unfolding frame_at reading
        at-blob h = simp (on, le-ltb _ _ has, is-meta, no_end, is-blob, h)

        pub at_other : b ≡ false → frame_at s w ≡ step.Refused (frame.InvalidHeader w.at) (going (w.at + 4))
        unfolding frame_at reading
        at_other h = simp (on, le-ltb _ _ has, is-meta, no_end, is-blob, h)

-- the test of the sum
module _ (s : List ℕ) (f : Framed) where
  pub checked-end : (at : ℕ) (next : Scanner) → f ≡ step.End at next → checked_of s f ≡ step.End at next
  unfolding checked_of
  checked-end at next e = rw e

  pub checked-refused : (why : FrameRefusal) (next : Scanner) → f ≡ step.Refused why next → checked_of s f ≡ step.Refused (widened why) next
  unfolding checked_of
  checked-refused why next e = rw e

  module _ (entry : ScanEntry) (stored : Hash128) (next : Scanner) (e : f ≡ framed entry stored next)
      (x : Hash128) (g : x ≡ sum_at s entry) (o : Bool) (h : o ≡ same_sum stored x) where
    pub checked-entry : o ≡ true → checked_of s f ≡ step.Entry entry next
    unfolding checked_of
    checked-entry t = rw (e, ← g, ← h, t)

    pub checked_wrong : o ≡ false → checked_of s f ≡ step.Refused (scan.Mismatch entry.offset stored x) next
    unfolding checked_of
    checked_wrong t = rw (e, ← g, ← h, t)

-- the sum of two places that lie together is that of one part; n is what the file has of the second
pub together : (s body : List ℕ) (key value : Place) (r n : ℕ) (x : Hash128) → key.at ≤ value.at → value.at - key.at ≡ key.len
    → r ≡ length s - value.at → n ≡ min value.len r
    → body ≡ take (key.len + n) (drop key.at s) → x ≡ xxh3_128 body → x ≡ xxh3_128 (part_at s key ++ part_at s value)
together s body key value r n x before near left least e f =
    let g : key.at + key.len ≡ value.at = omega arith in
    let d : drop key.len (drop key.at s) ≡ drop value.at s = drop-drop key.len key.at s ∙ ap (λ (i : ℕ). drop i s) g in
    let m : n ≡ min value.len (length (drop value.at s)) = least ∙ ap (min value.len) (left ∙ sym (length-drop value.at s)) in
    let same : take n (drop value.at s) ≡ take value.len (drop value.at s) = rw m (take_min (drop value.at s) value.len) in
    f ∙ ap xxh3_128 (e ∙ (take-add key.len n (drop key.at s) ∙ ap (λ (l : List ℕ). part_at s key ++ l) (ap (take n) d ∙ same)))

pub apart : (s k v : List ℕ) (key value : Place) (x : Hash128) → k ≡ take key.len (drop key.at s) → v ≡ take value.len (drop value.at s)
    → x ≡ xxh3_128 (k ++ v) → x ≡ xxh3_128 (part_at s key ++ part_at s value)
apart s k v key value x e f g = g ∙ rw (e, f)

-- what a tail has, where the list has as much from there on
pub tail-has : (s p : List ℕ) (at n : ℕ) → n ≤ length s - at → p ≡ drop at s → n ≤ length p
tail-has s p at n h f = let l : length p ≡ length s - at = rw f (length-drop at s) in omega arith

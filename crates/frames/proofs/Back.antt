-- A scan step and a point read over the bytes of one frame give the frame back: its header's numbers are read as they were written.
use Prim.Native.Nat.{ℕ, ◌+◌, ◌-◌, ◌<◌, ◌^◌}
use mathlib.Core.Path.{◌≡◌, refl, sym, ◌∙◌}
use mathlib.Core.List.{List, [], ◌++◌, append_assoc, append-nil}
use mathlib.Core.Bool.{true, false}
use Rattle.std.specs.Prelude.{Ok}
use native.Mathlib.Omega.{arith}
use borrow.Author.Tests.{eq-eqb}
use lib.ListN.{length, take, drop, length-append, length-drop}
use lib.Seq.{drop-drop, drop_at, take_at}
use Rattle.hash.specs.declared.Hash128.{Hash128}
use Rattle.hash.specs.XXH3.{xxh3_128}
use Rattle.hash.specs.Bounds.{low_below, high-below}
use Rattle.numbers.specs.Pick.{pick}
use Rattle.numbers.specs.Le.{le, num}
use Rattle.numbers.specs.LeLaws.{num-le, length-le}
use Rattle.numbers.specs.declared.handle.ValueHandle.{ValueHandle}
use Rattle.frames.specs.Layout.{blob, meta, header_length, Item, header_bytes, header_for, frame_bytes, header_of, starts, same_sum}
use Rattle.frames.specs.LayoutLaws.{length-frame, le-blob, le-meta}
use Rattle.frames.specs.Scan.{going, entry_of, frame_at, sum_at, step_of}
use Rattle.frames.proofs.ScanLaws.{at-blob, frame-whole, checked-entry}
use Rattle.frames.specs.Point.{told_by, found_of, read_of, part_of, taken_sum, within_of}
use Rattle.frames.proofs.PointLaws.{tested-found, within-whole, found-whole}
use Rattle.frames.specs.declared.header.Header.{Header}
use Rattle.frames.specs.declared.steps.Step.TheVariants as step

pub same_self : (a : Hash128) → same_sum a a ≡ true
same_self a = simp (eq-eqb a.low a.low refl, eq-eqb a.high a.high refl)

-- what follows a part that stands at n
pub after : (n m : ℕ) (p a q : List ℕ) → drop n p ≡ a ++ q → length a ≡ m → drop (n + m) p ≡ q
after n m p a q e l = sym (drop-drop m n p) ∙ rw e (drop_at a q m l)

-- a number that stands at n
read : (w x n : ℕ) (p q : List ℕ) → drop n p ≡ le w x ++ q → x < 256 ^ w → x ≡ num w (drop n p)
read w x n p q e h = sym (rw e (num-le w x q h))

-- what an item's numbers are below
pub record Small (i : Item) : Type 0 where
  pub key : length i.key < 65536
  pub value : length i.value < 2 ^ 32
  pub seqno : i.seqno < 2 ^ 64
  pub stated : i.stated < 2 ^ 32

module _ (i : Item) (small : Small i) (rest p : List ℕ) (e : p ≡ frame_bytes i ++ rest) where
  abbrev key : List ℕ
  key = i.key

  abbrev value : List ℕ
  value = i.value

  abbrev seqno : ℕ
  seqno = i.seqno

  abbrev stated : ℕ
  stated = i.stated

  k : length key < 65536
  k = small.key

  v : length value < 2 ^ 32
  v = small.value

  abbrev head : Header
  head = header_for i

  abbrev r₇ : List ℕ
  r₇ = key ++ (value ++ rest)

  abbrev r₆ : List ℕ
  r₆ = le 4 (length value) ++ r₇

  abbrev r₅ : List ℕ
  r₅ = le 4 stated ++ r₆

  abbrev r₄ : List ℕ
  r₄ = le 2 (length key) ++ r₅

  abbrev r₃ : List ℕ
  r₃ = le 8 seqno ++ r₄

  abbrev r₂ : List ℕ
  r₂ = le 8 head.sum.high ++ r₃

  abbrev r₁ : List ℕ
  r₁ = le 8 head.sum.low ++ r₂

  all : p ≡ blob ++ r₁
  unfolding frame_bytes header_bytes
  all = e ∙ simp append_assoc

  at₄ : drop 4 p ≡ r₁
  at₄ = rw all

  at₁₂ : drop 12 p ≡ r₂
  at₁₂ = after 4 8 p (le 8 head.sum.low) r₂ at₄ (length-le 8 _)

  at₂₀ : drop 20 p ≡ r₃
  at₂₀ = after 12 8 p (le 8 head.sum.high) r₃ at₁₂ (length-le 8 _)

  at₂₈ : drop 28 p ≡ r₄
  at₂₈ = after 20 8 p (le 8 seqno) r₄ at₂₀ (length-le 8 _)

  at₃₀ : drop 30 p ≡ r₅
  at₃₀ = after 28 2 p (le 2 (length key)) r₅ at₂₈ (length-le 2 _)

  at₃₄ : drop 34 p ≡ r₆
  at₃₄ = after 30 4 p (le 4 stated) r₆ at₃₀ (length-le 4 _)

  at_key : drop header_length p ≡ r₇
  at_key = after 34 4 p (le 4 (length value)) r₇ at₃₄ (length-le 4 _)

  at_value : drop (header_length + length key) p ≡ value ++ rest
  at_value = after header_length (length key) p key (value ++ rest) at_key refl

  header-back : head ≡ header_of p
  unfolding header_of
  header-back = λ j. record {
    sum = record { low = read 8 _ 4 p r₂ at₄ (low_below (key ++ value)) j; high = read 8 _ 12 p r₃ at₁₂ (high-below (key ++ value)) j };
    seqno = read 8 seqno 20 p r₄ at₂₀ small.seqno j;
    key = read 2 (length key) 28 p r₅ at₂₈ k j;
    stated = read 4 stated 30 p r₆ at₃₀ small.stated j;
    size = read 4 (length value) 34 p r₇ at₃₄ v j;
  }

  size : length p ≡ header_length + length key + length value + length rest
  size = rw e (simp (length-append, length-frame))

  starts-blob : starts blob p ≡ true
  unfolding starts pick
  starts-blob = rw all

  starts-meta : starts meta p ≡ false
  unfolding starts pick
  starts-meta = rw all

  module _ (s : List ℕ) (at : ℕ) (d : p ≡ drop at s) where
    left : length p ≡ length s - at
    left = rw d (length-drop at s)

    pub key_back : take (length key) (drop (at + header_length) s) ≡ key
    key_back = rw (← drop-drop header_length at s, ← d, at_key) (take_at key (value ++ rest) (length key) refl)

    pub value-back : take (length value) (drop (at + header_length + length key) s) ≡ value
    value-back =
        let e₁ : drop (header_length + length key) (drop at s) ≡ drop (at + (header_length + length key)) s = drop-drop (header_length + length key) at s in
        let e₂ : at + (header_length + length key) ≡ at + header_length + length key = omega arith in
        let e₃ : drop (at + header_length + length key) s ≡ value ++ rest = rw (← e₂, ← e₁, ← d) at_value in
        rw e₃ (take_at value rest (length value) refl)

    sum_back : head.sum ≡ sum_at s (entry_of at head)
    unfolding sum_at
    sum_back = sym (rw (key_back, value-back))

    -- the same key, seqno, stated length and value, at the same offset
    pub step_back : step_of s (going at) ≡ step.Entry (entry_of at head) (going (at + header_length + length key + length value))
    unfolding step_of
    step_back =
        let z = left in
        let y = size in
        checked-entry s (frame_at s (going at)) (entry_of at head) head.sum (going (at + header_length + length key + length value))
        (at-blob s (going at) refl (omega arith) p d false (sym (rw le-meta starts-meta)) refl true (sym (rw le-blob starts-blob)) refl
        ∙ frame-whole s (going at) (omega arith) p d head header-back (omega arith) (omega arith))
        head.sum sum_back true (sym (same_self head.sum)) refl

  -- the same of what a point read took, where nothing follows the frame
  module _ (alone : rest ≡ []) where
    sum-taken : head.sum ≡ taken_sum p (length key) (length key)
    unfolding taken_sum
    sum-taken =
        let a : take (length key) (drop header_length p) ≡ key = rw at_key (take_at key (value ++ rest) (length key) refl) in
        let b : drop (header_length + length key) p ≡ value = at_value ∙ rw alone (append-nil value) in
        sym (rw (a, b))

    pub within-back : (at : ℕ) → within_of p at (length key) (length value)
        ≡ Ok (record { value = record { at = at + header_length + length key; len = length value }; sum = head.sum })
    within-back at =
        let z : length p ≡ header_length + length key + length value = size ∙ rw alone (omega arith) in
        within-whole p at (length key) (length value) true (sym (rw le-blob starts-blob)) refl head header-back z (omega arith) head.sum sum-taken
        ∙ tested-found at _ head.sum head.sum true (sym (same_self head.sum)) refl

-- a point read by the handle, with a key as long, finds the value
module _ (i : Item) (small : Small i) (rest s : List ℕ) (h : ValueHandle) (n : h.size ≡ length i.value) (d : drop h.offset s ≡ frame_bytes i ++ rest) where
  all_found : found_of s (length i.key) h
      ≡ Ok (record { value = record { at = h.offset + header_length + length i.key; len = length i.value }; sum = xxh3_128 (i.key ++ i.value) })
  all_found =
      let f = frame_bytes i in
      let l : length f ≡ header_length + length i.key + h.size = length-frame i ∙ rw n in
      let a : length (drop h.offset s) ≡ length f + length rest = rw d (length-append f rest) in
      let b : length (drop h.offset s) ≡ length s - h.offset = length-drop h.offset s in
      let c : f ≡ take (header_length + length i.key + h.size) (drop h.offset s) = sym (rw d (take_at f rest (header_length + length i.key + h.size) l)) in
      found-whole s (length i.key) h (omega arith) f c
      ∙ rw n (within-back i small [] f (sym (append-nil f)) refl h.offset)

  pub told_back : ((read_of s i.key h).number ≡ 0) × (part_of s (read_of s i.key h) ≡ i.value)
  unfolding told_by
  told_back = (rw all_found, rw all_found (value-back i small rest (drop h.offset s) d s h.offset refl))

-- The cases of a point read, one law for each answer.
use Prim.Native.Nat.{ℕ, ◌+◌, ◌-◌, ◌<◌, ◌≤◌}
use mathlib.Core.Path.{◌≡◌, sym, ap, ◌∙◌}
use mathlib.Core.List.{List}
use mathlib.Core.Bool.{Bool, true, false}
use Rattle.std.specs.Prelude.{Result, Ok, Err}
use native.Mathlib.Omega.{arith}
use borrow.Author.Tests.{lt-ltb, le-ltb}
use lib.ListN.{length, take, drop, take-append-drop}
use lib.Seq.{drop-drop}
use Rattle.hash.specs.declared.Hash128.{Hash128}
use Rattle.hash.specs.XXH3.{xxh3_128}
use Rattle.numbers.specs.Le.{le}
use Rattle.numbers.specs.declared.handle.ValueHandle.{ValueHandle}
use Rattle.frames.specs.Layout.{header_length, blob, header_of, starts, same_sum}
use Rattle.frames.specs.LayoutLaws.{le-blob}
use Rattle.frames.specs.Cut.{cut_of}
use Rattle.frames.specs.Point.{needing, tested, taken_sum, within_of, found_of}
use Rattle.frames.specs.declared.place.Place.{Place}
use Rattle.frames.specs.declared.header.Header.{Header}
use Rattle.frames.specs.declared.reader.Found.{Found}
use Rattle.frames.specs.declared.steps.ScanRefusal.{ScanRefusal}
use Rattle.frames.specs.declared.steps.ScanRefusal.TheVariants as scan

-- the bytes that a read needs are there, or not
module _ (at needed present : ℕ) (more : Result Found ScanRefusal) where
  pub needing-cut : present < needed → needing at needed present more ≡ Err (scan.CutShort (cut_of at needed present))
  unfolding needing
  needing-cut h = simp (lt-ltb _ _ h)

  pub needing-on : needed ≤ present → needing at needed present more ≡ more
  unfolding needing
  needing-on h = simp (le-ltb _ _ h)

module _ (at : ℕ) (value : Place) (stored computed : Hash128) (o : Bool) (e : o ≡ same_sum stored computed) where
  pub tested-found : o ≡ true → tested at value stored computed ≡ Ok (record { value = value; sum = stored })
  unfolding tested
  tested-found h = rw (← e, h)

  pub tested_wrong : o ≡ false → tested at value stored computed ≡ Err (scan.Mismatch at stored computed)
  unfolding tested
  tested_wrong h = rw (← e, h)

-- key and value in one part, where the header's key is as long as the given one
pub taken_once : (t u : List ℕ) (hk k : ℕ) → hk ≡ k → u ≡ drop header_length t → xxh3_128 u ≡ taken_sum t hk k
unfolding taken_sum
taken_once t u hk k e p = ap xxh3_128 (p ∙ sym (rw (e, ← drop-drop k header_length t) (take-append-drop k (drop header_length t))))

-- m says whether t starts with BLOB
module _ (t : List ℕ) (at k size : ℕ) (m : Bool) (e : m ≡ starts (le 4 0x424f_4c42) t) where
  is-blob : starts blob t ≡ m
  is-blob = sym (e ∙ rw le-blob)

  pub within-other : m ≡ false → within_of t at k size ≡ Err (scan.InvalidHeader at)
  unfolding within_of
  within-other h = simp (is-blob, h)

  module _ (b : m ≡ true) (h : Header) (f : h ≡ header_of t) (l : length t ≡ header_length + k + size) where
    left : length t - header_length ≡ k + size
    left = omega arith

    marked : within_of t at k size ≡ needing (at + header_length) h.key (k + size) (tested at (record { at = at + header_length + k; len = size }) h.sum (taken_sum t h.key k))
    unfolding within_of
    marked = rw (← f) (simp (is-blob, b, left))

    pub within-short : k + size < h.key → within_of t at k size ≡ Err (scan.CutShort (cut_of (at + header_length) h.key (k + size)))
    within-short less = marked ∙ needing-cut (at + header_length) h.key (k + size) _ less

    pub within-whole : h.key ≤ k + size → (x : Hash128) → x ≡ taken_sum t h.key k
        → within_of t at k size ≡ tested at (record { at = at + header_length + k; len = size }) h.sum x
    within-whole fits x q = rw q (marked ∙ needing-on (at + header_length) h.key (k + size) _ fits)

module _ (s : List ℕ) (k : ℕ) (h : ValueHandle) where
  pub found-cut : length s - h.offset < header_length + k + h.size
      → found_of s k h ≡ Err (scan.CutShort (cut_of h.offset (header_length + k + h.size) (length s - h.offset)))
  unfolding found_of
  found-cut l = needing-cut h.offset (header_length + k + h.size) (length s - h.offset) _ l

  pub found-whole : header_length + k + h.size ≤ length s - h.offset → (t : List ℕ) → t ≡ take (header_length + k + h.size) (drop h.offset s)
      → found_of s k h ≡ within_of t h.offset k h.size
  unfolding found_of
  found-whole l t q = rw q (needing-on h.offset (header_length + k + h.size) (length s - h.offset) _ l)

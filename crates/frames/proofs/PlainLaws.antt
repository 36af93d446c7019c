-- A plain append as a raw one.
use Rattle.std.specs.Prelude.{ℕ, ◌<◌, min, ◌≡◌, List, Result, Ok, Err}
use Rattle.std.proofs.Math.Path.{refl}
use native.Mathlib.Omega.{arith}
use Rattle.std.proofs.Math.Decide.{dec_lt}
use borrow.Author.Tests.{lt-ltb}
use Rattle.std.proofs.Math.ListN.{length}
use Rattle.numbers.specs.Pick.{pick}
use Rattle.frames.specs.Layout.{Item, frame_bytes}
use Rattle.frames.specs.Shape.{item_of, plain_of, blob_form, shape_of}
use Rattle.frames.specs.Write.{judged, answer_of, bytes_of}
use Rattle.frames.specs.Write.{answered, append_answer, append_bytes}
use Rattle.frames.specs.declared.state.Writer.{Writer}
use Rattle.frames.specs.declared.writer.Appended.{Appended}
use Rattle.frames.specs.declared.refused.Refused.{Refused}
use Rattle.frames.specs.declared.refused.AppendRefusal.{AppendRefusal}
use Rattle.frames.specs.WriteLaws.{taken}

-- A plain append states the value's own length; a length that no u32 holds is refused before it is stated.

module _ (w : Writer) (s : List ℕ) (key : List ℕ) (seqno stated : ℕ) (value : List ℕ) where
  abbrev cast : Item
  cast = item_of key seqno stated value

  abbrev plain : Item
  plain = plain_of key seqno value

  abbrev by_cast : Result Writer AppendRefusal → Result Appended (Refused AppendRefusal)
  by_cast j = answer_of j w (shape_of blob_form cast)

  abbrev by_plain : Result Writer AppendRefusal → Result Appended (Refused AppendRefusal)
  by_plain j = answer_of j w (shape_of blob_form plain)

  same : (j : Result Writer AppendRefusal) → ((after : Writer) → j ≡ Ok after → ⊥)
      → (by_cast j ≡ by_plain j) × (bytes_of (by_cast j) w s (frame_bytes cast) ≡ bytes_of (by_plain j) w s (frame_bytes plain))
  same (Ok after) h = absurd (h after refl)
  same (Err why) h = (refl, refl)

  abbrev Same : Type 0
  Same = (append_answer blob_form w s cast ≡ append_answer blob_form w s plain) × (append_bytes blob_form w s cast ≡ append_bytes blob_form w s plain)

  long : 4294967295 < length value → judged w (length s) (shape_of blob_form cast) ≡ judged w (length s) (shape_of blob_form plain)
  unfolding judged pick
  long h = simp (lt-ltb _ _ h)

  not_taken : 4294967295 < length value → (after : Writer) → judged w (length s) (shape_of blob_form plain) ≡ Ok after → ⊥
  not_taken h after g = let t = (taken w (length s) (shape_of blob_form plain) after g).0.small in omega arith

  pub plain-append : stated ≡ min (length value) 4294967295 → Same
  unfolding answered append_bytes
  plain-append e = by (dec_lt 4294967295 (length value))
    where
      by : Dec (4294967295 < length value) → Same
      by (yes h) = rw (long h) (same (judged w (length s) (shape_of blob_form plain)) (not_taken h))
      by (no h) = let f : stated ≡ length value = omega arith in rw f (refl, refl)

-- What a writer's calls answer and write, by the verdict on an append's lengths.
use Rattle.std.specs.Prelude.{ℕ, ◌+◌, ◌<◌, ◌≤◌, ◌^◌, ◌≡◌, List, Bool, true, false, length, Option, Some, None, Result, Ok, Err, if◌then◌else◌}
use Rattle.std.specs.Bool.{then_some}
use Rattle.std.proofs.Common.{sym, ◌∙◌, ap, refl}
use native.Mathlib.Omega.{arith}
use Rattle.std.proofs.lemmas.List.Edits.{sets}
use Rattle.numbers.specs.Le.{le}
use Rattle.numbers.specs.LeLaws.{sets_then}
use Rattle.frames.specs.Layout.{header_length, Item, frame_bytes}
use Rattle.frames.specs.LayoutLaws.{length-frame, le-meta}
use Rattle.frames.specs.Shape.{blob_form, shape_of}
use Rattle.frames.specs.Write.{judged, grown, pointer_of, report_of, accepted_as, handed_back, answer_of, answered, append_answer, append_bytes, end_bytes}
use Rattle.frames.specs.WriteLaws.{Taken, taken}
use Rattle.numbers.specs.declared.handle.BlobIndirection.{BlobIndirection}
use Rattle.frames.specs.declared.shape.Shape.{Shape}
use Rattle.frames.specs.declared.state.Writer.{Writer}
use Rattle.frames.specs.declared.writer.Report.{Report}
use Rattle.frames.specs.declared.writer.Appended.{Appended}
use Rattle.frames.specs.declared.refused.Refused.{Refused}
use Rattle.frames.specs.declared.refused.AppendRefusal.{AppendRefusal}

appended_is : (a b : Appended) → ◌≡◌ {A = Result Appended (Refused AppendRefusal)} (Ok a) (Ok b) → a ≡ b
appended_is a b h = cc

module _ (w : Writer) (n : ℕ) (f : Shape) where
  pub answer_refused : (why : AppendRefusal) → judged w n f ≡ Err why → answered w n f ≡ Err (handed_back w why)
  unfolding answered
  answer_refused why e = rw e

  reported_is : (r : Report) (b : Bool) → then_some b r ≡ (if b then Some r else None)
  reported_is r true = refl
  reported_is r false = refl

  pub answer_taken : (after : Writer) → judged w n f ≡ Ok after → (pointer : BlobIndirection) → pointer ≡ pointer_of w f
      → (r : Report) → r ≡ report_of after → (o : Option Report) → o ≡ then_some after.finished r
      → Ok (record { pointer = pointer; writer = after; report = o }) ≡ answered w n f
  unfolding answered accepted_as
  answer_taken after e pointer p r q o g = rw (e, p, g, q, reported_is) refl

  -- what an append that is taken knows
  pub answer_is : (a : Appended) → answered w n f ≡ Ok a → Taken w n f × (a.writer ≡ grown w f)
  unfolding answered accepted_as
  answer_is a h = by (judged w n f) refl h
    where
      by : (j : Result Writer AppendRefusal) → judged w n f ≡ j → answer_of j w f ≡ Ok a → Taken w n f × (a.writer ≡ grown w f)
      by (Ok after) e q = let t = taken w n f after e in (t.0, sym (ap (λ (x : Appended). x.writer) (appended_is _ a q)) ∙ sym t.1)
      by (Err why) e q = absurd (let z : ◌≡◌ {A = ℕ} 0 1 = cc in omega arith)

-- an append, as the code takes it: f are the frame's lengths, and r is the answer by them
module _ (w : Writer) (s : List ℕ) (i : Item) (f : Shape) (is : f ≡ shape_of blob_form i) (r : Result Appended (Refused AppendRefusal)) (e : r ≡ answered w (length s) f) where
  answer : append_answer blob_form w s i ≡ r
  answer = sym (e ∙ rw is)

  pub append_refused : (back : Refused AppendRefusal) → r ≡ Err back → s ≡ append_bytes blob_form w s i
  unfolding append_bytes
  append_refused back q = let h = answer ∙ q in rw h

  pub append_written : (a : Appended) → r ≡ Ok a → (b₁ b₂ : List ℕ) → b₁ ≡ sets s w.offset (frame_bytes i)
      → b₂ ≡ sets b₁ a.writer.offset (end_bytes a.writer.finished) → b₂ ≡ append_bytes blob_form w s i
  unfolding append_bytes grown
  append_written a q b₁ b₂ x y =
      let h = answer ∙ q in
      let l = length-frame i in
      let g = (answer_is w (length s) (shape_of blob_form i) a h).1 in
      let at : a.writer.offset ≡ w.offset + length (frame_bytes i) = ap (λ (v : Writer). v.offset) g ∙ omega arith in
      rw h (sets_then s b₁ b₂ (frame_bytes i) (end_bytes a.writer.finished) w.offset a.writer.offset x y at)

  -- what the store of a frame asks
  pub append_fits : (a : Appended) → r ≡ Ok a
      → (length i.key < 65536) × (length i.value < 2 ^ 32) × (w.offset + header_length + length i.key + length i.value ≤ length s)
  append_fits a q =
      let h = answer ∙ q in
      let t = (answer_is w (length s) (shape_of blob_form i) a h).0 in
      let k = t.short in
      let v = t.small in
      let r = t.room in
      (omega arith, omega arith, omega arith)

-- the end mark's store, or none
pub end-stored : (b₀ b₁ : List ℕ) (at : ℕ) (f : Bool) → f ≡ true → b₁ ≡ sets b₀ at (le 4 0x4154_454d) → b₁ ≡ sets b₀ at (end_bytes f)
unfolding end_bytes
end-stored b₀ b₁ at f e p = p ∙ rw (le-meta, e)

pub end_none : (b₀ : List ℕ) (at : ℕ) (f : Bool) → f ≡ false → b₀ ≡ sets b₀ at (end_bytes f)
unfolding end_bytes
end_none b₀ at f e = rw e

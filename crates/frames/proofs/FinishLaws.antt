-- The cases of a finish and of the next file, one law for each answer, as the code tests for them.
use Rattle.std.specs.Prelude.{ℕ, ◌+◌, ◌-◌, ◌<◌, ◌≤◌, ◌≡◌, List, true, false, not, Ok, Err}
use Rattle.std.proofs.Common.{◌∙◌}
use native.Mathlib.Omega.{arith}
use borrow.Author.Tests.{lt-ltb, le-ltb, le-leb, lt-leb, eq-eqb, ne_eqb}
use Rattle.std.proofs.Math.ListN.{length}
use Rattle.std.proofs.lemmas.List.Edits.{sets}
use Rattle.numbers.specs.Pick.{pick}
use Rattle.frames.specs.Write.{most, new_writer, targeted, closed_as, report_of, handed_back, end_bytes}
use Rattle.frames.specs.Write.{finish_answer, finish_bytes, next_of}
use Rattle.frames.specs.declared.state.Writer.{Writer}
use Rattle.frames.specs.declared.writer.Report.{Report}
use Rattle.frames.specs.declared.refused.FinishRefusal.TheVariants as finish
use Rattle.frames.specs.declared.refused.NextRefusal.TheVariants as next

module _ (w : Writer) (s : List ℕ) where
  pub finish-again : w.finished ≡ true → (Err (handed_back w finish.Finished) ≡ finish_answer w (length s)) × (s ≡ finish_bytes w s)
  unfolding finish_answer finish_bytes pick
  finish-again h = (simp h, simp h)

  module _ (on : w.finished ≡ false) where
    pub finish-empty : w.items ≡ 0 → (Err (handed_back w finish.NothingWritten) ≡ finish_answer w (length s)) × (s ≡ finish_bytes w s)
    unfolding finish_answer finish_bytes pick
    finish-empty h = (simp (on, eq-eqb _ _ h), simp (on, eq-eqb _ _ h))

    module _ (some : w.items ≡ 0 → ⊥) (r : ℕ) (left : r ≡ length s - w.offset) where
      pub finish_full : r < 4 → (Err (handed_back w finish.NoRoom) ≡ finish_answer w (length s)) × (s ≡ finish_bytes w s)
      unfolding finish_answer finish_bytes pick
      finish_full h =
          let l : length s < w.offset + 4 = omega arith in
          (simp (on, ne_eqb _ _ some, lt-ltb _ _ l), simp (on, ne_eqb _ _ some, lt-ltb _ _ l))

      pub finish-done : 4 ≤ r → (b : List ℕ) → b ≡ sets s w.offset (end_bytes true) → (x : Report) → x ≡ report_of (closed_as w)
          → (Ok (record { writer = closed_as w; report = x }) ≡ finish_answer w (length s)) × (b ≡ finish_bytes w s)
      unfolding finish_answer finish_bytes end_bytes pick
      finish-done h b e x f =
          let l : w.offset + 4 ≤ length s = omega arith in
          (rw f (simp (on, ne_eqb _ _ some, le-ltb _ _ l)), e ∙ simp (on, ne_eqb _ _ some, le-ltb _ _ l))

module _ (w : Writer) where
  pub next_early : not w.finished ≡ true → next_of w ≡ Err (handed_back w next.NotFinished)
  unfolding next_of pick
  next_early h = simp h

  module _ (off : not w.finished ≡ false) where
    pub next_last : most ≤ w.id → next_of w ≡ Err (handed_back w next.IdsUsedUp)
    unfolding next_of pick
    next_last h = simp (off, le-leb _ _ h)

    pub next-done : w.id < most → (n w' : Writer) → n ≡ new_writer (w.id + 1) → w' ≡ targeted n w.target → next_of w ≡ Ok w'
    unfolding next_of pick
    next-done h n w' e f = rw (f, e) (simp (off, lt-leb _ _ h))

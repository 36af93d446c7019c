-- What a run comes to, from any unfinished writer and whatever the form of frame.
use Rattle.std.specs.Prelude.{ℕ, ◌+◌, ◌≤◌, ◌≡◌, Bool, true, false}
use Rattle.std.proofs.Math.Path.{refl, ap, ap₂, subst}
use Rattle.std.proofs.Common.{sym, ◌∙◌}
use mathlib.Core.List.{List, [], ◌∷◌, ◌++◌, append_assoc, append-nil}
use native.Mathlib.Omega.{arith}
use Rattle.std.proofs.Math.ListN.{length, length-append}
use Rattle.std.proofs.Math.Seq.{sets, length-sets}
use Rattle.numbers.specs.Pick.{pick}
use Rattle.numbers.specs.LeLaws.{sets-append}
use Rattle.frames.specs.Shape.{Form, shape_of, size_of}
use Rattle.frames.specs.Write.{targeted, report_of, end_bytes}
use Rattle.frames.specs.Runs.{Call, Typed, Frame, Run, called, and_then, run_by, all_bytes}
use Rattle.frames.specs.Ran.{grown_by, settled, stated_sum, disk_sum, Laid, Counts, Ran, Still}
use Rattle.frames.specs.GrownLaws.{Sized, all_append, grown-append, grown-settled, grown-id, grown-items, grown-disk, grown-stated, grown-offset}
use Rattle.frames.specs.CallLaws.{unchanged, ran_call, still_call}
use Rattle.frames.specs.declared.state.Writer.{Writer}

still_then : (w : Writer) (s : List ℕ) (a b : Run) → Still w s a → Still a.writer a.buffer b → Still w s (and_then a b)
still_then w s a b p q = record {
  writer = q.writer ∙ ap (λ (v : Writer). targeted v b.writer.target) p.writer;
  buffer = q.buffer ∙ p.buffer;
  frames = rw (p.frames, q.frames);
  reports = rw (p.reports, q.reports);
}

module _ (form : Form) where
  still_run : (cs : List Call) (w : Writer) (s : List ℕ) → w.finished ≡ true → Still w s (run_by form cs w s)
  unfolding run_by
  still_run [] w s off = record { writer = refl; buffer = refl; frames = refl; reports = refl }
  still_run (c ∷ cs) w s off =
      let p = still_call form w s off c in
      still_then w s _ _ p (still_run cs (called form c w s).writer (called form c w s).buffer (ap (λ (v : Writer). v.finished) p.writer ∙ off))

  module _ (sized : Sized form) where
    -- What the writer after a run has, by the laws of the fold.
    module _ (w : Writer) (s : List ℕ) (r : Run) (p : Ran form w s r) where
      pub ran-id : r.writer.id ≡ w.id
      ran-id = ap (λ (v : Writer). v.id) p.writer ∙ grown-id form r.frames w

      pub ran_offset : r.writer.offset ≡ w.offset + length (all_bytes form r.frames)
      ran_offset = ap (λ (v : Writer). v.offset) p.writer ∙ grown-offset form sized r.frames w

      pub ran-items : r.writer.items ≡ w.items + length r.frames
      ran-items = ap (λ (v : Writer). v.items) p.writer ∙ grown-items form r.frames w

      pub ran-disk : r.writer.disk ≡ w.disk + disk_sum r.frames
      ran-disk = ap (λ (v : Writer). v.disk) p.writer ∙ grown-disk form r.frames w

      pub ran-stated : r.writer.stated ≡ w.stated + stated_sum r.frames
      ran-stated = ap (λ (v : Writer). v.stated) p.writer ∙ grown-stated form r.frames w

    laid-append : (id offset then : ℕ) (a b : List Frame) → then ≡ offset + length (all_bytes form a) → Laid form id offset a → Laid form id then b → Laid form id offset (a ++ b)
    unfolding all_bytes
    laid-append id offset then [] b e l m = let f : then ≡ offset = omega arith in subst (λ (o : ℕ). Laid form id o b) f m
    laid-append id offset then (x ∷ a) b e l m =
        let n = length-append (form.bytes x.item) (all_bytes form a) in
        let k = sized x.item in
        (l.0, laid-append id (offset + size_of (shape_of form x.item)) then a b (omega arith) l.1 m)

    -- One call after another.

    module _ (w : Writer) (s : List ℕ) (a b : Run) (p : Ran form w s a) where
      ran_still : a.writer.finished ≡ true → Still a.writer a.buffer b → Ran form w s (and_then a b)
      unfolding pick
      ran_still off q =
          let f : a.frames ++ b.frames ≡ a.frames = rw q.frames (append-nil a.frames) in
          let g : a.reports ++ b.reports ≡ a.reports = rw q.reports (append-nil a.reports) in
          let v : b.writer ≡ targeted a.writer b.writer.target = q.writer in
          let o : b.writer.finished ≡ a.writer.finished = ap (λ (x : Writer). x.finished) v in
          let n : b.writer.items ≡ a.writer.items = ap (λ (x : Writer). x.items) v in
          record {
            buffer = rw (f, o) (q.buffer ∙ p.buffer);
            fits = λ h. rw (f, o) (p.fits h);
            laid = subst (Laid form w.id w.offset) (sym f) p.laid;
            writer =
                v
                ∙ ap (λ (x : Writer). targeted x b.writer.target) p.writer
                ∙ ap₂ (λ (fs : List Frame) (c : Bool). settled (grown_by form w fs) b.writer.target c) (sym f) (sym o);
            some = λ e. rw n (p.some (sym o ∙ e));
            counts = λ c. subst Counts (sym v) (record { items = (p.counts c).items; disk = (p.counts c).disk; stated = (p.counts c).stated });
            reports = rw (g, o) (p.reports ∙ rw off (ap (λ (x : Writer). report_of x ∷ []) (sym v)));
          }

      module _ (on : a.writer.finished ≡ false) (q : Ran form a.writer a.buffer b) where
        bytes : all_bytes form (a.frames ++ b.frames) ++ end_bytes b.writer.finished ≡ all_bytes form a.frames ++ (all_bytes form b.frames ++ end_bytes b.writer.finished)
        bytes = rw (all_append form a.frames b.frames) (append_assoc (all_bytes form a.frames) (all_bytes form b.frames) (end_bytes b.writer.finished))

        first : a.buffer ≡ sets s w.offset (all_bytes form a.frames)
        unfolding end_bytes
        first = p.buffer ∙ rw on (ap (λ (l : List ℕ). sets s w.offset l) (append-nil (all_bytes form a.frames)))

        long : length a.buffer ≡ length s
        long = rw first (length-sets s w.offset (all_bytes form a.frames))

        offset : a.writer.offset ≡ w.offset + length (all_bytes form a.frames)
        offset = ran_offset w s a p

        -- the fold goes on from the writer that the first calls left
        onward : b.writer ≡ settled (grown_by form w (a.frames ++ b.frames)) b.writer.target b.writer.finished
        onward =
            q.writer
            ∙ ap (λ (v : Writer). settled (grown_by form v b.frames) b.writer.target b.writer.finished) p.writer
            ∙ grown-settled form b.frames (grown_by form w a.frames) a.writer.target b.writer.target a.writer.finished b.writer.finished
            ∙ ap (λ (v : Writer). settled v b.writer.target b.writer.finished) (sym (grown-append form w a.frames b.frames))

        ran-ran : Ran form w s (and_then a b)
        unfolding pick
        ran-ran =
            let A = all_bytes form a.frames in
            let B = all_bytes form b.frames ++ end_bytes b.writer.finished in
            let n : length (A ++ B) ≡ length A + length B = length-append A B in
            let none : length (A ++ []) ≡ length A = ap length (append-nil A) in
            let no-report : a.reports ≡ [] = p.reports ∙ rw on in
            let end : end_bytes a.writer.finished ≡ [] = unfold end_bytes in (rw on) in
            record {
              buffer = q.buffer ∙ rw (first, offset, bytes) (sets-append A B s w.offset);
              fits = λ h.
                  let x : w.offset + length (A ++ []) ≤ length s = rw end at (p.fits h) in
                  let y = q.fits (omega (arith, offset, x, none, long)) in
                  rw bytes (omega (arith, offset, y, n, long));
              laid = laid-append w.id w.offset a.writer.offset a.frames b.frames offset p.laid (subst (λ (i : ℕ). Laid form i a.writer.offset b.frames) (ran-id w s a p) q.laid);
              writer = onward;
              some = q.some;
              counts = λ c. q.counts (p.counts c);
              reports = rw no-report q.reports;
            }

      ran_then : (c : Bool) → a.writer.finished ≡ c → (a.writer.finished ≡ true → Still a.writer a.buffer b) → (a.writer.finished ≡ false → Ran form a.writer a.buffer b)
          → Ran form w s (and_then a b)
      ran_then true e q r = ran_still e (q e)
      ran_then false e q r = ran-ran e (r e)

    -- the whole run, from any unfinished writer
    pub ran : (cs : List Call) (w : Writer) (s : List ℕ) → w.finished ≡ false → Typed cs → Ran form w s (run_by form cs w s)
    unfolding run_by
    ran [] w s on t = unchanged form sized w s on
    ran (c ∷ cs) w s on t =
        let a = called form c w s in
        ran_then w s (called form c w s) (run_by form cs a.writer a.buffer) (ran_call form sized w s on c t.0) a.writer.finished refl
        (still_run cs a.writer a.buffer) (λ e. ran cs a.writer a.buffer e t.1)

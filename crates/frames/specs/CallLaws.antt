-- What one call comes to, on an unfinished writer and on a finished one, whatever the form of frame.
use Rattle.std.specs.Prelude.{ℕ, ◌+◌, ◌<◌, ◌≤◌, ◌^◌, ◌≡◌, Bool, ltb, eqb, Some, None, Result, Ok, Err}
use Rattle.std.proofs.Math.Path.{refl, ap, subst}
use Rattle.std.proofs.Common.{sym, true≢false, arith, ltb-false}
use mathlib.Core.List.{List, [], ◌∷◌, ◌++◌, append-nil}
use Rattle.std.proofs.Math.Bool.{true, false}
use Rattle.std.proofs.Math.ListN.{length, length-append}
use Rattle.std.proofs.lemmas.List.Edits.{sets}
use Rattle.numbers.specs.Pick.{pick}
use Rattle.frames.specs.Layout.{meta, Item}
use Rattle.frames.specs.Shape.{item_of, plain_of, Form, shape_of}
use Rattle.frames.specs.Write.{targeted, report_of, judged, grown, pointer_of, accepted_as, handed_back, end_bytes, closed_as, answer_of, bytes_of}
use Rattle.frames.specs.Write.{answered, append_bytes, finish_answer, closed_bytes, finish_bytes}
use Rattle.frames.specs.WriteLaws.{Taken, taken, judge_finished, some_number}
use Rattle.frames.specs.Runs.{Call, append, append_raw, use_target, finish, TypedCall, Frame, Run, append_run, finish_run, appending, called, all_bytes}
use Rattle.frames.specs.declared.state.Writer.{Writer}
use Rattle.frames.specs.declared.writer.Report.{Report}
use Rattle.frames.specs.declared.writer.Closed.{Closed}
use Rattle.frames.specs.declared.refused.Refused.{Refused}
use Rattle.frames.specs.declared.refused.AppendRefusal.{AppendRefusal}
use Rattle.frames.specs.declared.refused.AppendRefusal.TheVariants.{Finished}
use Rattle.frames.specs.declared.refused.FinishRefusal.{FinishRefusal}
use Rattle.frames.specs.declared.refused.FinishRefusal.TheVariants as finishRefusal
use Rattle.frames.specs.Ran.{grown_by, settled, Ran, Still}
use Rattle.frames.specs.GrownLaws.{Sized}

length-end : (b : Bool) → length (end_bytes b) ≤ 4
unfolding end_bytes
length-end true = omega arith
length-end false = omega arith

module _ (form : Form) (sized : Sized form) where
  -- One call on an unfinished writer.

  -- nothing taken and nothing written: only the target may be another
  pub nothing : (w : Writer) (s : List ℕ) (target : ℕ) → Ran form w s (record { writer = settled w target false; buffer = s; frames = []; reports = [] })
  unfolding all_bytes end_bytes grown_by pick
  nothing w s target = record {
    buffer = refl;
    fits = λ h. omega arith;
    laid = tt;
    writer = refl;
    some = λ e. absurd (true≢false (sym e));
    counts = λ c. record { items = c.items; disk = c.disk; stated = c.stated };
    reports = refl;
  }

  pub unchanged : (w : Writer) (s : List ℕ) → w.finished ≡ false → Ran form w s (record { writer = w; buffer = s; frames = []; reports = [] })
  unchanged w s on =
      let e : w ≡ settled w w.target false = λ i. settled w w.target (on i) in
      subst (λ (x : Writer). Ran form w s (record { writer = x; buffer = s; frames = []; reports = [] })) (sym e) (nothing w s w.target)

  module _ (w : Writer) (s : List ℕ) (i : Item) (q : i.seqno < 2 ^ 64) (t : length i.value ≤ 4294967295 → i.stated < 2 ^ 32) where
    abbrev new : Writer
    new = grown w (shape_of form i)

    abbrev frame : Frame
    frame = record { item = i; pointer = pointer_of w (shape_of form i) }

    one : (b : Bool) → new.finished ≡ b → (reports : List Report) → reports ≡ pick b (report_of new ∷ []) [] → Taken w (length s) (shape_of form i)
        → Ran form w s (record { writer = new; buffer = sets s w.offset (form.bytes i ++ end_bytes b); frames = frame ∷ []; reports = reports })
    unfolding all_bytes grown grown_by
    one b e reports f g =
        let n = sized i in
        let m : length (form.bytes i ++ []) ≡ length (form.bytes i) = ap length (append-nil (form.bytes i)) in
        let k : length (form.bytes i ++ [] ++ end_bytes b) ≡ length (form.bytes i ++ []) + length (end_bytes b) = length-append (form.bytes i ++ []) (end_bytes b) in
        let z = length-end b in
        record {
          buffer = rw (e, append-nil);
          fits = λ h. rw e (omega (arith, g.room, k, m, n, z));
          laid = (record { pointer = refl; some = g.some; key = g.short; value = g.small; seqno = q; stated = t g.small }, tt);
          writer = refl;
          some = λ d. omega arith;
          counts = λ c. record { items = g.items; disk = g.disk; stated = g.total };
          reports = rw e f;
        }

    by-finished : (b : Bool) → new.finished ≡ b → Taken w (length s) (shape_of form i)
        → Ran form w s (append_run i (sets s w.offset (form.bytes i ++ end_bytes b)) (Ok (record { pointer = pointer_of w (shape_of form i); writer = new; report = pick b (Some (report_of new)) None })))
    unfolding append_run pick
    by-finished true e g = one true e _ refl g
    by-finished false e g = one false e _ refl g

    abbrev Answers : Result Writer AppendRefusal → Type 0
    Answers j = let a = answer_of j w (shape_of form i) in Ran form w s (append_run i (bytes_of a w s (form.bytes i)) a)

    by-judged : w.finished ≡ false → (j : Result Writer AppendRefusal) → judged w (length s) (shape_of form i) ≡ j → Answers j
    unfolding accepted_as append_run pick
    by-judged on (Ok after) e =
        let t = taken w (length s) (shape_of form i) after e in
        subst (λ (x : Writer). Answers (Ok x)) t.1 (by-finished new.finished refl t.0)
    by-judged on (Err why) e = unchanged w s on

    ran_append : w.finished ≡ false → Ran form w s (appending form i w s)
    unfolding answered append_bytes
    ran_append on = by-judged on (judged w (length s) (shape_of form i)) refl

  module _ (w : Writer) (s : List ℕ) (on : w.finished ≡ false) where
    -- a finish writes META, or leaves all as it was
    done : w.offset + 4 ≤ length s → 0 < w.items
        → Ran form w s (record { writer = closed_as w; buffer = sets s w.offset meta; frames = []; reports = report_of (closed_as w) ∷ [] })
    unfolding all_bytes end_bytes grown_by pick
    done h some = record {
      buffer = refl;
      fits = λ f. h;
      laid = tt;
      writer = refl;
      some = λ e. some;
      counts = λ c. record { items = c.items; disk = c.disk; stated = c.stated };
      reports = refl;
    }

    abbrev Ends : Result Closed (Refused FinishRefusal) → Type 0
    Ends a = Ran form w s (finish_run (closed_bytes a w s) a)

    refused : (why : FinishRefusal) → Ends (Err (handed_back w why))
    unfolding finish_run
    refused why = unchanged w s on

    by-room : 0 < w.items → (c : Bool) → ltb (length s) (w.offset + 4) ≡ c → Ends (pick c (Err (handed_back w finishRefusal.NoRoom)) (Ok (record { writer = closed_as w; report = report_of (closed_as w) })))
    unfolding finish_run pick
    by-room some true e = refused finishRefusal.NoRoom
    by-room some false e = done (ltb-false _ _ e) some

    by-items : (c : Bool) → eqb w.items 0 ≡ c
        → Ends (pick c (Err (handed_back w finishRefusal.NothingWritten)) (pick (ltb (length s) (w.offset + 4)) (Err (handed_back w finishRefusal.NoRoom)) (Ok (record { writer = closed_as w; report = report_of (closed_as w) }))))
    unfolding pick
    by-items true e = refused finishRefusal.NothingWritten
    by-items false e = by-room (some_number w.items e) (ltb (length s) (w.offset + 4)) refl

    by-finished-before : (c : Bool) → Ends (pick c (Err (handed_back w finishRefusal.Finished)) (pick (eqb w.items 0) (Err (handed_back w finishRefusal.NothingWritten)) (pick (ltb (length s) (w.offset + 4)) (Err (handed_back w finishRefusal.NoRoom)) (Ok (record { writer = closed_as w; report = report_of (closed_as w) })))))
    unfolding pick
    by-finished-before true = refused finishRefusal.Finished
    by-finished-before false = by-items (eqb w.items 0) refl

    ran-finish : Ran form w s (finish_run (finish_bytes w s) (finish_answer w (length s)))
    unfolding finish_bytes finish_answer pick
    ran-finish = by-finished-before w.finished

    pub ran_call : (c : Call) → TypedCall c → Ran form w s (called form c w s)
    unfolding called
    ran_call (append key seqno value) t = ran_append w s (plain_of key seqno value) t (λ h. omega arith) on
    ran_call (append_raw key seqno stated value) t = ran_append w s (item_of key seqno stated value) t.0 (λ h. t.1) on
    ran_call (use_target target) t =
        let e : targeted w target ≡ settled w target false = λ i. settled w target (on i) in
        subst (λ (x : Writer). Ran form w s (record { writer = x; buffer = s; frames = []; reports = [] })) (sym e) (nothing w s target)
    ran_call finish t = ran-finish

-- One call on a finished writer.

still_as : (w : Writer) (s : List ℕ) (r : Run) → r ≡ record { writer = w; buffer = s; frames = []; reports = [] } → Still w s r
still_as w s r e = record { writer = rw e; buffer = rw e; frames = rw e; reports = rw e }

module _ (form : Form) (w : Writer) (s : List ℕ) (off : w.finished ≡ true) where
  still_append : (i : Item) → Still w s (appending form i w s)
  unfolding answered append_bytes append_run
  still_append i =
      let e : judged w (length s) (shape_of form i) ≡ Err Finished = judge_finished w (length s) (shape_of form i) off in
      still_as w s _ (rw e)

  still_finish : Still w s (finish_run (finish_bytes w s) (finish_answer w (length s)))
  unfolding finish_bytes finish_answer finish_run pick
  still_finish = still_as w s _ (rw off)

  pub still_call : (c : Call) → Still w s (called form c w s)
  unfolding called
  still_call (append key seqno value) = still_append (plain_of key seqno value)
  still_call (append_raw key seqno stated value) = still_append (item_of key seqno stated value)
  still_call (use_target target) = record { writer = refl; buffer = refl; frames = refl; reports = refl }
  still_call finish = still_finish

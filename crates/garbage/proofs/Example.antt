-- Document 01's file of values 3 and 0: what its run comes to is computed, lengths alone, and the theorem on files gives the verdict.
use Prim.Native.Nat.{ℕ, ◌<◌, ◌≤◌, ◌^◌}
use mathlib.Core.Path.{◌≡◌, refl, sym, ◌∙◌, ap, subst}
use mathlib.Core.List.{List, [], ◌∷◌, ◌++◌, Permᴰ}
use mathlib.Core.Bool.{true, false}
use native.Mathlib.Omega.{arith}
use lib.ListN.{length}
use lib.Dec.{lit<}
use Rattle.numbers.specs.Pick.{pick}
use Rattle.numbers.specs.Le.{le}
use Rattle.numbers.specs.declared.handle.BlobIndirection.{BlobIndirection}
use Rattle.frames.specs.Layout.{header_bytes, frame_bytes}
use Rattle.frames.specs.Write.{report_of, over_of, judged, grown, accepted_as, end_bytes, answered, append_bytes, finish_answer}
use Rattle.frames.specs.Runs.{append_run, finish_run, called, run_by}
use Rattle.garbage.specs.declared.verdict.DeadVerdict.TheVariants.{Dead, Wanted, NoEntry}
use Rattle.garbage.specs.Entries.{joined, added_all, fits, all_fit}
use Rattle.garbage.specs.Tallies.{AllTyped}
use Rattle.garbage.specs.Arrangements.{leaf, arranged, pointers_of}
use Rattle.garbage.specs.Files.{Frame, gone_of, all_gone, some_gone, heavy_gone}
use Rattle.garbage.specs.Written.{run_of, FromZero, file_of, files_of, here}
use Rattle.garbage.specs.Example.{three_and_none, three}
use Rattle.garbage.specs.Theorems.{DeadAfterThree, ThreeAndNone}
use Rattle.garbage.proofs.Arranging.{outcome, agrees, sum, out_yes, Got, got_of}
use Rattle.garbage.proofs.Writing.{one-report, written_dead_exactly_lem}

module _ (id : ℕ) (small : id < 2 ^ 64) where
  -- the pointer of the empty value
  abbrev empty : BlobIndirection
  empty = record { handle = record { offset = 42; file = id; size = 0 }; stated = 0 }

  -- what the run comes to: finished, with two frames, the first of them dropped
  comes :
      ((run_of (three_and_none id)).writer.finished ≡ true)
      × ((file_of (three_and_none id)).frames ≡ record { pointer = three id; gone = true } ∷ record { pointer = empty; gone = false } ∷ [])
  unfolding run_by called append_run answered append_bytes finish_run finish_answer judged over_of grown accepted_as frame_bytes header_bytes end_bytes le pick
  comes = (refl, refl)

  gone : all_gone (files_of (three_and_none id ∷ [])) ≡ three id ∷ []
  unfolding gone_of all_gone pick
  gone = ap (λ (fs : List Frame). gone_of fs ++ []) comes.1

  judged-dead :
      pick (some_gone (file_of (three_and_none id)).frames) (pick (heavy_gone (file_of (three_and_none id)).frames) Dead Wanted) NoEntry ≡ Dead
  unfolding some_gone heavy_gone pick
  judged-dead = ap (λ (fs : List Frame). pick (some_gone fs) (pick (heavy_gone fs) Dead Wanted) NoEntry) comes.1

  written : FromZero (three_and_none id)
  written = record {
    unfinished = refl;
    offset = refl;
    items = refl;
    disk = refl;
    stated = refl;
    id = small;
    room = lit< tt;
    typed = (lit< tt, (lit< tt, (tt, tt)));
    done = comes.0;
  }

  typed : AllTyped (pointers_of (leaf (three id ∷ [])))
  unfolding pointers_of
  typed = ((lit< tt, small, lit< tt, lit< tt), tt)

  fit : all_fit (sum (leaf (three id ∷ []))) ≡ true
  unfolding added_all joined all_fit fits
  fit = refl

  few : length (sum (leaf (three id ∷ []))) ≤ 64
  unfolding added_all joined
  few = omega arith

  got : Got (arranged (leaf (three id ∷ []))) (sum (leaf (three id ∷ [])))
  got =
      let a = leaf (three id ∷ []) in
      got_of (outcome a) (arranged a) (sum a) (agrees a typed) (out_yes a fit few)

  dealt : Permᴰ (pointers_of (leaf (three id ∷ []))) (all_gone (files_of (three_and_none id ∷ [])))
  unfolding pointers_of
  dealt = subst (λ (l : List BlobIndirection). Permᴰ (three id ∷ []) l) (sym gone) (Permᴰ.cons refl Permᴰ.nil)

  dead-after : DeadAfterThree id
  dead-after =
      let f = three_and_none id in
      let r : (run_of f).reports ≡ report_of (run_of f).writer ∷ [] = one-report f written in
      record {
        written = written;
        report = report_of (run_of f).writer;
        reported = r;
        gone = gone;
        map = got.map;
        dropped = got.is;
        dead =
            written_dead_exactly_lem (f ∷ []) (leaf (three id ∷ [])) got.map f (report_of (run_of f).writer) (written, tt) (tt, tt) here r dealt got.is
            ∙ judged-dead;
      }

pub three_and_none_lem : ThreeAndNone
three_and_none_lem id small = dead-after id small

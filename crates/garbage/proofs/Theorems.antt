-- The one value of the record in specs/Theorems.antt: every theorem has its proof here, or in a file that is named here.
use Prim.Native.Nat.{ℕ}
use mathlib.Core.Path.{◌≡◌, sym, ◌∙◌, ap, ap₂, subst}
use mathlib.Core.Bool.{Bool, false}
use lib.Dec.{lit<}
use lib.IntN.{pos}
use lib.Ieee.{binary32, of_int}
use lib.Ieee.Exact.{HasValue}
use Rattle.numbers.specs.Pick.{pick}
use Rattle.std.specs.Prelude.{Result, Ok, Err, Option}
use Rattle.garbage.specs.declared.map.MapFull.{MapFull}
use Rattle.garbage.specs.Entries.{Entry}
use Rattle.garbage.specs.Maps.{entries_of}
use Rattle.garbage.specs.Lookups.{found, lookup_of}
use Rattle.garbage.specs.Verdicts.{dead_by, stale_by}
use Rattle.garbage.specs.Marked.{marked-garbage}
use Rattle.garbage.specs.Theorems.{Rounds, RoundsMarked, OwnEntry, AnySpelling, Theorems}
use Rattle.garbage.proofs.Scaled.{value}
use Rattle.garbage.proofs.ReadingBack.{back}
use Rattle.garbage.proofs.Arranging.{spelled}
use Rattle.garbage.proofs.Batching.{batch_drops_lem}
use Rattle.garbage.proofs.Dealing.{counts_drops_lem, same_bytes_lem, dead_exactly_lem}
use Rattle.garbage.proofs.Writing.{written-same-bytes, written_dead_exactly_lem}
use Rattle.garbage.proofs.Example.{three_and_none_lem}

rounds : Rounds
unfolding of_int
rounds x h = value x h

rounds-marked : RoundsMarked
rounds-marked = (
  subst (λ (n : ℕ). HasValue (of_int binary32 (pos 16777217)) false n 1) marked-garbage.0 (rounds 16777217 (lit< tt)),
  subst (λ (n : ℕ). HasValue (of_int binary32 (pos 16777219)) false n 1) marked-garbage.1 (rounds 16777219 (lit< tt)),
  subst (λ (n : ℕ). HasValue (of_int binary32 (pos 18446744073709551615)) false n 1) marked-garbage.2 (rounds 18446744073709551615 (lit< tt)),
)

own-entry : OwnEntry
unfolding pick
own-entry m n id other r s threshold p q e t =
    let l : lookup_of m id ≡ lookup_of n other =
    ap (λ (b : Bool). pick b (Ok (found id (entries_of m))) (Err (record {}))) p ∙ ap (λ (x : Option Entry). Ok x) e
    ∙ ap (λ (b : Bool). pick b (Ok (found other (entries_of n))) (Err (record {}))) (sym q) in
    (ap₂ (λ (x : Result (Option Entry) MapFull) (k : ℕ). dead_by x k) l t, ap₂ (λ (x : Result (Option Entry) MapFull) (k : ℕ). stale_by x k threshold) l t)

any_spelling_lem : AnySpelling
unfolding pick
any_spelling_lem m p bytes used t e = rw (e, spelled p t)

pub theorems : Theorems
theorems = record {
  reads_back = back;
  rounds = rounds;
  rounds_marked = rounds-marked;
  own_entry = own-entry;
  counts_drops = counts_drops_lem;
  any_spelling = any_spelling_lem;
  batch_drops = batch_drops_lem;
  same_bytes = same_bytes_lem;
  dead_exactly = dead_exactly_lem;
  written_same_bytes = written-same-bytes;
  written_dead_exactly = written_dead_exactly_lem;
  three_and_none = three_and_none_lem;
}

-- Demand 3 of pointers with totals: the map's rule, the same bytes of any arrangement, and which files are dead.
use Prim.Native.Nat.{ℕ}
use mathlib.Core.Path.{◌≡◌, sym, ◌∙◌, ap, ap₂}
use mathlib.Core.List.{List, [], ◌++◌}
use mathlib.Core.Bool.{Bool}
use native.Mathlib.Omega.{arith}
use lib.ListN.{length}
use Rattle.numbers.specs.Pick.{pick}
use Rattle.numbers.specs.Le.{le}
use Rattle.garbage.specs.declared.map.FragmentationMap.{FragmentationMap}
use Rattle.garbage.specs.declared.map.MapFull.{MapFull as Malformed}
use Rattle.std.specs.Prelude.{Ok, Err, Result, Option}
use Rattle.garbage.specs.Entries.{Entry, all_fit}
use Rattle.garbage.specs.Maps.{columns_of, empty_map}
use Rattle.garbage.specs.Lookups.{found, lookup_of}
use Rattle.garbage.specs.Batch.{in_turn}
use Rattle.garbage.specs.Stored.{stored_form, entries_bytes, store_answer, store_bytes}
use Rattle.garbage.specs.Verdicts.{dead_by}
use Rattle.garbage.specs.Tallies.{tally}
use Rattle.garbage.specs.Arrangements.{Ran, drop_each, arranged, kept, storing}
use Rattle.garbage.specs.Files.{gone_of, all_gone}
use Rattle.garbage.specs.Theorems.{CountsDrops, SameBytes, DeadExactly}
use Rattle.garbage.proofs.Fits.{none-fit}
use Rattle.garbage.proofs.Slots.{rows-length}
use Rattle.garbage.proofs.Summing.{turns_made}
use Rattle.garbage.proofs.Tallying.{ones, tallied, permuted}
use Rattle.garbage.proofs.Arranging.{Holds, each, empty_holds, none_ascending, outcome, agrees, sum, sum_is, out_yes, out-made, Made, made_of, Got, got_of}
use Rattle.garbage.proofs.Judging.{own_drops, finished_in, dead-by}

-- what a map that holds a list has of an id
held_of : (m : FragmentationMap) (l : List Entry) (id : ℕ) → Holds m l → lookup_of m id ≡ Ok (found id l)
unfolding pick
held_of m l id h = ap₂ (λ (b : Bool) (x : List Entry). pick b (Ok (found id x)) (Err (record {}))) h.well h.entries

pub counts_drops_lem : CountsDrops
counts_drops_lem ps m id t e =
    let k : Made (in_turn (ones ps) []) m = made_of (in_turn (ones ps) []) (drop_each ps empty_map) m (each ps empty_map [] empty_holds t) e in
    let r = turns_made (ones ps) [] k.list none_ascending none-fit (omega arith) k.is in
    held_of m k.list id k.holds ∙ ap (λ (x : Option Entry). Ok x) (ap (found id) r.0 ∙ tallied id ps)

-- ---- demand 3
same_form : (m n : FragmentationMap) (l : List Entry) → Holds m l → Holds n l → stored_form m ≡ stored_form n
unfolding stored_form
same_form m n l h k =
    let c : m.count ≡ n.count =
    sym (rows-length (columns_of m) 0 m.count) ∙ ap length (h.entries ∙ sym k.entries) ∙ rows-length (columns_of n) 0 n.count in
    ap₂ (λ (x : ℕ) (y : List Entry). le 4 x ++ entries_bytes y) c (h.entries ∙ sym k.entries)

same-stored : (m n : FragmentationMap) (l : List Entry) → Holds m l → Holds n l → (buf : List ℕ)
    → kept (store_answer m buf) (store_bytes m buf) ≡ kept (store_answer n buf) (store_bytes n buf)
unfolding store_answer store_bytes pick
same-stored m n l h k buf = rw (h.well, k.well, same_form m n l h k)

pub same_bytes_lem : SameBytes
same_bytes_lem a b m ta tb p e =
    let x : Made (outcome a) m = made_of (outcome a) (arranged a) m (agrees a ta) e in
    let r = out-made a x.list x.is in
    let s : sum a ≡ sum b = sum_is a ∙ permuted p [] ∙ sym (sum_is b) in
    let f : outcome b ≡ Ok (sum b) = out_yes b (ap all_fit (sym s) ∙ r.1) (omega (arith, r.2, ap length s)) in
    let y : Got (arranged b) (sum b) = got_of (outcome b) (arranged b) (sum b) (agrees b tb) f in
    let z : Holds m (sum b) = record { entries = x.holds.entries ∙ r.0 ∙ s; well = x.holds.well } in
    (x.holds.well, λ buf. ap (λ (u : Ran). storing u buf) y.is ∙ same-stored y.map m (sum b) y.holds z buf)

pub dead_exactly_lem : DeadExactly
dead_exactly_lem fs a m f w d i t p e =
    let x : Made (outcome a) m = made_of (outcome a) (arranged a) m (agrees a t) e in
    let r = out-made a x.list x.is in
    let l : lookup_of m f.id ≡ Ok (tally f.id (gone_of f.frames)) =
    held_of m x.list f.id x.holds
    ∙ ap (λ (y : Option Entry). Ok y) (ap (found f.id) (r.0 ∙ sum_is a ∙ permuted p []) ∙ tallied f.id (all_gone fs) ∙ ap (tally f.id) (own_drops f fs w d i)) in
    ap (λ (y : Result (Option Entry) Malformed). dead_by y f.report.stated) l ∙ dead-by f.id f.report.stated f.frames (finished_in f fs w i).total

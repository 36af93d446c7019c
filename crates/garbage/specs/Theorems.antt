-- What holds of the map and the verdicts, of the very definitions that the calls promise. The record at the end has it all; its value is in
-- proofs/Theorems.antt.
use Rattle.std.specs.Prelude.{ℕ, ◌*◌, ◌^◌, ◌<◌, ◌≡◌, true, false, length, get_or, pos, Float, Ok}
use mathlib.Core.List.{List, [], ◌∷◌, ◌++◌, Permᴰ}
use Rattle.std.specs.Float.{binary32}
use Rattle.std.specs.Float.Ieee.{of_int}
use Rattle.std.specs.Float.Ieee.Exact.{HasValue}
use Rattle.numbers.specs.Pick.{pick}
use Rattle.numbers.specs.Handle.{indirection_bytes, indirection_of}
use Rattle.numbers.specs.declared.handle.BlobIndirection.{BlobIndirection}
use Rattle.numbers.specs.Reading.{got}
use Rattle.frames.specs.declared.writer.Report.{Report}
use Rattle.garbage.specs.declared.map.FragmentationMap.{FragmentationMap}
use Rattle.garbage.specs.declared.verdict.DeadVerdict.TheVariants.{Dead, Wanted, NoEntry}
use Rattle.garbage.specs.Entries.{all_fit}
use Rattle.garbage.specs.Maps.{columns_of, entries_of, well_formed, empty_map, holding}
use Rattle.garbage.specs.Columns.{Whole}
use Rattle.garbage.specs.Records.{record_of}
use Rattle.garbage.specs.Batch.{batch_of, one_by_one}
use Rattle.garbage.specs.Lookups.{found, lookup_of}
use Rattle.garbage.specs.Stored.{stored_form, store_answer, store_bytes, load_of}
use Rattle.garbage.specs.Ratio.{lost, rounded}
use Rattle.garbage.specs.Verdicts.{dead_of, stale_of}
use Rattle.garbage.specs.Tallies.{of_file, tally, Typed, AllTyped}
use Rattle.garbage.specs.Arrangements.{ran, drop_each, Arrangement, leaf, arranged, pointers_of, kept, storing}
use Rattle.garbage.specs.Written.{Written, run_of, FromZero, AllFromZero, file_of, files_of, Among}
use Rattle.garbage.specs.Files.{File, all_gone, AllFinished, Distinct, In, some_gone, heavy_gone}
use Rattle.garbage.specs.Example.{three_and_none, three}

-- a map that is stored and read back holds the same entries, whatever follows
abbrev pub ReadsBack : Type 0
ReadsBack =
    (m : FragmentationMap) (rest : List ℕ) → well_formed m ≡ true → all_fit (entries_of m) ≡ true → ((i : ℕ) → i < m.count → get_or m.ids i 0 < 2 ^ 64)
    → load_of (stored_form m ++ rest) ≡ record { answer = Ok (length (stored_form m)); map = holding empty_map (entries_of m) }

-- once over the number of dropped bits: a u64 of any size, rounded in integers and scaled, is the value of IEEE 754's own rounding
abbrev pub Rounds : Type 0
Rounds = (x : ℕ) → x < 2 ^ 64 → HasValue (of_int binary32 (pos x)) false (rounded (lost x) x * 2 ^ lost x) 1

-- the marked examples T9 to T11, of IEEE 754's own rounding
abbrev pub RoundsMarked : Type 0
RoundsMarked =
    HasValue (of_int binary32 (pos 16777217)) false 16777216 1
    × HasValue (of_int binary32 (pos 16777219)) false 16777220 1
    × HasValue (of_int binary32 (pos 18446744073709551615)) false (2 ^ 64) 1

-- in well-formed maps, a file's verdicts depend on its own entry, its own total and the threshold only
abbrev pub OwnEntry : Type 0
OwnEntry =
    (m n : FragmentationMap) (id other : ℕ) (r s : Report) (threshold : Float) → well_formed m ≡ true → well_formed n ≡ true
    → found id (entries_of m) ≡ found other (entries_of n) → r.stated ≡ s.stated
    → (dead_of m id r ≡ dead_of n other s) × (stale_of m id r threshold ≡ stale_of n other s threshold)

-- the map's rule: after accepted drops from an empty map each id's entry is the count and the two sums over the drops of that id, and no other id has one
abbrev pub CountsDrops : Type 0
CountsDrops =
    (ps : List BlobIndirection) (m : FragmentationMap) (id : ℕ) → AllTyped ps → drop_each ps empty_map ≡ ran m → lookup_of m id ≡ Ok (tally id (of_file id ps))

-- any record that decodes to a pointer counts as the shortest one does
abbrev pub AnySpelling : Type 0
AnySpelling =
    (m : FragmentationMap) (p : BlobIndirection) (bytes : List ℕ) (used : ℕ) → Typed p → indirection_of 0 bytes ≡ got p used
    → record_of m true bytes ≡ record_of m true (indirection_bytes p)

-- a batch into a well-formed map is its drops made one after another
abbrev pub BatchDrops : Type 0
BatchDrops =
    (n : ℕ) (a b x y : List ℕ) (ps : List BlobIndirection) → let m : FragmentationMap = record { count = n; ids = a; frames = b; stated = x; disk = y } in
    Whole (columns_of m) → well_formed m ≡ true → batch_of m ps ≡ one_by_one m m ps

-- Demand 3. "Take finished files with distinct ids": Distinct, and Finished of each (written from offset 0 and zero counts, so its report
-- adds up its frames). "drop, marked as indirections, pointers handed out for their frames": `dropping`, of the encoded record with the mark.
-- "each frame's at most once": the pointers are those of frames that are gone, in some order. "from empty maps. Deal the drops over one or
-- more maps, in any order": leaves, and a permutation of the pointers. "merge all of these in any order and grouping": any tree. "refused
-- nowhere": `arranged a ≡ ran m`.

-- "If one arrangement is refused nowhere, none is, and given room all store the same bytes": 11 cannot be the answer, so storing it is refused
-- for want of room only
abbrev pub SameBytes : Type 0
SameBytes =
    (a b : Arrangement) (m : FragmentationMap) → AllTyped (pointers_of a) → AllTyped (pointers_of b)
    → Permᴰ (pointers_of a) (pointers_of b) → arranged a ≡ ran m
    → (well_formed m ≡ true) × ((buf : List ℕ) → storing (arranged b) buf ≡ kept (store_answer m buf) (store_bytes m buf))

-- "A file is then judged dead exactly when at least one of its frames was dropped and every frame with a stated length above zero was"
abbrev pub DeadExactly : Type 0
DeadExactly =
    (fs : List File) (a : Arrangement) (m : FragmentationMap) (f : File) → AllFinished fs → Distinct fs → In f fs
    → AllTyped (pointers_of a) → Permᴰ (pointers_of a) (all_gone fs) → arranged a ≡ ran m
    → dead_of m f.id f.report ≡ pick (some_gone f.frames) (pick (heavy_gone f.frames) Dead Wanted) NoEntry

-- Demand 3, of the writer's own runs: the pointers are the indirections that its appends handed out, the report is the one that finishing gave
abbrev pub WrittenSameBytes : Type 0
WrittenSameBytes =
    (fs : List Written) (a b : Arrangement) (m : FragmentationMap) → AllFromZero fs → Distinct (files_of fs)
    → Permᴰ (pointers_of a) (all_gone (files_of fs)) → Permᴰ (pointers_of b) (all_gone (files_of fs)) → arranged a ≡ ran m
    → (well_formed m ≡ true) × ((buf : List ℕ) → storing (arranged b) buf ≡ kept (store_answer m buf) (store_bytes m buf))

abbrev pub WrittenDeadExactly : Type 0
WrittenDeadExactly =
    (fs : List Written) (a : Arrangement) (m : FragmentationMap) (f : Written) (report : Report) → AllFromZero fs → Distinct (files_of fs) → Among f fs
    → (run_of f).reports ≡ report ∷ [] → Permᴰ (pointers_of a) (all_gone (files_of fs)) → arranged a ≡ ran m
    → dead_of m f.writer.id report ≡ pick (some_gone (file_of f).frames) (pick (heavy_gone (file_of f).frames) Dead Wanted) NoEntry

-- what is asked for there can be had: "a file of values 3 and 0 long is dead after dropping the 3"
pub record DeadAfterThree (id : ℕ) : Type 0 where
  pub written : FromZero (three_and_none id)
  pub report : Report
  pub reported : (run_of (three_and_none id)).reports ≡ report ∷ []
  pub gone : all_gone (files_of (three_and_none id ∷ [])) ≡ three id ∷ []
  pub map : FragmentationMap
  pub dropped : arranged (leaf (three id ∷ [])) ≡ ran map
  pub dead : dead_of map id report ≡ Dead

abbrev pub ThreeAndNone : Type 0
ThreeAndNone = (id : ℕ) → id < 2 ^ 64 → DeadAfterThree id

pub record Theorems : Type 0 where
  pub reads_back : ReadsBack
  pub rounds : Rounds
  pub rounds_marked : RoundsMarked
  pub own_entry : OwnEntry
  pub counts_drops : CountsDrops
  pub any_spelling : AnySpelling
  pub batch_drops : BatchDrops
  pub same_bytes : SameBytes
  pub dead_exactly : DeadExactly
  pub written_same_bytes : WrittenSameBytes
  pub written_dead_exactly : WrittenDeadExactly
  pub three_and_none : ThreeAndNone

-- Document 01's number for each refusal of the map, and the values that come with it: the definitions of the answers name their refusals by these.
use Rattle.std.specs.Prelude.{ℕ, ◌≡◌, List, [], ◌∷◌, Option, Some, None, Result, Ok, Err}
use Rattle.numbers.specs.Refusals.{values_of_cut, read_number, read_values}
use Rattle.garbage.specs.declared.map.CountRefusal.{CountRefusal}
use Rattle.garbage.specs.declared.map.CountRefusal.TheVariants.{MapFull, SumTooBig}
use Rattle.garbage.specs.declared.map.FragmentationEntry.{FragmentationEntry}
use Rattle.garbage.specs.declared.map.MapFull.{MapFull as Malformed}
use Rattle.garbage.specs.declared.record.RecordRefusal.{RecordRefusal}
use Rattle.garbage.specs.declared.record.RecordRefusal.TheVariants.{Number, Count}
use Rattle.garbage.specs.declared.stored.StoreRefusal.{StoreRefusal}
use Rattle.garbage.specs.declared.stored.StoreRefusal.TheVariants as store
use Rattle.garbage.specs.declared.stored.LoadRefusal.{LoadRefusal}
use Rattle.garbage.specs.declared.stored.LoadRefusal.TheVariants as load
use Rattle.garbage.specs.declared.verdict.DeadVerdict.{DeadVerdict}
use Rattle.garbage.specs.declared.verdict.DeadVerdict.TheVariants as dead
use Rattle.garbage.specs.declared.verdict.StaleVerdict.{StaleVerdict}
use Rattle.garbage.specs.declared.verdict.StaleVerdict.TheVariants as stale

-- map full, sum too big
abbrev pub count_number : CountRefusal → ℕ
count_number MapFull = 11
count_number SumTooBig = 12

-- map full alone
abbrev pub full_number : Malformed → ℕ
full_number why = 11

-- the number's, or the drop's
abbrev pub record_number : RecordRefusal → ℕ
record_number (Number why) = read_number why
record_number (Count why) = count_number why

abbrev pub record_values : RecordRefusal → List ℕ
record_values (Number why) = read_values why
record_values (Count why) = []

abbrev pub record_says : RecordRefusal → List ℕ
record_says why = record_number why ∷ record_values why

-- map full, no room
abbrev pub store_number : StoreRefusal → ℕ
store_number store.MapFull = 11
store_number store.NoRoom = 3

-- cut short, map full
abbrev pub load_number : LoadRefusal → ℕ
load_number (load.CutShort cut) = 7
load_number load.MapFull = 11

abbrev pub load_values : LoadRefusal → List ℕ
load_values (load.CutShort cut) = values_of_cut cut
load_values load.MapFull = []

abbrev pub load_says : LoadRefusal → List ℕ
load_says why = load_number why ∷ load_values why

-- Answers, as a whole: 0 is no refusal's number: nothing is refused.

abbrev pub lookup_number : Result (Option FragmentationEntry) Malformed → ℕ
lookup_number (Ok (Some e)) = 0
lookup_number (Ok None) = 0
lookup_number (Err why) = full_number why

abbrev pub prune_number : Result (Unit {0}) Malformed → ℕ
prune_number (Ok done) = 0
prune_number (Err why) = full_number why

-- Verdicts that can be refused by 11 alone carry no refusal of their own; 0 as above.

abbrev pub dead_number : DeadVerdict → ℕ
dead_number dead.Dead = 0
dead_number dead.Wanted = 0
dead_number dead.NoEntry = 0
dead_number dead.Refused = 11

abbrev pub stale_number : StaleVerdict → ℕ
stale_number (stale.Stale ratio) = 0
stale_number (stale.Kept ratio) = 0
stale_number stale.NoEntry = 0
stale_number stale.Refused = 11

-- A refused answer, named together with what is said of it, its number or its number and values: a wrong pair has no proof, and is refused here.

abbrev pub refuse : {A E S : Type 0} (says : E → S) (said : S) (why : E) → says why ≡ said → Result A E
refuse says said why e = Err why

abbrev pub refuse_dead : (number : ℕ) (answer : DeadVerdict) → dead_number answer ≡ number → DeadVerdict
refuse_dead number answer e = answer

abbrev pub refuse_stale : (number : ℕ) (answer : StaleVerdict) → stale_number answer ≡ number → StaleVerdict
refuse_stale number answer e = answer

-- Document 01's number for each refusal, and the values that come with it: the definitions of the answers name their refusals by these.
use Rattle.std.specs.Prelude.{◌≡◌, ℕ, List, [], ◌∷◌, Result, Ok, Err}
use Rattle.numbers.specs.Reading.{Reading, refused}
use Rattle.numbers.specs.declared.cut.CutShort.{CutShort}
use Rattle.numbers.specs.declared.leb128.WriteRefusal.{WriteRefusal}
use Rattle.numbers.specs.declared.leb128.WriteRefusal.TheVariants.{NoRoom}
use Rattle.numbers.specs.declared.leb128.NumberRefusal.{NumberRefusal}
use Rattle.numbers.specs.declared.leb128.NumberRefusal.TheVariants as refusal

-- where reading began, bytes needed, bytes present
abbrev pub values_of_cut : CutShort → List ℕ
values_of_cut c = c.at ∷ c.needed ∷ c.present ∷ []

-- no room
abbrev pub write_number : WriteRefusal → ℕ
write_number NoRoom = 3

-- of an answer: 0 where nothing is refused
abbrev pub wrote_number : Result ℕ WriteRefusal → ℕ
wrote_number (Ok n) = 0
wrote_number (Err why) = write_number why

-- cut short, number too long
abbrev pub read_number : NumberRefusal → ℕ
read_number (refusal.CutShort cut) = 7
read_number refusal.TooLong = 10

abbrev pub read_values : NumberRefusal → List ℕ
read_values (refusal.CutShort cut) = values_of_cut cut
read_values refusal.TooLong = []

abbrev pub read_says : NumberRefusal → List ℕ
read_says why = read_number why ∷ read_values why

-- A refused answer, named together with its number (and values): a wrong pair has no proof, and is refused here.

abbrev pub refuse_write : (number : ℕ) (why : WriteRefusal) → write_number why ≡ number → Result ℕ WriteRefusal
refuse_write number why e = Err why

abbrev pub refuse_read : (says : List ℕ) (why : NumberRefusal) → read_says why ≡ says → Reading
refuse_read says why e = refused why

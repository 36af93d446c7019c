-- The entries of a map as a list, least id first: entries added up, and what is refused (document 01, "Handles and garbage" and "Refusal numbers").
use Rattle.std.specs.Prelude.{ℕ, suc, ◌+◌, ◌^◌, List, [], ◌∷◌, Bool, true, ◌&&◌, length, ltb, leb, eqb, Result, Ok, Err}
use Rattle.numbers.specs.Pick.{pick}
use Rattle.garbage.specs.declared.map.CountRefusal.{CountRefusal}
use Rattle.garbage.specs.declared.map.CountRefusal.TheVariants.{MapFull, SumTooBig}
use Rattle.garbage.specs.declared.map.FragmentationEntry.{FragmentationEntry}

abbrev pub Entry : Type 0
Entry = FragmentationEntry

-- the totals of two entries of one id
abbrev pub plus : Entry → Entry → Entry
plus x e = record { id = x.id; frames = x.frames + e.frames; stated = x.stated + e.stated; disk = x.disk + e.disk }

-- an entry at its id's place in a list; where the id has an entry already, `f` says what becomes of the two
unfoldable pub joined : (Entry → Entry → Entry) → Entry → List Entry → List Entry
joined f e [] = e ∷ []
joined f e (x ∷ l) = pick (ltb x.id e.id) (x ∷ joined f e l) (pick (eqb x.id e.id) (f x e ∷ l) (e ∷ x ∷ l))

-- an entry added
abbrev pub added : Entry → List Entry → List Entry
added e l = joined plus e l

-- entries added one after another
unfoldable pub added_all : List Entry → List Entry → List Entry
added_all [] l = l
added_all (e ∷ es) l = added_all es (added e l)

-- the ids strictly ascend, the first from `lo` on
unfoldable pub ascending_from : ℕ → List Entry → Bool
ascending_from lo [] = true
ascending_from lo (e ∷ l) = leb lo e.id && ascending_from (suc e.id) l

-- the widths of the totals: frames u32, stated bytes u64, on-disk bytes u64
unfoldable pub fits : Entry → Bool
fits e = ltb e.frames (2 ^ 32) && (ltb e.stated (2 ^ 64) && ltb e.disk (2 ^ 64))

unfoldable pub all_fit : List Entry → Bool
all_fit [] = true
all_fit (e ∷ l) = fits e && all_fit l

-- what becomes of a map that would hold these entries
abbrev pub Outcome : Type 0
Outcome = Result (List Entry) CountRefusal

-- refusals 12 and 11: a total would pass its width, then more than 64 distinct ids would result
unfoldable pub judged : List Entry → Outcome
judged l = pick (all_fit l) (pick (leb (length l) 64) (Ok l) (Err MapFull)) (Err SumTooBig)

-- Totals over dropped pointers (document 01, "the map's rule: totals over the listed drops").
use Rattle.std.specs.Prelude.{ℕ, ◌+◌, ◌<◌, ◌^◌, List, [], ◌∷◌, length, eqb, Option, Some, None}
use Rattle.numbers.specs.Pick.{pick}
use Rattle.numbers.specs.declared.handle.BlobIndirection.{BlobIndirection}
use Rattle.garbage.specs.Entries.{Entry}

-- the pointers of one file
unfoldable pub of_file : ℕ → List BlobIndirection → List BlobIndirection
of_file id [] = []
of_file id (p ∷ ps) = pick (eqb p.handle.file id) (p ∷ of_file id ps) (of_file id ps)

unfoldable pub stated_in : List BlobIndirection → ℕ
stated_in [] = 0
stated_in (p ∷ ps) = p.stated + stated_in ps

unfoldable pub disk_in : List BlobIndirection → ℕ
disk_in [] = 0
disk_in (p ∷ ps) = p.handle.size + disk_in ps

-- the entry that pointers of one file make: their count and two sums; none where there are none
abbrev pub tally : ℕ → List BlobIndirection → Option Entry
tally id [] = None
tally id (p ∷ ps) = Some (record { id = id; frames = length (p ∷ ps); stated = stated_in (p ∷ ps); disk = disk_in (p ∷ ps) })

-- what the types say of a pointer's numbers
abbrev pub Typed : BlobIndirection → Type 0
Typed p = (p.handle.offset < 2 ^ 64) × (p.handle.file < 2 ^ 64) × (p.handle.size < 2 ^ 32) × (p.stated < 2 ^ 32)

abbrev pub AllTyped : List BlobIndirection → Type 0
AllTyped [] = Unit {0}
AllTyped (p ∷ ps) = Typed p × AllTyped ps

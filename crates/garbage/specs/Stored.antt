-- The stored form (document 01, "Stored form: u32 count, then per entry u64 id, u32 frames, two u64; 28 bytes each").
use Rattle.std.specs.Prelude.{ℕ, zero, suc, ◌+◌, ◌-◌, ◌*◌, refl, List, [], ◌∷◌, ◌++◌, length, drop, ltb, leb, Result, Ok, Err}
use Rattle.std.proofs.lemmas.List.Edits.{sets}
use Rattle.numbers.specs.Pick.{pick}
use Rattle.numbers.specs.Le.{le, num}
use Rattle.garbage.specs.declared.map.FragmentationMap.{FragmentationMap}
use Rattle.garbage.specs.declared.stored.StoreRefusal.{StoreRefusal}
use Rattle.garbage.specs.declared.stored.StoreRefusal.TheVariants as store
use Rattle.garbage.specs.declared.stored.LoadRefusal.{LoadRefusal}
use Rattle.garbage.specs.declared.stored.LoadRefusal.TheVariants as load
use Rattle.garbage.specs.declared.stored.Loaded.{Loaded}
use Rattle.garbage.specs.Entries.{Entry, joined}
use Rattle.garbage.specs.Maps.{entries_of, holding, well_formed, empty_map}
use Rattle.garbage.specs.Refusals.{store_number, load_says, refuse}

-- ---- writing
unfoldable pub entry_bytes : Entry → List ℕ
entry_bytes e = le 8 e.id ++ (le 4 e.frames ++ (le 8 e.stated ++ le 8 e.disk))

unfoldable pub entries_bytes : List Entry → List ℕ
entries_bytes [] = []
entries_bytes (e ∷ l) = entry_bytes e ++ entries_bytes l

-- "Ours ascends by id"
unfoldable pub stored_form : FragmentationMap → List ℕ
stored_form m = le 4 m.count ++ entries_bytes (entries_of m)

-- 11, then 3 where it does not fit; the bytes used
unfoldable pub store_answer : FragmentationMap → List ℕ → Result ℕ StoreRefusal
store_answer m buf =
    pick (well_formed m)
    (pick (leb (length (stored_form m)) (length buf)) (Ok (length (stored_form m))) (refuse store_number 3 store.NoRoom refl))
    (refuse store_number 11 store.MapFull refl)

-- at the front; refused, no byte altered
unfoldable pub store_bytes : FragmentationMap → List ℕ → List ℕ
store_bytes m buf = pick (well_formed m) (pick (leb (length (stored_form m)) (length buf)) (sets buf 0 (stored_form m)) buf) buf

-- ---- reading
-- the entry at the front, and the n entries there
unfoldable pub entry_in : List ℕ → Entry
entry_in s = record { id = num 8 s; frames = num 4 (drop 8 s); stated = num 8 (drop 12 s); disk = num 8 (drop 20 s) }

unfoldable pub entries_in : ℕ → List ℕ → List Entry
entries_in zero s = []
entries_in (suc n) s = entry_in s ∷ entries_in n (drop 28 s)

-- "reading takes any order, the last of equal ids winning"
abbrev pub latter : Entry → Entry → Entry
latter x e = e

abbrev pub instead : Entry → List Entry → List Entry
instead e l = joined latter e l

unfoldable pub instead_all : List Entry → List Entry → List Entry
instead_all [] l = l
instead_all (e ∷ es) l = instead_all es (instead e l)

-- how many entries there are: 7 for the count with where, needed and present, then 11, then 7 for entries
unfoldable pub stored_count : List ℕ → Result ℕ LoadRefusal
stored_count s =
    pick (ltb (length s) 4) (cut 0 4 (length s))
    (pick (ltb 64 (num 4 s)) (refuse load_says (11 ∷ []) load.MapFull refl)
    (pick (ltb (length s - 4) (28 * num 4 s)) (cut 4 (28 * num 4 s) (length s - 4))
    (Ok (num 4 s))))
  where
    cut : ℕ → ℕ → ℕ → Result ℕ LoadRefusal
    cut at needed present = refuse load_says (7 ∷ at ∷ needed ∷ present ∷ []) (load.CutShort (record { at = at; needed = needed; present = present })) refl

-- k entries: the bytes used, and a map that holds them; refused, an empty map
abbrev pub loaded_by : List ℕ → Result ℕ LoadRefusal → Loaded
loaded_by s (Ok k) = record { answer = Ok (4 + 28 * k); map = holding empty_map (instead_all (entries_in k (drop 4 s)) []) }
loaded_by s (Err why) = record { answer = Err why; map = empty_map }

-- what follows is left
abbrev pub load_of : List ℕ → Loaded
load_of s = loaded_by s (stored_count s)

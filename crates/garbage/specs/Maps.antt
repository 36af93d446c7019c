-- A map in columns and the entries that it holds; which maps are well formed (document 01, refusal 11).
use Rattle.std.specs.Prelude.{ℕ, zero, suc, List, [], ◌∷◌, ◌++◌, map, Bool, ◌&&◌, length, drop, get_or, replicate, leb}
use Rattle.garbage.specs.declared.map.FragmentationMap.{FragmentationMap}
use Rattle.garbage.specs.Entries.{Entry, ascending_from}

pub record Columns : Type 0 where
  pub ids : List ℕ
  pub frames : List ℕ
  pub stated : List ℕ
  pub disk : List ℕ

abbrev pub columns_of : FragmentationMap → Columns
columns_of m = record { ids = m.ids; frames = m.frames; stated = m.stated; disk = m.disk }

abbrev pub map_of : ℕ → Columns → FragmentationMap
map_of n c = record { count = n; ids = c.ids; frames = c.frames; stated = c.stated; disk = c.disk }

-- the map that a count and four columns are, lent apart
abbrev pub map_at : ℕ → List ℕ → List ℕ → List ℕ → List ℕ → FragmentationMap
map_at count ids frames stated disk = record { count = count; ids = ids; frames = frames; stated = stated; disk = disk }

-- the entry at slot i, and the n entries from i on
abbrev pub entry_at : Columns → ℕ → Entry
entry_at c i = record { id = get_or c.ids i 0; frames = get_or c.frames i 0; stated = get_or c.stated i 0; disk = get_or c.disk i 0 }

unfoldable pub rows : Columns → ℕ → ℕ → List Entry
rows c i zero = []
rows c i (suc n) = entry_at c i ∷ rows c (suc i) n

-- the entries that a map holds
abbrev pub entries_of : FragmentationMap → List Entry
entries_of m = rows (columns_of m) 0 m.count

-- columns with these entries first: the slots past them keep what they held
abbrev pub with_entries : Columns → List Entry → Columns
with_entries c l = record {
  ids = map (λ (e : Entry). e.id) l ++ drop (length l) c.ids;
  frames = map (λ (e : Entry). e.frames) l ++ drop (length l) c.frames;
  stated = map (λ (e : Entry). e.stated) l ++ drop (length l) c.stated;
  disk = map (λ (e : Entry). e.disk) l ++ drop (length l) c.disk;
}

-- a map that holds these entries now
abbrev pub holding : FragmentationMap → List Entry → FragmentationMap
holding m l = map_of (length l) (with_entries (columns_of m) l)

-- not above 64, and strictly ascending
abbrev pub well_formed : FragmentationMap → Bool
well_formed m = leb m.count 64 && ascending_from 0 (entries_of m)

abbrev pub empty_map : FragmentationMap
empty_map = record { count = 0; ids = replicate 64 0; frames = replicate 64 0; stated = replicate 64 0; disk = replicate 64 0 }

-- In the code's own shape, for private functions: a map whose columns are lent, places in them, and what a walk of additions leaves.
use Rattle.std.specs.Prelude.{ℕ, suc, ◌+◌, ◌<◌, ◌≤◌, ◌≡◌, List, [], ◌∷◌, ◌++◌, Bool, true, false, ◌&&◌, length, take, drop, get_or, set, ltb, leb, eqb, Result, Ok, Err}
use Rattle.numbers.specs.Pick.{pick}
use Rattle.garbage.specs.declared.map.FragmentationMap.{FragmentationMap}
use Rattle.garbage.specs.declared.map.CountRefusal.{CountRefusal}
use Rattle.garbage.specs.declared.lent.Lent.{Lent}
use Rattle.garbage.specs.Entries.{Entry, plus, fits, all_fit, Outcome}
use Rattle.garbage.specs.Maps.{Columns, columns_of, map_of, rows, entries_of, holding}

-- ---- lent
-- the map that stands behind the references
abbrev pub held : Lent → FragmentationMap
held c = record { count = c.count.now; ids = c.ids.now; frames = c.frames.now; stated = c.stated.now; disk = c.disk.now }

-- the same references
abbrev pub Same : Lent → Lent → Type 0
Same c d =
    (d.count.ghost_name ≡ c.count.ghost_name) × (d.ids.ghost_name ≡ c.ids.ghost_name) × (d.frames.ghost_name ≡ c.frames.ghost_name)
    × (d.stated.ghost_name ≡ c.stated.ghost_name) × (d.disk.ghost_name ≡ c.disk.ghost_name)

-- ---- places
abbrev pub one_more : Bool → ℕ → ℕ
one_more true n = suc n
one_more false n = 0

-- how many ids stand before the first that is not below `id`
unfoldable pub place_in : ℕ → List ℕ → ℕ
place_in id [] = 0
place_in id (x ∷ xs) = one_more (ltb x id) (place_in id xs)

-- how many ids are lower
unfoldable pub lower_in : ℕ → List ℕ → ℕ
lower_in id [] = 0
lower_in id (x ∷ xs) = pick (ltb x id) (suc (lower_in id xs)) (lower_in id xs)

-- `id` stands at that place, or something else does, or nothing
pub record StandsAt (id : ℕ) (ids : List ℕ) (i : ℕ) : Type 0 where
  pub place : i ≡ place_in id ids
  pub within : i < length ids
  pub there : get_or ids i 0 ≡ id

pub record GoesTo (id : ℕ) (ids : List ℕ) (i : ℕ) : Type 0 where
  pub place : i ≡ place_in id ids
  pub within : i ≤ length ids
  pub absent : i < length ids → get_or ids i 0 ≡ id → ⊥

-- strictly ascending, the first from `lo` on
unfoldable pub rising_from : ℕ → List ℕ → Bool
rising_from lo [] = true
rising_from lo (x ∷ xs) = leb lo x && rising_from (suc x) xs

-- ---- slots
-- `x` put in at `i` of the first `n`: the slots past them keep what they held
abbrev pub inserted_at : {A : Type 0} → ℕ → ℕ → A → List A → List A
inserted_at n i x a = take (n + 1) (take i a ++ (x ∷ drop i a)) ++ drop (n + 1) a

abbrev pub put_at : ℕ → FragmentationMap → Entry → FragmentationMap
put_at i m e = record {
  count = m.count + 1;
  ids = inserted_at m.count i e.id m.ids;
  frames = inserted_at m.count i e.frames m.frames;
  stated = inserted_at m.count i e.stated m.stated;
  disk = inserted_at m.count i e.disk m.disk;
}

abbrev pub written : ℕ → FragmentationMap → Entry → FragmentationMap
written i m e = record { count = m.count; ids = set m.ids i e.id; frames = set m.frames i e.frames; stated = set m.stated i e.stated; disk = set m.disk i e.disk }

-- past those that are there
abbrev pub pushed : FragmentationMap → Entry → FragmentationMap
pushed m e = map_of (m.count + 1) (columns_of (written m.count m e))

-- ---- what is known of a map
abbrev pub Whole : Columns → Type 0
Whole c = (length c.ids ≡ 64) × (length c.frames ≡ 64) × (length c.stated ≡ 64) × (length c.disk ≡ 64)

-- what the arrays' types tell
pub record Told (c : Columns) : Type 0 where
  pub whole : Whole c
  pub fit : (n : ℕ) → n ≤ 64 → all_fit (rows c 0 n) ≡ true

-- at most 64 ids, in order
pub record Rising (m : FragmentationMap) : Type 0 where
  pub few : m.count ≤ 64
  pub rising : rising_from 0 (take m.count m.ids) ≡ true
  pub whole : Whole (columns_of m)

-- what an addition to a well-formed map needs
pub record Ready (m : FragmentationMap) : Type 0 where
  pub sound : Rising m
  pub fit : all_fit (entries_of m) ≡ true

-- ---- many additions
-- where all were made, the map that holds them; after a refusal nothing is said of it
abbrev pub Ends : FragmentationMap → Outcome → Result (Unit {0}) CountRefusal → FragmentationMap → Type 0
Ends m (Ok l) r d = (r ≡ Ok tt) × (d ≡ holding m l)
Ends m (Err why) r d = r ≡ Err why

-- an id's totals: its entry, or zeros
unfoldable pub total_of : ℕ → List Entry → Entry
total_of id [] = record { id = id; frames = 0; stated = 0; disk = 0 }
total_of id (e ∷ l) = pick (eqb e.id id) e (total_of id l)

-- whether each entry fits on what a list holds of its id
unfoldable pub sums_fit : List Entry → List Entry → Bool
sums_fit [] l = true
sums_fit (e ∷ es) l = fits (plus (total_of e.id l) e) && sums_fit es l

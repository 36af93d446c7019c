-- Columns that hold a list of entries first: what they hold, that they stay whole, and one entry more.
use Prim.Native.Nat.{ℕ, zero, suc, ◌+◌, ◌-◌, ◌≤◌, ◌<◌}
use mathlib.Core.Path.{◌≡◌, refl, sym, ◌∙◌, ap, ap₂}
use mathlib.Core.List.{List, [], ◌∷◌, ◌++◌, map, map-append}
use mathlib.Core.Bool.{true}
use native.Mathlib.Omega.{arith}
use native.Mathlib.Numerals.{add-one}
use lib.ListN.{length, take, drop, get_or, set, length-map, length-append, length-drop, take-append-drop, get_or-append, get_or-map}
use lib.Seq.{drop-append-add, drop-drop, ext_get_or, take_at, drop-cons, set_at, append_snoc}
use Rattle.garbage.specs.Entries.{Entry, ascending_from, all_fit}
use Rattle.garbage.specs.declared.map.FragmentationMap.{FragmentationMap}
use Rattle.garbage.specs.Maps.{Columns, columns_of, map_of, entry_at, rows, entries_of, with_entries, holding}
use Rattle.garbage.specs.Columns.{Whole, Rising, Ready, pushed, rising_from}
use Rattle.garbage.proofs.Added.{no_entry, ids_of}
use Rattle.garbage.proofs.Slots.{rows-length, row_at, column, columns_are, map-is, ascending_is}

entry-is : {a a' b b' x x' y y' : ℕ} → a ≡ a' → b ≡ b' → x ≡ x' → y ≡ y' → ◌≡◌ {A = Entry} (record { id = a; frames = b; stated = x; disk = y }) (record { id = a'; frames = b'; stated = x'; disk = y' })
entry-is a b x y = cc

-- ---- one column, by its field
module _ (f : Entry → ℕ) where
  at : (l : List Entry) (xs : List ℕ) (k : ℕ) → f no_entry ≡ 0 → k < length l → get_or (map f l ++ xs) k 0 ≡ f (get_or l k no_entry)
  at l xs k z q = get_or-append (map f l) xs 0 k (omega (arith, length-map l f)) ∙ ap (get_or (map f l) k) (sym z) ∙ get_or-map f l k no_entry

  past : (l m : List Entry) (xs : List ℕ) → length l ≤ length m → drop (length m) (map f l ++ drop (length l) xs) ≡ drop (length m) xs
  past l m xs h =
      let k : length m ≡ length (map f l) + (length m - length l) = omega (arith, length-map l f) in
      let j : length l + (length m - length l) ≡ length m = omega arith in
      ap (λ (i : ℕ). drop i (map f l ++ drop (length l) xs)) k ∙ drop-append-add (map f l) (drop (length l) xs) (length m - length l) ∙ drop-drop (length m - length l) (length l) xs ∙ ap (λ (i : ℕ). drop i xs) j

  sized : (xs : List ℕ) (m : List Entry) → length xs ≡ 64 → length m ≤ 64 → length (map f m ++ drop (length m) xs) ≡ 64
  sized xs m h k = length-append (map f m) (drop (length m) xs) ∙ omega (arith, length-map m f, length-drop (length m) xs)

  one_more_lem : (l : List Entry) (e : Entry) (xs : List ℕ) → length l < length xs
      → set (map f l ++ drop (length l) xs) (length l) (f e) ≡ map f (l ++ (e ∷ [])) ++ drop (length (l ++ (e ∷ []))) xs
  one_more_lem l e xs h =
      let k : length (l ++ (e ∷ [])) ≡ suc (length l) = length-append l (e ∷ []) ∙ add-one (length l) in
      ap (λ (t : List ℕ). set (map f l ++ t) (length l) (f e)) (drop-cons xs (length l) 0 h)
      ∙ set_at (map f l) (get_or xs (length l) 0) (drop (suc (length l)) xs) (f e) (length l) (length-map l f)
      ∙ sym (append_snoc (map f l) (f e) (drop (suc (length l)) xs))
      ∙ ap₂ (λ (t : List ℕ) (i : ℕ). t ++ drop i xs) (sym (map-append f l (e ∷ []))) (sym k)

-- ---- all four
module _ (c : Columns) where
  pub rows_with : (l : List Entry) → rows (with_entries c l) 0 (length l) ≡ l
  rows_with l = ext_get_or no_entry (rows (with_entries c l) 0 (length l)) l (rows-length (with_entries c l) 0 (length l)) (λ i q.
      let h : i < length l = omega (arith, rows-length (with_entries c l) 0 (length l)) in
      row_at (with_entries c l) 0 (length l) i h ∙ ap (entry_at (with_entries c l)) (let z : 0 + i ≡ i = omega arith in z)
      ∙ entry-is (at (λ (e : Entry). e.id) l (drop (length l) c.ids) i refl h) (at (λ (e : Entry). e.frames) l (drop (length l) c.frames) i refl h) (at (λ (e : Entry). e.stated) l (drop (length l) c.stated) i refl h) (at (λ (e : Entry). e.disk) l (drop (length l) c.disk) i refl h))

  pub with_with : (l m : List Entry) → length l ≤ length m → with_entries (with_entries c l) m ≡ with_entries c m
  with_with l m h = columns_are (ap (λ (t : List ℕ). map (λ (e : Entry). e.id) m ++ t) (past (λ (e : Entry). e.id) l m c.ids h)) (ap (λ (t : List ℕ). map (λ (e : Entry). e.frames) m ++ t) (past (λ (e : Entry). e.frames) l m c.frames h))
      (ap (λ (t : List ℕ). map (λ (e : Entry). e.stated) m ++ t) (past (λ (e : Entry). e.stated) l m c.stated h)) (ap (λ (t : List ℕ). map (λ (e : Entry). e.disk) m ++ t) (past (λ (e : Entry). e.disk) l m c.disk h))

  part : (f : Entry → ℕ) (xs : List ℕ) → ((k : ℕ) → f (entry_at c k) ≡ get_or xs k 0) → (n : ℕ) → n ≤ length xs → map f (rows c 0 n) ++ drop (length (rows c 0 n)) xs ≡ xs
  part f xs e n h = ap₂ (λ (t : List ℕ) (k : ℕ). t ++ drop k xs) (column c f xs e 0 n (omega arith)) (rows-length c 0 n) ∙ take-append-drop n xs

-- a map holds its own entries
pub holds-own : (m : FragmentationMap) → m.count ≤ 64 → Whole (columns_of m) → map_of m.count (columns_of m) ≡ holding m (entries_of m)
holds-own m h w =
    let c : Columns = columns_of m in
    let n : ℕ = m.count in
    map-is (sym (rows-length c 0 n))
    (sym (part c (λ (e : Entry). e.id) m.ids (λ k. refl) n (omega (arith, w.0))))
    (sym (part c (λ (e : Entry). e.frames) m.frames (λ k. refl) n (omega (arith, w.1))))
    (sym (part c (λ (e : Entry). e.stated) m.stated (λ k. refl) n (omega (arith, w.2))))
    (sym (part c (λ (e : Entry). e.disk) m.disk (λ k. refl) n (omega (arith, w.3))))

-- the last of two lists that a map holds one after the other
pub holding-again : (m : FragmentationMap) (l k : List Entry) → length l ≤ length k → holding (holding m l) k ≡ holding m k
holding-again m l k h = ap (map_of (length k)) (with_with (columns_of m) l k h)

module _ (m : FragmentationMap) (w : Whole (columns_of m)) (l : List Entry) where
  abbrev c : Columns
  c = columns_of m

  pub whole_with : length l ≤ 64 → Whole (columns_of (holding m l))
  whole_with k = (sized (λ (e : Entry). e.id) c.ids l w.0 k, sized (λ (e : Entry). e.frames) c.frames l w.1 k, sized (λ (e : Entry). e.stated) c.stated l w.2 k, sized (λ (e : Entry). e.disk) c.disk l w.3 k)

  rising-ids : ascending_from 0 l ≡ true → rising_from 0 (take (length l) (holding m l).ids) ≡ true
  rising-ids t = ap (rising_from 0) (take_at (ids_of l) (drop (length l) c.ids) (length l) (length-map l (λ (e : Entry). e.id))) ∙ sym (ascending_is 0 l) ∙ t

  pub rising_with : length l ≤ 64 → ascending_from 0 l ≡ true → Rising (holding m l)
  rising_with k t = record { few = k; rising = rising-ids t; whole = whole_with k }

  pub ready_with : length l ≤ 64 → ascending_from 0 l ≡ true → all_fit l ≡ true → Ready (holding m l)
  ready_with k t f = record { sound = rising_with k t; fit = ap all_fit (rows_with c l) ∙ f }

  -- one entry more, past those held
  pub pushed-past : (e : Entry) → length l < 64 → pushed (holding m l) e ≡ holding m (l ++ (e ∷ []))
  pushed-past e k =
      map-is
      (sym (length-append l (e ∷ [])))
      (one_more_lem (λ (e : Entry). e.id) l e c.ids (omega (arith, w.0)))
      (one_more_lem (λ (e : Entry). e.frames) l e c.frames (omega (arith, w.1)))
      (one_more_lem (λ (e : Entry). e.stated) l e c.stated (omega (arith, w.2)))
      (one_more_lem (λ (e : Entry). e.disk) l e c.disk (omega (arith, w.3)))

-- the entries from i on, the first of them apart
pub rows_open : (c : Columns) (i n : ℕ) → i < n → rows c i (n - i) ≡ entry_at c i ∷ rows c (i + 1) (n - (i + 1))
unfolding rows
rows_open c i n h =
    let k : n - i ≡ suc (n - (i + 1)) = omega arith in
    ap (rows c i) k ∙ ap (λ (j : ℕ). entry_at c i ∷ rows c j (n - (i + 1))) (sym (add-one i))

pub rows_out : (c : Columns) (i n : ℕ) → n ≤ i → rows c i (n - i) ≡ []
unfolding rows
rows_out c i n h = let k : n - i ≡ 0 = omega arith in ap (rows c i) k

-- the first i + 1 entries, the last of them apart
rows_end : (c : Columns) (i n : ℕ) → rows c i (suc n) ≡ rows c i n ++ (entry_at c (i + n) ∷ [])
unfolding rows
rows_end c i zero = let z : i ≡ i + 0 = omega arith in ap (λ (k : ℕ). entry_at c k ∷ []) z
rows_end c i (suc n) =
    let z : suc i + n ≡ i + suc n = omega arith in
    ap (λ (t : List Entry). entry_at c i ∷ t) (rows_end c (suc i) n ∙ ap (λ (k : ℕ). rows c (suc i) n ++ (entry_at c k ∷ [])) z)

pub rows_snoc : (c : Columns) (n : ℕ) → rows c 0 (n + 1) ≡ rows c 0 n ++ (entry_at c n ∷ [])
rows_snoc c n = ap (rows c 0) (add-one n) ∙ rows_end c 0 n ∙ ap (λ (k : ℕ). rows c 0 n ++ (entry_at c k ∷ [])) (let z : 0 + n ≡ n = omega arith in z)

pub rows_zero : (c : Columns) → rows c 0 0 ≡ []
unfolding rows
rows_zero c = refl

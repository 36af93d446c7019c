-- Entries and columns: one law over the column, by the field `f` that it holds; then an entry added, as the code adds it.
use Prim.Native.Nat.{ℕ, zero, suc, ◌+◌, ◌≤◌, ◌<◌}
use mathlib.Core.Path.{◌≡◌, refl, sym, ◌∙◌, ap, ap₂}
use mathlib.Core.List.{List, [], ◌∷◌, ◌++◌, map, map-append}
use mathlib.Core.Bool.{Bool, true, false, ◌&&◌}
use native.Mathlib.Omega.{arith}
use native.Mathlib.Numerals.{add-one}
use lib.ListN.{length, take, drop, get_or, set, length-set, take-append-drop}
use lib.Seq.{length-take-le, set-append_left, drop-cons, get_or-take}
use Rattle.std.specs.Prelude.{Ok, Err}
use lib.Dec.{leb}
use Rattle.garbage.specs.declared.map.FragmentationMap.{FragmentationMap}
use Rattle.garbage.specs.declared.map.CountRefusal.TheVariants.{MapFull, SumTooBig}
use Rattle.garbage.specs.declared.dropped.Dropped.{Dropped}
use Rattle.garbage.specs.Entries.{Entry, plus, added, joined, ascending_from, fits, all_fit, judged}
use Rattle.garbage.specs.Maps.{Columns, columns_of, map_of, entry_at, rows, entries_of, with_entries, holding}
use Rattle.garbage.specs.Columns.{Whole, Rising, Ready, StandsAt, GoesTo, place_in, rising_from, inserted_at, put_at, written}
use Rattle.garbage.specs.Drops.{answered}
use Rattle.garbage.proofs.Insert.{put, put_length}
use Rattle.garbage.proofs.Added.{no_entry, ids_of, place_of, place-le, add-found, add_fresh}
use Rattle.garbage.proofs.Fits.{fit-set, fit_put, judged_big, judged_full, judged-made}

-- ---- lists
map-take : (f : Entry → ℕ) (n : ℕ) (l : List Entry) → map f (take n l) ≡ take n (map f l)
map-take f zero l = refl
map-take f (suc n) [] = refl
map-take f (suc n) (x ∷ l) = ap (λ (t : List ℕ). f x ∷ t) (map-take f n l)

map-drop : (f : Entry → ℕ) (n : ℕ) (l : List Entry) → map f (drop n l) ≡ drop n (map f l)
map-drop f zero l = refl
map-drop f (suc n) [] = refl
map-drop f (suc n) (x ∷ l) = map-drop f n l

map-set : (f : Entry → ℕ) (l : List Entry) (i : ℕ) (x : Entry) → map f (set l i x) ≡ set (map f l) i (f x)
map-set f [] i x = refl
map-set f (y ∷ l) zero x = refl
map-set f (y ∷ l) (suc i) x = ap (λ (t : List ℕ). f y ∷ t) (map-set f l i x)

map_put : (f : Entry → ℕ) (l : List Entry) (i : ℕ) (x : Entry) → map f (put l i x) ≡ put (map f l) i (f x)
map_put f l i x = map-append f (take i l) (x ∷ drop i l) ∙ ap₂ (λ (a b : List ℕ). a ++ (f x ∷ b)) (map-take f i l) (map-drop f i l)

take_put : (n i : ℕ) (xs : List ℕ) (x : ℕ) → n ≤ length xs → i ≤ n → take (suc n) (put xs i x) ≡ put (take n xs) i x
take_put n zero xs x h q = refl
take_put zero (suc i) xs x h q = absurd (omega arith)
take_put (suc n) (suc i) [] x h q = absurd (omega arith)
take_put (suc n) (suc i) (e ∷ xs) x h q = ap (λ (l : List ℕ). e ∷ l) (take_put n i xs x (omega arith) (omega arith))

pub ascending_is : (lo : ℕ) (l : List Entry) → ascending_from lo l ≡ rising_from lo (ids_of l)
unfolding ascending_from rising_from
ascending_is lo [] = refl
ascending_is lo (e ∷ l) = ap (λ (b : Bool). leb lo e.id && b) (ascending_is (suc e.id) l)

-- ---- entries of columns
module _ (c : Columns) where
  pub rows-length : (i n : ℕ) → length (rows c i n) ≡ n
  unfolding rows
  rows-length i zero = refl
  rows-length i (suc n) = ap suc (rows-length (suc i) n)

  pub row_at : (i n j : ℕ) → j < n → get_or (rows c i n) j no_entry ≡ entry_at c (i + j)
  unfolding rows
  row_at i zero j q = absurd (omega arith)
  row_at i (suc n) zero q = let z : i ≡ i + 0 = omega arith in ap (entry_at c) z
  row_at i (suc n) (suc j) q = let z : suc i + j ≡ i + suc j = omega arith in row_at (suc i) n j (omega arith) ∙ ap (entry_at c) z

  pub column : (f : Entry → ℕ) (xs : List ℕ) → ((k : ℕ) → f (entry_at c k) ≡ get_or xs k 0) → (i n : ℕ) → i + n ≤ length xs → map f (rows c i n) ≡ take n (drop i xs)
  unfolding rows
  column f xs e i zero h = refl
  column f xs e i (suc n) h =
      ap₂ (λ (x : ℕ) (l : List ℕ). x ∷ l) (e i) (column f xs e (suc i) n (omega arith))
      ∙ ap (take (suc n)) (sym (drop-cons xs i 0 (omega arith)))

-- ---- a column after an entry is set or put in
module _ (f : Entry → ℕ) (xs : List ℕ) (l : List Entry) (n : ℕ) (h : n ≤ length xs) (k : length l ≡ n) (is : map f l ≡ take n xs) (r : ℕ) (g : Entry) where
  pub set-column : r < n → set xs r (f g) ≡ map f (set l r g) ++ drop (length (set l r g)) xs
  set-column q =
      let a : length (take n xs) ≡ n = length-take-le n xs h in
      ap (λ (t : List ℕ). set t r (f g)) (sym (take-append-drop n xs))
      ∙ set-append_left (take n xs) (drop n xs) r (f g) (omega arith)
      ∙ ap₂ (λ (t : List ℕ) (m : ℕ). t ++ drop m xs) (ap (λ (t : List ℕ). set t r (f g)) (sym is) ∙ sym (map-set f l r g)) (sym (length-set l r g ∙ k))

  pub put_column : r ≤ n → inserted_at n r (f g) xs ≡ map f (put l r g) ++ drop (length (put l r g)) xs
  put_column q =
      let m : n + 1 ≡ length (put l r g) = add-one n ∙ ap suc (sym k) ∙ sym (put_length l r g (omega arith)) in
      let a : take (n + 1) (put xs r (f g)) ≡ put (take n xs) r (f g) = ap (λ (j : ℕ). take j (put xs r (f g))) (add-one n) ∙ take_put n r xs (f g) h q in
      ap₂ (λ (t : List ℕ) (j : ℕ). t ++ drop j xs) (a ∙ ap (λ (t : List ℕ). put t r (f g)) (sym is) ∙ sym (map_put f l r g)) m

-- ---- field by field
pub columns_are : {a a' b b' x x' y y' : List ℕ} → a ≡ a' → b ≡ b' → x ≡ x' → y ≡ y'
    → ◌≡◌ {A = Columns} (record { ids = a; frames = b; stated = x; disk = y }) (record { ids = a'; frames = b'; stated = x'; disk = y' })
columns_are a b x y = cc

pub map-is : {n n' : ℕ} {a a' b b' x x' y y' : List ℕ} → n ≡ n' → a ≡ a' → b ≡ b' → x ≡ x' → y ≡ y'
    → ◌≡◌ {A = FragmentationMap} (record { count = n; ids = a; frames = b; stated = x; disk = y }) (record { count = n'; ids = a'; frames = b'; stated = x'; disk = y' })
map-is k a b x y = cc

module _ (n : ℕ) (c : Columns) (h : n ≤ 64) (w : Whole c) where
  abbrev pub held : List Entry
  held = rows c 0 n

  len : length held ≡ n
  len = rows-length c 0 n

  ids_are : ids_of held ≡ take n c.ids
  ids_are = column c (λ (e : Entry). e.id) c.ids (λ k. refl) 0 n (omega (arith, w.0))

  frames_are : map (λ (e : Entry). e.frames) held ≡ take n c.frames
  frames_are = column c (λ (e : Entry). e.frames) c.frames (λ k. refl) 0 n (omega (arith, w.1))

  stated_are : map (λ (e : Entry). e.stated) held ≡ take n c.stated
  stated_are = column c (λ (e : Entry). e.stated) c.stated (λ k. refl) 0 n (omega (arith, w.2))

  disk_are : map (λ (e : Entry). e.disk) held ≡ take n c.disk
  disk_are = column c (λ (e : Entry). e.disk) c.disk (λ k. refl) 0 n (omega (arith, w.3))

  pub ascending_held : ascending_from 0 held ≡ rising_from 0 (take n c.ids)
  ascending_held = ascending_is 0 held ∙ ap (rising_from 0) ids_are

  -- one slot set to g, and g put in at a slot
  pub set_slot : (r : ℕ) (g : Entry) → r < n
      → map_of n (record { ids = set c.ids r g.id; frames = set c.frames r g.frames; stated = set c.stated r g.stated; disk = set c.disk r g.disk })
      ≡ map_of (length (set held r g)) (with_entries c (set held r g))
  set_slot r g q =
      map-is (sym (length-set held r g ∙ len))
      (set-column (λ (e : Entry). e.id) c.ids held n (omega (arith, w.0)) len ids_are r g q)
      (set-column (λ (e : Entry). e.frames) c.frames held n (omega (arith, w.1)) len frames_are r g q)
      (set-column (λ (e : Entry). e.stated) c.stated held n (omega (arith, w.2)) len stated_are r g q)
      (set-column (λ (e : Entry). e.disk) c.disk held n (omega (arith, w.3)) len disk_are r g q)

  long : (r : ℕ) (g : Entry) → r ≤ n → length (put held r g) ≡ n + 1
  long r g q = put_length held r g (omega (arith, len)) ∙ ap suc len ∙ sym (add-one n)

  pub put_slot : (r : ℕ) (g : Entry) → r ≤ n
      → map_of (n + 1) (record { ids = inserted_at n r g.id c.ids; frames = inserted_at n r g.frames c.frames; stated = inserted_at n r g.stated c.stated; disk = inserted_at n r g.disk c.disk })
      ≡ map_of (length (put held r g)) (with_entries c (put held r g))
  put_slot r g q =
      map-is (sym (long r g q))
      (put_column (λ (e : Entry). e.id) c.ids held n (omega (arith, w.0)) len ids_are r g q)
      (put_column (λ (e : Entry). e.frames) c.frames held n (omega (arith, w.1)) len frames_are r g q)
      (put_column (λ (e : Entry). e.stated) c.stated held n (omega (arith, w.2)) len stated_are r g q)
      (put_column (λ (e : Entry). e.disk) c.disk held n (omega (arith, w.3)) len disk_are r g q)

  module _ (id r : ℕ) (pr : r ≡ place_in id (take n c.ids)) where
    pub placed : r ≡ place_of id held
    placed = pr ∙ sym (ap (place_in id) ids_are)

    pub place_in_lem : r ≤ n
    place_in_lem = omega (arith, place-le id held, len, placed)

    pub at_held : r < n → get_or held (place_of id held) no_entry ≡ entry_at c r
    at_held q = ap (λ (k : ℕ). get_or held k no_entry) (sym placed) ∙ row_at c 0 n r q ∙ ap (entry_at c) (let z : 0 + r ≡ r = omega arith in z)

-- ---- what a search found among the ids of a map
module _ (m : FragmentationMap) (w : Rising m) (id r : ℕ) where
  taken : length (take m.count m.ids) ≡ m.count
  taken = length-take-le m.count m.ids (omega (arith, w.few, w.whole.0))

  module _ (s : StandsAt id (take m.count m.ids) r) where
    pub below : r < m.count
    below = omega (arith, s.within, taken)

    pub same_id : get_or m.ids r 0 ≡ id
    same_id = sym (get_or-take m.count m.ids r 0 below) ∙ s.there

    pub place_below : place_of id (entries_of m) < length (entries_of m)
    place_below = omega (arith, rows-length (columns_of m) 0 m.count, placed m.count (columns_of m) w.few w.whole id r s.place, below)

    pub there_is : get_or (entries_of m) (place_of id (entries_of m)) no_entry ≡ entry_at (columns_of m) r
    there_is = at_held m.count (columns_of m) w.few w.whole id r s.place below

  module _ (g : GoesTo id (take m.count m.ids) r) where
    pub within : r ≤ m.count
    within = omega (arith, g.within, taken)

    pub not_there : place_of id (entries_of m) < length (entries_of m) → (get_or (entries_of m) (place_of id (entries_of m)) no_entry).id ≡ id → ⊥
    not_there q s =
        let u : r < m.count = omega (arith, q, rows-length (columns_of m) 0 m.count, placed m.count (columns_of m) w.few w.whole id r g.place) in
        g.absent (omega (arith, u, taken)) (get_or-take m.count m.ids r 0 u ∙ ap (λ (x : Entry). x.id) (sym (at_held m.count (columns_of m) w.few w.whole id r g.place u)) ∙ s)

-- ---- an entry joined to those of a map
module _ (m : FragmentationMap) (w : Rising m) (e : Entry) (r : ℕ) where
  abbrev c : Columns
  c = columns_of m

  abbrev l : List Entry
  l = entries_of m

  -- its id stands at slot r
  module _ (s : StandsAt e.id (take m.count m.ids) r) where
    pub joins : (f : Entry → Entry → Entry) → joined f e l ≡ set l r (f (entry_at c r) e)
    joins f =
        add-found f e l (place_below m w e.id r s) (ap (λ (x : Entry). x.id) (there_is m w e.id r s) ∙ same_id m w e.id r s)
        ∙ ap₂ (λ (x : Entry) (k : ℕ). set l k (f x e)) (there_is m w e.id r s) (sym (placed m.count c w.few w.whole e.id r s.place))

    pub overwritten : (f : Entry → Entry → Entry) → written r m (f (entry_at c r) e) ≡ holding m (joined f e l)
    overwritten f = set_slot m.count c w.few w.whole r (f (entry_at c r) e) (below m w e.id r s) ∙ ap (holding m) (sym (joins f))

  -- it does not stand there
  module _ (g : GoesTo e.id (take m.count m.ids) r) where
    pub puts : (f : Entry → Entry → Entry) → joined f e l ≡ put l r e
    puts f = add_fresh f e l (not_there m w e.id r g) ∙ ap (λ (k : ℕ). put l k e) (sym (placed m.count c w.few w.whole e.id r g.place))

    pub added_at : (f : Entry → Entry → Entry) → put_at r m e ≡ holding m (joined f e l)
    added_at f = put_slot m.count c w.few w.whole r e (within m w e.id r g) ∙ ap (holding m) (sym (puts f))

-- ---- an entry added
module _ (m : FragmentationMap) (w : Ready m) (e : Entry) (r : ℕ) where
  abbrev sum : Entry
  sum = plus (entry_at (columns_of m) r) e

  module _ (s : StandsAt e.id (take m.count m.ids) r) where
    is : added e (entries_of m) ≡ set (entries_of m) r sum
    is = joins m w.sound e r s plus

    own_test : all_fit (set (entries_of m) r sum) ≡ fits sum
    own_test = fit-set (entries_of m) r sum (omega (arith, rows-length (columns_of m) 0 m.count, below m w.sound e.id r s)) w.fit

    pub too_big : fits sum ≡ false → ◌≡◌ {A = Dropped} (record { answer = Err SumTooBig; map = m }) (answered m (judged (added e (entries_of m))))
    too_big t = sym (ap (answered m) (ap judged is ∙ judged_big (set (entries_of m) r sum) (own_test ∙ t)))

    pub grown : fits sum ≡ true → ◌≡◌ {A = Dropped} (record { answer = Ok tt; map = written r m sum }) (answered m (judged (added e (entries_of m))))
    grown t =
        ap (λ (d : FragmentationMap). record { answer = Ok tt; map = d }) (overwritten m w.sound e r s plus)
        ∙ sym (ap (answered m) (judged-made (added e (entries_of m)) (ap all_fit is ∙ own_test ∙ t) (omega (arith, ap length is, length-set (entries_of m) r sum, rows-length (columns_of m) 0 m.count, w.sound.few))))

  module _ (g : GoesTo e.id (take m.count m.ids) r) (ef : fits e ≡ true) where
    is_put : added e (entries_of m) ≡ put (entries_of m) r e
    is_put = puts m w.sound e r g plus

    longer : length (put (entries_of m) r e) ≡ m.count + 1
    longer = put_length (entries_of m) r e (omega (arith, rows-length (columns_of m) 0 m.count, within m w.sound e.id r g)) ∙ omega (arith, rows-length (columns_of m) 0 m.count)

    pub no_room : m.count ≡ 64 → ◌≡◌ {A = Dropped} (record { answer = Err MapFull; map = m }) (answered m (judged (added e (entries_of m))))
    no_room t = sym (ap (answered m) (ap judged is_put ∙ judged_full (put (entries_of m) r e) (fit_put (entries_of m) r e ef w.fit) (omega (arith, longer, t))))

    pub put_new : m.count < 64 → ◌≡◌ {A = Dropped} (record { answer = Ok tt; map = put_at r m e }) (answered m (judged (added e (entries_of m))))
    put_new t =
        ap (λ (d : FragmentationMap). record { answer = Ok tt; map = d }) (added_at m w.sound e r g plus)
        ∙ sym (ap (answered m) (judged-made (added e (entries_of m)) (ap all_fit is_put ∙ fit_put (entries_of m) r e ef w.fit) (omega (arith, ap length is_put, longer, t))))

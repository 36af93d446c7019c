-- A stored map reads back: each number, each entry, then all of them in their order.
use Prim.Native.Nat.{ℕ, zero, suc, ◌+◌, ◌-◌, ◌*◌, ◌≤◌, ◌<◌, ◌^◌}
use mathlib.Core.Path.{◌≡◌, refl, sym, ◌∙◌, ap, ap₂}
use mathlib.Core.List.{List, [], ◌∷◌, ◌++◌, append_assoc, append-nil}
use mathlib.Core.Bool.{true}
use native.Mathlib.Omega.{arith}
use lib.ListN.{length, drop, get_or, length-append}
use lib.Seq.{drop_at, drop-drop}
use lib.Dec.{leb}
use borrow.Author.Tests.{le-ltb, leb-true}
use Rattle.numbers.specs.Pick.{pick}
use Rattle.numbers.specs.Le.{le, num}
use Rattle.numbers.specs.LeLaws.{length-le, num-le}
use Rattle.garbage.specs.declared.map.FragmentationMap.{FragmentationMap}
use Rattle.std.specs.Prelude.{Ok, Result}
use Rattle.garbage.specs.declared.stored.LoadRefusal.{LoadRefusal}
use Rattle.garbage.specs.Entries.{Entry, ascending_from, all_fit}
use Rattle.garbage.specs.Maps.{Columns, columns_of, entry_at, rows, entries_of, holding, well_formed, empty_map}
use Rattle.garbage.specs.Stored.{entry_bytes, entries_bytes, stored_form, entry_in, entries_in, latter, instead, instead_all, stored_count, loaded_by, load_of}
use Rattle.garbage.proofs.Bools.{and_l, and_r}
use Rattle.garbage.proofs.Added.{add-past, add_none}
use Rattle.garbage.proofs.Fits.{fits_each, fit-head, fit-tail}
use Rattle.garbage.proofs.Sound.{well-few, well_ascending}
use Rattle.garbage.proofs.Storing.{length-entry, length-stored}

entry-is : {a a' b b' x x' y y' : ℕ} → a ≡ a' → b ≡ b' → x ≡ x' → y ≡ y' → ◌≡◌ {A = Entry} (record { id = a; frames = b; stated = x; disk = y }) (record { id = a'; frames = b'; stated = x'; disk = y' })
entry-is a b x y = cc

-- ---- one entry
module _ (e : Entry) (rest : List ℕ) where
  abbrev i : List ℕ
  i = le 8 e.id

  abbrev f : List ℕ
  f = le 4 e.frames

  abbrev a : List ℕ
  a = le 8 e.stated

  abbrev d : List ℕ
  d = le 8 e.disk

  laid : entry_bytes e ++ rest ≡ i ++ (f ++ (a ++ (d ++ rest)))
  unfolding entry_bytes
  laid = append_assoc i (f ++ (a ++ d)) rest ∙ ap (λ (t : List ℕ). i ++ t) (append_assoc f (a ++ d) rest ∙ ap (λ (t : List ℕ). f ++ t) (append_assoc a d rest))

  past-id : drop 8 (entry_bytes e ++ rest) ≡ f ++ (a ++ (d ++ rest))
  past-id = ap (drop 8) laid ∙ drop_at i (f ++ (a ++ (d ++ rest))) 8 (length-le 8 e.id)

  past-frames : drop 12 (entry_bytes e ++ rest) ≡ a ++ (d ++ rest)
  past-frames = sym (drop-drop 4 8 (entry_bytes e ++ rest)) ∙ ap (drop 4) past-id ∙ drop_at f (a ++ (d ++ rest)) 4 (length-le 4 e.frames)

  past-stated : drop 20 (entry_bytes e ++ rest) ≡ d ++ rest
  past-stated = sym (drop-drop 8 12 (entry_bytes e ++ rest)) ∙ ap (drop 8) past-frames ∙ drop_at a (d ++ rest) 8 (length-le 8 e.stated)

  entry-back : e.id < 256 ^ 8 → e.frames < 256 ^ 4 → e.stated < 256 ^ 8 → e.disk < 256 ^ 8 → entry_in (entry_bytes e ++ rest) ≡ record { id = e.id; frames = e.frames; stated = e.stated; disk = e.disk }
  unfolding entry_in
  entry-back p q r s = entry-is
      (ap (num 8) laid ∙ num-le 8 e.id (f ++ (a ++ (d ++ rest))) p)
      (ap (num 4) past-id ∙ num-le 4 e.frames (a ++ (d ++ rest)) q)
      (ap (num 8) past-frames ∙ num-le 8 e.stated (d ++ rest) r)
      (ap (num 8) past-stated ∙ num-le 8 e.disk rest s)

  past-entry : drop 28 (entry_bytes e ++ rest) ≡ rest
  past-entry = drop_at (entry_bytes e) rest 28 (length-entry e)

-- ---- all of them
entries-back : (c : Columns) (rest : List ℕ) (i n : ℕ) → all_fit (rows c i n) ≡ true → ((k : ℕ) → k < i + n → get_or c.ids k 0 < 2 ^ 64) → entries_in n (entries_bytes (rows c i n) ++ rest) ≡ rows c i n
unfolding entries_in entries_bytes rows
entries-back c rest i zero f h = refl
entries-back c rest i (suc n) f h =
    let e : Entry = entry_at c i in
    let l : List Entry = rows c (suc i) n in
    let w = fits_each e (fit-head e l f) in
    let s : (entry_bytes e ++ entries_bytes l) ++ rest ≡ entry_bytes e ++ (entries_bytes l ++ rest) = append_assoc (entry_bytes e) (entries_bytes l) rest in
    let x = h i (omega arith) in
    ap₂ (λ (u : Entry) (v : List Entry). u ∷ v)
    (ap entry_in s ∙ entry-back e (entries_bytes l ++ rest) (omega arith) (omega (arith, w.0)) (omega (arith, w.1)) (omega (arith, w.2)))
    (ap (entries_in n) (ap (drop 28) s ∙ past-entry e (entries_bytes l ++ rest)) ∙ entries-back c rest (suc i) n (fit-tail e l f) (λ k q. h k (omega arith)))

-- ---- entries that ascend are put one behind the other
abbrev Below : ℕ → List Entry → Type 0
Below lo [] = Unit {0}
Below lo (x ∷ l) = (x.id < lo) × Below lo l

behind : (e : Entry) (l : List Entry) → Below e.id l → instead e l ≡ l ++ (e ∷ [])
behind e [] b = add_none latter e
behind e (x ∷ l) b = add-past latter e x l b.0 ∙ ap (λ (t : List Entry). x ∷ t) (behind e l b.1)

below_more : (lo hi : ℕ) (l : List Entry) → lo ≤ hi → Below lo l → Below hi l
below_more lo hi [] h b = tt
below_more lo hi (x ∷ l) h b = (omega (arith, b.0), below_more lo hi l h b.1)

below_end : (hi : ℕ) (l : List Entry) (e : Entry) → Below hi l → e.id < hi → Below hi (l ++ (e ∷ []))
below_end hi [] e b h = (h, tt)
below_end hi (x ∷ l) e b h = (b.0, below_end hi l e b.1 h)

in_order : (lo : ℕ) (es l : List Entry) → ascending_from lo es ≡ true → Below lo l → instead_all es l ≡ l ++ es
unfolding instead_all ascending_from
in_order lo [] l t b = sym (append-nil l)
in_order lo (e ∷ es) l t b =
    let g : lo ≤ e.id = leb-true lo e.id (and_l (leb lo e.id) (ascending_from (suc e.id) es) t) in
    let c : Below e.id l = below_more lo e.id l g b in
    ap (instead_all es) (behind e l c)
    ∙ in_order (suc e.id) es (l ++ (e ∷ [])) (and_r (leb lo e.id) (ascending_from (suc e.id) es) t) (below_end (suc e.id) l e (below_more e.id (suc e.id) l (omega arith) c) (omega arith))
    ∙ append_assoc l (e ∷ []) es

-- ---- the whole
module _ (m : FragmentationMap) (rest : List ℕ) (w : well_formed m ≡ true) (f : all_fit (entries_of m) ≡ true) (h : (i : ℕ) → i < m.count → get_or m.ids i 0 < 2 ^ 64) where
  abbrev s : List ℕ
  s = stored_form m ++ rest

  few : m.count ≤ 64
  few = well-few m w

  split : s ≡ le 4 m.count ++ (entries_bytes (entries_of m) ++ rest)
  unfolding stored_form
  split = append_assoc (le 4 m.count) (entries_bytes (entries_of m)) rest

  count-back : num 4 s ≡ m.count
  count-back = ap (num 4) split ∙ num-le 4 m.count (entries_bytes (entries_of m) ++ rest) (omega (arith, few))

  past-count : drop 4 s ≡ entries_bytes (entries_of m) ++ rest
  past-count = ap (drop 4) split ∙ drop_at (le 4 m.count) (entries_bytes (entries_of m) ++ rest) 4 (length-le 4 m.count)

  long : 4 + 28 * m.count ≤ length s
  long = omega (arith, length-append (stored_form m) rest, length-stored m)

  loaded : instead_all (entries_in m.count (drop 4 s)) [] ≡ entries_of m
  loaded =
      ap (λ (t : List ℕ). instead_all (entries_in m.count t) []) past-count
      ∙ ap (λ (l : List Entry). instead_all l []) (entries-back (columns_of m) rest 0 m.count f (λ k q. h k (omega arith)))
      ∙ in_order 0 (entries_of m) [] (well_ascending m w) tt

  all_there : stored_count s ≡ Ok m.count
  unfolding stored_count pick
  all_there = rw (le-ltb (length s) 4 (omega (arith, long)), count-back, le-ltb 64 m.count few, le-ltb (length s - 4) (28 * m.count) (omega (arith, long)))

  pub back : load_of s ≡ record { answer = Ok (length (stored_form m)); map = holding empty_map (entries_of m) }
  back =
      ap (λ (r : Result ℕ LoadRefusal). loaded_by s r) all_there
      ∙ ap₂ (λ (n : ℕ) (l : List Entry). record { answer = Ok n; map = holding empty_map l }) (sym (length-stored m)) loaded

-- The stored form, entry by entry: its length, one entry more written, one more read.
use Prim.Native.Nat.{ℕ, zero, suc, ◌+◌, ◌-◌, ◌*◌, ◌≤◌, ◌<◌}
use mathlib.Core.Path.{◌≡◌, refl, sym, ◌∙◌, ap, subst}
use mathlib.Core.List.{List, [], ◌∷◌, ◌++◌, append_assoc}
use mathlib.Core.Bool.{Bool, true, false}
use lib.Dec.{ltb}
use borrow.Author.Tests.{ltb-false}
use Rattle.std.specs.Prelude.{Result, Ok, Err}
use Rattle.numbers.specs.Pick.{pick}
use Rattle.garbage.specs.declared.stored.LoadRefusal.{LoadRefusal}
use native.Mathlib.Omega.{arith}
use native.Mathlib.Numerals.{add-one}
use lib.ListN.{length, drop, length-append}
use lib.Seq.{sets, drop-drop}
use Rattle.numbers.specs.Le.{le, num}
use Rattle.numbers.specs.LeLaws.{length-le, sets_then}
use Rattle.garbage.specs.declared.map.FragmentationMap.{FragmentationMap}
use Rattle.garbage.specs.Entries.{Entry, ascending_from}
use Rattle.garbage.specs.Maps.{Columns, columns_of, map_of, entry_at, rows, entries_of, holding}
use Rattle.garbage.specs.Columns.{Whole, Rising}
use Rattle.garbage.specs.Stored.{entry_bytes, entries_bytes, stored_form, entry_in, entries_in, latter, instead, instead_all, stored_count}
use Rattle.garbage.proofs.Added.{add_ascending, add_longer}
use Rattle.garbage.proofs.Slots.{rows-length}
use Rattle.garbage.proofs.Holding.{rows_with, holding-again, rising_with, rows_snoc, rows_zero}

-- ---- writing
pub length-entry : (e : Entry) → length (entry_bytes e) ≡ 28
unfolding entry_bytes
length-entry e =
    length-append (le 8 e.id) (le 4 e.frames ++ (le 8 e.stated ++ le 8 e.disk))
    ∙ omega (arith, length-le 8 e.id, length-append (le 4 e.frames) (le 8 e.stated ++ le 8 e.disk), length-le 4 e.frames, length-append (le 8 e.stated) (le 8 e.disk), length-le 8 e.stated, length-le 8 e.disk)

pub length-entries : (l : List Entry) → length (entries_bytes l) ≡ 28 * length l
unfolding entries_bytes
length-entries [] = refl
length-entries (e ∷ l) = length-append (entry_bytes e) (entries_bytes l) ∙ omega (arith, length-entry e, length-entries l)

pub length-stored : (m : FragmentationMap) → length (stored_form m) ≡ 4 + 28 * m.count
unfolding stored_form
length-stored m =
    length-append (le 4 m.count) (entries_bytes (entries_of m))
    ∙ omega (arith, length-le 4 m.count, length-entries (entries_of m), rows-length (columns_of m) 0 m.count)

entries-end : (l : List Entry) (e : Entry) → entries_bytes (l ++ (e ∷ [])) ≡ entries_bytes l ++ entry_bytes e
unfolding entries_bytes
entries-end [] e = append-none (entry_bytes e)
  where
    append-none : (s : List ℕ) → s ++ [] ≡ s
    append-none [] = refl
    append-none (x ∷ s) = ap (λ (t : List ℕ). x ∷ t) (append-none s)
entries-end (x ∷ l) e = ap (λ (t : List ℕ). entry_bytes x ++ t) (entries-end l e) ∙ sym (append_assoc (entry_bytes x) (entries_bytes l) (entry_bytes e))

pub put_more : (c : Columns) (i : ℕ) (b₀ b b' : List ℕ) (e : Entry) → b ≡ sets b₀ 4 (entries_bytes (rows c 0 i)) → e ≡ entry_at c i → b' ≡ sets b (4 + 28 * i) (entry_bytes e) → b' ≡ sets b₀ 4 (entries_bytes (rows c 0 (i + 1)))
put_more c i b₀ b b' e p q r =
    sets_then b₀ b b' (entries_bytes (rows c 0 i)) (entry_bytes e) 4 (4 + 28 * i) p r (omega (arith, length-entries (rows c 0 i), rows-length c 0 i))
    ∙ ap (sets b₀ 4) (ap (λ (x : Entry). entries_bytes (rows c 0 i) ++ entry_bytes x) q ∙ sym (entries-end (rows c 0 i) (entry_at c i)) ∙ ap entries_bytes (sym (rows_snoc c i)))

pub put_none : (c : Columns) (b : List ℕ) → b ≡ sets b 4 (entries_bytes (rows c 0 0))
unfolding entries_bytes
put_none c b = sym (ap (λ (l : List Entry). sets b 4 (entries_bytes l)) (rows_zero c))

-- ---- reading
pub entries-length : (n : ℕ) (s : List ℕ) → length (entries_in n s) ≡ n
unfolding entries_in
entries-length zero s = refl
entries-length (suc n) s = ap suc (entries-length n (drop 28 s))

read-end : (n : ℕ) (s : List ℕ) → entries_in (suc n) s ≡ entries_in n s ++ (entry_in (drop (28 * n) s) ∷ [])
unfolding entries_in
read-end zero s = refl
read-end (suc n) s =
    let z : 28 + 28 * n ≡ 28 * suc n = omega arith in
    ap (λ (t : List Entry). entry_in s ∷ t) (read-end n (drop 28 s) ∙ ap (λ (u : List ℕ). entries_in n (drop 28 s) ++ (entry_in u ∷ [])) (drop-drop (28 * n) 28 s ∙ ap (λ (k : ℕ). drop k s) z))

instead-end : (es : List Entry) (e : Entry) (l : List Entry) → instead_all (es ++ (e ∷ [])) l ≡ instead e (instead_all es l)
unfolding instead_all
instead-end [] e l = refl
instead-end (x ∷ es) e l = instead-end es e (instead x l)

latter-id : (x e : Entry) → x.id ≡ e.id → (latter x e).id ≡ x.id
latter-id x e h = sym h

pub instead_ascending : (es l : List Entry) → ascending_from 0 l ≡ true → ascending_from 0 (instead_all es l) ≡ true
unfolding instead_all
instead_ascending [] l t = t
instead_ascending (e ∷ es) l t = instead_ascending es (instead e l) (add_ascending latter latter-id 0 e l (omega arith) t)

pub instead-length : (es l : List Entry) → length (instead_all es l) ≤ length es + length l
unfolding instead_all
instead-length [] l = omega arith
instead-length (e ∷ es) l = omega (arith, instead-length es (instead e l), (add_longer latter e l).1)

none_ascending : ascending_from 0 [] ≡ true
unfolding ascending_from
none_ascending = refl

module _ (m : FragmentationMap) (w : Whole (columns_of m)) (s : List ℕ) where
  -- what the first i entries make
  abbrev pub read : ℕ → List Entry
  read i = instead_all (entries_in i (drop 4 s)) []

  read-few : (i : ℕ) → length (read i) ≤ i
  read-few i = omega (arith, instead-length (entries_in i (drop 4 s)) [], entries-length i (drop 4 s))

  pub get_none : m.count ≡ 0 → map_of m.count (columns_of m) ≡ holding m (read 0)
  unfolding entries_in instead_all
  get_none h = ap (λ (n : ℕ). map_of n (columns_of m)) h

  module _ (i : ℕ) (d : FragmentationMap) (p : d ≡ holding m (read i)) where
    pub get_rising : i < 64 → (d.count < 64) × Rising d
    get_rising h =
        let k = read-few i in
        let n : d.count ≡ length (read i) = ap (λ (t : FragmentationMap). t.count) p in
        (omega arith, subst Rising (sym p) (rising_with m w (read i) (omega arith) (instead_ascending (entries_in i (drop 4 s)) [] none_ascending)))

    pub get_more : (d' : FragmentationMap) (e : Entry) → e ≡ entry_in (drop (4 + 28 * i) s) → d' ≡ holding d (instead e (entries_of d)) → d' ≡ holding m (read (i + 1))
    get_more d' e q r =
        let l : List Entry = read i in
        let z : read (i + 1) ≡ instead e l =
        ap (λ (k : ℕ). instead_all (entries_in k (drop 4 s)) []) (add-one i)
        ∙ ap (λ (es : List Entry). instead_all es []) (read-end i (drop 4 s))
        ∙ instead-end (entries_in i (drop 4 s)) (entry_in (drop (28 * i) (drop 4 s))) []
        ∙ ap (λ (x : Entry). instead x l) (ap entry_in (drop-drop (28 * i) 4 s) ∙ sym q) in
        r
        ∙ ap (λ (t : FragmentationMap). holding t (instead e (entries_of t))) p
        ∙ ap (λ (x : List Entry). holding (holding m l) (instead e x)) (rows_with (columns_of m) l)
        ∙ holding-again m l (instead e l) (add_longer latter e l).0
        ∙ ap (holding m) (sym z)

-- what a count that was read tells of the buffer
pub counted : (s : List ℕ) (k : ℕ) → stored_count s ≡ Ok k → (k ≤ 64) × (4 + 28 * k ≤ length s)
unfolding stored_count pick
counted s k e = go (ltb (length s) 4) refl (ltb 64 (num 4 s)) refl (ltb (length s - 4) (28 * num 4 s)) refl _ _ _ e
  where
    go : (a : Bool) → ltb (length s) 4 ≡ a → (b : Bool) → ltb 64 (num 4 s) ≡ b → (d : Bool) → ltb (length s - 4) (28 * num 4 s) ≡ d → (x y z : LoadRefusal)
        → ◌≡◌ {A = Result ℕ LoadRefusal} (pick a (Err x) (pick b (Err y) (pick d (Err z) (Ok (num 4 s))))) (Ok k) → (k ≤ 64) × (4 + 28 * k ≤ length s)
    go false p false q false r x y z e =
        let n : num 4 s ≡ k = cc in
        (omega (arith, ltb-false 64 (num 4 s) q, n), omega (arith, ltb-false (length s) 4 p, ltb-false (length s - 4) (28 * num 4 s) r, n))
    go false p false q true r x y z e = absurd (let w : ◌≡◌ {A = ℕ} 0 1 = cc in omega arith)
    go false p true q d r x y z e = absurd (let w : ◌≡◌ {A = ℕ} 0 1 = cc in omega arith)
    go true p b q d r x y z e = absurd (let w : ◌≡◌ {A = ℕ} 0 1 = cc in omega arith)

-- Entries kept one after another, and the sum of on-disk bytes from one entry on.
use Prim.Native.Nat.{ℕ, zero, suc, ◌+◌, ◌-◌, ◌≤◌, ◌<◌}
use mathlib.Core.Path.{◌≡◌, refl, sym, ◌∙◌, ap}
use mathlib.Core.List.{List, [], ◌∷◌, ◌++◌}
use mathlib.Core.Bool.{Bool, true, false, ◌||◌}
use lib.Dec.{eqb}
use Rattle.std.specs.List.{list_any}
use native.Mathlib.Omega.{arith}
use lib.ListN.{length, get_or}
use Rattle.numbers.specs.Pick.{pick}
use Rattle.garbage.specs.Entries.{Entry}
use Rattle.garbage.specs.declared.map.FragmentationMap.{FragmentationMap}
use Rattle.garbage.specs.Maps.{Columns, columns_of, map_of, entry_at, rows, holding}
use Rattle.garbage.specs.Merges.{listed_in, kept_of, disk_sum}
use Rattle.garbage.specs.Columns.{Whole, pushed}
use Rattle.garbage.proofs.Slots.{rows-length}
use Rattle.garbage.proofs.Sound.{cols}
use Rattle.garbage.proofs.Holding.{pushed-past, rows_snoc, rows_zero, rows_open, rows_out}

-- ---- listed, as a slice's `contains` tells it
pub listed : (id : ℕ) (xs : List ℕ) → list_any (λ (x : ℕ). eqb x id) xs ≡ listed_in id xs
unfolding listed_in
listed id [] = refl
listed id (x ∷ xs) = ap (λ (b : Bool). eqb x id || b) (listed id xs)

-- ---- one entry more
module _ (ids : List ℕ) where
  kept-end : (l : List Entry) (e : Entry) → kept_of ids (l ++ (e ∷ [])) ≡ kept_of ids l ++ pick (listed_in e.id ids) (e ∷ []) []
  unfolding kept_of pick
  kept-end [] e = refl
  kept-end (x ∷ l) e = go (listed_in x.id ids) (kept-end l e)
    where
      go : (b : Bool) → kept_of ids (l ++ (e ∷ [])) ≡ kept_of ids l ++ pick (listed_in e.id ids) (e ∷ []) []
          → pick b (x ∷ kept_of ids (l ++ (e ∷ []))) (kept_of ids (l ++ (e ∷ []))) ≡ pick b (x ∷ kept_of ids l) (kept_of ids l) ++ pick (listed_in e.id ids) (e ∷ []) []
      go true h = ap (λ (t : List Entry). x ∷ t) h
      go false h = h

  pub kept-few : (l : List Entry) → length (kept_of ids l) ≤ length l
  unfolding kept_of pick
  kept-few [] = omega arith
  kept-few (x ∷ l) = go (listed_in x.id ids) (kept-few l)
    where
      go : (b : Bool) → length (kept_of ids l) ≤ length l → length (pick b (x ∷ kept_of ids l) (kept_of ids l)) ≤ suc (length l)
      go true h = omega arith
      go false h = omega arith

  append-none : (l : List Entry) → l ++ [] ≡ l
  append-none [] = refl
  append-none (x ∷ l) = ap (λ (t : List Entry). x ∷ t) (append-none l)

  pub keep_none : (m : FragmentationMap) → map_of 0 (columns_of m) ≡ holding m (kept_of ids (rows (columns_of m) 0 0))
  unfolding kept_of
  keep_none m = sym (ap (λ (l : List Entry). holding m (kept_of ids l)) (rows_zero (columns_of m)))

  module _ (m d : FragmentationMap) (w : Whole (columns_of m)) (i : ℕ) (h : i < 64) (p : d ≡ holding m (kept_of ids (rows (columns_of m) 0 i))) where
    abbrev l : List Entry
    l = kept_of ids (rows (columns_of m) 0 i)

    abbrev e : Entry
    e = entry_at (columns_of m) i

    short : length l ≤ i
    short = omega (arith, kept-few (rows (columns_of m) 0 i), rows-length (columns_of m) 0 i)

    pub room-left : d.count < 64
    room-left = let n : d.count ≡ length l = ap (λ (t : FragmentationMap). t.count) p in omega (arith, short)

    more : kept_of ids (rows (columns_of m) 0 (i + 1)) ≡ l ++ pick (listed_in e.id ids) (e ∷ []) []
    more = ap (kept_of ids) (rows_snoc (columns_of m) i) ∙ kept-end (rows (columns_of m) 0 i) e

    pub keep_more : listed_in e.id ids ≡ true → pushed d e ≡ holding m (kept_of ids (rows (columns_of m) 0 (i + 1)))
    unfolding pick
    keep_more t =
        ap (λ (k : FragmentationMap). pushed k e) p
        ∙ pushed-past m w l e (omega (arith, short))
        ∙ ap (holding m) (sym (more ∙ ap (λ (b : Bool). l ++ pick b (e ∷ []) []) t))

    pub keep_on : listed_in e.id ids ≡ false → d ≡ holding m (kept_of ids (rows (columns_of m) 0 (i + 1)))
    unfolding pick
    keep_on t = p ∙ ap (holding m) (sym (more ∙ ap (λ (b : Bool). l ++ pick b (e ∷ []) []) t ∙ append-none l))

-- ---- on-disk bytes
abbrev pub only : List ℕ → Columns
only disk = cols [] [] [] disk

pub sum-only : (c : Columns) (i n : ℕ) → disk_sum (rows c i n) ≡ disk_sum (rows (only c.disk) i n)
unfolding rows disk_sum
sum-only c i zero = refl
sum-only c i (suc n) = ap (λ (s : ℕ). get_or c.disk i 0 + s) (sum-only c (suc i) n)

pub sum_open : (disk : List ℕ) (i n : ℕ) → i < n → disk_sum (rows (only disk) i (n - i)) ≡ get_or disk i 0 + disk_sum (rows (only disk) (i + 1) (n - (i + 1)))
unfolding disk_sum
sum_open disk i n h = ap disk_sum (rows_open (only disk) i n h)

pub sum-out : (disk : List ℕ) (i n : ℕ) → n ≤ i → disk_sum (rows (only disk) i (n - i)) ≡ 0
unfolding disk_sum
sum-out disk i n h = ap disk_sum (rows_out (only disk) i n h)

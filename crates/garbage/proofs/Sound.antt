-- Well-formed maps, by their ids as numbers.
use Prim.Native.Nat.{ℕ, zero, suc, ◌≤◌, ◌<◌, ◌^◌}
use mathlib.Core.Path.{◌≡◌, refl, sym, ◌∙◌, ap}
use mathlib.Core.Bool.{Bool, true, false, ◌&&◌}
use mathlib.Core.List.{List}
use lib.ListN.{take, get_or}
use lib.Dec.{leb}
use borrow.Author.Tests.{leb-true}
use Rattle.garbage.specs.declared.map.FragmentationMap.{FragmentationMap}
use Rattle.garbage.specs.Entries.{ascending_from, all_fit}
use Rattle.garbage.specs.Maps.{Columns, columns_of, entry_at, rows, entries_of, well_formed}
use Rattle.garbage.specs.Columns.{Whole, Told, Rising, Ready, rising_from}
use Rattle.garbage.proofs.Bools.{and_l, and_r}
use Rattle.garbage.proofs.Fits.{fits_all, fit_cons, none-fit}
use Rattle.garbage.proofs.Slots.{ascending_held}

abbrev pub cols : List ℕ → List ℕ → List ℕ → List ℕ → Columns
cols a b x y = record { ids = a; frames = b; stated = x; disk = y }

-- which maps are well formed, by their ids
pub ordered : (m : FragmentationMap) → Whole (columns_of m) → (leb m.count 64 && rising_from 0 (take m.count m.ids)) ≡ well_formed m
ordered m w = go (leb m.count 64) refl
  where
    go : (b : Bool) → leb m.count 64 ≡ b → (leb m.count 64 && rising_from 0 (take m.count m.ids)) ≡ well_formed m
    go true h = ap (λ (b : Bool). leb m.count 64 && b) (sym (ascending_held m.count (columns_of m) (leb-true m.count 64 h) w))
    go false h = rw h

-- entries whose numbers are what the arrays' types say
abbrev pub Below : ℕ → List ℕ → Type 0
Below top xs = (i : ℕ) → get_or xs i 0 < top

rows-fit : (c : Columns) → Below (2 ^ 32) c.frames → Below (2 ^ 64) c.stated → Below (2 ^ 64) c.disk → (i n : ℕ) → all_fit (rows c i n) ≡ true
unfolding rows
rows-fit c f s d i zero = none-fit
rows-fit c f s d i (suc n) = fit_cons (entry_at c i) (rows c (suc i) n) (fits_all (entry_at c i) (f i) (s i) (d i)) (rows-fit c f s d (suc i) n)

-- what a well-formed map is known to have
module _ (m : FragmentationMap) (h : well_formed m ≡ true) where
  pub well-few : m.count ≤ 64
  well-few = leb-true m.count 64 (and_l (leb m.count 64) (ascending_from 0 (entries_of m)) h)

  pub well_ascending : ascending_from 0 (entries_of m) ≡ true
  well_ascending = and_r (leb m.count 64) (ascending_from 0 (entries_of m)) h

  pub well-rising : Whole (columns_of m) → Rising m
  well-rising w = record { few = well-few; rising = sym (ascending_held m.count (columns_of m) well-few w) ∙ well_ascending; whole = w }

  pub well-ready : Whole (columns_of m) → Below (2 ^ 32) m.frames → Below (2 ^ 64) m.stated → Below (2 ^ 64) m.disk → Ready m
  well-ready w f s d = record { sound = well-rising w; fit = rows-fit (columns_of m) f s d 0 m.count }

pub told-ready : (m : FragmentationMap) → well_formed m ≡ true → Told (columns_of m) → Ready m
told-ready m h t = record { sound = well-rising m h t.whole; fit = t.fit m.count (well-few m h) }

pub rising-order : (m : FragmentationMap) → Rising m → ascending_from 0 (entries_of m) ≡ true
rising-order m r = ascending_held m.count (columns_of m) r.few r.whole ∙ r.rising

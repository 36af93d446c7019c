-- A batch, and its drops one by one.
use Prim.Native.Nat.{◌≤◌}
use mathlib.Core.Path.{◌≡◌, refl, sym, ◌∙◌, ap}
use mathlib.Core.List.{List, [], ◌∷◌, map}
use mathlib.Core.Bool.{true}
use native.Mathlib.Omega.{arith}
use lib.ListN.{length}
use Rattle.std.specs.Prelude.{Ok, Err}
use Rattle.numbers.specs.Pick.{pick}
use Rattle.numbers.specs.declared.handle.BlobIndirection.{BlobIndirection}
use Rattle.garbage.specs.declared.map.CountRefusal.TheVariants.{MapFull, SumTooBig}
use Rattle.garbage.specs.declared.map.FragmentationMap.{FragmentationMap}
use Rattle.garbage.specs.declared.dropped.Dropped.{Dropped}
use Rattle.garbage.specs.Entries.{Entry, plus, added, ascending_from, all_fit, judged, Outcome}
use Rattle.garbage.specs.Maps.{columns_of, entries_of, holding}
use Rattle.garbage.specs.Drops.{one, answered, dropped_of}
use Rattle.garbage.specs.Batch.{afterwards, in_turn, going_on, one_by_one}
use Rattle.garbage.proofs.Fits.{made-is}
use Rattle.garbage.proofs.Slots.{rows-length}
use Rattle.garbage.proofs.Sound.{well-few, well_ascending}
use Rattle.garbage.proofs.Holding.{holds-own, holding-again}
use Rattle.garbage.proofs.Turning.{add_in_order}
use Rattle.garbage.proofs.Added.{add_longer}
use Rattle.garbage.proofs.Arranging.{Holds, held}
use Rattle.garbage.specs.Theorems.{BatchDrops}

module _ (m : FragmentationMap) where
  one-drop : (l : List Entry) (p : BlobIndirection) → Holds (holding m l) l → dropped_of (holding m l) p ≡ answered (holding m l) (judged (added (one p) l))
  unfolding pick
  one-drop l p h = rw (h.well, h.entries)

  in_turns : (ps : List BlobIndirection) (l : List Entry) → length l ≤ 64 → ascending_from 0 l ≡ true → answered m (in_turn (map one ps) l) ≡ one_by_one m (holding m l) ps
  unfolding in_turn one_by_one
  in_turns [] l k t = refl
  in_turns (p ∷ ps) l k t =
      go (judged (added (one p) l)) (made-is (added (one p) l)) (in_turns ps)
      ∙ ap (λ (d : Dropped). going_on d.answer m (one_by_one m d.map ps)) (sym (one-drop l p (held m l k t)))
    where
      go : (o : Outcome) → ((x : List Entry) → o ≡ Ok x → (x ≡ added (one p) l) × (all_fit (added (one p) l) ≡ true) × (length (added (one p) l) ≤ 64))
          → ((x : List Entry) → length x ≤ 64 → ascending_from 0 x ≡ true → answered m (in_turn (map one ps) x) ≡ one_by_one m (holding m x) ps)
          → answered m (afterwards o (in_turn (map one ps))) ≡ going_on (answered (holding m l) o).answer m (one_by_one m (answered (holding m l) o).map ps)
      go (Ok x) f ih =
          let s = f x refl in
          ih x (omega (arith, s.2, ap length s.0)) (ap (ascending_from 0) s.0 ∙ add_in_order (one p) l t)
          ∙ ap (λ (k : FragmentationMap). one_by_one m k ps) (sym (holding-again m l x (omega (arith, (add_longer plus (one p) l).0, ap length s.0))))
      go (Err SumTooBig) f ih = refl
      go (Err MapFull) f ih = refl

pub batch_drops_lem : BatchDrops
unfolding pick
batch_drops_lem n a b x y ps w h =
    let m : FragmentationMap = record { count = n; ids = a; frames = b; stated = x; disk = y } in
    let k : n ≤ 64 = well-few m h in
    rw h
    (in_turns m ps (entries_of m) (omega (arith, rows-length (columns_of m) 0 n)) (well_ascending m h)
    ∙ ap (λ (t : FragmentationMap). one_by_one m t ps) (sym (holds-own m k w)))

-- A drop is the addition of one frame, where the map is well formed.
use mathlib.Core.Path.{◌≡◌, sym, ◌∙◌, ap}
use mathlib.Core.Bool.{true, false}
use Rattle.std.specs.Prelude.{Result, Err}
use Rattle.numbers.specs.Pick.{pick}
use Rattle.numbers.specs.declared.handle.BlobIndirection.{BlobIndirection}
use Rattle.garbage.specs.declared.map.CountRefusal.{CountRefusal}
use Rattle.garbage.specs.declared.map.CountRefusal.TheVariants.{MapFull}
use Rattle.garbage.specs.declared.map.FragmentationMap.{FragmentationMap}
use Rattle.garbage.specs.declared.dropped.Dropped.{Dropped}
use Rattle.garbage.specs.Entries.{Entry, added, judged}
use Rattle.garbage.specs.Maps.{entries_of, well_formed}
use Rattle.garbage.specs.Drops.{one, answered, dropped_of}

module _ (m k : FragmentationMap) (p : BlobIndirection) (same : k ≡ m) where
  pub counted : (r : Result (Unit {0}) CountRefusal) (d : FragmentationMap) (e : Entry) → well_formed k ≡ true → e ≡ one p
      → ◌≡◌ {A = Dropped} (record { answer = r; map = d }) (answered k (judged (added e (entries_of k)))) → ◌≡◌ {A = Dropped} (record { answer = r; map = d }) (dropped_of m p)
  unfolding pick
  counted r d e h q a =
      a ∙ ap (λ (x : Entry). answered k (judged (added x (entries_of k)))) q
      ∙ ap (λ (x : FragmentationMap). answered x (judged (added (one p) (entries_of x)))) same
      ∙ sym (rw (sym (ap well_formed same) ∙ h))

  pub uncounted : (d : FragmentationMap) → well_formed k ≡ false → d ≡ m → ◌≡◌ {A = Dropped} (record { answer = Err MapFull; map = d }) (dropped_of m p)
  unfolding pick
  uncounted d h q = ap (λ (x : FragmentationMap). record { answer = Err MapFull; map = x }) q ∙ sym (rw (sym (ap well_formed same) ∙ h))

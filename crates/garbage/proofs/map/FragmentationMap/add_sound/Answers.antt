-- Where the sums fit, the turns give what the whole is judged; where they do not, the whole does not fit.
use Rattle.std.proofs.Common.{◌≡◌, ◌≤◌, true, false, length, Result, Err, refl, sym, ◌∙◌, arith, subst}
use Rattle.garbage.specs.declared.map.CountRefusal.{CountRefusal}
use Rattle.garbage.specs.declared.map.CountRefusal.TheVariants.{SumTooBig}
use Rattle.garbage.specs.declared.map.FragmentationMap.{FragmentationMap}
use Rattle.garbage.specs.Entries.{Outcome, added_all, all_fit, judged}
use Rattle.garbage.specs.Maps.{columns_of, entries_of, well_formed}
use Rattle.garbage.specs.Batch.{in_turn}
use Rattle.garbage.specs.Columns.{held, Ready, Ends, sums_fit}
use Rattle.garbage.proofs.Fits.{judged_big}
use Rattle.garbage.proofs.Slots.{rows-length}
use Rattle.garbage.proofs.Sound.{told-ready, well-few, well_ascending}
use Rattle.garbage.proofs.Summing.{sums_are, turns_judged}
use Rattle.garbage.proofs.map.FragmentationMap.add_sound.Goals as goal

module _ (s m : FragmentationMap) (ws : well_formed s ≡ true) (wm : well_formed m ≡ true) (w : Ready m) where
  whole-test : sums_fit (entries_of s) (entries_of m) ≡ all_fit (added_all (entries_of s) (entries_of m))
  whole-test = sums_are 0 (entries_of s) (entries_of m) (well_ascending s ws) (well_ascending m wm) w.fit

  too-big : (d : FragmentationMap) → sums_fit (entries_of s) (entries_of m) ≡ false → Ends m (judged (added_all (entries_of s) (entries_of m))) (Err SumTooBig) d
  too-big d h = subst (λ (o : Outcome). Ends m o (Err SumTooBig) d) (sym (judged_big (added_all (entries_of s) (entries_of m)) (sym whole-test ∙ h))) refl

  in_turns : (r : Result (Unit {0}) CountRefusal) (d : FragmentationMap) → sums_fit (entries_of s) (entries_of m) ≡ true → Ends m (in_turn (entries_of s) (entries_of m)) r d
      → Ends m (judged (added_all (entries_of s) (entries_of m))) r d
  in_turns r d h e =
      let k : length (entries_of m) ≤ 64 = omega (arith, rows-length (columns_of m) 0 m.count, w.sound.few) in
      subst (λ (o : Outcome). Ends m o r d) (turns_judged (entries_of s) (entries_of m) (sym whole-test ∙ h) k) e

pub takes_all-requires : goal.takes_all-requires
takes_all-requires c = (well-few c.args.source.now c.requires.0, c.requires.1)

pub returns-then-not-takes_all : goal.returns-then-not-takes_all
returns-then-not-takes_all c =
    too-big c.args.source.now c.args.self.now c.requires.0 c.requires.1 (told-ready c.args.self.now c.requires.1 c.told.ensures) _ (sym c.takes_all.ensures ∙ c.if-not-takes_all.true)

pub add_each-requires : goal.add_each-requires
add_each-requires c = (well-few c.args.source.now c.requires.0, told-ready c.args.self.now c.requires.1 c.told.ensures)

pub returns : goal.returns
returns c =
    in_turns c.args.source.now c.args.self.now c.requires.0 c.requires.1 (told-ready c.args.self.now c.requires.1 c.told.ensures) c.add_each.result (held c.add_each.new.self)
    (sym c.takes_all.ensures ∙ c.if-not-takes_all.false) c.add_each.ensures.ends

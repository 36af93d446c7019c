-- A malformed one of the two is refused first.
use Rattle.std.proofs.Common.{◌≡◌, true, false, Ok, Err, sym, ap, ◌∙◌}
use Rattle.numbers.specs.Pick.{pick}
use Rattle.garbage.specs.declared.map.CountRefusal.TheVariants.{MapFull}
use Rattle.garbage.specs.declared.map.FragmentationMap.{FragmentationMap}
use Rattle.garbage.specs.declared.merged.Merged.{Merged}
use Rattle.garbage.specs.Entries.{added_all, judged}
use Rattle.garbage.specs.Maps.{entries_of, well_formed}
use Rattle.garbage.specs.Merges.{merge_answered, merged_of}
use Rattle.garbage.proofs.Turning.{merges, leaves}
use Rattle.garbage.proofs.map.FragmentationMap.merge_into.Goals as goal
use Rattle.garbage.proofs.map.FragmentationMap.merge_into.Goals.{then-not-well_formed-via-then-not-well_formed, then-not-well_formed-via-else-not-well_formed+then-not-well_formed-2}

module _ (s t : FragmentationMap) where
  left : well_formed s ≡ false → ◌≡◌ {A = Merged} (record { answer = Err MapFull; source = s; target = t }) (merged_of s t)
  unfolding pick
  left p = sym (rw p)

  module _ (p : well_formed s ≡ true) where
    right : well_formed t ≡ false → ◌≡◌ {A = Merged} (record { answer = Err MapFull; source = s; target = t }) (merged_of s t)
    unfolding pick
    right q = sym (rw (p, q))

    module _ (q : well_formed t ≡ true) where
      sound : merge_answered s t (judged (added_all (entries_of s) (entries_of t))) ≡ merged_of s t
      unfolding pick
      sound = sym (rw (p, q))

pub returns-then-not-well_formed : goal.returns-then-not-well_formed
returns-then-not-well_formed c = c.refused.ensures ∙ elim c.then-not-well_formed.branch [
  | then-not-well_formed-via-then-not-well_formed w ↦ left c.args.self c.args.target (sym c.well_formed-2.ensures ∙ w.if-not-well_formed.true)
  | then-not-well_formed-via-else-not-well_formed+then-not-well_formed-2 w ↦
      right c.args.self c.args.target (sym c.well_formed-2.ensures ∙ w.if-not-well_formed.false)
      (sym w.well_formed-else-not-well_formed.ensures ∙ w.if-not-well_formed-2.true)
]

pub add_sound-requires : goal.add_sound-requires
add_sound-requires c = (sym c.well_formed-2.ensures ∙ c.if-not-well_formed.false, sym c.well_formed-else-not-well_formed.ensures ∙ c.if-not-well_formed-2.false)

pub returns-in-Ok : goal.returns-in-Ok
returns-in-Ok c =
    ap (λ (m : FragmentationMap). record { answer = Ok tt; source = m; target = c.add_sound.new.self }) c.new.ensures
    ∙ merges c.args.self c.args.target c.add_sound.new.self c.add_sound.result _ c.add_sound.ensures c.in-Ok.is
    ∙ sound c.args.self c.args.target (sym c.well_formed-2.ensures ∙ c.if-not-well_formed.false) (sym c.well_formed-else-not-well_formed.ensures ∙ c.if-not-well_formed-2.false)

pub returns-in-Err : goal.returns-in-Err
returns-in-Err c =
    c.refused-in-Err.ensures ∙ leaves c.args.self c.args.target c.add_sound.new.self c.add_sound.result _ c.in-Err.why c.add_sound.ensures c.in-Err.is
    ∙ sound c.args.self c.args.target (sym c.well_formed-2.ensures ∙ c.if-not-well_formed.false) (sym c.well_formed-else-not-well_formed.ensures ∙ c.if-not-well_formed-2.false)

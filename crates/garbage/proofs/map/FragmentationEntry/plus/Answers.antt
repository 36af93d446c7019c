-- Each total is tested by its own sum.
use Rattle.std.proofs.Common.{◌≡◌, ◌+◌, ◌<◌, ◌^◌, ℕ, Option, Some, None, false, sym, ◌∙◌}
use Rattle.numbers.specs.Pick.{pick}
use Rattle.garbage.specs.Entries.{Entry, plus, fits}
use Rattle.garbage.proofs.Fits.{fits_all, no_frames, no_stated, no_disk}
use Rattle.garbage.proofs.map.FragmentationEntry.plus.Goals as goal

module _ (x e : Entry) where
  none : (r : Option Entry) → r ≡ None → fits (plus x e) ≡ false → r ≡ pick (fits (plus x e)) (Some (plus x e)) None
  unfolding pick
  none r h f = h ∙ sym (rw f)

  some : (a b d : ℕ) → (x.frames + e.frames < 2 ^ 32) × (a ≡ x.frames + e.frames) → (x.stated + e.stated < 2 ^ 64) × (b ≡ x.stated + e.stated) → (x.disk + e.disk < 2 ^ 64) × (d ≡ x.disk + e.disk)
      → ◌≡◌ {A = Option Entry} (Some (record { id = x.id; frames = a; stated = b; disk = d })) (pick (fits (plus x e)) (Some (plus x e)) None)
  unfolding pick
  some a b d p q r = rw (p.1, q.1, r.1, fits_all (plus x e) p.0 q.0 r.0)

pub returns-in_err-checked_add : goal.returns-in_err-checked_add
returns-in_err-checked_add c = none c.args.self c.args.e _ c.from_residual.ensures (no_frames c.args.self c.args.e (c.in_err-checked_add.ensures {u = tt}))

pub returns-in_err-checked_add-2 : goal.returns-in_err-checked_add-2
returns-in_err-checked_add-2 c = none c.args.self c.args.e _ c.from_residual-in_err-checked_add-2.ensures (no_stated c.args.self c.args.e (c.in_err-checked_add-2.ensures {u = tt}))

pub returns-in_err-checked_add-3 : goal.returns-in_err-checked_add-3
returns-in_err-checked_add-3 c = none c.args.self c.args.e _ c.from_residual-in_err-checked_add-3.ensures (no_disk c.args.self c.args.e (c.in_err-checked_add-3.ensures {u = tt}))

pub returns : goal.returns
returns c = some c.args.self c.args.e _ _ _ (c.in_ok-checked_add.ensures {u = tt}) (c.in_ok-checked_add-2.ensures {u = tt}) (c.in_ok-checked_add-3.ensures {u = tt})

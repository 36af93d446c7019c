-- The verdicts on a file (document 01, "Handles and garbage"): dead, and stale.
use Rattle.std.specs.Prelude.{ℕ, refl, eqb, Float, Option, Some, None, Result, Ok, Err}
use Rattle.std.specs.Float.Ieee.{le}
use Rattle.numbers.specs.Pick.{pick}
use Rattle.frames.specs.declared.writer.Report.{Report}
use Rattle.garbage.specs.declared.map.FragmentationMap.{FragmentationMap}
use Rattle.garbage.specs.declared.map.MapFull.{MapFull}
use Rattle.garbage.specs.declared.verdict.DeadVerdict.{DeadVerdict}
use Rattle.garbage.specs.declared.verdict.DeadVerdict.TheVariants as dead
use Rattle.garbage.specs.declared.verdict.StaleVerdict.{StaleVerdict}
use Rattle.garbage.specs.declared.verdict.StaleVerdict.TheVariants as stale
use Rattle.garbage.specs.Entries.{Entry}
use Rattle.garbage.specs.Lookups.{lookup_of}
use Rattle.garbage.specs.Ratio.{ratio_of}
use Rattle.garbage.specs.Refusals.{refuse_dead, refuse_stale}

-- "Dead: there is an entry and its stated bytes equal the file's"
abbrev pub dead_by : Result (Option Entry) MapFull → ℕ → DeadVerdict
dead_by (Ok (Some e)) total = pick (eqb e.stated total) dead.Dead dead.Wanted
dead_by (Ok None) total = dead.NoEntry
dead_by (Err why) total = refuse_dead 11 dead.Refused refl

abbrev pub dead_of : FragmentationMap → ℕ → Report → DeadVerdict
dead_of m id report = dead_by (lookup_of m id) report.stated

-- "Stale: there is an entry and ratio >= threshold"; the verdict carries the ratio it was judged by
abbrev pub stale_by : Result (Option Entry) MapFull → ℕ → Float → StaleVerdict
stale_by (Ok (Some e)) total threshold =
    let ratio : Float = ratio_of e.stated total in
    pick (le threshold ratio) (stale.Stale ratio) (stale.Kept ratio)
stale_by (Ok None) total threshold = stale.NoEntry
stale_by (Err why) total threshold = refuse_stale 11 stale.Refused refl

abbrev pub stale_of : FragmentationMap → ℕ → Report → Float → StaleVerdict
stale_of m id report threshold = stale_by (lookup_of m id) report.stated threshold

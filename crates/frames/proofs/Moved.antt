-- A step that is neither end nor 7 moves at least 4 bytes, since each such answer moves past a mark; so bytes left over 4 bound the steps.
use Prim.Native.Nat.{ℕ, zero, suc, ◌+◌, ◌-◌, ◌*◌, ◌<◌, ◌≤◌}
use mathlib.Core.Path.{◌≡◌, refl, ◌∙◌}
use mathlib.Core.List.{List}
use mathlib.Core.Bool.{Bool, true, false}
use native.Mathlib.Omega.{arith}
use native.Mathlib.Decide.{dec_lt}
use lib.ListN.{length, drop}
use lib.Dec.{ltb}
use Rattle.numbers.specs.Pick.{pick}
use Rattle.frames.specs.Layout.{blob, meta, header_of, starts, same_sum, header_length}
use Rattle.frames.specs.Scan.{Framed, Scanned, cut_at, reading, frame_of, frame_at, sum_at, checked_of, step_of}
use Rattle.frames.proofs.ScanLaws.{at_ended, at_cut, checked-end, checked-refused}
use Rattle.frames.specs.Scans.{after, is_over, over_within}
use Rattle.frames.specs.Theorems.{Progress, Over}
use Rattle.frames.specs.declared.header.Header.{Header}
use Rattle.frames.specs.declared.steps.Scanner.{Scanner}
use Rattle.frames.specs.declared.steps.FrameRefusal.TheVariants as frame
use Rattle.frames.specs.declared.steps.Step.TheVariants as step
use Rattle.frames.specs.declared.steps.ScanEntry.{ScanEntry}
use Rattle.frames.specs.declared.steps.ScanRefusal.{ScanRefusal}

abbrev Moves : Scanner → Framed → Type 0
Moves w (step.Entry found next) = w.at + 4 ≤ next.at
Moves w (step.End at next) = w.at ≡ at
Moves w (step.Refused (frame.CutShort cut) next) = Unit
Moves w (step.Refused (frame.InvalidHeader at) next) = w.at + 4 ≤ next.at

either : (w : Scanner) (b : Bool) (x y : Framed) → Moves w x → Moves w y → Moves w (pick b x y)
unfolding pick
either w true x y p q = p
either w false x y p q = q

module _ (s : List ℕ) (w : Scanner) where
  read-on : (at needed : ℕ) (more : Framed) → Moves w more → Moves w (reading s at needed w more)
  unfolding reading pick
  read-on at needed more m = either w (ltb (length s - at) needed) (cut_at at needed (length s - at) w) more tt m

  whole : (h : Header) → w.at + 4 ≤ w.at + header_length + h.key + h.size
  whole h = omega arith

  frame-moves : Moves w (frame_of s w)
  unfolding frame_of
  frame-moves = read-on _ _ _ (read-on _ _ _ (read-on _ _ _ (whole (header_of (drop w.at s)))))

  moves : Moves w (frame_at s w)
  unfolding frame_at pick
  moves = either w w.ended _ _ refl (read-on w.at 4 _ (either w (starts meta (drop w.at s)) _ _ refl (either w (starts blob (drop w.at s)) _ _ frame-moves (omega arith))))

either-after : (at : ℕ) (b : Bool) (x y : Scanned) → at ≤ (after x).at → at ≤ (after y).at → at ≤ (after (pick b x y)).at
unfolding pick
either-after at true x y p q = p
either-after at false x y p q = q

checked-moves : (s : List ℕ) (w : Scanner) (f : Framed) → Moves w f → is_over (checked_of s f) ≡ false → w.at + 4 ≤ (after (checked_of s f)).at
unfolding checked_of is_over after pick
checked-moves s w (step.Entry found next) m h = either-after (w.at + 4) (same_sum found.stored (sum_at s found.entry)) _ _ m m
checked-moves s w (step.End at next) m h = absurd (let z : ◌≡◌ {A = ℕ} 0 1 = cc in omega arith)
checked-moves s w (step.Refused (frame.CutShort cut) next) m h = absurd (let z : ◌≡◌ {A = ℕ} 0 1 = cc in omega arith)
checked-moves s w (step.Refused (frame.InvalidHeader at) next) m h = m

pub progress : Progress
unfolding step_of
progress s w h = checked-moves s w (frame_at s w) (moves s w) h

-- a step that ends the scan ends it where it began
neither : (b : Bool) (e : ScanEntry) (n next : Scanner) (why : ScanRefusal) (m : ℕ) → pick b (step.Entry e n) (step.Refused why n) ≡ step.End m next → ⊥
unfolding pick
neither true e n next why m h = let z : ◌≡◌ {A = ℕ} 0 1 = cc in omega arith
neither false e n next why m h = let z : ◌≡◌ {A = ℕ} 0 1 = cc in omega arith

checked-at : (s : List ℕ) (w next : Scanner) (m : ℕ) (f : Framed) → Moves w f → checked_of s f ≡ step.End m next → w.at ≡ m
unfolding checked_of pick
checked-at s w next m (step.Entry found n) p h = absurd (neither (same_sum found.stored (sum_at s found.entry)) found.entry n next _ m h)
checked-at s w next m (step.End at n) p h = p ∙ cc h
checked-at s w next m (step.Refused (frame.CutShort cut) n) p h = absurd (let z : ◌≡◌ {A = ℕ} 0 1 = cc in omega arith)
checked-at s w next m (step.Refused (frame.InvalidHeader at) n) p h = absurd (let z : ◌≡◌ {A = ℕ} 0 1 = cc in omega arith)

pub end-at : (s : List ℕ) (w next : Scanner) (m : ℕ) → step_of s w ≡ step.End m next → w.at ≡ m
unfolding step_of
end-at s w next m q = checked-at s w next m (frame_at s w) (moves s w) q

-- under 4 bytes left, a step ends or is cut short
few : (s : List ℕ) (w : Scanner) → length s - w.at < 4 → (b : Bool) → w.ended ≡ b → is_over (step_of s w) ≡ true
unfolding step_of is_over
few s w h true e = rw (checked-end s (frame_at s w) w.at w (at_ended s w e))
few s w h false e = rw (checked-refused s (frame_at s w) _ w (at_cut s w e h))

over_by : (n : ℕ) (s : List ℕ) (w : Scanner) → length s - w.at < 4 * suc n → (b : Bool) → is_over (step_of s w) ≡ b
    → (length s - (after (step_of s w)).at < 4 * n → over_within n s (after (step_of s w)) ≡ true) → over_within (suc n) s w ≡ true
unfolding over_within pick
over_by n s w h true e more = rw e
over_by n s w h false e more = by (dec_lt (length s - w.at) 4)
  where
    by : Dec (length s - w.at < 4) → over_within (suc n) s w ≡ true
    by (yes f) = absurd (let z : ◌≡◌ {A = ℕ} 0 1 = cc (few s w f w.ended refl) in omega arith)
    by (no f) = let p = progress s w e in rw e (more (omega arith))

over-within : (n : ℕ) (s : List ℕ) (w : Scanner) → length s - w.at < 4 * n → over_within n s w ≡ true
over-within zero s w h = absurd (omega arith)
over-within (suc n) s w h = over_by n s w h (is_over (step_of s w)) refl (over-within n s (after (step_of s w)))

pub over : Over
over s w = over-within _ s w (omega arith)

-- What one step of a scan answers: document 01, "The scan and the point read".
use Rattle.std.specs.Prelude.{ℕ, ◌+◌, ◌-◌, refl, List, [], ◌∷◌, ◌++◌, true, false, length, take, drop, ltb, if◌then◌else◌, Result, Ok, Err}
use Rattle.hash.specs.declared.Hash128.{Hash128}
use Rattle.hash.specs.XXH3.{xxh3_128}
use Rattle.frames.specs.Layout.{blob, meta, header_length, Item, header_of, starts, same_sum}
use Rattle.frames.specs.Shape.{item_of}
use Rattle.numbers.specs.Refusals.{values_of_cut}
use Rattle.numbers.specs.declared.cut.CutShort.{CutShort}
use Rattle.frames.specs.Cut.{cut_of}
use Rattle.frames.specs.Refusals.{widened, refuse_frame, refuse_scan}
use Rattle.frames.specs.declared.place.Place.{Place}
use Rattle.frames.specs.declared.header.Header.{Header}
use Rattle.frames.specs.declared.steps.Scanner.{Scanner}
use Rattle.frames.specs.declared.steps.ScanEntry.{ScanEntry}
use Rattle.frames.specs.declared.steps.Untested.{Untested}
use Rattle.frames.specs.declared.steps.FrameRefusal.{FrameRefusal}
use Rattle.frames.specs.declared.steps.FrameRefusal.TheVariants as frame
use Rattle.frames.specs.declared.steps.ScanRefusal.{ScanRefusal}
use Rattle.frames.specs.declared.steps.ScanRefusal.TheVariants as scan
use Rattle.frames.specs.declared.steps.Step.{Step}
use Rattle.frames.specs.declared.steps.Step.TheVariants as step

-- what a step finds that does not look at the sum
abbrev pub Framed : Type 0
Framed = Step Untested FrameRefusal

-- what a whole step answers
abbrev pub Scanned : Type 0
Scanned = Step ScanEntry ScanRefusal

-- a scanner that has not ended
abbrev pub going : ℕ → Scanner
going at = record { at = at; ended = false }

-- an entry with the sum that its header stores, not tested
abbrev pub framed : ScanEntry → Hash128 → Scanner → Framed
framed e stored next = step.Entry (record { entry = e; stored = stored }) next

-- cut short: where reading began, the bytes needed from there, the bytes present
abbrev pub cut_at : ℕ → ℕ → ℕ → Scanner → Framed
cut_at at needed present w =
    refuse_frame (7 ∷ at ∷ needed ∷ present ∷ []) (frame.CutShort (cut_of at needed present)) refl w

-- the code's own, of a private function: a read that was cut short is refused, and the scanner handed back as it came
abbrev pub cut_back : Scanner → Result Framed CutShort → Framed
cut_back w (Ok framed) = framed
cut_back w (Err cut) = refuse_frame (7 ∷ values_of_cut cut) (frame.CutShort cut) refl w

-- a read of `needed` bytes at `at`: what follows it, or 7 where the file ends before
unfoldable pub reading : List ℕ → ℕ → ℕ → Scanner → Framed → Framed
reading s at needed w more = if ltb (length s - at) needed then cut_at at needed (length s - at) w else more

-- the entry of a frame at `at` whose header is h
abbrev pub entry_of : ℕ → Header → ScanEntry
entry_of at h = record {
  offset = at;
  key = record { at = at + header_length; len = h.key };
  seqno = h.seqno;
  stated = h.stated;
  value = record { at = at + header_length + h.key; len = h.size };
}

-- a frame whose mark was read at `at`, with header h: a short header, key or value is 7
abbrev pub frame_with : List ℕ → Scanner → ℕ → Header → Framed
frame_with s w at h =
    reading s (at + 4) 34 w
    (reading s (at + header_length) h.key w
    (reading s (at + header_length + h.key) h.size w
    (framed (entry_of at h) h.sum (going (at + header_length + h.key + h.size)))))

-- the same, with the header that stands at the scanner's place
unfoldable pub frame_of : List ℕ → Scanner → Framed
frame_of s w = frame_with s w w.at (header_of (drop w.at s))

-- a step up to the sum: an ended scanner ends again; under 4 bytes left is 7; META ends; other than BLOB is 8; then the frame
unfoldable pub frame_at : List ℕ → Scanner → Framed
frame_at s w =
    if w.ended then step.End w.at w else
    reading s w.at 4 w (
    if starts meta (drop w.at s) then step.End w.at (record { at = w.at; ended = true }) else
    if starts blob (drop w.at s) then frame_of s w else
    refuse_frame (8 ∷ w.at ∷ []) (frame.InvalidHeader w.at) refl (going (w.at + 4)))

-- the bytes at a place of the file
abbrev pub part_at : List ℕ → Place → List ℕ
part_at s p = take p.len (drop p.at s)

-- what an entry's frame is made of
abbrev pub item_at : List ℕ → ScanEntry → Item
item_at s e = item_of (part_at s e.key) e.seqno e.stated (part_at s e.value)

-- the sum of an entry's key then value
unfoldable pub sum_at : List ℕ → ScanEntry → Hash128
sum_at s e = xxh3_128 (part_at s e.key ++ part_at s e.value)

-- the test of the sum: a wrong one is 9
unfoldable pub checked_of : List ℕ → Framed → Scanned
checked_of s (step.Entry found next) =
    let e = found.entry in
    let computed = sum_at s e in
    if same_sum found.stored computed then step.Entry e next else
    refuse_scan (9 ∷ e.offset ∷ found.stored.low ∷ found.stored.high ∷ computed.low ∷ computed.high ∷ []) (scan.Mismatch e.offset found.stored computed) refl next
checked_of s (step.End at next) = step.End at next
checked_of s (step.Refused why next) = step.Refused (widened why) next

-- a whole step: a step up to the sum, then the test of the sum
unfoldable pub step_of : List ℕ → Scanner → Scanned
step_of s w = checked_of s (frame_at s w)

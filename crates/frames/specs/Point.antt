-- What a point read tells, and the part that it hands back: document 01, "The scan and the point read".
use Rattle.std.specs.Prelude.{ℕ, ◌≡◌, ◌+◌, ◌-◌, refl, min, List, [], ◌∷◌, ◌++◌, not, length, take, drop, ltb, if◌then◌else◌, Result, Ok, Err}
use Rattle.std.specs.Borrow.{Bor}
use Rattle.hash.specs.declared.Hash128.{Hash128}
use Rattle.hash.specs.XXH3.{xxh3_128}
use Rattle.numbers.specs.Part.{behind}
use Rattle.numbers.specs.declared.cut.CutShort.{CutShort}
use Rattle.numbers.specs.declared.handle.ValueHandle.{ValueHandle}
use Rattle.frames.specs.Layout.{blob, header_length, header_of, starts, same_sum}
use Rattle.frames.specs.Cut.{cut_of}
use Rattle.frames.specs.Refusals.{scan_number, refuse_read}
use Rattle.frames.specs.declared.place.Place.{Place}
use Rattle.frames.specs.declared.steps.ScanRefusal.{ScanRefusal}
use Rattle.frames.specs.declared.steps.ScanRefusal.TheVariants as scan
use Rattle.frames.specs.declared.reader.Found.{Found}
use Rattle.frames.specs.declared.reader.Told.{Told}

-- where nothing was found: an empty part
abbrev pub no_place : Place
no_place = record { at = 0; len = 0 }

-- where nothing was hashed
abbrev pub no_sum : Hash128
no_sum = record { low = 0; high = 0 }

-- where nothing was cut short
abbrev pub no_cut : CutShort
no_cut = record { at = 0; needed = 0; present = 0 }

-- a refusal by its number, with both sums and what was cut short
abbrev pub told : (number : ℕ) (why : ScanRefusal) → scan_number why ≡ number → Hash128 → Hash128 → CutShort → Told
told number why e stored computed cut = record { number = number; value = no_place; stored = stored; computed = computed; cut = cut }

-- found, with the sum twice; or refused: 7 with what was cut short, 8, 9 with both sums
unfoldable pub told_by : Result Found ScanRefusal → Told
told_by (Ok found) = record { number = 0; value = found.value; stored = found.sum; computed = found.sum; cut = no_cut }
told_by (Err (scan.CutShort cut)) = told 7 (scan.CutShort cut) refl no_sum no_sum cut
told_by (Err (scan.InvalidHeader at)) = told 8 (scan.InvalidHeader at) refl no_sum no_sum no_cut
told_by (Err (scan.Mismatch at stored computed)) = told 9 (scan.Mismatch at stored computed) refl stored computed no_cut

-- the sum over the header's key and the bytes from 38 + given key length on
unfoldable pub taken_sum : List ℕ → ℕ → ℕ → Hash128
taken_sum t hk k = xxh3_128 (take hk (drop header_length t) ++ drop (header_length + k) t)

-- where the bytes needed are there what follows, else 7: where reading began, the bytes needed from there, the bytes present
unfoldable pub needing : ℕ → ℕ → ℕ → Result Found ScanRefusal → Result Found ScanRefusal
needing at needed present more =
    if ltb present needed then refuse_read (7 ∷ at ∷ needed ∷ present ∷ []) (scan.CutShort (cut_of at needed present)) refl else more

-- the value at that place where the sums are the same, else 9 with both
unfoldable pub tested : ℕ → Place → Hash128 → Hash128 → Result Found ScanRefusal
tested at value stored computed =
    if same_sum stored computed then Ok (record { value = value; sum = stored }) else
    refuse_read (9 ∷ at ∷ stored.low ∷ stored.high ∷ computed.low ∷ computed.high ∷ []) (scan.Mismatch at stored computed) refl

-- t was taken at `at` for a given key length k and on-disk size: the mark, 8; the header's key must fit what was taken, 7; the sum, 9
unfoldable pub within_of : List ℕ → ℕ → ℕ → ℕ → Result Found ScanRefusal
within_of t at k size =
    if not (starts blob t) then refuse_read (8 ∷ at ∷ []) (scan.InvalidHeader at) refl else
    needing (at + header_length) (header_of t).key (length t - header_length)
    (tested at (record { at = at + header_length + k; len = size }) (header_of t).sum (taken_sum t (header_of t).key k))

-- a read by a handle with a key of k bytes needs 38 + k + on-disk size bytes from the offset, else 7
unfoldable pub found_of : List ℕ → ℕ → ValueHandle → Result Found ScanRefusal
found_of s k h =
    let needed = header_length + k + h.size in
    needing h.offset needed (length s - h.offset) (within_of (take needed (drop h.offset s)) h.offset k h.size)

-- the point read: of the bytes, a key and a handle. The given key's bytes are not compared, only its length is used
abbrev pub read_of : List ℕ → List ℕ → ValueHandle → Told
read_of s key h = told_by (found_of s (length key) h)

-- the value's bytes
abbrev pub part_of : List ℕ → Told → List ℕ
part_of s r = take r.value.len (drop r.value.at s)

-- a part of the caller's bytes: where its first byte lies (the block, and how far in it), and the bytes
pub record Part : Type 0 where
  pub place : ℕ × ℕ
  pub bytes : List ℕ

-- the part that a reference shows; its name, which the logic alone has, is new at each call
abbrev pub shown : Bor (List ℕ) → Part
shown r = record { place = r.ref_ptr; bytes = r.now }

-- the value as a part of the file's own bytes: as far behind the file's first byte as the read told, and not past its end; empty where refused
abbrev pub value_in : Bor (List ℕ) → Told → Part
value_in file r = record {
  place = behind file.ref_ptr (min r.value.at (length file.now));
  bytes = part_of file.now r;
}

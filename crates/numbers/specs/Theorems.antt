-- What holds of numbers and handles, of the very definitions that the calls promise; the one value of `Theorems` stands in proofs/Theorems.antt.
use Rattle.std.specs.Prelude.{◌≡◌, ℕ, ◌+◌, ◌-◌, ◌^◌, ◌<◌, ◌≤◌, ◌⊎◌, ◌↔◌, List, ◌++◌, length, take, drop, slice_index, Ok}
use Rattle.numbers.specs.Le.{Octets}
use Rattle.numbers.specs.Wrote.{wrote_of, placed}
use Rattle.numbers.specs.Leb128.{shortest, in_groups, got, refused, groups, read_of}
use Rattle.numbers.specs.Handle.{handle_bytes, indirection_bytes, handle_of, indirection_of}
use Rattle.numbers.specs.HandleLaws.{HandleRead, IndirectionRead}
use Rattle.numbers.specs.declared.cut.CutShort.{CutShort}
use Rattle.numbers.specs.declared.leb128.NumberRefusal.{NumberRefusal}
use Rattle.numbers.specs.declared.leb128.NumberRefusal.TheVariants as refusal
use Rattle.numbers.specs.declared.handle.ValueHandle.{ValueHandle}
use Rattle.numbers.specs.declared.handle.BlobIndirection.{BlobIndirection}

-- reading what was written gives the number and the count, at every width
abbrev pub WrittenReads : Type 0
WrittenReads =
    (w at x n : ℕ) (buf : List ℕ) → 0 < w → x < 2 ^ w → wrote_of (shortest x) at buf ≡ Ok n
    → read_of w at (placed (shortest x) at buf) ≡ got x n

-- a padded spelling reads as the same number: any count of groups from the shortest to the width's
abbrev pub PaddedReads : Type 0
PaddedReads =
    (w at x n : ℕ) (s rest : List ℕ) → x < 2 ^ w → length (shortest x) ≤ n → n ≤ groups w → drop at s ≡ in_groups n x ++ rest
    → read_of w at s ≡ got x n

-- nothing else reads: what reads as a number is one of its spellings
abbrev pub OnlySpellings : Type 0
OnlySpellings =
    (w at x n : ℕ) (s : List ℕ) → Octets s → read_of w at s ≡ got x n
    → (take n (drop at s) ≡ in_groups n x) × (length (shortest x) ≤ n) × (n ≤ groups w) × (x < 2 ^ w)

-- writing what a shortest spelling reads as gives that spelling: one group, or a last group that is not zero
abbrev pub ReadWrites : Type 0
ReadWrites =
    (w at x n : ℕ) (s : List ℕ) → Octets s → read_of w at s ≡ got x n → (n ≡ 1) ⊎ (0 < slice_index s (at + (n - 1)))
    → shortest x ≡ take n (drop at s)

-- the first n bytes are there, and each says that another follows (a byte that is not there counts 0)
abbrev pub CarryOn : ℕ → List ℕ → Type 0
CarryOn n t = (k : ℕ) → k < n → 128 ≤ slice_index t k

-- 7 exactly where fewer bytes are left than the width takes and each says that another follows;
-- it tells where reading began, that one byte more than are left is needed, and those left
abbrev pub CutExactly : Type 0
CutExactly =
    (w at : ℕ) (s : List ℕ) (cut : CutShort)
    → (read_of w at s ≡ refused (refusal.CutShort cut))
    ↔ ((cut ≡ record { at = at; needed = length (drop at s) + 1; present = length (drop at s) })
    × (length (drop at s) < groups w) × CarryOn (length (drop at s)) (drop at s))

-- 10 exactly where as many bytes as the width takes all say that another follows, or the bytes begin with a spelling of a number that passes the width
abbrev pub TooLongExactly : Type 0
TooLongExactly =
    (w at : ℕ) (s : List ℕ) → Octets s
    → (read_of w at s ≡ refused refusal.TooLong)
    ↔ (CarryOn (groups w) (drop at s)
    ⊎ ((n : ℕ) × (x : ℕ) × (take n (drop at s) ≡ in_groups n x) × (length (shortest x) ≤ n) × (n ≤ groups w) × (2 ^ w ≤ x)))

-- a handle that was written decodes, and so does an indirection
abbrev pub HandleDecodes : Type 0
HandleDecodes =
    (h : ValueHandle) (at n : ℕ) (buf : List ℕ) → h.offset < 2 ^ 64 → h.file < 2 ^ 64 → h.size < 2 ^ 32 → wrote_of (handle_bytes h) at buf ≡ Ok n
    → handle_of at (placed (handle_bytes h) at buf) ≡ got h n

abbrev pub IndirectionDecodes : Type 0
IndirectionDecodes =
    (i : BlobIndirection) (at n : ℕ) (buf : List ℕ) → i.handle.offset < 2 ^ 64 → i.handle.file < 2 ^ 64 → i.handle.size < 2 ^ 32 → i.stated < 2 ^ 32
    → wrote_of (indirection_bytes i) at buf ≡ Ok n
    → indirection_of at (placed (indirection_bytes i) at buf) ≡ got i n

-- a handle decoded from as few bytes as it takes is written as those bytes, and so is an indirection
abbrev pub HandleEncodes : Type 0
HandleEncodes =
    (at n : ℕ) (s : List ℕ) (h : ValueHandle) → Octets s → handle_of at s ≡ got h n → n ≡ length (handle_bytes h)
    → handle_bytes h ≡ take n (drop at s)

abbrev pub IndirectionEncodes : Type 0
IndirectionEncodes =
    (at n : ℕ) (s : List ℕ) (i : BlobIndirection) → Octets s → indirection_of at s ≡ got i n
    → n ≡ length (indirection_bytes i) → indirection_bytes i ≡ take n (drop at s)

-- a handle reads exactly where its three numbers read, one after another, padded or not; an indirection where its handle does and then its stated length
abbrev pub HandleReads : Type 0
HandleReads = (at n : ℕ) (s : List ℕ) (h : ValueHandle) → (handle_of at s ≡ got h n) ↔ HandleRead at s h n

abbrev pub IndirectionReads : Type 0
IndirectionReads =
    (at n : ℕ) (s : List ℕ) (i : BlobIndirection) → (indirection_of at s ≡ got i n) ↔ IndirectionRead at s i n

-- the first number that is refused refuses the handle, and the indirection
abbrev pub HandleRefuses : Type 0
HandleRefuses =
    (at offset n file m : ℕ) (s : List ℕ) (why : NumberRefusal)
    → (read_of 64 at s ≡ refused why → handle_of at s ≡ refused why)
    × (read_of 64 at s ≡ got offset n → read_of 64 (at + n) s ≡ refused why → handle_of at s ≡ refused why)
    × (read_of 64 at s ≡ got offset n → read_of 64 (at + n) s ≡ got file m → read_of 32 (at + n + m) s ≡ refused why
    → handle_of at s ≡ refused why)

abbrev pub IndirectionRefuses : Type 0
IndirectionRefuses =
    (at n : ℕ) (s : List ℕ) (h : ValueHandle) (why : NumberRefusal)
    → (handle_of at s ≡ refused why → indirection_of at s ≡ refused why)
    × (handle_of at s ≡ got h n → read_of 32 (at + n) s ≡ refused why → indirection_of at s ≡ refused why)

pub record Theorems : Type 0 where
  pub written_reads : WrittenReads
  pub padded_reads : PaddedReads
  pub only_spellings : OnlySpellings
  pub read_writes : ReadWrites
  pub cut_exactly : CutExactly
  pub too_long_exactly : TooLongExactly
  pub handle_decodes : HandleDecodes
  pub indirection_decodes : IndirectionDecodes
  pub handle_encodes : HandleEncodes
  pub indirection_encodes : IndirectionEncodes
  pub handle_reads : HandleReads
  pub indirection_reads : IndirectionReads
  pub handle_refuses : HandleRefuses
  pub indirection_refuses : IndirectionRefuses

-- Unsigned LEB128 (DWARF 5, section 7.6), and what document 01 ("Handles and garbage") says of reading it, once over the width.
use Rattle.std.specs.Prelude.{ℕ, zero, suc, ◌+◌, ◌*◌, ◌/◌, ◌%◌, ◌^◌, List, [], ◌∷◌, length, take, drop, nat_le, nat_lt, Ok, Err, refl}
use Rattle.numbers.specs.Pick.{pick}
pub use Rattle.numbers.specs.Reading.{ReadOf, Reading, got, refused}
use Rattle.numbers.specs.Refusals.{refuse_read}
use Rattle.numbers.specs.declared.leb128.NumberRefusal.TheVariants.{CutShort, TooLong}

-- groups of seven bits, least first; the high bit says that another follows; turns is a bound on the groups
unfoldable pub spell_in : ℕ → ℕ → List ℕ
spell_in zero x = x ∷ []
spell_in (suc turns) x = pick (nat_lt x 128) (x ∷ []) ((x % 128 + 128) ∷ spell_in turns (x / 128))

-- "Writing is shortest": no group after the last that is not zero (each group lowers x, so x turns are enough)
unfoldable pub shortest : ℕ → List ℕ
shortest x = spell_in x x

-- x in exactly n groups: where fewer are enough, zero groups pad it
unfoldable pub in_groups : ℕ → ℕ → List ℕ
in_groups zero x = []
in_groups (suc zero) x = x ∷ []
in_groups (suc (suc n)) x = (x % 128 + 128) ∷ in_groups (suc n) (x / 128)

-- the number that groups are, least first
unfoldable pub value_of : List ℕ → ℕ
value_of [] = 0
value_of (b ∷ bs) = b % 128 + 128 * value_of bs

-- how many bytes at the front say that another follows, of the first `most`
unfoldable pub carried : ℕ → List ℕ → ℕ
carried zero s = 0
carried (suc most) [] = 0
carried (suc most) (b ∷ bs) = pick (nat_le 128 b) (suc (carried most bs)) 0

-- left to right from t's first byte, which stands at `at`. n bytes carry on: the last allowed among them is 10, no byte after them is 7
-- (where reading began, needed, present), a value at the limit or above is 10
unfoldable pub read_in : ℕ → ℕ → ℕ → List ℕ → Reading
read_in most limit at t =
    let n = carried most t in
    pick (nat_lt n most)
    (pick (nat_lt n (length t))
    (pick (nat_lt (value_of (take (n + 1) t)) limit) (got (value_of (take (n + 1) t)) (n + 1)) (refuse_read (10 ∷ []) TooLong refl))
    (refuse_read (7 ∷ at ∷ (n + 1) ∷ n ∷ []) (CutShort (record { at = at; needed = n + 1; present = n })) refl))
    (refuse_read (10 ∷ []) TooLong refl)

-- the groups that a width of w bits takes at most: 10 for u64, 5 for u32
abbrev pub groups : ℕ → ℕ
groups w = (w + 6) / 7

-- reading a number of w bits whose first byte stands at `at`; what follows is left
abbrev pub read_of : ℕ → ℕ → List ℕ → Reading
read_of w at s = read_in (groups w) (2 ^ w) at (drop at s)

-- the same number as a value of a type of that width
unfoldable pub read_as : {A : Type 0} → (ℕ → A) → Reading → ReadOf A
read_as of (Ok r) = got (of r.value) r.used
read_as of (Err why) = refused why

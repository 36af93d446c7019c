-- The frame: document 01, "The frame".
use Rattle.std.specs.Prelude.{ℕ, List, [], ◌∷◌, ◌++◌, Bool, true, false, ◌&&◌, eqb, length, drop}
use Rattle.hash.specs.declared.Hash128.{Hash128}
use Rattle.hash.specs.XXH3.{xxh3_128}
use Rattle.numbers.specs.Pick.{pick}
use Rattle.numbers.specs.Le.{le, num}
use Rattle.frames.specs.declared.header.Header.{Header}

-- "BLOB", the mark of a frame
abbrev pub blob : List ℕ
blob = 66 ∷ 76 ∷ 79 ∷ 66 ∷ []

-- "META", the end mark
abbrev pub meta : List ℕ
meta = 77 ∷ 69 ∷ 84 ∷ 65 ∷ []

-- the header: the mark, 16 bytes sum with the low half first, 8 seqno, 2 key length, 4 stated length, 4 on-disk length
unfoldable pub header_bytes : Header → List ℕ
header_bytes h =
    blob ++ le 8 h.sum.low ++ le 8 h.sum.high ++ le 8 h.seqno ++ le 2 h.key ++ le 4 h.stated ++ le 4 h.size

-- its length
abbrev pub header_length : ℕ
header_length = 38

-- what a frame is made of
pub record Item : Type 0 where
  pub key : List ℕ
  pub seqno : ℕ
  pub stated : ℕ
  pub value : List ℕ

-- the header of an item: the sum covers key then value, hashed as one string
abbrev pub header_for : Item → Header
header_for i =
    record { sum = xxh3_128 (i.key ++ i.value); seqno = i.seqno; key = length i.key; stated = i.stated; size = length i.value }

-- the frame: the header, then key, then value
unfoldable pub frame_bytes : Item → List ℕ
frame_bytes i = header_bytes (header_for i) ++ i.key ++ i.value

-- the numbers that a header at the front of p holds
unfoldable pub header_of : List ℕ → Header
header_of p = record {
  sum = record { low = num 8 (drop 4 p); high = num 8 (drop 12 p) };
  seqno = num 8 (drop 20 p);
  key = num 2 (drop 28 p);
  stated = num 4 (drop 30 p);
  size = num 4 (drop 34 p);
}

-- whether p starts with the mark's bytes
unfoldable pub starts : List ℕ → List ℕ → Bool
starts [] p = true
starts (m ∷ mark) [] = false
starts (m ∷ mark) (b ∷ p) = pick (eqb b m) (starts mark p) false

-- whether two sums are the same, both halves
abbrev pub same_sum : Hash128 → Hash128 → Bool
same_sum a b = eqb a.low b.low && eqb a.high b.high

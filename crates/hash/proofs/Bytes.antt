-- Bytes, the lowest first, are a little-endian word.
use Rattle.std.proofs.Common.{◌≡◌, ℕ, suc, ◌+◌, ◌*◌, ◌^◌, List, [], ◌∷◌, get_or, drop, arith}
use Rattle.std.specs.Int.{w32, w64, from_le_bytes}
use Rattle.numbers.specs.Le.{num}
use Rattle.numbers.specs.LeLaws.{num-step}

-- the four bytes of a word, the first the lowest
bytes4 : (s : List ℕ) (i : ℕ) → num 4 (drop i s) ≡ get_or s i 0 + 256 * (get_or s (i + 1) 0 + 256 * (get_or s (i + 2) 0 + 256 * get_or s (i + 3) 0))
unfolding num
bytes4 s i =
    let e₁ : suc i ≡ i + 1 = omega arith in
    let e₂ : suc (i + 1) ≡ i + 2 = omega arith in
    let e₃ : suc (i + 2) ≡ i + 3 = omega arith in
    rw (num-step 3 i s, e₁, num-step 2 (i + 1) s, e₂, num-step 1 (i + 2) s, e₃, num-step 0 (i + 3) s) (omega arith)

bytes8 : (s : List ℕ) (i : ℕ) → num 8 (drop i s) ≡ num 4 (drop i s) + 2 ^ 32 * num 4 (drop (i + 4) s)
bytes8 s i =
    let e₁ : suc i ≡ i + 1 = omega arith in
    let e₂ : suc (i + 1) ≡ i + 2 = omega arith in
    let e₃ : suc (i + 2) ≡ i + 3 = omega arith in
    let e₄ : suc (i + 3) ≡ i + 4 = omega arith in
    let b = bytes4 s i in
    rw (num-step 7 i s, e₁, num-step 6 (i + 1) s, e₂, num-step 5 (i + 2) s, e₃, num-step 4 (i + 3) s, e₄) (omega arith)

module _ (s : List ℕ) (i : ℕ) where
  pub word4 : from_le_bytes w32 (get_or s i 0 ∷ get_or s (i + 1) 0 ∷ get_or s (i + 2) 0 ∷ get_or s (i + 3) 0 ∷ []) ≡ num 4 (drop i s)
  word4 = let e = bytes4 s i in omega arith

  high4 : num 4 (drop (i + 4) s) ≡ get_or s (i + 4) 0 + 256 * (get_or s (i + 5) 0 + 256 * (get_or s (i + 6) 0 + 256 * get_or s (i + 7) 0))
  high4 =
      let p₁ : i + 4 + 1 ≡ i + 5 = omega arith in
      let p₂ : i + 4 + 2 ≡ i + 6 = omega arith in
      let p₃ : i + 4 + 3 ≡ i + 7 = omega arith in
      rw (p₁, p₂, p₃) at (bytes4 s (i + 4))

  pub word8 : from_le_bytes w64 (get_or s i 0 ∷ get_or s (i + 1) 0 ∷ get_or s (i + 2) 0 ∷ get_or s (i + 3) 0 ∷ get_or s (i + 4) 0 ∷ get_or s (i + 5) 0 ∷ get_or s (i + 6) 0 ∷ get_or s (i + 7) 0 ∷ []) ≡ num 8 (drop i s)
  word8 =
      let p = bytes4 s i in
      let q = high4 in
      let r = bytes8 s i in
      omega arith

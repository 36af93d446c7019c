-- Which case of the definition a length falls in.
use Rattle.std.proofs.Common.{◌≡◌, ℕ, ◌+◌, ◌<◌, ◌≤◌, List, [], ◌∷◌, ◌++◌, length, take, sym, ap, ◌∙◌, arith, le-leb}
use lib.Seq.{take-length}
use borrow.Author.Tests.{lt-leb}
use Rattle.numbers.specs.Pick.{pick}
use Rattle.hash.specs.declared.Hash128.{Hash128}
use Rattle.hash.specs.Small.{XXH3_128_empty, XXH3_128_1to3, XXH3_128_4to8, XXH3_128_9to16}
use Rattle.hash.specs.Large.{XXH3_128_large}
use Rattle.hash.specs.XXH3.{XXH3_128_17to128, XXH3_128_129to240, xxh3_128}

module _ (s : List ℕ) where
  at_0 : length s ≤ 0 → xxh3_128 s ≡ XXH3_128_empty
  unfolding xxh3_128 pick
  at_0 h = simp (le-leb (length s) 0 h)

  at_3 : 0 < length s → length s ≤ 3 → xxh3_128 s ≡ XXH3_128_1to3 s
  unfolding xxh3_128 pick
  at_3 l h = simp (lt-leb (length s) 0 l, le-leb (length s) 3 h)

  at_8 : 3 < length s → length s ≤ 8 → xxh3_128 s ≡ XXH3_128_4to8 s
  unfolding xxh3_128 pick
  at_8 l h = simp (lt-leb (length s) 0 (omega arith), lt-leb (length s) 3 l, le-leb (length s) 8 h)

  at_16 : 8 < length s → length s ≤ 16 → xxh3_128 s ≡ XXH3_128_9to16 s
  unfolding xxh3_128 pick
  at_16 l h = simp (lt-leb (length s) 0 (omega arith), lt-leb (length s) 3 (omega arith), lt-leb (length s) 8 l, le-leb (length s) 16 h)

  module _ (l : 16 < length s) where
    at_128 : length s ≤ 128 → xxh3_128 s ≡ XXH3_128_17to128 s
    unfolding xxh3_128 pick
    at_128 h = simp (lt-leb (length s) 0 (omega arith), lt-leb (length s) 3 (omega arith), lt-leb (length s) 8 (omega arith), lt-leb (length s) 16 l, le-leb (length s) 128 h)

  module _ (l : 128 < length s) where
    at_240 : length s ≤ 240 → xxh3_128 s ≡ XXH3_128_129to240 s
    unfolding xxh3_128 pick
    at_240 h =
        simp (lt-leb (length s) 0 (omega arith), lt-leb (length s) 3 (omega arith), lt-leb (length s) 8 (omega arith), lt-leb (length s) 16 (omega arith), lt-leb (length s) 128 l, le-leb (length s) 240 h)

  at_more : 240 < length s → xxh3_128 s ≡ XXH3_128_large s
  unfolding xxh3_128 pick
  at_more l =
      simp (lt-leb (length s) 0 (omega arith), lt-leb (length s) 3 (omega arith), lt-leb (length s) 8 (omega arith), lt-leb (length s) 16 (omega arith), lt-leb (length s) 128 (omega arith), lt-leb (length s) 240 l)

-- the same for a result
module _ (s : List ℕ) (r : Hash128) where
  pub is_0 : length s ≤ 0 → r ≡ XXH3_128_empty → r ≡ xxh3_128 s
  is_0 h e = e ∙ sym (at_0 s h)

  pub is_3 : 0 < length s → length s ≤ 3 → r ≡ XXH3_128_1to3 s → r ≡ xxh3_128 s
  is_3 l h e = e ∙ sym (at_3 s l h)

  pub is_8 : 3 < length s → length s ≤ 8 → r ≡ XXH3_128_4to8 s → r ≡ xxh3_128 s
  is_8 l h e = e ∙ sym (at_8 s l h)

  pub is_16 : 8 < length s → length s ≤ 16 → r ≡ XXH3_128_9to16 s → r ≡ xxh3_128 s
  is_16 l h e = e ∙ sym (at_16 s l h)

  pub is_128 : 16 < length s → length s ≤ 128 → r ≡ XXH3_128_17to128 s → r ≡ xxh3_128 s
  is_128 l h e = e ∙ sym (at_128 s l h)

  pub is_240 : 128 < length s → length s ≤ 240 → r ≡ XXH3_128_129to240 s → r ≡ xxh3_128 s
  is_240 l h e = e ∙ sym (at_240 s l h)

  pub is-more : 240 < length s → r ≡ XXH3_128_large s → r ≡ xxh3_128 s
  is-more l e = e ∙ sym (at_more s l)

-- a slice up to its length is the slice
module _ (s : List ℕ) where
  pub whole_length : length s ≡ length (take (length s) s)
  whole_length = sym (ap length (take-length s))

  pub whole-more : (n : ℕ) → n < length s → n < length (take (length s) s)
  whole-more n h = omega (arith, whole_length)

  pub whole_upto : (n : ℕ) → length s ≤ n → length (take (length s) s) ≤ n
  whole_upto n h = omega (arith, whole_length)

  pub whole : (r : Hash128) → r ≡ xxh3_128 (take (length s) s) → r ≡ xxh3_128 s
  whole r e = e ∙ ap xxh3_128 (take-length s)

  pub whole-large : (r : Hash128) → 240 < length s → r ≡ XXH3_128_large (take (length s) s) → r ≡ xxh3_128 s
  whole-large r h e = is-more s r h (e ∙ ap XXH3_128_large (take-length s))

-- the same for two slices
module _ (k v : List ℕ) where
  pub whole_sum : (n : ℕ) → length k + length v ≤ n → length (take (length k) k) + length (take (length v) v) ≤ n
  whole_sum n h = omega (arith, whole_length k, whole_length v)

  pub whole-both : (r : Hash128) → r ≡ xxh3_128 (take (length k) k ++ take (length v) v) → r ≡ xxh3_128 (k ++ v)
  whole-both r e = e ∙ ap (λ (l : List ℕ). xxh3_128 (l ++ take (length v) v)) (take-length k) ∙ ap (λ (l : List ℕ). xxh3_128 (k ++ l)) (take-length v)

-- an empty key adds nothing
pub no_key : (k v : List ℕ) (r : Hash128) → length k ≡ 0 → r ≡ xxh3_128 v → r ≡ xxh3_128 (k ++ v)
no_key [] v r h e = e
no_key (b ∷ k) v r h e = absurd (omega arith)

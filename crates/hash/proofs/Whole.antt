-- All stripes, one after the other with a scramble after every 16th, are the description's blocks and the stripes of its last block.
use Rattle.std.proofs.Common.{◌≡◌, ℕ, zero, suc, ◌+◌, ◌-◌, ◌*◌, ◌/◌, ◌%◌, ◌<◌, ◌≤◌, List, length, sym, refl, ap, ◌∙◌, ap₂, arith, eq-eqb, ne_eqb}
use Rattle.numbers.specs.Pick.{pick}
use Rattle.hash.specs.Notation.{u64s, for_up}
use Rattle.hash.specs.Secret.{secret, secret_length}
use Rattle.hash.specs.Large.{acc_large, stripes_per_block, block_size, accumulate, accumulate_nth, round_accumulate, round_scramble, round, full_blocks, last_round, accumulated, XXH3_128_large}
use Rattle.hash.specs.ShapeLong.{block_end, step_at, stripes_of, finish_of}
use Rattle.hash.specs.declared.Hash128.{Hash128}
use Rattle.hash.proofs.Loops.{for_up-same, for_up-plus}

per_block : stripes_per_block ≡ 16
unfolding stripes_per_block secret_length secret
per_block = refl

block_size_lem : block_size ≡ 1024
unfolding block_size stripes_per_block secret_length secret
block_size_lem = refl

module _ (s : List ℕ) where
  -- stripe k of block m, as both count it
  reads : (m k : ℕ) → k < 16 → (x : List ℕ) → accumulate (u64s s (0 + 64 * (16 * m + k))) (8 * ((0 + (16 * m + k)) % 16)) x ≡ accumulate_nth s (m * block_size) k x
  unfolding accumulate_nth
  reads m k h x =
      let e : 0 + 64 * (16 * m + k) ≡ m * 1024 + k * 64 = omega arith in
      let f : 8 * ((0 + (16 * m + k)) % 16) ≡ k * 8 = omega arith in
      rw block_size_lem (ap₂ (λ (i o : ℕ). accumulate (u64s s i) o x) e f)

  -- a stripe that is not its block's last
  inner : (m k : ℕ) → k < 15 → (x : List ℕ) → step_at s 0 0 (16 * m + k) x ≡ accumulate_nth s (m * block_size) k x
  unfolding step_at block_end pick
  inner m k h x = rw (ne_eqb ((0 + (16 * m + k)) % 16) 15 (λ z. omega arith)) (reads m k (omega arith) x)

  outer : (m : ℕ) (x : List ℕ) → step_at s 0 0 (16 * m + 15) x ≡ round_scramble (accumulate_nth s (m * block_size) 15 x)
  unfolding step_at block_end pick
  outer m x = rw (eq-eqb ((0 + (16 * m + 15)) % 16) 15 (omega arith)) (ap round_scramble (reads m 15 (omega arith) x))

  -- n stripes of block m, the last of them left out where it would be the block's last
  begun : (m n : ℕ) → n ≤ 15 → (x : List ℕ) → for_up n (λ (k : ℕ). step_at s 0 0 (16 * m + k)) x ≡ for_up n (accumulate_nth s (m * block_size)) x
  begun m n h x = for_up-same n (λ (k : ℕ). step_at s 0 0 (16 * m + k)) (accumulate_nth s (m * block_size)) x (λ k l y. inner m k (omega arith) y)

  one_block : (m : ℕ) (x : List ℕ) → for_up 16 (λ (k : ℕ). step_at s 0 0 (16 * m + k)) x ≡ round s m x
  unfolding for_up round round_accumulate
  one_block m x =
      outer m (for_up 15 (λ (k : ℕ). step_at s 0 0 (16 * m + k)) x)
      ∙ ap (λ (y : List ℕ). round_scramble (accumulate_nth s (m * block_size) 15 y)) (begun m 15 (omega arith) x)
      ∙ ap (λ (n : ℕ). round_scramble (for_up n (accumulate_nth s (m * block_size)) x)) (sym per_block)

  blocks : (m : ℕ) (x : List ℕ) → stripes_of s 0 0 (16 * m) x ≡ for_up m (round s) x
  unfolding for_up
  blocks zero x = refl
  blocks (suc m) x =
      let e : 16 * suc m ≡ 16 * m + 16 = omega arith in
      ap (λ (n : ℕ). stripes_of s 0 0 n x) e
      ∙ for_up-plus (16 * m) 16 (step_at s 0 0) x
      ∙ one_block m (stripes_of s 0 0 (16 * m) x)
      ∙ ap (round s m) (blocks m x)

  block_stripes : (m n : ℕ) → n ≤ 15 → (x : List ℕ) → stripes_of s 0 0 (16 * m + n) x ≡ for_up n (accumulate_nth s (m * block_size)) (for_up m (round s) x)
  block_stripes m n h x =
      for_up-plus (16 * m) n (step_at s 0 0) x
      ∙ begun m n h (stripes_of s 0 0 (16 * m) x)
      ∙ ap (for_up n (accumulate_nth s (m * block_size))) (blocks m x)

  -- steps 1 to 3
  all_stripes : accumulate (u64s s (length s - 64)) (secret_length - 71) (stripes_of s 0 0 ((length s - 1) / 64) acc_large) ≡ accumulated s
  unfolding accumulated last_round full_blocks
  all_stripes =
      let m : ℕ = (length s - 1) / 1024 in
      let n : ℕ = (length s - m * 1024 - 1) / 64 in
      let e : (length s - 1) / 64 ≡ 16 * m + n = omega arith in
      ap (accumulate (u64s s (length s - 64)) (secret_length - 71))
      (ap (λ (k : ℕ). stripes_of s 0 0 k acc_large) e ∙ block_stripes m n (omega arith) acc_large)
      ∙ rw block_size_lem refl

  -- both merges are the hash, n being the length
  pub merged_law : (n : ℕ) (a b : List ℕ) (r : Hash128) → n ≡ length s → a ≡ stripes_of s 0 0 ((n - 1) / 64) acc_large → b ≡ accumulate (u64s s (n - 64)) (secret_length - 71) a → r ≡ finish_of n b → r ≡ XXH3_128_large s
  unfolding XXH3_128_large finish_of
  merged_law n a b r en ea eb er =
      let e : b ≡ accumulated s = rw (eb, ea, en) all_stripes in
      rw (er, e, en)

  pub large_law : (a b : List ℕ) (r : Hash128) → a ≡ stripes_of s 0 0 ((length s - 1) / 64) acc_large → b ≡ accumulate (u64s s (length s - 64)) (secret_length - 71) a → r ≡ finish_of (length s) b → r ≡ XXH3_128_large s
  large_law a b r = merged_law (length s) a b r refl

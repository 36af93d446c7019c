-- 17 to 240 bytes: the code's rounds and chunks are the description's.
use Rattle.std.proofs.Common.{◌≡◌, ℕ, ◌+◌, ◌-◌, ◌*◌, ◌/◌, ◌^◌, ◌<◌, ◌≤◌, ltb, List, length, drop, sym, refl, ap, ◌∙◌, ⊎_elim, arith, le-ltb, lt-ltb}
use lib.Bits.{bit_xor}
use Rattle.numbers.specs.Le.{num}
use Rattle.numbers.specs.Pick.{pick}
use Rattle.hash.specs.Notation.{add64, sub64, mul64, u64s, for_up, for_down, PRIME64_1, PRIME64_2, PRIME64_4}
use Rattle.hash.specs.Secret.{seed, secret, avalanche}
use Rattle.hash.specs.Medium.{acc_medium, mix_step, mix_two_chunks, round_inward, process_input_17to128, chunk_of_128, avalanche_both, chunk_after_128, process_input_129to240, XXH3_128_17to240}
use Rattle.hash.specs.XXH3.{XXH3_128_17to128, XXH3_128_129to240, xxh3_128}
use Rattle.hash.specs.Shape.{fold_of, words_of, two_at, chunk_onward}
use Rattle.hash.specs.declared.Hash128.{Hash128}
use Rattle.hash.specs.declared.medium.Acc.{Acc}
use Rattle.hash.specs.declared.text.Two.{Two}
use Rattle.hash.proofs.Cases.{le_or_lt}
use Rattle.hash.proofs.Classes.{is_128, is_240}
use Rattle.hash.proofs.Small.{first64, next64}

-- the words read from i on
pub chunk_law : (s : List ℕ) (i x y : ℕ) → x ≡ num 8 (drop i s) → y ≡ num 8 (drop (i + 8) s) → ◌≡◌ {A = Two} (record { x = x; y = y }) (two_at s i)
unfolding two_at
chunk_law s i x y ex ey = rw (first64 s i, next64 s i, ex, ey)

-- a seed of 0 changes no word
plus_seed : (w : ℕ) → w < 2 ^ 64 → add64 w seed ≡ w
plus_seed w h = omega arith

less_seed : (w : ℕ) → w < 2 ^ 64 → sub64 w seed ≡ w
less_seed w h = omega arith

-- one accumulator: v and w are the secret's words, f the folded product
pub half_law : (acc o v w f : ℕ) (p q : Two) → v < 2 ^ 64 → w < 2 ^ 64 → v ≡ num 8 (drop o secret) → w ≡ num 8 (drop (o + 8) secret) → f ≡ fold_of (bit_xor p.x v) (bit_xor p.y w)
    → bit_xor (add64 acc f) (add64 q.x q.y) ≡ bit_xor (add64 acc (mix_step (words_of p) o seed)) (add64 q.x q.y)
unfolding mix_step words_of
half_law acc o v w f p q hv hw ev ew ef =
    let a : add64 (u64s secret o 0) seed ≡ v = rw (first64 secret o, ← ev) (plus_seed v hv) in
    let b : sub64 (u64s secret o 1) seed ≡ w = rw (next64 secret o, ← ew) (less_seed w hw) in
    rw (a, b, ef)

-- both of them
pub halves_law : (p q : Two) (o : ℕ) (acc : Acc) (l h : ℕ) → l ≡ bit_xor (add64 acc.a0 (mix_step (words_of p) o seed)) (add64 q.x q.y) → h ≡ bit_xor (add64 acc.a1 (mix_step (words_of q) (o + 16) seed)) (add64 p.x p.y)
    → ◌≡◌ {A = Acc} (record { a0 = l; a1 = h }) (mix_two_chunks (words_of p) (words_of q) o seed acc)
unfolding mix_two_chunks words_of
halves_law p q o acc l h el eh = rw (el, eh)

-- the words of two chunks of a text
same_chunks : (s : List ℕ) (i j o : ℕ) (acc : Acc) → mix_two_chunks (words_of (two_at s i)) (words_of (two_at s j)) o seed acc ≡ mix_two_chunks (u64s s i) (u64s s j) o seed acc
unfolding mix_two_chunks mix_step words_of two_at
same_chunks s i j o acc = refl

pub mixed_law : (s : List ℕ) (i j o : ℕ) (p q : Two) (acc r : Acc) → p ≡ two_at s i → q ≡ two_at s j → r ≡ mix_two_chunks (words_of p) (words_of q) o seed acc → r ≡ mix_two_chunks (u64s s i) (u64s s j) o seed acc
mixed_law s i j o p q acc r ep eq e = rw (ep, eq) at e ∙ same_chunks s i j o acc

module _ (s : List ℕ) where
  pub inward_law : (i : ℕ) (p q : Two) (acc r : Acc) → p ≡ two_at s (16 * i) → q ≡ two_at s (length s - (16 * i + 16)) → r ≡ mix_two_chunks (words_of p) (words_of q) (32 * i) seed acc → r ≡ round_inward s i acc
  unfolding round_inward
  inward_law i p q acc r ep eq e =
      let a : 16 * i ≡ i * 16 = omega arith in
      let b : length s - (16 * i + 16) ≡ length s - i * 16 - 16 = omega arith in
      let d : 32 * i ≡ i * 32 = omega arith in
      mixed_law s (i * 16) (length s - i * 16 - 16) (i * 32) p q acc r (ep ∙ ap (two_at s) a) (eq ∙ ap (two_at s) b) (e ∙ ap (λ (o : ℕ). mix_two_chunks (words_of p) (words_of q) o seed acc) d)

  pub onward_law : (i o : ℕ) (p q : Two) (acc r : Acc) → p ≡ two_at s (32 * i) → q ≡ two_at s (32 * i + 16) → r ≡ mix_two_chunks (words_of p) (words_of q) o seed acc → r ≡ chunk_onward s i o acc
  unfolding chunk_onward
  onward_law i o p q acc r ep eq e =
      let a : 32 * i ≡ i * 32 = omega arith in
      mixed_law s (i * 32) (i * 32 + 16) o p q acc r (ep ∙ ap (two_at s) a) (eq ∙ ap (λ (j : ℕ). two_at s (j + 16)) a) e

  -- k rounds, the innermost first, of n bytes
  pub rounds_law : (n k : ℕ) (a b : Acc) (r : Hash128) → n ≡ length s → 16 < n → n ≤ 128 → (n - 1) / 2 ^ 5 + 1 ≡ k → a ≡ acc_medium n → b ≡ for_down k (round_inward s) a → r ≡ XXH3_128_17to240 n b → r ≡ xxh3_128 s
  unfolding XXH3_128_17to128 process_input_17to128
  rounds_law n k a b r en l h ek ea eb e =
      let f : b ≡ process_input_17to128 s (acc_medium (length s)) = eb ∙ ap (for_down k (round_inward s)) ea ∙ rw (← ek, en) in
      is_128 s r (omega arith) (omega arith) (e ∙ rw (f, en))

  pub one_round : (n : ℕ) (a b : Acc) (r : Hash128) → n ≡ length s → 16 < n → n ≤ 32 → a ≡ acc_medium n → b ≡ round_inward s 0 a → r ≡ XXH3_128_17to240 n b → r ≡ xxh3_128 s
  unfolding for_down
  one_round n a b r en l h ea eb e = rounds_law n 1 a b r en l (omega arith) (omega arith) ea eb e

  pub two_rounds : (n : ℕ) (a b c : Acc) (r : Hash128) → n ≡ length s → 32 < n → n ≤ 64 → a ≡ acc_medium n → b ≡ round_inward s 1 a → c ≡ round_inward s 0 b → r ≡ XXH3_128_17to240 n c → r ≡ xxh3_128 s
  unfolding for_down
  two_rounds n a b c r en l h ea eb ec e = rounds_law n 2 a c r en (omega arith) (omega arith) (omega arith) ea (rw (ec, eb)) e

  pub three_rounds : (n : ℕ) (a b c d : Acc) (r : Hash128) → n ≡ length s → 64 < n → n ≤ 96 → a ≡ acc_medium n → b ≡ round_inward s 2 a → c ≡ round_inward s 1 b → d ≡ round_inward s 0 c → r ≡ XXH3_128_17to240 n d → r ≡ xxh3_128 s
  unfolding for_down
  three_rounds n a b c d r en l h ea eb ec ed e = rounds_law n 3 a d r en (omega arith) (omega arith) (omega arith) ea (rw (ed, ec, eb)) e

  pub four_rounds : (n : ℕ) (a b c d f : Acc) (r : Hash128) → n ≡ length s → 96 < n → n ≤ 128 → a ≡ acc_medium n → b ≡ round_inward s 3 a → c ≡ round_inward s 2 b → d ≡ round_inward s 1 c → f ≡ round_inward s 0 d → r ≡ XXH3_128_17to240 n f → r ≡ xxh3_128 s
  unfolding for_down
  four_rounds n a b c d f r en l h ea eb ec ed ef e = rounds_law n 4 a f r en (omega arith) (omega arith) (omega arith) ea (rw (ef, ed, ec, eb)) e

  -- before the avalanche between the two loops
  open_240 : (a b c d f r : Acc) → b ≡ chunk_onward s 0 0 a → c ≡ chunk_onward s 1 32 b → d ≡ chunk_onward s 2 64 c → f ≡ chunk_onward s 3 96 d → r ≡ avalanche_both f → r ≡ avalanche_both (for_up 4 (chunk_of_128 s) a)
  unfolding for_up chunk_onward chunk_of_128
  open_240 a b c d f r eb ec ed ef e = rw (e, ef, ed, ec, eb)

  -- a chunk that a text has from n bytes on
  unfoldable pub chunk_from : ℕ → ℕ → ℕ → Acc → Acc
  chunk_from n i o acc = pick (ltb (length s) n) acc (chunk_onward s i o acc)

  pub has_chunk : (n i o : ℕ) (acc r : Acc) → n ≤ length s → r ≡ chunk_onward s i o acc → r ≡ chunk_from n i o acc
  unfolding chunk_from pick
  has_chunk n i o acc r h e = e ∙ simp (le-ltb (length s) n h)

  pub no_chunk : (n i o : ℕ) (acc r : Acc) → length s < n → r ≡ acc → r ≡ chunk_from n i o acc
  unfolding chunk_from pick
  no_chunk n i o acc r h e = e ∙ simp (lt-ltb (length s) n h)

  -- the second loop has no to three chunks
  abbrev chunks : ℕ → Acc → Acc
  chunks n = for_up n (λ (k : ℕ). chunk_after_128 s (4 + k))

  abbrev tail : Acc → Acc
  tail acc = chunk_from 224 6 67 (chunk_from 192 5 35 (chunk_from 160 4 3 acc))

  module _ (acc : Acc) (l : 128 < length s) (h : length s ≤ 240) where
    count : (n : ℕ) → length s / 2 ^ 5 - 4 ≡ n → chunks (length s / 2 ^ 5 - 4) acc ≡ chunks n acc
    count n e = ap (λ (m : ℕ). chunks m acc) e

    none : length s < 160 → chunks (length s / 2 ^ 5 - 4) acc ≡ tail acc
    unfolding chunk_from pick for_up
    none b = count 0 (omega arith) ∙ simp (lt-ltb (length s) 160 b, lt-ltb (length s) 192 (omega arith), lt-ltb (length s) 224 (omega arith))

    single : 160 ≤ length s → length s < 192 → chunks (length s / 2 ^ 5 - 4) acc ≡ tail acc
    unfolding chunk_from chunk_onward chunk_after_128 pick for_up
    single a b = count 1 (omega arith) ∙ simp (le-ltb (length s) 160 a, lt-ltb (length s) 192 b, lt-ltb (length s) 224 (omega arith))

    double : 192 ≤ length s → length s < 224 → chunks (length s / 2 ^ 5 - 4) acc ≡ tail acc
    unfolding chunk_from chunk_onward chunk_after_128 pick for_up
    double a b = count 2 (omega arith) ∙ simp (le-ltb (length s) 160 (omega arith), le-ltb (length s) 192 a, lt-ltb (length s) 224 b)

    triple : 224 ≤ length s → chunks (length s / 2 ^ 5 - 4) acc ≡ tail acc
    unfolding chunk_from chunk_onward chunk_after_128 pick for_up
    triple a = count 3 (omega arith) ∙ simp (le-ltb (length s) 160 (omega arith), le-ltb (length s) 192 (omega arith), le-ltb (length s) 224 a)

    chunks_are : chunks (length s / 2 ^ 5 - 4) acc ≡ tail acc
    chunks_are = ⊎_elim (λ a. ⊎_elim (λ b. ⊎_elim triple (double b) (le_or_lt 224 (length s))) (single a) (le_or_lt 192 (length s))) none (le_or_lt 160 (length s))

  -- four chunks, the avalanche, no to three more, and the last two
  pub law_240 : (n : ℕ) (x a b c d f y z : Acc) (p q : Two) (v w : Acc) (r : Hash128) → n ≡ length s → 128 < n → n ≤ 240 → x ≡ acc_medium n
      → a ≡ chunk_onward s 0 0 x → b ≡ chunk_onward s 1 32 a → c ≡ chunk_onward s 2 64 b → d ≡ chunk_onward s 3 96 c → f ≡ avalanche_both d
      → y ≡ chunk_from 160 4 3 f → z ≡ chunk_from 192 5 35 y → v ≡ chunk_from 224 6 67 z
      → p ≡ two_at s (length s - 16) → q ≡ two_at s (length s - 32) → w ≡ mix_two_chunks (words_of p) (words_of q) 103 seed v → r ≡ XXH3_128_17to240 n w → r ≡ xxh3_128 s
  unfolding XXH3_128_129to240 process_input_129to240
  law_240 n x a b c d f y z p q v w r en l h ex ea eb ec ed ef ey ez ev ep eq ew e =
      let i : x ≡ acc_medium (length s) = rw en at ex in
      let j : f ≡ avalanche_both (for_up 4 (chunk_of_128 s) (acc_medium (length s))) = open_240 x a b c d f ea eb ec ed ef ∙ rw i in
      let k : v ≡ chunks (length s / 2 ^ 5 - 4) f = rw (ev, ez, ey) (sym (chunks_are f (omega arith) (omega arith))) in
      let m : w ≡ mix_two_chunks (u64s s (length s - 16)) (u64s s (length s - 32)) 103 seed v = mixed_law s (length s - 16) (length s - 32) 103 p q v w ep eq ew in
      is_240 s r (omega arith) (omega arith) (e ∙ ap (λ (o : ℕ). XXH3_128_17to240 o w) en ∙ ap (XXH3_128_17to240 (length s)) (m ∙ ap (mix_two_chunks (u64s s (length s - 16)) (u64s s (length s - 32)) 103 seed) (k ∙ ap (chunks (length s / 2 ^ 5 - 4)) j)))

-- both accumulators, stirred
pub stir_law : (acc : Acc) (l h : ℕ) → l ≡ avalanche acc.a0 → h ≡ avalanche acc.a1 → ◌≡◌ {A = Acc} (record { a0 = l; a1 = h }) (avalanche_both acc)
unfolding avalanche_both
stir_law acc l h el eh = rw (el, eh)

-- the two halves of the hash
pub finish_law : (n l g : ℕ) (acc : Acc) → n < 2 ^ 64 → l ≡ avalanche (add64 acc.a0 acc.a1) → g ≡ avalanche (add64 (add64 (mul64 acc.a0 PRIME64_1) (mul64 acc.a1 PRIME64_4)) (mul64 n PRIME64_2))
    → ◌≡◌ {A = Hash128} (record { low = l; high = sub64 0 g }) (XXH3_128_17to240 n acc)
unfolding XXH3_128_17to240
finish_law n l g acc b el eg = rw (less_seed n b, el, eg)

-- One turn more of a loop of the code: a lane, a scrambled lane, a stripe, two lanes of the first stripe, two accumulators that are merged.
use Rattle.std.proofs.Common.{◌≡◌, ℕ, ◌+◌, ◌-◌, ◌*◌, ◌/◌, ◌%◌, ◌^◌, List, get_or, set, drop, sym, ap, ◌∙◌, arith}
use lib.Bits.{bit_xor}
use Rattle.numbers.specs.Le.{num}
use Rattle.hash.specs.Notation.{add64, mul64, u64s, for_up, PRIME32_1}
use Rattle.hash.specs.Secret.{secret, secret_length}
use Rattle.hash.specs.Large.{accumulate, accumulate_lane, scramble_lane, merge_lanes}
use Rattle.hash.specs.Shape.{fold_of, two_at}
use Rattle.hash.specs.ShapeLong.{lane_of, block_end, step_at, stripes_of}
use Rattle.hash.specs.declared.text.Two.{Two}
use Rattle.hash.proofs.Loops.{for_up-next}
use Rattle.hash.proofs.Stripes.{lane_same}

-- one lane more, with its word of the stripe and its word of the secret
pub next_lane : (f u : ℕ → ℕ) (k : ℕ) (x : List ℕ) {d w : ℕ} {a r : List ℕ} → a ≡ for_up k (accumulate_lane f u) x → d ≡ f k → w ≡ u k → r ≡ lane_of k d w a → r ≡ for_up (k + 1) (accumulate_lane f u) x
next_lane f u k x {a = a} ea ed ew e = for_up-next k (accumulate_lane f u) x ea (rw (ed, ew) at e ∙ sym (lane_same f u k a))

-- one lane more, scrambled with its word of the secret
pub next_scrambled : (k : ℕ) (x : List ℕ) {w : ℕ} {a : List ℕ} → a ≡ for_up k (scramble_lane (u64s secret (secret_length - 64))) x → w ≡ u64s secret (secret_length - 64) k → set a k (mul64 (bit_xor (bit_xor (get_or a k 0) (get_or a k 0 / 2 ^ 47)) w) PRIME32_1) ≡ for_up (k + 1) (scramble_lane (u64s secret (secret_length - 64))) x
unfolding scramble_lane
next_scrambled k x ea ew = for_up-next k (scramble_lane (u64s secret (secret_length - 64))) x ea (rw ew)

-- one stripe more
pub next_stripe : (s : List ℕ) (i t k : ℕ) (x : List ℕ) {a b r : List ℕ} → a ≡ stripes_of s i t k x → b ≡ accumulate (u64s s (i + 64 * k)) (8 * ((t + k) % 16)) a → r ≡ block_end (t + k) b → r ≡ stripes_of s i t (k + 1) x
unfolding step_at
next_stripe s i t k x ea eb e = for_up-next k (step_at s i t) x ea (rw eb at e)

-- two lanes more, with the words of a chunk
pub next_two : (s : List ℕ) (i : ℕ) (x : List ℕ) {p : Two} {v w : ℕ} {a b r : List ℕ} → a ≡ for_up (2 * i) (accumulate_lane (u64s s 0) (u64s secret 0)) x → p ≡ two_at s (16 * i) → v ≡ num 8 (drop (16 * i) secret) → w ≡ num 8 (drop (16 * i + 8) secret)
    → b ≡ lane_of (2 * i) p.x v a → r ≡ lane_of (2 * i + 1) p.y w b → r ≡ for_up (2 * (i + 1)) (accumulate_lane (u64s s 0) (u64s secret 0)) x
unfolding two_at u64s
next_two s i x {p = p} {b = b} {r = r} ea ep ev ew eb e =
    let f : 16 * i + 8 * 0 ≡ 0 + 8 * (2 * i) = omega arith in
    let g : 16 * i + 8 * 1 ≡ 0 + 8 * (2 * i + 1) = omega arith in
    let m : 16 * i ≡ 0 + 8 * (2 * i) = omega arith in
    let n : 16 * i + 8 ≡ 0 + 8 * (2 * i + 1) = omega arith in
    let h : 2 * i + 1 + 1 ≡ 2 * (i + 1) = omega arith in
    let c : b ≡ for_up (2 * i + 1) (accumulate_lane (u64s s 0) (u64s secret 0)) x =
    next_lane (u64s s 0) (u64s secret 0) (2 * i) x ea (ap (λ (t : Two). t.x) ep ∙ ap (λ (j : ℕ). num 8 (drop j s)) f) (ev ∙ ap (λ (j : ℕ). num 8 (drop j secret)) m) eb in
    let d : r ≡ for_up (2 * i + 1 + 1) (accumulate_lane (u64s s 0) (u64s secret 0)) x =
    next_lane (u64s s 0) (u64s secret 0) (2 * i + 1) x c (ap (λ (t : Two). t.y) ep ∙ ap (λ (j : ℕ). num 8 (drop j s)) g) (ew ∙ ap (λ (j : ℕ). num 8 (drop j secret)) n) e in
    d ∙ ap (λ (j : ℕ). for_up j (accumulate_lane (u64s s 0) (u64s secret 0)) x) h

-- two accumulators more, merged
pub next_merged : (a : List ℕ) (o i x : ℕ) {h v w f : ℕ} → h ≡ for_up i (merge_lanes a (u64s secret o)) x → v ≡ num 8 (drop (o + 16 * i) secret) → w ≡ num 8 (drop (o + 16 * i + 8) secret)
    → f ≡ fold_of (bit_xor (get_or a (2 * i) 0) v) (bit_xor (get_or a (2 * i + 1) 0) w) → add64 h f ≡ for_up (i + 1) (merge_lanes a (u64s secret o)) x
unfolding merge_lanes u64s
next_merged a o i x eh ev ew ef =
    let g : o + 16 * i ≡ o + 8 * (i * 2) = omega arith in
    let j : o + 16 * i + 8 ≡ o + 8 * (i * 2 + 1) = omega arith in
    let k : 2 * i ≡ i * 2 = omega arith in
    for_up-next i (merge_lanes a (u64s secret o)) x eh (rw (ef, ev, ew, j, g, k))

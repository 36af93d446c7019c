-- The turns of the loop that reads a number, from what it has read so far.
use Rattle.std.proofs.Common.{◌≡◌, ℕ, zero, suc, ◌+◌, ◌-◌, ◌*◌, ◌/◌, ◌%◌, ◌^◌, ◌<◌, ◌≤◌, Bool, true, false, List, [], ◌∷◌, length, get_or, take, drop, sym, refl, ap, ◌∙◌, mul-suc, mul-le-mul_left, pow-suc, pow-add, pow_mono, add-one, arith, drop_of_length-le, drop-cons, nat_le, nat_lt, leb-false, leb-true, ltb-false, ltb-true, le-ltb, lt-ltb}
use Rattle.numbers.specs.GroupLaws.{sevens}
use Rattle.numbers.specs.Pick.{pick}
use Rattle.numbers.specs.Leb128Laws.{carried-end, carried_stop, carried_on, read_at}
use Rattle.numbers.specs.Leb128.{value_of, carried, got, refused, read_in, groups}
use Rattle.numbers.specs.declared.leb128.NumberRefusal.TheVariants.{CutShort, TooLong}

-- ---- one group more
pub value-more : (i : ℕ) (t : List ℕ) → i < length t → value_of (take (suc i) t) ≡ value_of (take i t) + 128 ^ i * (get_or t i 0 % 128)
unfolding value_of
value-more i [] h = absurd (omega arith)
value-more zero (b ∷ bs) h = omega arith
value-more (suc i) (b ∷ bs) h =
    let e : value_of (take (suc i) bs) ≡ value_of (take i bs) + 128 ^ i * (get_or bs i 0 % 128) = value-more i bs (omega arith) in
    rw (e, pow-suc 128 i) (omega arith)

-- what the loop has read: i bytes that carry on, their number, and the weight of the next group
pub record Passed (most i value weight : ℕ) (t : List ℕ) : Type 0 where
  pub allowed : i + 1 ≤ most
  pub carries : carried most t ≡ i + carried (most - i) (drop i t)
  pub sum : value ≡ value_of (take i t)
  pub weighs : weight ≡ 128 ^ i
  pub below : value < weight

pub begun : (most : ℕ) (t : List ℕ) → 1 ≤ most → Passed most 0 0 1 t
unfolding value_of
begun most t h =
    record { allowed = omega arith; carries = let e : most - 0 ≡ most = omega arith in rw e (omega arith); sum = refl; weighs = refl; below = omega arith }

module _ (limit at most i value weight : ℕ) (t : List ℕ) (p : Passed most i value weight t) where
  pub turn-cut : length t ≤ i → read_in most limit at t ≡ refused (CutShort (record { at = at; needed = i + 1; present = i }))
  unfolding pick
  turn-cut h =
      let e : drop i t ≡ [] = drop_of_length-le t h in
      let z : carried (most - i) (drop i t) ≡ 0 = rw e (carried-end (most - i)) in
      read_at most limit at i t (omega (arith, p.carries)) (omega arith) ∙ rw (le-ltb i (length t) h)

  module _ (b : ℕ) (r : b ≡ get_or t i 0) (h : i < length t) where
    next : drop i t ≡ b ∷ drop (i + 1) t
    next = rw (drop-cons t i 0 h, add-one, r)

    reached : value + weight * (b % 128) ≡ value_of (take (i + 1) t)
    reached = rw (add-one i, value-more i t h, r, p.sum, p.weighs)

    stops : b < 128 → carried most t ≡ i
    stops g =
        let z : carried (most - i) (drop i t) ≡ 0 = rw next (carried_stop (most - i) b (drop (i + 1) t) g) in
        omega (arith, p.carries)

    here : b < 128 → value + weight * b ≡ value_of (take (i + 1) t)
    here g =
        let m : b % 128 ≡ b = omega arith in
        ap (λ (x : ℕ). value + weight * x) (sym m) ∙ reached

    pub turn-got : b < 128 → value + weight * b < limit → read_in most limit at t ≡ got (value + weight * b) (i + 1)
    unfolding pick
    turn-got g l =
        read_at most limit at i t (stops g) (omega arith)
        ∙ rw (← here g, lt-ltb i (length t) h, lt-ltb (value + weight * b) limit l)

    pub turn-over : b < 128 → limit ≤ value + weight * b → read_in most limit at t ≡ refused TooLong
    unfolding pick
    turn-over g l =
        read_at most limit at i t (stops g) (omega arith)
        ∙ rw (← here g, lt-ltb i (length t) h, le-ltb (value + weight * b) limit l)

    module _ (g : 128 ≤ b) where
      goes_on : carried most t ≡ i + suc (carried (most - (i + 1)) (drop (i + 1) t))
      goes_on =
          let e : most - i ≡ suc (most - (i + 1)) = omega arith in
          let z : carried (most - i) (drop i t) ≡ suc (carried (most - (i + 1)) (drop (i + 1) t)) = rw (next, e) (carried_on (most - (i + 1)) b (drop (i + 1) t) g) in
          p.carries ∙ ap (λ (x : ℕ). i + x) z

      pub turn_last : i + 1 ≡ most → read_in most limit at t ≡ refused TooLong
      unfolding read_in pick carried
      turn_last e =
          let z : most - (i + 1) ≡ 0 = omega arith in
          let f : carried most t ≡ most = rw z at goes_on ∙ (omega arith) in
          rw (f, le-ltb most most (omega arith))

      pub turn_on : b < 256 → i + 1 < most → Passed most (i + 1) (value + weight * (b - 128)) (weight * 128) t
      turn_on l m =
          let e : b % 128 ≡ b - 128 = omega arith in
          let k : b - 128 ≤ 127 = omega arith in
          record {
            allowed = omega arith;
            carries = goes_on ∙ (omega arith);
            sum = rw e at reached;
            weighs = rw (add-one i, pow-suc 128 i, p.weighs);
            below = omega (arith, p.below, mul-le-mul_left weight k);
          }

-- ---- what is left of the width
-- the groups from the i-th on may hold `left`, and there is one at least
pub record Left (w i left : ℕ) : Type 0 where
  pub more : 7 * i < w
  pub is : left + 1 ≡ 2 ^ (w - 7 * i)

pub all_left : (w max : ℕ) → 0 < w → max + 1 ≡ 2 ^ w → Left w 0 max
all_left w max p e = record { more = omega arith; is = let f : w - 7 * 0 ≡ w = omega arith in rw f e }

module _ (w i left : ℕ) (q : Left w i left) where
  pub last_left : left < 128 → i + 1 ≡ groups w
  last_left h = go (nat_le 8 (w - 7 * i)) refl
    where
      go : (b : Bool) → nat_le 8 (w - 7 * i) ≡ b → i + 1 ≡ groups w
      go true e =
          let m : 2 ^ 8 ≤ 2 ^ (w - 7 * i) = pow_mono {i = 8} {j = w - 7 * i} (leb-true 8 (w - 7 * i) e) in
          absurd (omega (arith, q.is, m))
      go false e = omega (arith, q.more, leb-false 8 (w - 7 * i) e)

  pub more_left : 128 ≤ left → 7 * (i + 1) < w
  more_left h = go (nat_le 8 (w - 7 * i)) refl
    where
      go : (b : Bool) → nat_le 8 (w - 7 * i) ≡ b → 7 * (i + 1) < w
      go true e = omega (arith, leb-true 8 (w - 7 * i) e)
      go false e =
          let k : w - 7 * i ≤ 7 = omega (arith, leb-false 8 (w - 7 * i) e) in
          let m : 2 ^ (w - 7 * i) ≤ 2 ^ 7 = pow_mono {i = w - 7 * i} {j = 7} k in
          absurd (omega (arith, q.is, m))

  pub next_left : 128 ≤ left → Left w (i + 1) (left / 128)
  next_left h =
      let m = more_left h in
      let e : w - 7 * i ≡ w - 7 * (i + 1) + 7 = omega arith in
      let f : left + 1 ≡ 2 ^ (w - 7 * (i + 1)) * 2 ^ 7 = q.is ∙ ap (λ (n : ℕ). 2 ^ n) e ∙ pow-add 2 (w - 7 * (i + 1)) 7 in
      record { more = m; is = omega (arith, f) }

  module _ (most value weight : ℕ) (t : List ℕ) (p : Passed most i value weight t) where
    -- the groups passed and those that are left make the whole
    whole : weight * left + weight ≡ 2 ^ w
    whole =
        let e : 7 * i + (w - 7 * i) ≡ w = omega (arith, q.more) in
        let f : weight ≡ 2 ^ (7 * i) = p.weighs ∙ sevens i in
        sym (mul-suc weight left) ∙ ap (λ (x : ℕ). weight * x) (sym (add-one left) ∙ q.is) ∙ ap (λ (x : ℕ). x * 2 ^ (w - 7 * i)) f
        ∙ sym (pow-add 2 (7 * i) (w - 7 * i)) ∙ ap (λ (n : ℕ). 2 ^ n) e

    pub group_under : (b : ℕ) → b ≤ left → value + weight * b < 2 ^ w
    group_under b g = omega (arith, whole, p.below, mul-le-mul_left weight g)

    pub group_over : (b : ℕ) → left < b → 2 ^ w ≤ value + weight * b
    group_over b g = omega (arith, whole, mul-suc weight left, mul-le-mul_left weight g)

-- the last allowed byte above what is left: it carries on, or the value passes the limit
pub last-refused : (w at i value weight left : ℕ) (t : List ℕ) → Left w i left → Passed (groups w) i value weight t → (b : ℕ) → b ≡ get_or t i 0 → i < length t
    → left < 128 → left < b → read_in (groups w) (2 ^ w) at t ≡ refused TooLong
last-refused w at i value weight left t q p b r h l g = go (nat_lt b 128) refl
  where
    go : (k : Bool) → nat_lt b 128 ≡ k → read_in (groups w) (2 ^ w) at t ≡ refused TooLong
    go true s = turn-over (2 ^ w) at (groups w) i value weight t p b r h (ltb-true b 128 s) (group_over w i left q (groups w) value weight t p b g)
    go false s = turn_last (2 ^ w) at (groups w) i value weight t p b r h (ltb-false b 128 s) (last_left w i left q l)

-- Laws of numbers as bytes and of runs of stores, for callers to cite.
use Rattle.std.specs.Prelude.{◌≡◌, ℕ, zero, suc, ◌+◌, ◌-◌, ◌*◌, ◌/◌, ◌%◌, ◌^◌, ◌<◌, ◌≤◌, min, Bool, true, false, nat_le, List, [], ◌∷◌, ◌++◌, length, take, drop, replicate, set, slice_index, slice_set, refl}
use Rattle.std.proofs.Common.{sym, ap, ◌∙◌, arith, get_or-drop, lit<, add-zero, div-lt_iff_lt-mul, pow-suc, leb-true, leb-false, take_all, drop_of_length-le, append-nil, append_assoc, drop-drop, length-take, take-append-drop}
use Rattle.std.proofs.lemmas.List.Edits.{sets, sets-eq}
use Rattle.std.proofs.Math.Seq.{set_out, length-sets}
use Rattle.std.proofs.Math.Nat.{div-add-mod}
use Rattle.numbers.specs.Le.{le, num, padded, Octets}

pub length-le : (n x : ℕ) → length (le n x) ≡ n
unfolding le
length-le zero x = refl
length-le (suc n) x = ap suc (length-le n (x / 256))

pub num_nil : (n : ℕ) → num n [] ≡ 0
unfolding num
num_nil zero = refl
num_nil (suc n) = refl

-- one byte more, at any place of a list: what a turn of the loop that reads does
pub num-step : (n j : ℕ) (s : List ℕ) → num (suc n) (drop j s) ≡ slice_index s j + 256 * num n (drop (suc j) s)
unfolding num
num-step n zero [] = simp num_nil
num-step n (suc j) [] = simp num_nil
num-step n zero (b ∷ bs) = refl
num-step n (suc j) (b ∷ bs) = num-step n j bs

-- stores past the end change nothing
pub sets-out : {A : Type 0} (vs l : List A) (i : ℕ) → length l ≤ i → sets l i vs ≡ l
sets-out [] l i h = refl
sets-out (a ∷ vs) l i h =
    let e : set l i a ≡ l = set_out l i a h in
    rw e (sets-out vs l (suc i) (omega arith))

-- two runs of stores, one after the other
pub sets-append : {A : Type 0} (a b l : List A) (i : ℕ) → sets (sets l i a) (i + length a) b ≡ sets l i (a ++ b)
sets-append [] b l i = rw add-zero
sets-append (x ∷ a) b l i =
    let e : i + suc (length a) ≡ suc i + length a = omega arith in
    rw e (sets-append a b (slice_set l i x) (suc i))

-- what has room is stored in the place of what was there: `to` is where it starts, and n elements of s have room
overwritten-at : {A : Type 0} (l s : List A) (at to n : ℕ) → to ≡ min at (length l) → n ≡ min (length s) (length l - to)
    → take to l ++ (take n s ++ drop (to + n) l) ≡ sets l at s
overwritten-at l s at to n e f = go (nat_le at (length l)) (nat_le (length s) (length l - at)) refl refl
  where
    go : (a b : Bool) → nat_le at (length l) ≡ a → nat_le (length s) (length l - at) ≡ b → take to l ++ (take n s ++ drop (to + n) l) ≡ sets l at s
    go false b p q =
        let h = leb-false at (length l) p in
        let t : to ≡ length l = omega arith in
        let z : n ≡ 0 = omega arith in
        rw (z, t, take_all (length l) l (omega arith), drop_of_length-le l {i = length l + 0} (omega arith)) (simp append-nil (sym (sets-out s l at (omega arith))))
    go true true p q =
        let h = leb-true at (length l) p in
        let k = leb-true (length s) (length l - at) q in
        let t : to ≡ at = omega arith in
        let z : n ≡ length s = omega arith in
        rw (z, t, take_all (length s) s (omega arith)) (sym (sets-eq s l at (omega arith) ∙ append_assoc (take at l) s (drop (at + length s) l)))
    go true false p q =
        let h = leb-true at (length l) p in
        let k = leb-false (length s) (length l - at) q in
        let t : to ≡ at = omega arith in
        let w : length (take n s) ≡ n = length-take n s ∙ (omega arith) in
        rw t
        (sym
        (ap (sets l at) (sym (take-append-drop n s)) ∙ sym (sets-append (take n s) (drop n s) l at)
        ∙ sets-out (drop n s) (sets l at (take n s)) (at + length (take n s)) (rw (length-sets l at (take n s), w) (omega arith))
        ∙ sets-eq (take n s) l at (omega arith) ∙ append_assoc (take at l) (take n s) (drop (at + length (take n s)) l) ∙ rw w))

-- the same where a part of k elements of l, from `start` on, has become ys
pub overwritten : {A : Type 0} (l s ys zs : List A) (at to start k n : ℕ) → to ≡ min at (length l) → n ≡ min (length s) (length l - to) → start ≡ to → k ≡ n → ys ≡ zs → zs ≡ take n s
    → take start l ++ (ys ++ drop k (drop start l)) ≡ sets l at s
overwritten l s ys zs at to start k n e f g p q r =
    let d : drop n (drop to l) ≡ drop (to + n) l = drop-drop n to l in
    rw (g, p, q, r, d) (overwritten-at l s at to n e f)

-- a part that is the front
pub front_part : (k i n : ℕ) (s : List ℕ) → i ≡ 0 → k ≡ n → take k (drop i s) ≡ take n s
front_part k i n s e f = rw (e, f)

-- the round trip, at every width
pub num-le : (n x : ℕ) (rest : List ℕ) → x < 256 ^ n → num n (le n x ++ rest) ≡ x
unfolding num le
num-le zero x rest h = omega arith
num-le (suc n) x rest h =
    let e : num n (le n (x / 256) ++ rest) ≡ x / 256 = num-le n (x / 256) rest ((div-lt_iff_lt-mul (lit< tt)).1 (rw pow-suc at h)) in
    rw e (omega (arith, div-add-mod x 256))

-- and of bytes that are there, the other way round
pub le-num : (n : ℕ) (l : List ℕ) → n ≤ length l → Octets l → le n (num n l) ≡ take n l
unfolding num le
le-num zero l h f = refl
le-num (suc n) [] h f = absurd (omega arith)
le-num (suc n) (b ∷ l) h f =
    let e : le n (num n l) ≡ take n l = le-num n l (omega arith) (λ (k : ℕ). f (suc k)) in
    let d : (b + 256 * num n l) / 256 ≡ num n l = let z = f 0 in omega arith in
    let m : (b + 256 * num n l) % 256 ≡ b = let z = f 0 in omega arith in
    rw (m, d, e)

-- bytes of a list are bytes from any place on
pub octets_drop : (n : ℕ) (l : List ℕ) → Octets l → Octets (drop n l)
octets_drop n l f = λ (k : ℕ). rw (get_or-drop n l k 0) (f (n + k))

-- a run of stores that goes on where the one before it stopped
pub sets_then : (b₀ b b' a v : List ℕ) (at i : ℕ) → b ≡ sets b₀ at a → b' ≡ sets b i v → i ≡ at + length a → b' ≡ sets b₀ at (a ++ v)
sets_then b₀ b b' a v at i p q e = q ∙ rw (p, e) (sets-append a v b₀ at)

-- ---- the first n bytes, and zeros for those that are missing
pub padded_whole : (n : ℕ) (l : List ℕ) → n ≤ length l → padded n l ≡ take n l
unfolding padded
padded_whole zero l h = refl
padded_whole (suc n) [] h = absurd (omega arith)
padded_whole (suc n) (b ∷ l) h = ap (λ (t : List ℕ). b ∷ t) (padded_whole n l (omega arith))

padded_nil : (n : ℕ) → padded n [] ≡ replicate n 0
unfolding padded
padded_nil zero = refl
padded_nil (suc n) = ap (λ (t : List ℕ). 0 ∷ t) (padded_nil n)

sets-cons : {A : Type 0} (vs l : List A) (x : A) (i : ℕ) → sets (x ∷ l) (suc i) vs ≡ x ∷ sets l i vs
sets-cons [] l x i = refl
sets-cons (v ∷ vs) l x i = sets-cons vs (slice_set l i v) x (suc i)

pub padded_short : (n : ℕ) (l : List ℕ) → sets (replicate n 0) 0 l ≡ padded n l
unfolding padded
padded_short n [] = sym (padded_nil n)
padded_short zero (b ∷ l) = sets-out (b ∷ l) [] 0 (omega arith)
padded_short (suc n) (b ∷ l) = sets-cons l (replicate n 0) b 0 ∙ ap (λ (t : List ℕ). b ∷ t) (padded_short n l)

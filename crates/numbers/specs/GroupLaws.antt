-- Laws of spellings in so many groups: what is read is one, and each reads as its number.
use Rattle.std.specs.Prelude.{◌≡◌, ℕ, zero, suc, ◌+◌, ◌-◌, ◌*◌, ◌/◌, ◌%◌, ◌^◌, ◌<◌, ◌≤◌, max, Bool, true, false, ◌⊎◌, List, [], ◌∷◌, ◌++◌, length, take, nat_le, nat_lt, slice_index, refl}
use Rattle.std.proofs.Common.{sym, ap, ◌∙◌, inl, inr, arith, pow-suc, lt_of_lt_of_le, div-lt_iff_lt-mul, add-one, lit<, length-append, length-take, pow-add, pow_mono, take_at, lt-ltb, le-ltb, ltb-true, ltb-false, leb-true, leb-false}
use Rattle.numbers.specs.Pick.{pick}
use Rattle.numbers.specs.Leb128.{shortest, in_groups, value_of, carried, got, refused, read_in, groups}
use Rattle.numbers.specs.Leb128Laws.{by-groups, shortest-one, shortest-more, length-one, length_more, length_some, length_most, carried_stop, carried_on, read_at, Found}
use Rattle.numbers.specs.declared.leb128.NumberRefusal.TheVariants.{TooLong}

-- ---- a spelling in n groups
pub length-groups : (n x : ℕ) → length (in_groups n x) ≡ n
unfolding in_groups
length-groups zero x = refl
length-groups (suc zero) x = refl
length-groups (suc (suc n)) x = ap suc (length-groups (suc n) (x / 128))

value-groups : (n x : ℕ) → x < 128 ^ suc n → value_of (in_groups (suc n) x) ≡ x
unfolding in_groups value_of
value-groups zero x h = omega arith
value-groups (suc n) x h =
    let e : value_of (in_groups (suc n) (x / 128)) ≡ x / 128 = value-groups n (x / 128) ((div-lt_iff_lt-mul (lit< tt)).1 (rw pow-suc at h)) in
    rw e (omega arith)

carried-groups : (most n x : ℕ) (rest : List ℕ) → n < most → x < 128 ^ suc n → carried most (in_groups (suc n) x ++ rest) ≡ n
unfolding in_groups
carried-groups most zero x rest m h = carried_stop most x rest (omega arith)
carried-groups zero (suc n) x rest m h = absurd (omega arith)
carried-groups (suc most) (suc n) x rest m h =
    carried_on most (x % 128 + 128) (in_groups (suc n) (x / 128) ++ rest) (omega arith)
    ∙ ap suc (carried-groups most n (x / 128) rest (omega arith) ((div-lt_iff_lt-mul (lit< tt)).1 (rw pow-suc at h)))

-- it reads as its number, with what follows left, where that is below the limit
pub reads_spelling : (most limit at n x : ℕ) (rest : List ℕ) → n < most → x < 128 ^ suc n
    → read_in most limit at (in_groups (suc n) x ++ rest) ≡ pick (nat_lt x limit) (got x (suc n)) (refused TooLong)
unfolding pick
reads_spelling most limit at n x rest m h =
    let e : value_of (take (n + 1) (in_groups (suc n) x ++ rest)) ≡ x = ap value_of (take_at (in_groups (suc n) x) rest (n + 1) (length-groups (suc n) x ∙ sym (add-one n))) ∙ value-groups n x h in
    let k : n < length (in_groups (suc n) x ++ rest) = omega (arith, length-append (in_groups (suc n) x) rest, length-groups (suc n) x) in
    read_at most limit at n (in_groups (suc n) x ++ rest) (carried-groups most n x rest m h) m
    ∙ rw (e, lt-ltb n (length (in_groups (suc n) x ++ rest)) k, add-one n)

pub reads-groups : (most limit at n x : ℕ) (rest : List ℕ) → n < most → x < 128 ^ suc n → x < limit
    → read_in most limit at (in_groups (suc n) x ++ rest) ≡ got x (suc n)
unfolding pick
reads-groups most limit at n x rest m h l = reads_spelling most limit at n x rest m h ∙ rw (lt-ltb x limit l)

pub reads_over : (most limit at n x : ℕ) (rest : List ℕ) → n < most → x < 128 ^ suc n → limit ≤ x
    → read_in most limit at (in_groups (suc n) x ++ rest) ≡ refused TooLong
unfolding pick
reads_over most limit at n x rest m h l = reads_spelling most limit at n x rest m h ∙ rw (le-ltb x limit l)

-- ---- the shortest spelling is one
more-groups : (n x : ℕ) → 1 ≤ n → in_groups (suc n) x ≡ (x % 128 + 128) ∷ in_groups n (x / 128)
unfolding in_groups
more-groups zero x h = absurd (omega arith)
more-groups (suc n) x h = refl

pub shortest-groups : (x : ℕ) → shortest x ≡ in_groups (length (shortest x)) x
unfolding in_groups
shortest-groups =
    by-groups (λ x. shortest x ≡ in_groups (length (shortest x)) x)
    (λ x h. shortest-one x h ∙ ap (λ (n : ℕ). in_groups n x) (sym (length-one x h)))
    (λ x h ih. shortest-more x h ∙ ap (λ (l : List ℕ). (x % 128 + 128) ∷ l) ih
    ∙ sym (more-groups (length (shortest (x / 128))) x (length_some (x / 128))) ∙ ap (λ (n : ℕ). in_groups n x) (sym (length_more x h)))

pub shortest-holds : (x : ℕ) → x < 128 ^ length (shortest x)
shortest-holds =
    by-groups (λ x. x < 128 ^ length (shortest x))
    (λ x h. rw (length-one x h) (omega arith))
    (λ x h ih. rw (length_more x h, pow-suc) (omega arith))

-- ---- widths
pub sevens : (n : ℕ) → 128 ^ n ≡ 2 ^ (7 * n)
sevens zero = refl
sevens (suc n) =
    let e : 7 * n + 7 ≡ 7 * suc n = omega arith in
    pow-suc 128 n ∙ ap (λ (x : ℕ). x * 128) (sevens n) ∙ sym (pow-add 2 (7 * n) 7) ∙ ap (λ (x : ℕ). 2 ^ x) e

pub in_width : (w x : ℕ) → 0 < w → x < 2 ^ w → length (shortest x) ≤ groups w
in_width w x p h =
    let k = groups w - 1 in
    let e : suc k ≡ groups w = omega arith in
    let m : 2 ^ w ≤ 2 ^ (7 * suc k) = pow_mono {i = w} {j = 7 * suc k} (omega arith) in
    let l : length (shortest x) ≤ suc k = length_most k x (rw sevens (lt_of_lt_of_le h m)) in
    omega arith

-- one group for seven bits, up to the highest that is set
pub groups_to-top : (x top : ℕ) → 2 ^ top ≤ max x 1 → max x 1 < 2 * 2 ^ top → top / 7 + 1 ≡ length (shortest x)
groups_to-top x top a b = go (nat_le n (top / 7)) refl
  where
    n : ℕ
    n = length (shortest x)

    most : n ≤ suc (top / 7)
    most =
        let s : 2 * 2 ^ top ≡ 2 ^ suc top = omega (arith, pow-suc 2 top) in
        let m : 2 ^ suc top ≤ 2 ^ (7 * suc (top / 7)) = pow_mono {i = suc top} {j = 7 * suc (top / 7)} (omega arith) in
        length_most (top / 7) x (rw sevens (omega (arith, s, m)))

    go : (c : Bool) → nat_le n (top / 7) ≡ c → top / 7 + 1 ≡ n
    go false e = omega (arith, most, leb-false n (top / 7) e)
    go true e =
        let l = leb-true n (top / 7) e in
        let i = length_some x in
        let seven : 2 ^ 7 ≤ 2 ^ top = pow_mono {i = 7} {j = top} (omega arith) in
        let fits : 2 ^ (7 * n) ≤ 2 ^ top = pow_mono {i = 7 * n} {j = top} (omega arith) in
        let under : x < 2 ^ (7 * n) = rw sevens at (shortest-holds x) in
        absurd (omega arith)

-- ---- what is read is the spelling of its number in so many groups
pub value-below : (t : List ℕ) → value_of t < 128 ^ length t
unfolding value_of
value-below [] = lit< tt
value-below (b ∷ bs) = rw pow-suc (omega (arith, value-below bs))

pub found_below : (most limit : ℕ) (t : List ℕ) (value used : ℕ) → Found most limit t value used → value < 128 ^ used
found_below most limit t value used f =
    let e : length (take used t) ≡ used = length-take used t ∙ (omega (arith, f.present)) in
    rw f.is (rw e at (value-below (take used t)))

-- n groups after x are their number spelt again, and so are those and x
unfoldable pub Again : ℕ → List ℕ → Type 0
Again n t = take (suc n) t ≡ in_groups (suc n) (value_of (take (suc n) t))

again-one : (x : ℕ) (t : List ℕ) → x < 128 → Again 0 (x ∷ t)
unfolding Again in_groups value_of
again-one x t h =
    let e : x % 128 + 128 * 0 ≡ x = omega arith in
    rw e

again-more : (n x : ℕ) (t : List ℕ) → 128 ≤ x → x < 256 → Again n t → Again (suc n) (x ∷ t)
unfolding Again in_groups value_of
again-more n x t h l ih =
    let e : (x % 128 + 128 * value_of (take (suc n) t)) % 128 + 128 ≡ x = omega arith in
    let f : (x % 128 + 128 * value_of (take (suc n) t)) / 128 ≡ value_of (take (suc n) t) = omega arith in
    rw (e, f) (ap (λ (r : List ℕ). x ∷ r) ih)

pub again : (most : ℕ) (t : List ℕ) → ((k : ℕ) → slice_index t k < 256) → carried most t < most → carried most t < length t → Again (carried most t) t
again zero t b h l = absurd (omega arith)
again (suc most) [] b h l = absurd (omega arith)
again (suc most) (x ∷ t) b h l = go (nat_le 128 x) refl (again most t (λ k. b (suc k)))
  where
    go : (c : Bool) → nat_le 128 x ≡ c → (carried most t < most → carried most t < length t → Again (carried most t) t) → Again (carried (suc most) (x ∷ t)) (x ∷ t)
    go false e ih = rw (carried_stop (suc most) x t (leb-false 128 x e)) (again-one x t (leb-false 128 x e))
    go true e ih =
        let c : carried (suc most) (x ∷ t) ≡ suc (carried most t) = carried_on most x t (leb-true 128 x e) in
        rw c (again-more (carried most t) x t (leb-true 128 x e) (b 0) (ih (omega (arith, c, h)) (omega (arith, c, l))))

pub found-groups : (most limit : ℕ) (t : List ℕ) (value used : ℕ) → ((k : ℕ) → slice_index t k < 256) → Found most limit t value used → take used t ≡ in_groups used value
unfolding Again
found-groups most limit t value used b f =
    let e : used ≡ suc (carried most t) = omega (arith, f.last) in
    rw (f.is, e) (again most t b (omega (arith, f.allowed)) (omega (arith, f.present)))

-- ---- a spelling whose last group is not zero, or that has one only, is the shortest
zero_last : (n : ℕ) → slice_index (in_groups (suc n) 0) n ≡ 0
unfolding in_groups
zero_last zero = refl
zero_last (suc n) = zero_last n

pub unpadded : (n x : ℕ) → x < 128 ^ suc n → (n ≡ 0) ⊎ (0 < slice_index (in_groups (suc n) x) n) → in_groups (suc n) x ≡ shortest x
unfolding in_groups
unpadded zero x h u = sym (shortest-one x (omega arith))
unpadded (suc n) x h (inl z) = absurd (omega arith)
unpadded (suc n) x h (inr u) = go (nat_lt x 128) refl (unpadded n (x / 128) ((div-lt_iff_lt-mul (lit< tt)).1 (rw pow-suc at h)) (inr u))
  where
    go : (c : Bool) → nat_lt x 128 ≡ c → in_groups (suc n) (x / 128) ≡ shortest (x / 128) → in_groups (suc (suc n)) x ≡ shortest x
    go true e ih =
        let k : x < 128 = ltb-true x 128 e in
        let z : x / 128 ≡ 0 = omega arith in
        absurd (omega (arith, rw z at u, zero_last n))
    go false e ih =
        ap (λ (l : List ℕ). (x % 128 + 128) ∷ l) ih ∙ sym (shortest-more x (ltb-false x 128 e))

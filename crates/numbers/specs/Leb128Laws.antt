-- Laws of unsigned LEB128: what the calls' proofs and the round trips stand on.
use Rattle.std.specs.Prelude.{◌≡◌, ℕ, zero, suc, ◌+◌, ◌/◌, ◌%◌, ◌^◌, ◌<◌, ◌≤◌, Bool, true, false, List, [], ◌∷◌, length, take, drop, nat_lt, Ok, Err, refl}
use Rattle.std.proofs.Common.{sym, ap, ◌∙◌, arith, div-lt_iff_lt-mul, pow-suc, lit<, length-drop, lt-ltb, le-ltb, le-leb, ltb-true, ltb-false}
use Rattle.std.proofs.lemmas.Bool.{lt-leb}
use Rattle.numbers.specs.Pick.{pick}
use Rattle.numbers.specs.ReadingLaws.{got-value, got-used, not_got}
use Rattle.numbers.specs.Leb128.{spell_in, shortest, value_of, carried, Reading, got, refused, read_in, groups, read_of, read_as}
use Rattle.numbers.specs.declared.leb128.NumberRefusal.TheVariants.{CutShort, TooLong}

spell_one : (turns x : ℕ) → x < 128 → spell_in turns x ≡ x ∷ []
unfolding spell_in pick
spell_one zero x h = refl
spell_one (suc turns) x h = rw (lt-ltb x 128 h)

spell_more : (turns x : ℕ) → 128 ≤ x → spell_in (suc turns) x ≡ (x % 128 + 128) ∷ spell_in turns (x / 128)
unfolding spell_in pick
spell_more turns x h = rw (le-ltb x 128 h)

-- more turns than x spell the same
enough : (f g x : ℕ) → x ≤ f → x ≤ g → spell_in f x ≡ spell_in g x
enough zero g x p q = spell_one zero x (omega arith) ∙ sym (spell_one g x (omega arith))
enough (suc f) zero x p q = spell_one (suc f) x (omega arith) ∙ sym (spell_one zero x (omega arith))
enough (suc f) (suc g) x p q = go (nat_lt x 128) refl (enough f g (x / 128))
  where
    go : (b : Bool) → nat_lt x 128 ≡ b → (x / 128 ≤ f → x / 128 ≤ g → spell_in f (x / 128) ≡ spell_in g (x / 128)) → spell_in (suc f) x ≡ spell_in (suc g) x
    go true t ih = spell_one (suc f) x (ltb-true x 128 t) ∙ sym (spell_one (suc g) x (ltb-true x 128 t))
    go false t ih =
        let h : 128 ≤ x = ltb-false x 128 t in
        spell_more f x h ∙ ap (λ (bs : List ℕ). (x % 128 + 128) ∷ bs) (ih (omega arith) (omega arith)) ∙ sym (spell_more g x h)

-- one group, and one group more
pub shortest-one : (x : ℕ) → x < 128 → shortest x ≡ x ∷ []
unfolding shortest
shortest-one x h = spell_one x x h

pub shortest-more : (x : ℕ) → 128 ≤ x → shortest x ≡ (x % 128 + 128) ∷ shortest (x / 128)
unfolding shortest
shortest-more zero h = absurd (omega arith)
shortest-more (suc x) h =
    spell_more x (suc x) h ∙ ap (λ (bs : List ℕ). (suc x % 128 + 128) ∷ bs) (enough x (suc x / 128) (suc x / 128) (omega arith) (omega arith))

-- induction over the groups of a number
pub by-groups : (P : ℕ → Type 0) → ((x : ℕ) → x < 128 → P x) → ((x : ℕ) → 128 ≤ x → P (x / 128) → P x) → (x : ℕ) → P x
by-groups P one more x = within x x (omega arith)
  where
    within : (turns x : ℕ) → x ≤ turns → P x
    within zero x h = one x (omega arith)
    within (suc turns) x h = go (nat_lt x 128) refl (within turns (x / 128))
      where
        go : (b : Bool) → nat_lt x 128 ≡ b → (x / 128 ≤ turns → P (x / 128)) → P x
        go true t ih = one x (ltb-true x 128 t)
        go false t ih = more x (ltb-false x 128 t) (let h' : 128 ≤ x = ltb-false x 128 t in ih (omega arith))

pub length-one : (x : ℕ) → x < 128 → length (shortest x) ≡ 1
length-one x h = ap length (shortest-one x h)

pub length_more : (x : ℕ) → 128 ≤ x → length (shortest x) ≡ suc (length (shortest (x / 128)))
length_more x h = ap length (shortest-more x h)

pub length_some : (x : ℕ) → 1 ≤ length (shortest x)
length_some = by-groups (λ x. 1 ≤ length (shortest x)) (λ x h. omega (arith, length-one x h)) (λ x h ih. omega (arith, length_more x h))

-- as many groups as are enough hold the spelling
pub length_most : (k x : ℕ) → x < 128 ^ suc k → length (shortest x) ≤ suc k
length_most zero x h = omega (arith, length-one x (omega arith))
length_most (suc k) x h = go (nat_lt x 128) refl (length_most k (x / 128))
  where
    go : (b : Bool) → nat_lt x 128 ≡ b → (x / 128 < 128 ^ suc k → length (shortest (x / 128)) ≤ suc k) → length (shortest x) ≤ suc (suc k)
    go true t ih = omega (arith, length-one x (ltb-true x 128 t))
    go false t ih =
        omega (arith, length_more x (ltb-false x 128 t), ih ((div-lt_iff_lt-mul (lit< tt)).1 (rw pow-suc at h)))

-- bytes that carry on
pub carried-end : (k : ℕ) → carried k [] ≡ 0
unfolding carried
carried-end zero = refl
carried-end (suc k) = refl

pub carried_stop : (k b : ℕ) (bs : List ℕ) → b < 128 → carried k (b ∷ bs) ≡ 0
unfolding carried pick
carried_stop zero b bs h = refl
carried_stop (suc k) b bs h = rw (lt-leb 128 b h)

pub carried_on : (k b : ℕ) (bs : List ℕ) → 128 ≤ b → carried (suc k) (b ∷ bs) ≡ suc (carried k bs)
unfolding carried pick
carried_on k b bs h = rw (le-leb 128 b h)

-- what is read where n bytes carry on
pub read_at : (most limit at n : ℕ) (t : List ℕ) → carried most t ≡ n → n < most
    → read_in most limit at t ≡ pick (nat_lt n (length t)) (pick (nat_lt (value_of (take (n + 1) t)) limit) (got (value_of (take (n + 1) t)) (n + 1)) (refused TooLong)) (refused (CutShort (record { at = at; needed = n + 1; present = n })))
unfolding read_in pick
read_at most limit at n t e h = rw (e, lt-ltb n most h)

-- what a number that was read says: the bytes used are those that carry on and one more, all there, and they are the number, below the limit
pub record Found (most limit : ℕ) (t : List ℕ) (value used : ℕ) : Type 0 where
  pub last : used ≡ carried most t + 1
  pub allowed : used ≤ most
  pub present : used ≤ length t
  pub is : value ≡ value_of (take used t)
  pub small : value < limit

pub found : (most limit at : ℕ) (t : List ℕ) (value used : ℕ) → read_in most limit at t ≡ got value used → Found most limit t value used
unfolding read_in pick
found most limit at t value used = go (nat_lt n most) (nat_lt n (length t)) (nat_lt (value_of (take (n + 1) t)) limit) refl refl refl
  where
    n : ℕ
    n = carried most t

    go : (a b c : Bool) → nat_lt n most ≡ a → nat_lt n (length t) ≡ b → nat_lt (value_of (take (n + 1) t)) limit ≡ c
        → pick a (pick b (pick c (got (value_of (take (n + 1) t)) (n + 1)) (refused TooLong)) (refused (CutShort (record { at = at; needed = n + 1; present = n })))) (refused TooLong) ≡ got value used
        → Found most limit t value used
    go true true true p q r e =
        let u : n + 1 ≡ used = got-used e in
        let v : value_of (take (n + 1) t) ≡ value = got-value e in
        record {
          last = sym u;
          allowed = omega (arith, ltb-true n most p);
          present = omega (arith, ltb-true n (length t) q);
          is = sym v ∙ ap (λ (x : ℕ). value_of (take x t)) u;
          small = omega (arith, ltb-true (value_of (take (n + 1) t)) limit r);
        }
    go true true false p q r e = not_got e
    go true false c p q r e = not_got e
    go false b c p q r e = not_got e

-- a number that was read lies whole in the bytes
pub within : (w at : ℕ) (s : List ℕ) (value used : ℕ) → read_of w at s ≡ got value used → at + used ≤ length s
within w at s value used e =
    let f = found (groups w) (2 ^ w) at (drop at s) value used e in
    omega (arith, f.last, f.present, length-drop at s)

-- at ℕ itself what is read stays as it is
pub read_as-same : (r : Reading) → read_as (λ x. x) r ≡ r
unfolding read_as
read_as-same (Ok r) = refl
read_as-same (Err why) = refl

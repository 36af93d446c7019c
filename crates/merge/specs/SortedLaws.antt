-- Laws of the order of entries: it is total, and goes through.
use Rattle.std.specs.Prelude.{ℕ, ◌<◌, ◌≤◌, List, [], ◌∷◌, Bool, ltb, eqb}
use Rattle.std.proofs.Math.Path.{◌≡◌, refl}
use Rattle.std.proofs.Common.{sym, ap, subst, ◌∙◌}
use Rattle.std.proofs.Math.Bool.{true, false}
use native.Mathlib.Omega.{arith}
use borrow.Author.Tests.{ltb-true, ltb-false, eqb-true, eqb-false, le-ltb}
use Rattle.numbers.specs.Pick.{pick}
use Rattle.frames.specs.Scan.{part_at}
use Rattle.merge.specs.declared.heads.MergeEntry.{MergeEntry}
use Rattle.std.specs.declared.cmp.Ordering.{Ordering}
use Rattle.std.specs.declared.cmp.Ordering.TheVariants.{Less, Equal, Greater}
use Rattle.merge.specs.Order.{order_of}
use Rattle.merge.specs.Merge.{ranked, ahead}
use Rattle.merge.specs.Sorted.{Below, short, here, later, Leq, by_key, by-seqno, by_part}

pub below_trans : {a b c : List ℕ} → Below a b → Below b c → Below a c
below_trans short (here h) = short
below_trans short (later r) = short
below_trans (here {x} {y} h) (here {y = z} g) = let l : x < z = omega arith in here l
below_trans (here h) (later r) = here h
below_trans (later r) (here g) = here g
below_trans (later r) (later s) = later (below_trans r s)

-- what the comparison says is so
pub data Compared (a b : List ℕ) : Ordering → Type 0 where
  less : Below a b → Compared a b Less
  same : a ≡ b → Compared a b Equal
  more : Below b a → Compared a b Greater

tails : (x y : ℕ) (a b : List ℕ) (o : Ordering) → x ≡ y → Compared a b o → Compared (x ∷ a) (y ∷ b) o
tails x y a b o e c = subst (λ (z : ℕ). Compared (x ∷ a) (z ∷ b) o) e (go c)
  where
    go : {w : Ordering} → Compared a b w → Compared (x ∷ a) (x ∷ b) w
    go (less r) = less (later r)
    go (same q) = same (ap (λ (l : List ℕ). x ∷ l) q)
    go (more r) = more (later r)

step-view : (x y : ℕ) (a b : List ℕ) (o : Ordering) → Compared a b o → (s t : Bool) → ltb x y ≡ s → ltb y x ≡ t → Compared (x ∷ a) (y ∷ b) (pick s Less (pick t Greater o))
unfolding pick
step-view x y a b o c true t p q = less (here (ltb-true _ _ p))
step-view x y a b o c false true p q = more (here (ltb-true _ _ q))
step-view x y a b o c false false p q =
    let f : y ≤ x = ltb-false _ _ p in
    let g : x ≤ y = ltb-false _ _ q in
    tails x y a b o (omega arith) c

pub view : (a b : List ℕ) → Compared a b (order_of a b)
unfolding order_of
view [] [] = same refl
view [] (y ∷ b) = less short
view (x ∷ a) [] = more short
view (x ∷ a) (y ∷ b) = step-view x y a b (order_of a b) (view a b) _ _ refl refl

pub leq_trans : {image : List ℕ} {x y z : MergeEntry} → Leq image x y → Leq image y z → Leq image x z
leq_trans (by_key r) (by_key s) = by_key (below_trans r s)
leq_trans {image} {x} (by_key r) (by-seqno e l) = by_key (subst (Below (part_at image x.key)) e r)
leq_trans {image} {x} (by_key r) (by_part e f l) = by_key (subst (Below (part_at image x.key)) e r)
leq_trans {image} {x} {y} {z} (by-seqno e l) (by_key s) = by_key (subst (λ (k : List ℕ). Below k (part_at image z.key)) (sym e) s)
leq_trans (by-seqno e l) (by-seqno f k) = by-seqno (e ∙ f) (omega arith)
leq_trans (by-seqno e l) (by_part f g k) = by-seqno (e ∙ f) (omega arith)
leq_trans {image} {x} {y} {z} (by_part e g l) (by_key s) = by_key (subst (λ (k : List ℕ). Below k (part_at image z.key)) (sym e) s)
leq_trans (by_part e g l) (by-seqno f k) = by-seqno (e ∙ f) (omega arith)
leq_trans (by_part e g l) (by_part f h k) = by_part (e ∙ f) (g ∙ h) (omega arith)

module _ (image : List ℕ) (x y : MergeEntry) where
  ahead-pick : part_at image x.key ≡ part_at image y.key → (b : Bool) → eqb x.seqno y.seqno ≡ b
      → pick b (ltb x.part y.part) (ltb y.seqno x.seqno) ≡ true → Leq image x y
  unfolding pick
  ahead-pick e true q h = let l : x.part < y.part = ltb-true _ _ h in by_part e (eqb-true _ _ q) (omega arith)
  ahead-pick e false q h = by-seqno e (ltb-true _ _ h)

  ahead-by : (o : Ordering) → Compared (part_at image x.key) (part_at image y.key) o → ranked o x.seqno x.part y.seqno y.part ≡ true → Leq image x y
  unfolding ranked
  ahead-by o (less r) h = by_key r
  ahead-by o (same e) h = ahead-pick e _ refl h
  ahead-by o (more r) h = let z : ◌≡◌ {A = ℕ} 0 1 = cc in absurd (omega arith)

  -- an entry that goes first is in order
  pub ahead_leq : ahead image x y ≡ true → Leq image x y
  unfolding ahead
  ahead_leq h = ahead-by _ (view (part_at image x.key) (part_at image y.key)) h

  behind-pick : part_at image x.key ≡ part_at image y.key → (b : Bool) → eqb y.seqno x.seqno ≡ b
      → pick b (ltb y.part x.part) (ltb x.seqno y.seqno) ≡ false → Leq image x y
  unfolding pick
  behind-pick e true q h = by_part e (sym (eqb-true _ _ q)) (ltb-false _ _ h)
  behind-pick e false q h =
      let n = eqb-false y.seqno x.seqno q in
      let l : y.seqno ≤ x.seqno = ltb-false _ _ h in
      by-seqno e (omega (arith, n))

  behind-by : (o : Ordering) → Compared (part_at image y.key) (part_at image x.key) o → ranked o y.seqno y.part x.seqno x.part ≡ false → Leq image x y
  unfolding ranked
  behind-by o (less r) h = let z : ◌≡◌ {A = ℕ} 0 1 = cc in absurd (omega arith)
  behind-by o (same e) h = behind-pick (sym e) _ refl h
  behind-by o (more r) h = by_key r

  -- one that the other does not go before is in order too
  pub behind_leq : ahead image y x ≡ false → Leq image x y
  unfolding ahead
  behind_leq h = behind-by _ (view (part_at image y.key) (part_at image x.key)) h

-- no string is below one that is below it: over two pairs, so that each can be taken apart
below_apart : {a b c d : List ℕ} → Below a b → Below c d → a ≡ d → b ≡ c → ⊥
below_apart short short p q = cc
below_apart short (here h) p q = cc
below_apart short (later s) p q = cc
below_apart (here h) short p q = cc
below_apart (here {x = x} {y = y} h) (here {x = x'} {y = y'} g) p q =
    let e : x ≡ y' = cc in
    let f : y ≡ x' = cc in
    omega arith
below_apart (here {x = x} {y = y} h) (later {x = x'} s) p q =
    let e : x ≡ x' = cc in
    let f : y ≡ x' = cc in
    omega arith
below_apart (later r) short p q = cc
below_apart (later {x = x} r) (here {x = x'} {y = y'} g) p q =
    let e : x ≡ y' = cc in
    let f : x ≡ x' = cc in
    omega arith
below_apart (later {a = a} {b = b} r) (later {a = a'} {b = b'} s) p q =
    let e : a ≡ b' = cc in
    let f : b ≡ a' = cc in
    below_apart r s e f

below_irreflexive : {a b : List ℕ} → Below a b → Below b a → ⊥
below_irreflexive r s = below_apart r s refl refl

below-same : {a b : List ℕ} → a ≡ b → Below a b → ⊥
below-same {a} {b} e r = below_irreflexive r (subst (λ (k : List ℕ). Below k a) e (subst (Below a) (sym e) r))

module _ (image : List ℕ) (x y : MergeEntry) where
  part-pick : (b : Bool) → eqb y.seqno x.seqno ≡ b → y.seqno ≡ x.seqno → x.part ≤ y.part → pick b (ltb y.part x.part) (ltb x.seqno y.seqno) ≡ false
  unfolding pick
  part-pick true q e l = le-ltb _ _ l
  part-pick false q e l = absurd (eqb-false _ _ q e)

  seqno-pick : (b : Bool) → eqb y.seqno x.seqno ≡ b → y.seqno < x.seqno → pick b (ltb y.part x.part) (ltb x.seqno y.seqno) ≡ false
  unfolding pick
  seqno-pick true q l = let e : y.seqno ≡ x.seqno = eqb-true _ _ q in absurd (omega arith)
  seqno-pick false q l = let g : y.seqno ≤ x.seqno = omega arith in le-ltb _ _ g

  leq_by : (o : Ordering) → Compared (part_at image y.key) (part_at image x.key) o → Leq image x y → ranked o y.seqno y.part x.seqno x.part ≡ false
  unfolding ranked
  leq_by o (more r) h = refl
  leq_by o (less r) (by_key s) = absurd (below_irreflexive r s)
  leq_by o (less r) (by-seqno e l) = absurd (below-same (sym e) r)
  leq_by o (less r) (by_part e f l) = absurd (below-same (sym e) r)
  leq_by o (same q) (by_key s) = absurd (below-same (sym q) s)
  leq_by o (same q) (by-seqno e l) = seqno-pick _ refl l
  leq_by o (same q) (by_part e f l) = part-pick _ refl (sym f) l

  -- what is in order is not gone before
  pub leq_behind : Leq image x y → ahead image y x ≡ false
  unfolding ahead
  leq_behind h = leq_by _ (view (part_at image y.key) (part_at image x.key)) h

module _ (image : List ℕ) (x y z : MergeEntry) where
  pub behind_trans : ahead image x y ≡ false → ahead image y z ≡ false → ahead image x z ≡ false
  behind_trans f g = leq_behind image z x (leq_trans (behind_leq image z y g) (behind_leq image y x f))

  trans_by : (b : Bool) → ahead image x z ≡ b → ahead image x y ≡ true → ahead image y z ≡ true → ahead image x z ≡ true
  trans_by true q f g = q
  trans_by false q f g =
      let h = leq_behind image z y (leq_trans (behind_leq image z x q) (ahead_leq image x y f)) in
      let o : ◌≡◌ {A = Bool} true false = sym g ∙ h in
      let n : ◌≡◌ {A = ℕ} 0 1 = cc in absurd (omega arith)

  pub ahead_trans : ahead image x y ≡ true → ahead image y z ≡ true → ahead image x z ≡ true
  ahead_trans f g = trans_by _ refl f g

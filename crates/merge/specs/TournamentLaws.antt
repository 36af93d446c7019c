-- Laws of the tournament's nodes, as the loops over them need.
use Prim.Native.Nat.{ℕ, suc, ◌+◌, ◌*◌, ◌-◌, ◌/◌, ◌<◌, ◌≤◌}
use Rattle.std.specs.Prelude.{◌≡◌, refl, List, ◌∷◌, Bool, true, false, eqb, length, take, get_or, set, replicate, Option, Some, None}
use Rattle.std.specs.Option.{option_or}
use Rattle.std.specs.Result.{result_err}
use Rattle.std.proofs.Common.{sym, ap, ap₂, ◌∙◌, add-one, eqb-true, length-set, drop_of_length-le, get_or-set_same, get_or-set_other, get_or-take}
use native.Mathlib.Omega.{arith}
use Rattle.std.proofs.lemmas.Bool.{eqb-false}
use Rattle.std.proofs.lemmas.List.{get_or-replicate}
use Rattle.std.proofs.Math.ListN.{drop}
use Rattle.std.proofs.Math.Seq.{drop-cons, length-take-le}
use Rattle.merge.specs.declared.heads.Head.{Head}
use Rattle.merge.specs.declared.parts.Part.{Part}
use Rattle.merge.specs.declared.parts.MergeScanner.{MergeScanner}
use Rattle.merge.specs.declared.refusals.MergeRefusal.{MergeRefusal}
use Rattle.merge.specs.Parts.{no_part, table_ok}
use Rattle.merge.specs.Merge.{Foremost, head_of}
use Rattle.merge.specs.Pass.{kept, refusal_from, winner, node_at, Won, Settled, Leaves, Going}

-- node j set to the winner of the two below it
module _ (image : List ℕ) (t : List (Option Head)) (j : ℕ) (size : length t ≡ 32) (low : 0 < j) (high : j < 16) (x y z : Option Head) (p : x ≡ node_at t (2 * j)) (q : y ≡ node_at t (2 * j + 1)) (e : z ≡ winner image x y) where
  other : (k : ℕ) → (k ≡ j → ⊥) → node_at (set t j z) k ≡ node_at t k
  other k n = get_or-set_other t j k z None n

  -- is won
  pub won-here : Won image (set t j z) j
  won-here =
      get_or-set_same t j z None (omega arith) ∙ e ∙ ap₂ (winner image) p q
      ∙ sym (ap₂ (winner image) (other (2 * j) (λ d. omega arith)) (other (2 * j + 1) (λ d. omega arith)))

  -- and every other that was won, but the one above it, is still
  pub won-there : (i : ℕ) → 0 < i → (i ≡ j → ⊥) → (i ≡ j / 2 → ⊥) → Won image t i → Won image (set t j z) i
  won-there i l n m w =
      other i n ∙ w ∙ sym (ap₂ (winner image) (other (2 * i) (λ d. m (omega arith))) (other (2 * i + 1) (λ d. m (omega arith))))

  pub leaves-same : (k : ℕ) → 16 ≤ k → node_at (set t j z) k ≡ node_at t k
  leaves-same k h = other k (λ d. omega arith)

  by-node : (b : Bool) (i : ℕ) → eqb i j ≡ b → 0 < i → (i ≡ j / 2 → ⊥) → ((i ≡ j → ⊥) → Won image t i) → Won image (set t j z) i
  by-node true i g l m w = let d : i ≡ j = eqb-true _ _ g in rw d won-here
  by-node false i g l m w = let n = eqb-false i j g in won-there i l n m (w n)

  -- so the hole moves up
  pub hole_up : ((i : ℕ) → 0 < i → i < 16 → (i ≡ j → ⊥) → Won image t i) → (i : ℕ) → 0 < i → i < 16 → (i ≡ j / 2 → ⊥) → Won image (set t j z) i
  hole_up w i l h m = by-node _ i refl l m (w i l h)

  -- and what was won from the next on is won from j on
  pub won_down : ((i : ℕ) → j < i → i < 16 → Won image t i) → (i : ℕ) → j ≤ i → i < 16 → Won image (set t j z) i
  won_down w i l h = by-node _ i refl (omega arith) (λ d. omega arith) (λ n. w i (omega (arith, n)) h)

-- the loop that builds: from node j on every node is won
pub record Building (image : List ℕ) (t₀ t : List (Option Head)) (j : ℕ) : Type 0 where
  pub size : length t ≡ 32
  pub low : 0 < j
  pub high : j ≤ 16
  pub won : (i : ℕ) → j ≤ i → i < 16 → Won image t i
  pub same : (k : ℕ) → 16 ≤ k → node_at t k ≡ node_at t₀ k

pub building_starts : (image : List ℕ) (t : List (Option Head)) → length t ≡ 32 → Building image t t 16
building_starts image t h = record { size = h; low = omega arith; high = omega arith; won = λ i l g. absurd (omega arith); same = λ k g. refl }

pub building_on : (image : List ℕ) (t₀ t : List (Option Head)) (j : ℕ) → Building image t₀ t j → 1 < j → (t' : List (Option Head)) → t' ≡ set t (j - 1) (winner image (node_at t (2 * (j - 1))) (node_at t (2 * (j - 1) + 1))) → Building image t₀ t' (j - 1)
building_on image t₀ t j b h t' e =
    let n = b.size in
    let g = b.high in
    let z = winner image (node_at t (2 * (j - 1))) (node_at t (2 * (j - 1) + 1)) in
    rw e record {
      size = length-set t (j - 1) z ∙ n;
      low = omega arith;
      high = omega arith;
      won = won_down image t (j - 1) n (omega arith) (omega arith) _ _ z refl refl refl (λ i l d. b.won i (omega arith) d);
      same = λ k d. leaves-same image t (j - 1) n (omega arith) (omega arith) _ _ z refl refl refl k d ∙ b.same k d;
    }

-- the loop that climbs: every node but j is won
pub record Climbing (image : List ℕ) (t₀ t : List (Option Head)) (j : ℕ) : Type 0 where
  pub size : length t ≡ 32
  pub high : j < 16
  pub won : (i : ℕ) → 0 < i → i < 16 → (i ≡ j → ⊥) → Won image t i
  pub same : (k : ℕ) → 16 ≤ k → node_at t k ≡ node_at t₀ k

pub climbing_starts : (image : List ℕ) (t : List (Option Head)) (j : ℕ) → length t ≡ 32 → j < 16 → ((i : ℕ) → 0 < i → i < 16 → (i ≡ j → ⊥) → Won image t i) → Climbing image t t j
climbing_starts image t j h g w = record { size = h; high = g; won = w; same = λ k d. refl }

pub climbing_on : (image : List ℕ) (t₀ t : List (Option Head)) (j : ℕ) → Climbing image t₀ t j → 0 < j → (t' : List (Option Head)) → t' ≡ set t j (winner image (node_at t (2 * j)) (node_at t (2 * j + 1))) → Climbing image t₀ t' (j / 2)
climbing_on image t₀ t j b h t' e =
    let n = b.size in
    let g = b.high in
    let z = winner image (node_at t (2 * j)) (node_at t (2 * j + 1)) in
    rw e record {
      size = length-set t j z ∙ n;
      high = omega arith;
      won = hole_up image t j n h g _ _ z refl refl refl b.won;
      same = λ k d. leaves-same image t j n h g _ _ z refl refl refl k d ∙ b.same k d;
    }

-- the loop that fills: the leaves below i are the heads
pub record Filling (image : List ℕ) (n : ℕ) (ps : List Part) (t : List (Option Head)) (f : Option MergeRefusal) (i : ℕ) : Type 0 where
  pub few : n ≤ 16
  pub size : length t ≡ 32
  pub refusal : option_or f (refusal_from image i (drop i (take n ps))) ≡ refusal_from image 0 (take n ps)
  pub leaf : (k : ℕ) → k < i → node_at t (16 + k) ≡ kept (head_of image k (get_or ps k no_part))
  pub rest : (k : ℕ) → i ≤ k → k < 16 → node_at t (16 + k) ≡ None

pub filling_starts : (image : List ℕ) (n : ℕ) (ps : List Part) → n ≤ 16 → Filling image n ps (replicate 32 None) None 0
filling_starts image n ps few = record {
  few = few;
  size = refl;
  refusal = refl;
  leaf = λ k a. absurd (omega arith);
  rest = λ k a b. get_or-replicate 32 (16 + k) None None (omega arith);
}

or-none : (a : Option MergeRefusal) → option_or a None ≡ a
or-none None = refl
or-none (Some w) = refl

or-assoc : (a b c : Option MergeRefusal) → option_or (option_or a b) c ≡ option_or a (option_or b c)
or-assoc None b c = refl
or-assoc (Some w) b c = refl

module _ (image : List ℕ) (n : ℕ) (ps : List Part) (many : length ps ≡ 16) (t : List (Option Head)) (f : Option MergeRefusal) (i : ℕ) (b : Filling image n ps t f i) where
  module _ (h : i < n) (s : Foremost) (e : s ≡ head_of image i (get_or ps i no_part)) where
    refusal_more : option_or (option_or f (result_err s)) (refusal_from image (i + 1) (drop (i + 1) (take n ps))) ≡ refusal_from image 0 (take n ps)
    unfolding refusal_from
    refusal_more =
        let l : n ≤ length ps = omega (arith, b.few) in
        let d = drop-cons (take n ps) i no_part (omega (arith, length-take-le n ps l)) ∙ ap (λ (p : Part). p ∷ drop (suc i) (take n ps)) (get_or-take n ps i no_part h) in
        rw (add-one, e) (or-assoc f _ _ ∙ (rw d at b.refusal))

    module _ (t' : List (Option Head)) (kept-is : t' ≡ set t (16 + i) (kept s)) where
      there : (k : ℕ) → (k ≡ i → ⊥) → node_at t' (16 + k) ≡ node_at t (16 + k)
      there k d = rw kept-is (get_or-set_other t (16 + i) (16 + k) (kept s) None (λ c. d (omega arith)))

      leaf-by : (c : Bool) (k : ℕ) → eqb k i ≡ c → k < i + 1 → node_at t' (16 + k) ≡ kept (head_of image k (get_or ps k no_part))
      leaf-by true k q g =
          let z : k ≡ i = eqb-true _ _ q in
          let n = b.few in
          let l = b.size in
          rw (z, ← e, kept-is) (get_or-set_same t (16 + i) (kept s) None (omega arith))
      leaf-by false k q g = let z = eqb-false k i q in there k z ∙ b.leaf k (omega (arith, z))

      pub filling_on : (o g : Option MergeRefusal) → o ≡ result_err s → g ≡ option_or f o → Filling image n ps t' g (i + 1)
      filling_on o g u v = rw (v, u) record {
        few = b.few;
        size = rw kept-is (length-set t (16 + i) (kept s) ∙ b.size);
        refusal = refusal_more;
        leaf = λ k d. leaf-by _ k refl d;
        rest = λ k d l. there k (λ c. omega arith) ∙ b.rest k (omega arith) l;
      }

  pub filled : n ≤ i → i ≤ n → Leaves image n ps t × (f ≡ refusal_from image 0 (take n ps))
  unfolding refusal_from
  filled h g =
      let z : i ≡ n = omega arith in
      let l : n ≤ length ps = omega (arith, b.few) in
      let q : length (take n ps) ≤ i = omega (arith, length-take-le n ps l) in
      (record { leaf = λ k d. b.leaf k (omega arith); rest = λ k d. b.rest k (omega arith) }, sym (or-none f) ∙ (rw (drop_of_length-le (take n ps) q) at b.refusal))

-- the tournament over the leaves that were filled
pub begun : (image : List ℕ) (m : MergeScanner) (t t' : List (Option Head)) (f : Option MergeRefusal) (i : ℕ) → length m.parts ≡ 16 → table_ok (length image) m ≡ true → Filling image m.count m.parts t f i → m.count ≤ i → i ≤ m.count
    → Settled image t t' → Going image m t' f
begun image m t t' f i l ok b h g s =
    let few = b.few in
    let d = filled image m.count m.parts l t f i b h g in
    record {
      parts = l;
      nodes = s.size ∙ b.size;
      ok = ok;
      leaves = record { leaf = λ k a. s.same (16 + k) (omega arith) ∙ d.0.leaf k a; rest = λ k a c. s.same (16 + k) (omega arith) ∙ d.0.rest k a c };
      won = s.won;
      refusal = d.1;
    }

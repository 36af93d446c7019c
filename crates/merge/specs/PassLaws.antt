-- Laws of one pass: what wins the tournament of the heads is what the merge's definition says goes first.
use Prim.Native.Nat.{ℕ, zero, suc, ◌+◌, ◌*◌, ◌/◌, ◌<◌, ◌≤◌}
use Rattle.std.specs.Prelude.{◌≡◌, List, [], ◌∷◌, Bool, eqb, length, take, get_or, set, Option, Some, None, Ok, Err, if◌then◌else◌}
use Rattle.std.proofs.Math.Path.{refl, sym, ap, ap₂}
use Rattle.std.proofs.Common.{◌∙◌, zero-add, eqb-true, drop_of_length-le, get_or-take, get_or-set_same, get_or-set_other}
use Rattle.std.proofs.Math.Bool.{true, false}
use native.Mathlib.Omega.{arith}
use Rattle.std.proofs.Math.Decide.{dec_lt}
use Rattle.std.proofs.lemmas.Bool.{eqb-false}
use Rattle.std.proofs.Math.ListN.{drop, length-set}
use Rattle.std.proofs.Math.Seq.{drop-cons, length-take-le}
use Rattle.numbers.specs.Pick.{pick}
use Rattle.merge.specs.declared.parts.Part.{Part}
use Rattle.merge.specs.declared.parts.MergeScanner.{MergeScanner}
use Rattle.merge.specs.declared.heads.Head.{Head}
use Rattle.merge.specs.declared.refusals.MergeRefusal.{MergeRefusal}
use Rattle.merge.specs.Parts.{inside, moved, no_part, taken_of}
use Rattle.merge.specs.PartsLaws.{ok-both}
use Rattle.merge.specs.Merge.{Foremost, ahead, head_of, first, foremost, front_of}
use Rattle.merge.specs.MergeLaws.{at_count, at-parts, moved_in, taken-ok}
use Rattle.std.specs.Option.{option_or}
use Rattle.std.specs.Result.{result_err}
use Rattle.merge.specs.Pass.{kept, refusal_from, winner, node_at, Won, Settled, Leaves, Going}
use Rattle.merge.specs.SortedLaws.{ahead_trans, behind_trans}

-- The winner of many does not hang on the order of the matches.

module _ (image : List ℕ) where
  pub winner_none : (x : Option Head) → winner image x None ≡ x
  unfolding winner
  winner_none None = refl
  winner_none (Some x) = refl

  one_first : (x y : Head) → ahead image x.entry y.entry ≡ true → winner image (Some x) (Some y) ≡ Some x
  unfolding winner pick
  one_first x y h = rw h

  other_first : (x y : Head) → ahead image x.entry y.entry ≡ false → winner image (Some x) (Some y) ≡ Some y
  unfolding winner pick
  other_first x y h = rw h

  -- the code's test, by its cases
  pub wins-none : (x y : Option Head) → x ≡ None → y ≡ winner image x y
  unfolding winner
  wins-none x y h = rw h

  pub wins-alone : (x y : Option Head) → y ≡ None → x ≡ winner image x y
  wins-alone x y h = rw h (sym (winner_none x))

  both-by : (x y : Head) (t : Bool) → t ≡ ahead image x.entry y.entry → (if t then Some x else Some y) ≡ winner image (Some x) (Some y)
  both-by x y true e = sym (one_first x y (sym e))
  both-by x y false e = sym (other_first x y (sym e))

  pub wins-both : (x y : Option Head) (a b : Head) (t : Bool) → x ≡ Some a → y ≡ Some b → t ≡ ahead image a.entry b.entry → (if t then x else y) ≡ winner image x y
  wins-both x y a b t p q e = rw (p, q) (both-by a b t e)

  three : (x y z : Head) (t u v : Bool) → ahead image x.entry y.entry ≡ t → ahead image y.entry z.entry ≡ u → ahead image x.entry z.entry ≡ v
      → winner image (winner image (Some x) (Some y)) (Some z) ≡ winner image (Some x) (winner image (Some y) (Some z))
  three x y z true true v d e f =
      let g = one_first x z (ahead_trans image x.entry y.entry z.entry d e) in
      rw (one_first x y d, one_first y z e, g, one_first x y d)
  three x y z true false v d e f = rw (one_first x y d, other_first y z e)
  three x y z false true v d e f = rw (other_first x y d, one_first y z e, other_first x y d)
  three x y z false false v d e f =
      let g = other_first x z (behind_trans image x.entry y.entry z.entry d e) in
      rw (other_first x y d, other_first y z e, g)

  pub winner_assoc : (x y z : Option Head) → winner image (winner image x y) z ≡ winner image x (winner image y z)
  unfolding winner
  winner_assoc None y z = refl
  winner_assoc (Some x) None z = refl
  winner_assoc (Some x) (Some y) None = winner_none (winner image (Some x) (Some y))
  winner_assoc (Some x) (Some y) (Some z) = three x y z _ _ _ refl refl refl

  -- the winner of the n nodes from a on
  unfoldable pub span : List (Option Head) → ℕ → ℕ → Option Head
  span t a zero = None
  span t a (suc n) = winner image (node_at t a) (span t (suc a) n)

  pub span-add : (t : List (Option Head)) (a m n : ℕ) → span t a (m + n) ≡ winner image (span t a m) (span t (a + m) n)
  unfolding span winner
  span-add t a zero n =
      let e : a + 0 ≡ a = omega arith in
      let z : 0 + n ≡ n = omega arith in
      rw (z, e)
  span-add t a (suc m) n =
      let e : a + suc m ≡ suc a + m = omega arith in
      let z : suc m + n ≡ suc (m + n) = omega arith in
      rw z (ap (winner image (node_at t a)) (span-add t (suc a) m n) ∙ sym (rw e (winner_assoc (node_at t a) (span t (suc a) m) (span t (suc a + m) n))))

  -- the root wins over all sixteen leaves
  module _ (t : List (Option Head)) (won : (j : ℕ) → 0 < j → j < 16 → Won image t j) where
    two : (j a n : ℕ) → 0 < j → j < 16 → node_at t (2 * j) ≡ span t a n → node_at t (2 * j + 1) ≡ span t (a + n) n → node_at t j ≡ span t a (n + n)
    two j a n p q f g = won j p q ∙ ap₂ (winner image) f g ∙ sym (span-add t a n n)

    height0 : (k : ℕ) → k < 16 → node_at t (16 + k) ≡ span t (16 + k) 1
    unfolding span
    height0 k h = sym (winner_none (node_at t (16 + k)))

    height1 : (k : ℕ) → k < 8 → node_at t (8 + k) ≡ span t (16 + 2 * k) 2
    height1 k h =
        let e : 2 * (8 + k) ≡ 16 + 2 * k = omega arith in
        let f : 2 * (8 + k) + 1 ≡ 16 + (2 * k + 1) = omega arith in
        let g : 16 + (2 * k + 1) ≡ 16 + 2 * k + 1 = omega arith in
        two (8 + k) (16 + 2 * k) 1 (omega arith) (omega arith) (rw e (height0 (2 * k) (omega arith)))
        (ap (node_at t) f ∙ height0 (2 * k + 1) (omega arith) ∙ ap (λ (a : ℕ). span t a 1) g)

    height2 : (k : ℕ) → k < 4 → node_at t (4 + k) ≡ span t (16 + 4 * k) 4
    height2 k h =
        let e : 2 * (4 + k) ≡ 8 + 2 * k = omega arith in
        let f : 2 * (4 + k) + 1 ≡ 8 + (2 * k + 1) = omega arith in
        let g : 16 + 2 * (2 * k + 1) ≡ 16 + 4 * k + 2 = omega arith in
        let d : 16 + 2 * (2 * k) ≡ 16 + 4 * k = omega arith in
        two (4 + k) (16 + 4 * k) 2 (omega arith) (omega arith) (ap (node_at t) e ∙ height1 (2 * k) (omega arith) ∙ ap (λ (a : ℕ). span t a 2) d)
        (ap (node_at t) f ∙ height1 (2 * k + 1) (omega arith) ∙ ap (λ (a : ℕ). span t a 2) g)

    height3 : (k : ℕ) → k < 2 → node_at t (2 + k) ≡ span t (16 + 8 * k) 8
    height3 k h =
        let e : 2 * (2 + k) ≡ 4 + 2 * k = omega arith in
        let f : 2 * (2 + k) + 1 ≡ 4 + (2 * k + 1) = omega arith in
        let g : 16 + 4 * (2 * k + 1) ≡ 16 + 8 * k + 4 = omega arith in
        let d : 16 + 4 * (2 * k) ≡ 16 + 8 * k = omega arith in
        two (2 + k) (16 + 8 * k) 4 (omega arith) (omega arith) (ap (node_at t) e ∙ height2 (2 * k) (omega arith) ∙ ap (λ (a : ℕ). span t a 4) d)
        (ap (node_at t) f ∙ height2 (2 * k + 1) (omega arith) ∙ ap (λ (a : ℕ). span t a 4) g)

    pub root : node_at t 1 ≡ span t 16 16
    root = two 1 16 8 (omega arith) (omega arith) (height3 0 (omega arith)) (height3 1 (omega arith))

-- What wins, as the merge's definition has it.
unfoldable pub told : Option MergeRefusal → Option Head → Foremost
told (Some why) b = Err why
told None b = Ok b

module _ (image : List ℕ) where
  told-both : (x y : Head) (t : Bool) → ahead image x.entry y.entry ≡ t → told None (winner image (Some x) (Some y)) ≡ pick t (Ok (Some x)) (Ok (Some y))
  unfolding told pick
  told-both x y true h = rw (one_first image x y h)
  told-both x y false h = rw (other_first image x y h)

  told-first : (s : Foremost) (f : Option MergeRefusal) (y : Option Head) → told (option_or (result_err s) f) (winner image (kept s) y) ≡ first image s (told f y)
  unfolding told first winner
  told-first (Ok None) f y = refl
  told-first (Err w) f y = refl
  told-first (Ok (Some x)) (Some w) y = refl
  told-first (Ok (Some x)) None None = refl
  told-first (Ok (Some x)) None (Some y) = told-both x y _ refl

  module _ (n : ℕ) (ps : List Part) (t : List (Option Head)) (g : n ≤ 16) (l : n ≤ length ps) (leaves : Leaves image n ps t) where
    span_rest : (m i : ℕ) → i + m ≡ 16 → n ≤ i → span image t (16 + i) m ≡ None
    unfolding span winner
    span_rest zero i e h = refl
    span_rest (suc m) i e h =
        let z : suc (16 + i) ≡ 16 + suc i = omega arith in
        ap₂ (winner image) (leaves.rest i h (omega arith)) (ap (λ (a : ℕ). span image t a m) z ∙ span_rest m (suc i) (omega arith) (omega arith))

    gone : (i : ℕ) → n ≤ i → drop i (take n ps) ≡ []
    gone i h = let q : length (take n ps) ≤ i = omega (arith, length-take-le n ps l) in drop_of_length-le (take n ps) q

    abbrev Told : ℕ → ℕ → Type 0
    Told m i = told (refusal_from image i (drop i (take n ps))) (span image t (16 + i) m) ≡ foremost image i (drop i (take n ps))

    told-rest : (m i : ℕ) → i + m ≡ 16 → n ≤ i → Told m i
    unfolding told refusal_from foremost
    told-rest m i e h = rw (gone i h, span_rest m i e h)

    told_more : (m i : ℕ) → i + suc m ≡ 16 → i < n → Told m (suc i) → Told (suc m) i
    unfolding refusal_from foremost span
    told_more m i e h r =
        let z : suc (16 + i) ≡ 16 + suc i = omega arith in
        let d = drop-cons (take n ps) i no_part (omega (arith, length-take-le n ps l)) ∙ ap (λ (p : Part). p ∷ drop (suc i) (take n ps)) (get_or-take n ps i no_part h) in
        let f = leaves.leaf i h in
        rw (d, f, z) (told-first (head_of image i (get_or ps i no_part)) _ _ ∙ ap (first image (head_of image i (get_or ps i no_part))) r)

    told-pick : (m i : ℕ) → i + suc m ≡ 16 → Dec (i < n) → Told m (suc i) → Told (suc m) i
    told-pick m i e (yes h) r = told_more m i e h r
    told-pick m i e (no h) r = told-rest (suc m) i e (omega arith)

    told-span : (m i : ℕ) → i + m ≡ 16 → Told m i
    told-span zero i e = told-rest zero i e (omega arith)
    told-span (suc m) i e = told-pick m i e (dec_lt i n) (told-span m (suc i) (omega arith))

both-none : (a b : Option MergeRefusal) → option_or a b ≡ None → (a ≡ None) × (b ≡ None)
both-none None b h = (refl, h)
both-none (Some w) b h = let o : ◌≡◌ {A = ℕ} 0 1 = cc in absurd (omega arith)

or-none : (a : Option MergeRefusal) → option_or a None ≡ a
or-none None = refl
or-none (Some w) = refl

-- where no part refused, the part scanned anew alone can
refusal_set : (image : List ℕ) (n : ℕ) (ps : List Part) (i k : ℕ) (p : Part) → k < n → k < length ps → refusal_from image i (take n ps) ≡ None
    → refusal_from image i (take n (set ps k p)) ≡ result_err (head_of image (i + k) p)
unfolding refusal_from
refusal_set image zero ps i k p h l c = absurd (omega arith)
refusal_set image (suc n) [] i k p h l c = absurd (omega arith)
refusal_set image (suc n) (q ∷ ps) i zero p h l c =
    let z : i + 0 ≡ i = omega arith in
    let b = both-none _ _ c in
    ap (option_or (result_err (head_of image i p))) b.1 ∙ or-none _ ∙ ap (λ (j : ℕ). result_err (head_of image j p)) (sym z)
refusal_set image (suc n) (q ∷ ps) i (suc k) p h l c =
    let z : suc i + k ≡ i + suc k = omega arith in
    let b = both-none _ _ c in
    ap (λ (a : Option MergeRefusal). option_or a (refusal_from image (suc i) (take n (set ps k p)))) b.0
    ∙ refusal_set image n ps (suc i) k p (omega arith) (omega arith) b.1
    ∙ ap (λ (j : ℕ). result_err (head_of image j p)) z

module _ (image : List ℕ) (m : MergeScanner) (t : List (Option Head)) (f : Option MergeRefusal) (g : Going image m t f) where
  -- the root and the lowest refusal are what goes first
  goes : told f (node_at t 1) ≡ front_of image m
  goes =
      let few = (ok-both (length image) m g.ok).0 in
      let l = g.parts in
      let r = root image t g.won in
      let s = g.refusal in
      rw (s, r) (told-span image m.count m.parts t few (omega arith) g.leaves 16 0 refl)

  pub front_refused : (w : MergeRefusal) → f ≡ Some w → Err w ≡ front_of image m
  unfolding told
  front_refused w h = sym (ap (λ (o : Option MergeRefusal). told o (node_at t 1)) h) ∙ goes

  pub front_kept : f ≡ None → Ok (node_at t 1) ≡ front_of image m
  unfolding told
  front_kept h = sym (ap (λ (o : Option MergeRefusal). told o (node_at t 1)) h) ∙ goes

  told-none : (o : Option MergeRefusal) (b : Option Head) (x : Head) → told o b ≡ Ok (Some x) → o ≡ None
  unfolding told
  told-none None b x h = refl
  told-none (Some w) b x h = let c : ◌≡◌ {A = ℕ} 0 1 = cc in absurd (omega arith)

  module _ (x : Head) (h : front_of image m ≡ Ok (Some x)) where
    clear : f ≡ None
    clear = told-none f (node_at t 1) x (goes ∙ h)

    abbrev part' : Part
    part' = moved x.next (get_or m.parts x.entry.part no_part)

    pub going_index : x.entry.part < 16
    going_index = let l = g.parts in omega (arith, at-parts m image x h)

    pub going-inside : inside (length image) part' ≡ true
    going-inside = moved_in m image x h g.ok

    -- a leaf set anew leaves one node open
    opened : (y : Option Head) (j : ℕ) → 0 < j → j < 16 → (j ≡ (16 + x.entry.part) / 2 → ⊥) → Won image (set t (16 + x.entry.part) y) j
    opened y j a b n =
        let o : (i : ℕ) → (i ≡ 16 + x.entry.part → ⊥) → node_at (set t (16 + x.entry.part) y) i ≡ node_at t i = λ i d. get_or-set_other t (16 + x.entry.part) i y None d in
        o j (λ d. omega arith) ∙ g.won j a b ∙ sym (ap₂ (winner image) (o (2 * j) (λ d. n (omega arith))) (o (2 * j + 1) (λ d. n (omega arith))))

    module _ (m' : MergeScanner) (moved-on : m' ≡ taken_of m x.entry.part x.next) where
      pub going_part : get_or m'.parts x.entry.part no_part ≡ part'
      unfolding taken_of
      going_part = rw moved-on (get_or-set_same m.parts x.entry.part part' no_part (at-parts m image x h))

      -- the pass goes on where the entry's part was scanned anew
      module _ (s : Foremost) (e : s ≡ head_of image x.entry.part (get_or m'.parts x.entry.part no_part)) (u : List (Option Head)) (leaf : u ≡ set t (16 + x.entry.part) (kept s)) where
        abbrev y : Option Head
        y = kept s

        pub going_size : length u ≡ 32
        going_size = rw leaf (length-set t (16 + x.entry.part) y ∙ g.nodes)

        pub going_opened : (j : ℕ) → 0 < j → j < 16 → (j ≡ (16 + x.entry.part) / 2 → ⊥) → Won image u j
        going_opened j a b n = rw leaf (opened y j a b n)

        module _ (f' : Option MergeRefusal) (refusal-is : f' ≡ result_err s) (t' : List (Option Head)) (won : Settled image u t') where
          v : Settled image (set t (16 + x.entry.part) y) t'
          v = rw leaf at won

          below : x.entry.part < m.count
          below = at_count m image x h

          within : x.entry.part < length m.parts
          within = at-parts m image x h

          shows : s ≡ head_of image x.entry.part part'
          shows = rw going_part at e

          leaf-at : (k : ℕ) → k < m.count → (c : Bool) → eqb k x.entry.part ≡ c → node_at t' (16 + k) ≡ kept (head_of image k (get_or (set m.parts x.entry.part part') k no_part))
          leaf-at k d true z =
              let i : k ≡ x.entry.part = eqb-true _ _ z in
              let q = get_or-set_same m.parts x.entry.part part' no_part within in
              let n = going_index in
              let w = g.nodes in
              rw (i, q, ← shows) (v.same (16 + x.entry.part) (omega arith) ∙ get_or-set_same t (16 + x.entry.part) y None (omega arith))
          leaf-at k d false z =
              let i = eqb-false k x.entry.part z in
              let q = get_or-set_other m.parts x.entry.part k part' no_part i in
              rw q (v.same (16 + k) (omega arith) ∙ get_or-set_other t (16 + x.entry.part) (16 + k) y None (λ c. i (omega arith)) ∙ g.leaves.leaf k d)

          pub going_on : Going image m' t' f'
          unfolding taken_of
          going_on = rw (moved-on, refusal-is) record {
            parts = length-set m.parts x.entry.part part' ∙ g.parts;
            nodes = won.size ∙ going_size;
            ok = taken-ok m image x h g.ok;
            leaves = record {
              leaf = λ k d. leaf-at k d _ refl;
              rest = λ k d b. let i = below in v.same (16 + k) (omega arith) ∙ get_or-set_other t (16 + x.entry.part) (16 + k) y None (λ c. omega arith) ∙ g.leaves.rest k d b;
            };
            won = v.won;
            refusal = ap result_err shows ∙ ap (λ (k : ℕ). result_err (head_of image k part')) (sym (zero-add x.entry.part)) ∙ sym (refusal_set image m.count m.parts 0 x.entry.part part' below within (sym g.refusal ∙ clear));
          }

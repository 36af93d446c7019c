-- Laws of one pass that writes rows: its cases, and one row more.
use Rattle.std.specs.Prelude.{set, ℕ, zero, suc, ◌+◌, ◌*◌, ◌-◌, ◌<◌, ◌≤◌, ◌≡◌, refl, List, [], ◌∷◌, ◌++◌, Bool, true, false, ltb, leb, length, Option, Some, None, Result, Ok, Err, IsErrAnd, is_some, unwrap_or}
use Rattle.std.specs.Bool.{then_some}
use Rattle.std.proofs.Common.{sym, ap, subst, ◌∙◌, arith, lt-ltb, le-ltb, leb-true, leb-false}
use Rattle.std.proofs.lemmas.List.Edits.{sets}
use Rattle.std.proofs.Math.Seq.{length-sets}
use Rattle.numbers.specs.Pick.{pick}
use Rattle.numbers.specs.LeLaws.{sets-append}
use Rattle.merge.specs.declared.parts.MergeScanner.{MergeScanner}
use Rattle.merge.specs.declared.heads.MergeEntry.{MergeEntry}
use Rattle.merge.specs.declared.next.Merged.{Merged}
use Rattle.merge.specs.declared.refusals.MergeRefusal.{MergeRefusal}
use Rattle.merge.specs.declared.refusals.MergeRefusal.TheVariants as merge
use Rattle.merge.specs.declared.refusals.RowsRefusal.TheVariants as refusal
use Rattle.merge.specs.Parts.{table_ok}
use Rattle.merge.specs.Merge.{Answer, Foremost, front_of, next_of}
use Rattle.merge.specs.MergeLaws.{next_bad, next_takes, next_ends, next_refused}
use Rattle.merge.specs.Rows.{row_of, rows_of, listed, given, after, RowsAnswer, rows_said, whole_rows, Wrote, rowed_of, rowed_in}

module _ {T : Type 0} (a : Result (Option T) MergeRefusal) (fits : Bool) (n : ℕ) where
  module _ (o : Option T) (h : a ≡ Ok o) where
    pub said_rows : (x : T) → o ≡ Some x → fits ≡ true → Ok (Some n) ≡ rows_said a fits n
    unfolding rows_said pick
    said_rows x q g = rw (h, q, g)

    pub said_full : (x : T) → o ≡ Some x → fits ≡ false → Err refusal.NoRoom ≡ rows_said a fits n
    unfolding rows_said pick
    said_full x q g = rw (h, q, g)

    pub said_end : o ≡ None → Ok None ≡ rows_said a fits n
    unfolding rows_said
    said_end q = rw (h, q)

  refused-same : (w : MergeRefusal) (r : RowsAnswer) → IsErrAnd r (λ e. e ≡ refusal.Merge w) → r ≡ Err (refusal.Merge w)
  refused-same w (Ok x) i = absurd i
  refused-same w (Err e) i = rw i

  pub said_refused : (w : MergeRefusal) (r : RowsAnswer) → a ≡ Err w → IsErrAnd r (λ e. e ≡ refusal.Merge w) → r ≡ rows_said a fits n
  unfolding rows_said
  said_refused w r h i = rw h (refused-same w r i)

-- told of the rows written where one fits, it is what is told of whether one does and of how many
said_written : {T : Type 0} (a : Result (Option T) MergeRefusal) (fits : Bool) (n : ℕ) → rows_said a (is_some (then_some fits n)) (unwrap_or (then_some fits n) 0) ≡ rows_said a fits n
unfolding rows_said pick
said_written a true n = refl
said_written (Ok (Some x)) false n = refl
said_written (Ok None) false n = refl
said_written (Err w) false n = refl

-- a call that gives no entry changes nothing
pub record Stays (image : List ℕ) (m : MergeScanner) : Type 0 where
  pub same : (next_of m image).state ≡ m
  pub blank : (x : MergeEntry) → (next_of m image).answer ≡ Ok (Some x) → ⊥

pub stays : (image : List ℕ) (m : MergeScanner) (a : Answer) → next_of m image ≡ record { state = m; answer = a } → ((x : MergeEntry) → a ≡ Ok (Some x) → ⊥) → Stays image m
stays image m a e nay = record { same = ap (λ (r : Merged). r.state) e; blank = λ x h. nay x (sym (ap (λ (r : Merged). r.answer) e) ∙ h) }

pub bad_stays : (image : List ℕ) (m : MergeScanner) → table_ok (length image) m ≡ false → Stays image m
bad_stays image m t = stays image m _ (next_bad m image t) (λ x h. let o : ◌≡◌ {A = ℕ} 0 1 = cc in omega arith)

pub end_stays : (image : List ℕ) (m : MergeScanner) → table_ok (length image) m ≡ true → front_of image m ≡ Ok None → Stays image m
end_stays image m t f = stays image m _ (next_ends m image t f) (λ x h. let o : ◌≡◌ {A = ℕ} 0 1 = cc in omega arith)

pub refused_stays : (image : List ℕ) (m : MergeScanner) → table_ok (length image) m ≡ true → (w : MergeRefusal) → front_of image m ≡ Err w → Stays image m
refused_stays image m t w f = stays image m _ (next_refused m image t w f) (λ x h. let o : ◌≡◌ {A = ℕ} 0 1 = cc in omega arith)

module _ (image : List ℕ) (m : MergeScanner) (s : Stays image m) where
  listed-none : (b : Answer) (l : List MergeEntry) → ((x : MergeEntry) → b ≡ Ok (Some x) → ⊥) → listed b l ≡ []
  unfolding listed
  listed-none (Ok (Some x)) l n = absurd (n x refl)
  listed-none (Ok None) l n = refl
  listed-none (Err w) l n = refl

  pub given-none : (k : ℕ) → given k image m ≡ []
  unfolding given
  given-none zero = refl
  given-none (suc k) = listed-none _ _ s.blank

  pub after_same : (k : ℕ) → after k image m ≡ m
  unfolding after
  after_same zero = refl
  after_same (suc k) = ap (after k image) s.same ∙ after_same k

-- a call that gives an entry
module _ (image : List ℕ) (m s : MergeScanner) (x : MergeEntry) (e : next_of m image ≡ record { state = s; answer = Ok (Some x) }) where
  pub given-more : (k : ℕ) → given (suc k) image m ≡ x ∷ given k image s
  unfolding given listed
  given-more k = ap (λ (r : Merged). listed r.answer (given k image r.state)) e

  pub after_more : (k : ℕ) → after (suc k) image m ≡ after k image s
  unfolding after
  after_more k = ap (λ (r : Merged). after k image r.state) e

-- the loop that writes rows: what is left, done on what is there, is the whole
pub record Writing (image : List ℕ) (m₀ : MergeScanner) (b₀ : List ℕ) (m : MergeScanner) (b : List ℕ) (done : ℕ) : Type 0 where
  pub size : length b ≡ length b₀
  pub state : after (whole_rows b₀ - done) image m ≡ after (whole_rows b₀) image m₀
  pub count : done + length (given (whole_rows b₀ - done) image m) ≡ length (given (whole_rows b₀) image m₀)
  pub numbers : sets b (9 * done) (rows_of (given (whole_rows b₀ - done) image m)) ≡ rowed_in m₀ image b₀

pub writing_starts : (image : List ℕ) (m : MergeScanner) (b : List ℕ) → Writing image m b m b 0
unfolding rowed_in
writing_starts image m b =
    let z : whole_rows b - 0 ≡ whole_rows b = omega arith in
    record { size = refl; state = rw z; count = rw z (omega arith); numbers = rw z }

module _ (image : List ℕ) (m₀ : MergeScanner) (b₀ : List ℕ) (m : MergeScanner) (b : List ℕ) (done : ℕ) (w : Writing image m₀ b₀ m b done) where
  -- no row is left
  pub wrote-all : whole_rows b₀ ≤ done → Wrote image m₀ b₀ m b done
  unfolding after given rows_of
  wrote-all h =
      let z : whole_rows b₀ - done ≡ 0 = omega arith in
      let q = rw z at w.count in
      record { state = rw z at w.state; count = omega arith; numbers = rw z at w.numbers }

  -- no entry comes
  pub wrote-some : Stays image m → Wrote image m₀ b₀ m b done
  unfolding rows_of
  wrote-some s =
      let g = given-none image m s (whole_rows b₀ - done) in
      let q = rw g at w.count in
      record { state = sym (after_same image m s (whole_rows b₀ - done)) ∙ w.state; count = omega arith; numbers = rw g at w.numbers }

  -- one row more
  module _ (h : done < whole_rows b₀) (s : MergeScanner) (x : MergeEntry) (e : next_of m image ≡ record { state = s; answer = Ok (Some x) }) (b' : List ℕ) (q : b' ≡ sets b (9 * done) (row_of x)) where
    one_less : whole_rows b₀ - done ≡ suc (whole_rows b₀ - (done + 1))
    one_less = omega arith

    rest : given (whole_rows b₀ - done) image m ≡ x ∷ given (whole_rows b₀ - (done + 1)) image s
    rest = ap (λ (k : ℕ). given k image m) one_less ∙ given-more image m s x e (whole_rows b₀ - (done + 1))

    rows_more : rows_of (given (whole_rows b₀ - done) image m) ≡ row_of x ++ rows_of (given (whole_rows b₀ - (done + 1)) image s)
    unfolding rows_of
    rows_more = ap rows_of rest

    pub writing_on : Writing image m₀ b₀ s b' (done + 1)
    writing_on =
        let c : length (given (whole_rows b₀ - done) image m) ≡ suc (length (given (whole_rows b₀ - (done + 1)) image s)) = ap length rest in
        let d = w.count in
        let nine : 9 * (done + 1) ≡ 9 * done + 9 = omega arith in
        record {
          size = rw q (length-sets b (9 * done) (row_of x)) ∙ w.size;
          state = sym (after_more image m s x e (whole_rows b₀ - (done + 1))) ∙ ap (λ (k : ℕ). after k image m) (sym one_less) ∙ w.state;
          count = omega arith;
          numbers = ap (λ (to : ℕ). sets b' to (rows_of (given (whole_rows b₀ - (done + 1)) image s))) nine
              ∙ ap (λ (l : List ℕ). sets l (9 * done + 9) (rows_of (given (whole_rows b₀ - (done + 1)) image s))) q
              ∙ sets-append (row_of x) (rows_of (given (whole_rows b₀ - (done + 1)) image s)) b (9 * done)
              ∙ ap (sets b (9 * done)) (sym rows_more) ∙ w.numbers;
        }

-- the whole pass
module _ (image : List ℕ) (m : MergeScanner) (b : List ℕ) where
  whole_row : (c : Bool) → leb 9 (length b) ≡ c → c ≡ ltb 0 (whole_rows b)
  whole_row true h = let l : 9 ≤ length b = leb-true _ _ h in let g : 0 < whole_rows b = omega arith in sym (lt-ltb _ _ g)
  whole_row false h = let l : length b < 9 = leb-false _ _ h in let g : whole_rows b ≤ 0 = omega arith in sym (le-ltb _ _ g)

  said-front : table_ok (length image) m ≡ true → (f : Foremost) → f ≡ front_of image m → (fits : Bool) (n : ℕ) → rows_said f fits n ≡ rows_said (next_of m image).answer fits n
  unfolding rows_said
  said-front t (Ok (Some x)) f fits n = rw (next_takes m image t x (sym f))
  said-front t (Ok None) f fits n = rw (next_ends m image t (sym f))
  said-front t (Err w) f fits n = rw (next_refused m image t w (sym f))

  module _ (i : List ℕ) (m' : MergeScanner) (same-image : i ≡ image) (same-state : m' ≡ m) (s : MergeScanner) (b' : List ℕ) (n : ℕ) (wrote : Wrote i m' b s b' n) where
    w : Wrote image m b s b' n
    w = subst (λ (k : MergeScanner). Wrote image k b s b' n) same-state (subst (λ (k : List ℕ). Wrote k m' b s b' n) same-image wrote)

    pub rowed : table_ok (length image) m ≡ true → (f : Foremost) → f ≡ front_of i m' → (a : RowsAnswer) (o : Option ℕ) → o ≡ then_some (leb 9 (length b)) n → a ≡ rows_said f (is_some o) (unwrap_or o 0) → record { state = s; answer = a } ≡ rowed_of m image b
    unfolding rowed_of
    rowed t f e a o u q =
        let g = subst (λ (k : MergeScanner). f ≡ front_of image k) same-state (subst (λ (k : List ℕ). f ≡ front_of k m') same-image e) in
        rw (w.state, q, u, said_written f (leb 9 (length b)) n, said-front t f g (leb 9 (length b)) n, w.count, whole_row _ refl)

    pub numbered : b' ≡ rowed_in m image b
    numbered = w.numbers

  pub rowed_bad : table_ok (length image) m ≡ false → (record { state = m; answer = Err (refusal.Merge merge.BadPart) } ≡ rowed_of m image b) × (b ≡ rowed_in m image b)
  unfolding rowed_of rowed_in rows_said rows_of
  rowed_bad t =
      let s = bad_stays image m t in
      let g = given-none image m s (whole_rows b) in
      let c = after_same image m s (whole_rows b) in
      let e = next_bad m image t in
      (rw (c, e), rw g)

-- nine stores in a row are a run of stores
pub nine_stores : (l : List ℕ) (at v₀ v₁ v₂ v₃ v₄ v₅ v₆ v₇ v₈ : ℕ)
    → set (set (set (set (set (set (set (set (set l at v₀) (at + 1) v₁) (at + 2) v₂) (at + 3) v₃) (at + 4) v₄) (at + 5) v₅) (at + 6) v₆) (at + 7) v₇) (at + 8) v₈
    ≡ sets l at (v₀ ∷ v₁ ∷ v₂ ∷ v₃ ∷ v₄ ∷ v₅ ∷ v₆ ∷ v₇ ∷ v₈ ∷ [])
nine_stores l at v₀ v₁ v₂ v₃ v₄ v₅ v₆ v₇ v₈ =
    let e₁ : at + 1 ≡ suc at = omega arith in
    let e₂ : at + 2 ≡ suc (suc at) = omega arith in
    let e₃ : at + 3 ≡ suc (suc (suc at)) = omega arith in
    let e₄ : at + 4 ≡ suc (suc (suc (suc at))) = omega arith in
    let e₅ : at + 5 ≡ suc (suc (suc (suc (suc at)))) = omega arith in
    let e₆ : at + 6 ≡ suc (suc (suc (suc (suc (suc at))))) = omega arith in
    let e₇ : at + 7 ≡ suc (suc (suc (suc (suc (suc (suc at)))))) = omega arith in
    let e₈ : at + 8 ≡ suc (suc (suc (suc (suc (suc (suc (suc at))))))) = omega arith in
    rw (e₁, e₂, e₃, e₄, e₅, e₆, e₇, e₈)

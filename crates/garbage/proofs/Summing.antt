-- Many entries added: in any order the same, no total or count ever shrinks, and the tests made beforehand are the test of the whole.
use Prim.Native.Nat.{ℕ, suc, ◌≤◌, ◌<◌}
use mathlib.Core.Path.{◌≡◌, refl, sym, ◌∙◌, ap, ap₂}
use mathlib.Core.List.{List, [], ◌∷◌, ◌++◌}
use mathlib.Core.Bool.{Bool, true, false, ◌&&◌}
use native.Mathlib.Omega.{arith}
use native.Mathlib.Nat.{add_comm, add_right_comm, add_assoc}
use lib.ListN.{length}
use lib.Dec.{leb}
use borrow.Author.Tests.{eq-eqb, ne_eqb, leb-true, leb-false}
use Rattle.numbers.specs.Pick.{pick}
use Rattle.std.specs.Prelude.{Ok, Err, Option, Some, None}
use Rattle.garbage.specs.declared.map.CountRefusal.TheVariants.{MapFull, SumTooBig}
use Rattle.garbage.specs.Entries.{Entry, plus, added, added_all, ascending_from, fits, all_fit, judged, Outcome}
use Rattle.garbage.specs.Lookups.{found}
use Rattle.garbage.specs.Batch.{afterwards, in_turn}
use Rattle.garbage.specs.Columns.{total_of, sums_fit}
use Rattle.garbage.proofs.Bools.{and_l, and_r, and_true, tri, by_test, same_or}
use Rattle.garbage.proofs.Added.{add-past, add_same, add-before, add_none, add_longer}
use Rattle.garbage.proofs.Fits.{fits_all, fits_each, none-fit, fit-head, fit-tail, fit_cons, made-is, judged-made, judged_full}
use Rattle.garbage.proofs.Finding.{found_here, found-past, found_in_none}
use Rattle.garbage.proofs.Turning.{add_in_order}

entry-is : {a a' b b' x x' y y' : ℕ} → a ≡ a' → b ≡ b' → x ≡ x' → y ≡ y' → ◌≡◌ {A = Entry} (record { id = a; frames = b; stated = x; disk = y }) (record { id = a'; frames = b'; stated = x'; disk = y' })
entry-is a b x y = cc

plus_comm : (x e : Entry) → x.id ≡ e.id → plus x e ≡ plus e x
plus_comm x e h = entry-is h (add_comm x.frames e.frames) (add_comm x.stated e.stated) (add_comm x.disk e.disk)

plus-right : (x e f : Entry) → plus (plus x f) e ≡ plus (plus x e) f
plus-right x e f = entry-is refl (add_right_comm x.frames f.frames e.frames) (add_right_comm x.stated f.stated e.stated) (add_right_comm x.disk f.disk e.disk)

plus_assoc : (x e f : Entry) → plus (plus x e) f ≡ plus x (plus e f)
plus_assoc x e f = entry-is refl (add_assoc x.frames e.frames f.frames) (add_assoc x.stated e.stated f.stated) (add_assoc x.disk e.disk f.disk)

-- ---- the cases of an addition
module _ (e x : Entry) (l : List Entry) where
  pub to_past : x.id < e.id → added e (x ∷ l) ≡ x ∷ added e l
  to_past = add-past plus e x l

  pub to_same : x.id ≡ e.id → added e (x ∷ l) ≡ plus x e ∷ l
  to_same = add_same plus e x l

  pub to_before : e.id < x.id → added e (x ∷ l) ≡ e ∷ x ∷ l
  to_before = add-before plus e x l

pub to_none : (e : Entry) → added e [] ≡ e ∷ []
to_none e = add_none plus e

-- ---- two entries may be added in either order
pub swapped : (e f : Entry) (l : List Entry) → added e (added f l) ≡ added f (added e l)
swapped e f [] = ap (added e) (to_none f) ∙ tri e.id f.id
    (λ p. to_before e f [] p ∙ sym (to_past f e [] p ∙ ap (λ (t : List Entry). e ∷ t) (to_none f)))
    (λ p. to_same e f [] (sym p) ∙ ap (λ (t : Entry). t ∷ []) (plus_comm f e (sym p)) ∙ sym (to_same f e [] p))
    (λ p. to_past e f [] p ∙ ap (λ (t : List Entry). f ∷ t) (to_none e) ∙ sym (to_before f e [] p))
    ∙ ap (added f) (sym (to_none e))
swapped e f (x ∷ l) = tri x.id e.id
    (λ p. tri x.id f.id
    (λ q. ap (added e) (to_past f x l q) ∙ to_past e x (added f l) p ∙ ap (λ (t : List Entry). x ∷ t) (swapped e f l) ∙ sym (ap (added f) (to_past e x l p) ∙ to_past f x (added e l) q))
    (λ q. ap (added e) (to_same f x l q) ∙ to_past e (plus x f) l p ∙ sym (ap (added f) (to_past e x l p) ∙ to_same f x (added e l) q))
    (λ q. ap (added e) (to_before f x l q) ∙ to_past e f (x ∷ l) (omega arith) ∙ ap (λ (t : List Entry). f ∷ t) (to_past e x l p) ∙ sym (ap (added f) (to_past e x l p) ∙ to_before f x (added e l) q)))
    (λ p. tri x.id f.id
    (λ q. ap (added e) (to_past f x l q) ∙ to_same e x (added f l) p ∙ sym (ap (added f) (to_same e x l p) ∙ to_past f (plus x e) l q))
    (λ q. ap (added e) (to_same f x l q) ∙ to_same e (plus x f) l p ∙ ap (λ (t : Entry). t ∷ l) (plus-right x e f) ∙ sym (ap (added f) (to_same e x l p) ∙ to_same f (plus x e) l q))
    (λ q. ap (added e) (to_before f x l q) ∙ to_past e f (x ∷ l) (omega arith) ∙ ap (λ (t : List Entry). f ∷ t) (to_same e x l p) ∙ sym (ap (added f) (to_same e x l p) ∙ to_before f (plus x e) l q)))
    (λ p. tri x.id f.id
    (λ q. ap (added e) (to_past f x l q) ∙ to_before e x (added f l) p ∙ sym (ap (added f) (to_before e x l p) ∙ to_past f e (x ∷ l) (omega arith) ∙ ap (λ (t : List Entry). e ∷ t) (to_past f x l q)))
    (λ q. ap (added e) (to_same f x l q) ∙ to_before e (plus x f) l p ∙ sym (ap (added f) (to_before e x l p) ∙ to_past f e (x ∷ l) (omega arith) ∙ ap (λ (t : List Entry). e ∷ t) (to_same f x l q)))
    (λ q. ap (added e) (to_before f x l q) ∙ two q p ∙ sym (ap (added f) (to_before e x l p))))
  where
    two : f.id < x.id → e.id < x.id → added e (f ∷ x ∷ l) ≡ added f (e ∷ x ∷ l)
    two q p = tri e.id f.id
        (λ r. to_before e f (x ∷ l) r ∙ sym (to_past f e (x ∷ l) r ∙ ap (λ (t : List Entry). e ∷ t) (to_before f x l q)))
        (λ r. to_same e f (x ∷ l) (sym r) ∙ ap (λ (t : Entry). t ∷ x ∷ l) (plus_comm f e (sym r)) ∙ sym (to_same f e (x ∷ l) r))
        (λ r. to_past e f (x ∷ l) r ∙ ap (λ (t : List Entry). f ∷ t) (to_before e x l p) ∙ sym (to_before f e (x ∷ l) r))

-- two entries of one id are added as their sum
add-sum : (x e : Entry) (l : List Entry) → x.id ≡ e.id → added (plus x e) l ≡ added e (added x l)
add-sum x e [] h = to_none (plus x e) ∙ sym (ap (added e) (to_none x) ∙ to_same e x [] h)
add-sum x e (y ∷ l) h = tri y.id x.id
    (λ p. to_past (plus x e) y l p ∙ ap (λ (t : List Entry). y ∷ t) (add-sum x e l h) ∙ sym (ap (added e) (to_past x y l p) ∙ to_past e y (added x l) (omega arith)))
    (λ p. to_same (plus x e) y l p ∙ ap (λ (t : Entry). t ∷ l) (sym (plus_assoc y x e)) ∙ sym (ap (added e) (to_same x y l p) ∙ to_same e (plus y x) l (p ∙ h)))
    (λ p. to_before (plus x e) y l p ∙ sym (ap (added e) (to_before x y l p) ∙ to_same e x (y ∷ l) h))

-- ---- many entries
pub all_none : (l : List Entry) → added_all [] l ≡ l
unfolding added_all
all_none l = refl

pub all_cons : (e : Entry) (es l : List Entry) → added_all (e ∷ es) l ≡ added_all es (added e l)
unfolding added_all
all_cons e es l = refl

pub all_one : (es : List Entry) (e : Entry) (l : List Entry) → added_all es (added e l) ≡ added e (added_all es l)
unfolding added_all
all_one [] e l = refl
all_one (x ∷ es) e l = ap (added_all es) (swapped x e l) ∙ all_one es e (added x l)

pub all_append : (es fs l : List Entry) → added_all (es ++ fs) l ≡ added_all fs (added_all es l)
unfolding added_all
all_append [] fs l = refl
all_append (e ∷ es) fs l = all_append es fs (added e l)

pub all_swap : (es fs l : List Entry) → added_all es (added_all fs l) ≡ added_all fs (added_all es l)
unfolding added_all
all_swap [] fs l = refl
all_swap (e ∷ es) fs l = ap (added_all es) (sym (all_one fs e l)) ∙ all_swap es fs (added e l)

-- adding a list that an entry was added to
pub all-added : (b a : List Entry) (e : Entry) → added_all (added e b) a ≡ added e (added_all b a)
unfolding added_all
all-added [] a e = ap (λ (t : List Entry). added_all t a) (to_none e)
all-added (x ∷ b) a e = tri x.id e.id
    (λ p. ap (λ (t : List Entry). added_all t a) (to_past e x b p) ∙ all-added b (added x a) e)
    (λ p. ap (λ (t : List Entry). added_all t a) (to_same e x b p) ∙ ap (added_all b) (add-sum x e a p) ∙ all_one b e (added x a))
    (λ p. ap (λ (t : List Entry). added_all t a) (to_before e x b p) ∙ ap (added_all b) (swapped x e a) ∙ all_one b e (added x a))

pub all-all : (hs b a : List Entry) → added_all (added_all hs b) a ≡ added_all hs (added_all b a)
unfolding added_all
all-all [] b a = refl
all-all (h ∷ hs) b a = all-all hs (added h b) a ∙ ap (added_all hs) (all-added b a h)

-- ---- less fits where more fits
part-fits : (x e : Entry) → fits (plus x e) ≡ true → fits x ≡ true
part-fits x e h = let f = fits_each (plus x e) h in fits_all x (omega (arith, f.0)) (omega (arith, f.1)) (omega (arith, f.2))

pub fit-less : (e : Entry) (l : List Entry) → all_fit (added e l) ≡ true → all_fit l ≡ true
fit-less e [] h = none-fit
fit-less e (x ∷ l) h = tri x.id e.id
    (λ p. let q = ap all_fit (sym (to_past e x l p)) ∙ h in fit_cons x l (fit-head x (added e l) q) (fit-less e l (fit-tail x (added e l) q)))
    (λ p. let q = ap all_fit (sym (to_same e x l p)) ∙ h in fit_cons x l (part-fits x e (fit-head (plus x e) l q)) (fit-tail (plus x e) l q))
    (λ p. let q = ap all_fit (sym (to_before e x l p)) ∙ h in fit-tail e (x ∷ l) q)

pub fit_all : (es l : List Entry) → all_fit (added_all es l) ≡ true → all_fit l ≡ true
unfolding added_all
fit_all [] l h = h
fit_all (e ∷ es) l h = fit-less e l (fit_all es (added e l) h)

pub long-all : (es l : List Entry) → length l ≤ length (added_all es l)
unfolding added_all
long-all [] l = omega arith
long-all (e ∷ es) l = omega (arith, (add_longer plus e l).0, long-all es (added e l))

pub order-all : (es l : List Entry) → ascending_from 0 l ≡ true → ascending_from 0 (added_all es l) ≡ true
unfolding added_all
order-all [] l t = t
order-all (e ∷ es) l t = order-all es (added e l) (add_in_order e l t)

-- ---- in turn: made exactly where the whole is
turn-made : (e : Entry) (es l : List Entry) → all_fit (added e l) ≡ true → length (added e l) ≤ 64 → in_turn (e ∷ es) l ≡ in_turn es (added e l)
unfolding in_turn
turn-made e es l f k = ap (λ (o : Outcome). afterwards o (in_turn es)) (judged-made (added e l) f k)

turn_full : (e : Entry) (es l : List Entry) → all_fit (added e l) ≡ true → 64 < length (added e l) → in_turn (e ∷ es) l ≡ (Err MapFull)
unfolding in_turn
turn_full e es l f k = ap (λ (o : Outcome). afterwards o (in_turn es)) (judged_full (added e l) f k)

turn-none : (l : List Entry) → in_turn [] l ≡ Ok l
unfolding in_turn
turn-none l = refl

-- where no total of the whole passes its width, the turns give what the whole is judged
pub turns_judged : (es l : List Entry) → all_fit (added_all es l) ≡ true → length l ≤ 64 → in_turn es l ≡ judged (added_all es l)
turns_judged [] l f k = turn-none l ∙ sym (ap judged (all_none l) ∙ judged-made l (ap all_fit (sym (all_none l)) ∙ f) k)
turns_judged (e ∷ es) l f k =
    let g : all_fit (added_all es (added e l)) ≡ true = ap all_fit (sym (all_cons e es l)) ∙ f in
    by_test (leb (length (added e l)) 64)
    (λ t. turn-made e es l (fit_all es (added e l) g) (leb-true (length (added e l)) 64 t) ∙ turns_judged es (added e l) g (leb-true (length (added e l)) 64 t) ∙ ap judged (sym (all_cons e es l)))
    (λ t.
    let m : 64 < length (added e l) = leb-false (length (added e l)) 64 t in
    turn_full e es l (fit_all es (added e l) g) m
    ∙ sym (ap judged (all_cons e es l) ∙ judged_full (added_all es (added e l)) g (omega (arith, long-all es (added e l)))))

-- what the turns made is the whole
pub turns_made : (es l r : List Entry) → ascending_from 0 l ≡ true → all_fit l ≡ true → length l ≤ 64 → in_turn es l ≡ Ok r → (r ≡ added_all es l) × (all_fit (added_all es l) ≡ true) × (length (added_all es l) ≤ 64)
unfolding in_turn added_all
turns_made [] l r t f k h = (cc, f, k)
turns_made (e ∷ es) l r t f k h = go (judged (added e l)) (made-is (added e l)) (turns_made es (added e l) r (add_in_order e l t)) h
  where
    go : (o : Outcome) → ((m : List Entry) → o ≡ Ok m → (m ≡ added e l) × (all_fit (added e l) ≡ true) × (length (added e l) ≤ 64))
        → (all_fit (added e l) ≡ true → length (added e l) ≤ 64 → in_turn es (added e l) ≡ Ok r → (r ≡ added_all es (added e l)) × (all_fit (added_all es (added e l)) ≡ true) × (length (added_all es (added e l)) ≤ 64))
        → afterwards o (in_turn es) ≡ Ok r
        → (r ≡ added_all es (added e l)) × (all_fit (added_all es (added e l)) ≡ true) × (length (added_all es (added e l)) ≤ 64)
    go (Ok m) q ih h =
        let s = q m refl in
        ih s.1 s.2 (ap (in_turn es) (sym s.0) ∙ h)
    go (Err SumTooBig) q ih h = absurd (let z : ◌≡◌ {A = ℕ} 0 1 = cc in omega arith)
    go (Err MapFull) q ih h = absurd (let z : ◌≡◌ {A = ℕ} 0 1 = cc in omega arith)

-- ---- an id's own total decides whether an addition fits
module _ (id : ℕ) (x : Entry) (l : List Entry) where
  pub total_here : x.id ≡ id → total_of id (x ∷ l) ≡ x
  unfolding total_of pick
  total_here h = rw (eq-eqb x.id id h)

  pub total-past : (x.id ≡ id → ⊥) → total_of id (x ∷ l) ≡ total_of id l
  unfolding total_of pick
  total-past h = rw (ne_eqb x.id id h)

abbrev pub nothing : ℕ → Entry
nothing id = record { id = id; frames = 0; stated = 0; disk = 0 }

total-none : (id : ℕ) → total_of id [] ≡ nothing id
unfolding total_of
total-none id = refl

plus-nothing : (e : Entry) → plus (nothing e.id) e ≡ record { id = e.id; frames = e.frames; stated = e.stated; disk = e.disk }
plus-nothing e = entry-is refl (omega arith) (omega arith) (omega arith)

pub total_above : (id lo : ℕ) (l : List Entry) → id < lo → ascending_from lo l ≡ true → total_of id l ≡ nothing id
unfolding ascending_from
total_above id lo [] h t = total-none id
total_above id lo (x ∷ l) h t =
    let a : lo ≤ x.id = leb-true lo x.id (and_l (leb lo x.id) (ascending_from (suc x.id) l) t) in
    total-past id x l (λ z. omega arith) ∙ total_above id (suc x.id) l (omega arith) (and_r (leb lo x.id) (ascending_from (suc x.id) l) t)

pub fits-same : (e : Entry) → fits (plus (nothing e.id) e) ≡ fits e
unfolding fits
fits-same e = ap fits (plus-nothing e)

pub own-total : (e : Entry) (lo : ℕ) (l : List Entry) → ascending_from lo l ≡ true → all_fit l ≡ true → fits (plus (total_of e.id l) e) ≡ all_fit (added e l)
unfolding ascending_from all_fit
own-total e lo [] s f = ap (λ (t : Entry). fits (plus t e)) (total-none e.id) ∙ fits-same e ∙ sym (and_true (fits e)) ∙ ap all_fit (sym (to_none e))
own-total e lo (x ∷ l) s f =
    let b = and_r (leb lo x.id) (ascending_from (suc x.id) l) s in
    let fh : fits x ≡ true = fit-head x l f in
    let ft : all_fit l ≡ true = fit-tail x l f in
    tri x.id e.id
    (λ p.
    ap (λ (t : Entry). fits (plus t e)) (total-past e.id x l (λ z. omega arith))
    ∙ own-total e (suc x.id) l b ft
    ∙ sym (ap (λ (z : Bool). z && all_fit (added e l)) fh)
    ∙ ap all_fit (sym (to_past e x l p)))
    (λ p.
    ap (λ (t : Entry). fits (plus t e)) (total_here e.id x l p)
    ∙ sym (and_true (fits (plus x e))) ∙ sym (ap (λ (z : Bool). fits (plus x e) && z) ft)
    ∙ ap all_fit (sym (to_same e x l p)))
    (λ p.
    ap (λ (t : Entry). fits (plus t e)) (total-past e.id x l (λ z. omega arith) ∙ total_above e.id (suc x.id) l (omega arith) b)
    ∙ fits-same e
    ∙ sym (and_true (fits e)) ∙ sym (ap (λ (z : Bool). fits e && z) f)
    ∙ ap all_fit (sym (to_before e x l p)))

-- another id's total stays
total-other : (id : ℕ) (e : Entry) (l : List Entry) → (e.id ≡ id → ⊥) → total_of id (added e l) ≡ total_of id l
total-other id e [] h = ap (total_of id) (to_none e) ∙ total-past id e [] h
total-other id e (x ∷ l) h = tri x.id e.id
    (λ p. ap (total_of id) (to_past e x l p) ∙ same_or x.id id
    (λ q. total_here id x (added e l) q ∙ sym (total_here id x l q))
    (λ q. total-past id x (added e l) q ∙ total-other id e l h ∙ sym (total-past id x l q)))
    (λ p. ap (total_of id) (to_same e x l p) ∙ total-past id (plus x e) l (λ z. h (sym p ∙ z)) ∙ sym (total-past id x l (λ z. h (sym p ∙ z))))
    (λ p. ap (total_of id) (to_before e x l p) ∙ total-past id e (x ∷ l) h)

sums_other : (lo : ℕ) (e : Entry) (es l : List Entry) → e.id < lo → ascending_from lo es ≡ true → sums_fit es (added e l) ≡ sums_fit es l
unfolding ascending_from sums_fit
sums_other lo e [] l h t = refl
sums_other lo e (x ∷ es) l h t =
    let a : lo ≤ x.id = leb-true lo x.id (and_l (leb lo x.id) (ascending_from (suc x.id) es) t) in
    ap₂ (λ (y : Entry) (b : Bool). fits (plus y x) && b) (total-other x.id e l (λ z. omega arith)) (sums_other (suc x.id) e es l (omega arith) (and_r (leb lo x.id) (ascending_from (suc x.id) es) t))

unfit_more : (es l : List Entry) → all_fit l ≡ false → all_fit (added_all es l) ≡ false
unfit_more es l h = by_test (all_fit (added_all es l))
    (λ t. absurd (let u = fit_all es l t in let z : ◌≡◌ {A = ℕ} 0 1 = cc in omega arith))
    (λ t. t)

-- the sums tested one by one beforehand are the test of the whole
pub sums_are : (lo : ℕ) (es l : List Entry) → ascending_from lo es ≡ true → ascending_from 0 l ≡ true → all_fit l ≡ true → sums_fit es l ≡ all_fit (added_all es l)
unfolding ascending_from sums_fit added_all
sums_are lo [] l t s f = sym f
sums_are lo (e ∷ es) l t s f =
    let b = and_r (leb lo e.id) (ascending_from (suc e.id) es) t in
    let o : fits (plus (total_of e.id l) e) ≡ all_fit (added e l) = own-total e 0 l s f in
    by_test (all_fit (added e l))
    (λ q. ap (λ (z : Bool). z && sums_fit es l) (o ∙ q) ∙ sym (sums_other (suc e.id) e es l (omega arith) b) ∙ sums_are (suc e.id) es (added e l) b (add_in_order e l s) q)
    (λ q. ap (λ (z : Bool). z && sums_fit es l) (o ∙ q) ∙ sym (unfit_more es (added e l) q))

-- ---- an id's total, by what is found of it
abbrev pub or_nothing : ℕ → Option Entry → Entry
or_nothing id (Some e) = e
or_nothing id None = nothing id

pub total-is : (id : ℕ) (l : List Entry) → total_of id l ≡ or_nothing id (found id l)
total-is id [] = total-none id ∙ sym (ap (or_nothing id) (found_in_none id))
total-is id (x ∷ l) = same_or x.id id
    (λ p. total_here id x l p ∙ sym (ap (or_nothing id) (found_here id x l p)))
    (λ p. total-past id x l p ∙ total-is id l ∙ sym (ap (or_nothing id) (found-past id x l p)))

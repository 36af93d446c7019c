-- A file's own drops decide whether it is dead.
use Prim.Native.Nat.{ℕ, ◌+◌, ◌≤◌}
use mathlib.Core.Path.{◌≡◌, refl, sym, ◌∙◌, ap, ap₂}
use mathlib.Core.List.{List, [], ◌∷◌, ◌++◌, append-nil}
use mathlib.Core.Bool.{Bool, true, false, ◌&&◌, ◌||◌}
use native.Mathlib.Omega.{arith}
use lib.Dec.{eqb}
use borrow.Author.Tests.{eq-eqb, ne_eqb}
use Rattle.numbers.specs.Pick.{pick}
use Rattle.numbers.specs.declared.handle.BlobIndirection.{BlobIndirection}
use Rattle.garbage.specs.declared.verdict.DeadVerdict.TheVariants.{Dead, Wanted, NoEntry}
use Rattle.std.specs.Prelude.{Ok}
use Rattle.garbage.specs.Verdicts.{dead_by}
use Rattle.garbage.specs.Tallies.{of_file, stated_in, tally}
use Rattle.garbage.specs.Files.{Frame, File, gone_of, all_gone, stated_of, Own, Finished, AllFinished, Apart, Distinct, In, here, there, some_gone, heavy_gone}
use Rattle.garbage.proofs.Bools.{same_or}
use Rattle.garbage.proofs.Tallying.{of_own, of_other, of_none, of_append}

-- ---- the drops of one file among those of all
own-all : (id : ℕ) (fs : List Frame) → Own id fs → of_file id (gone_of fs) ≡ gone_of fs
unfolding gone_of pick
own-all id [] o = of_none id
own-all id (f ∷ fs) o = go f.gone (own-all id fs o.2)
  where
    go : (b : Bool) → of_file id (gone_of fs) ≡ gone_of fs → of_file id (pick b (f.pointer ∷ gone_of fs) (gone_of fs)) ≡ pick b (f.pointer ∷ gone_of fs) (gone_of fs)
    go true h = of_own id f.pointer (gone_of fs) o.0 ∙ ap (λ (t : List BlobIndirection). f.pointer ∷ t) h
    go false h = h

other_none : (id k : ℕ) (fs : List Frame) → (k ≡ id → ⊥) → Own k fs → of_file id (gone_of fs) ≡ []
unfolding gone_of pick
other_none id k [] n o = of_none id
other_none id k (f ∷ fs) n o = go f.gone (other_none id k fs n o.2)
  where
    go : (b : Bool) → of_file id (gone_of fs) ≡ [] → of_file id (pick b (f.pointer ∷ gone_of fs) (gone_of fs)) ≡ []
    go true h = of_other id f.pointer (gone_of fs) (λ z. n (sym o.0 ∙ z)) ∙ h
    go false h = h

apart_none : (id : ℕ) (fs : List File) → AllFinished fs → Apart id fs → of_file id (all_gone fs) ≡ []
unfolding all_gone
apart_none id [] w a = of_none id
apart_none id (f ∷ fs) w a =
    of_append id (gone_of f.frames) (all_gone fs)
    ∙ ap₂ (λ (x y : List BlobIndirection). x ++ y) (other_none id f.id f.frames a.0 w.0.own) (apart_none id fs w.1 a.1)

apart_in : (id : ℕ) (f : File) (fs : List File) → Apart id fs → In f fs → f.id ≡ id → ⊥
apart_in id f [] a x = elim x [ ]
apart_in id f (g ∷ fs) a here = a.0
apart_in id f (g ∷ fs) a (there i) = apart_in id f fs a.1 i

pub own_drops : (f : File) (fs : List File) → AllFinished fs → Distinct fs → In f fs → of_file f.id (all_gone fs) ≡ gone_of f.frames
unfolding all_gone
own_drops f [] w d x = elim x [ ]
own_drops f (g ∷ fs) w d here =
    of_append f.id (gone_of f.frames) (all_gone fs)
    ∙ ap₂ (λ (x y : List BlobIndirection). x ++ y) (own-all f.id f.frames w.0.own) (apart_none f.id fs w.1 d.0)
    ∙ append-nil (gone_of f.frames)
own_drops f (g ∷ fs) w d (there i) =
    of_append f.id (gone_of g.frames) (all_gone fs)
    ∙ ap₂ (λ (x y : List BlobIndirection). x ++ y) (other_none f.id g.id g.frames (λ e. apart_in g.id f fs d.0 i (sym e)) w.0.own) (own_drops f fs w.1 d.1 i)

pub finished_in : (f : File) (fs : List File) → AllFinished fs → In f fs → Finished f
finished_in f [] w x = elim x [ ]
finished_in f (g ∷ fs) w here = w.0
finished_in f (g ∷ fs) w (there i) = finished_in f fs w.1 i

-- ---- all stated bytes were dropped exactly when every frame that has some was
gone-le : (fs : List Frame) → stated_in (gone_of fs) ≤ stated_of fs
unfolding gone_of stated_in stated_of pick
gone-le [] = omega arith
gone-le (f ∷ fs) = go f.gone (gone-le fs)
  where
    go : (b : Bool) → stated_in (gone_of fs) ≤ stated_of fs → stated_in (pick b (f.pointer ∷ gone_of fs) (gone_of fs)) ≤ f.pointer.stated + stated_of fs
    go true h = omega arith
    go false h = omega arith

cancel : (a b n : ℕ) → eqb (n + a) (n + b) ≡ eqb a b
cancel a b n = same_or a b
    (λ p. eq-eqb (n + a) (n + b) (omega arith) ∙ sym (eq-eqb a b p))
    (λ p. ne_eqb (n + a) (n + b) (λ z. p (omega arith)) ∙ sym (ne_eqb a b p))

heavy : (fs : List Frame) → eqb (stated_in (gone_of fs)) (stated_of fs) ≡ heavy_gone fs
unfolding gone_of stated_in stated_of heavy_gone pick
heavy [] = refl
heavy (f ∷ fs) = go f.gone (heavy fs)
  where
    go : (b : Bool) → eqb (stated_in (gone_of fs)) (stated_of fs) ≡ heavy_gone fs
        → eqb (stated_in (pick b (f.pointer ∷ gone_of fs) (gone_of fs))) (f.pointer.stated + stated_of fs) ≡ ((b || eqb f.pointer.stated 0) && heavy_gone fs)
    go true h = cancel (stated_in (gone_of fs)) (stated_of fs) f.pointer.stated ∙ h
    go false h = same_or f.pointer.stated 0
        (λ p. ap (λ (n : ℕ). eqb (stated_in (gone_of fs)) (n + stated_of fs)) p ∙ ap (eqb (stated_in (gone_of fs))) (let z : 0 + stated_of fs ≡ stated_of fs = omega arith in z) ∙ h ∙ sym (rw (eq-eqb f.pointer.stated 0 p)))
        (λ p. ne_eqb (stated_in (gone_of fs)) (f.pointer.stated + stated_of fs) (λ z. p (omega (arith, gone-le fs))) ∙ sym (rw (ne_eqb f.pointer.stated 0 p)))

abbrev any : List BlobIndirection → Bool
any [] = false
any (p ∷ ps) = true

some_is : (fs : List Frame) → some_gone fs ≡ any (gone_of fs)
unfolding some_gone gone_of pick
some_is [] = refl
some_is (f ∷ fs) = go f.gone (some_is fs)
  where
    go : (b : Bool) → some_gone fs ≡ any (gone_of fs) → (b || some_gone fs) ≡ any (pick b (f.pointer ∷ gone_of fs) (gone_of fs))
    go true h = refl
    go false h = h

pub dead-by : (id total : ℕ) (fs : List Frame) → total ≡ stated_of fs
    → dead_by (Ok (tally id (gone_of fs))) total ≡ pick (some_gone fs) (pick (heavy_gone fs) Dead Wanted) NoEntry
unfolding pick
dead-by id total fs e =
    go (gone_of fs)
    ∙ ap₂ (λ (x y : Bool). pick x (pick y Dead Wanted) NoEntry) (sym (some_is fs)) (ap (eqb (stated_in (gone_of fs))) e ∙ heavy fs)
  where
    go : (ps : List BlobIndirection) → dead_by (Ok (tally id ps)) total ≡ pick (any ps) (pick (eqb (stated_in ps) total) Dead Wanted) NoEntry
    go [] = refl
    go (p ∷ ps) = refl

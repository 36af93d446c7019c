-- Laws of the writer as the fold of its frames: its place, its totals, and where the first and the last key lie.
use Prim.Native.Nat.{ℕ, suc, ◌+◌}
use Rattle.std.specs.Prelude.{◌≡◌, Bool, length, leb}
use Rattle.std.proofs.Math.Path.{refl, sym, ap}
use Rattle.std.proofs.Common.{◌∙◌, ne_eqb}
use mathlib.Core.List.{List, [], ◌∷◌, ◌++◌, append_assoc}
use native.Mathlib.Omega.{arith}
use Rattle.std.proofs.Math.ListN.{length-append}
use Rattle.numbers.specs.Pick.{pick}
use Rattle.frames.specs.Layout.{Item}
use Rattle.frames.specs.LayoutLaws.{length-frame}
use Rattle.frames.specs.Shape.{Form, blob_form, shape_of, size_of}
use Rattle.frames.specs.Write.{key_place, first_of, grown}
use Rattle.frames.specs.Runs.{Frame, all_bytes}
use Rattle.frames.specs.Ran.{grown_by, settled, stated_sum, disk_sum, Laid, key_of, first_key, last_key}
use Rattle.frames.specs.declared.place.Place.{Place}
use Rattle.frames.specs.declared.state.Writer.{Writer}

-- a form tells its frames' lengths truly
abbrev pub Sized : Form → Type 0
Sized form = (i : Item) → length (form.bytes i) ≡ size_of (shape_of form i)

pub blob-sized : Sized blob_form
blob-sized i = let n = length-frame i in omega arith

pub disk-append : (a b : List Frame) → disk_sum (a ++ b) ≡ disk_sum a + disk_sum b
unfolding disk_sum
disk-append [] b = omega arith
disk-append (f ∷ a) b = let e = disk-append a b in omega arith

pub stated-append : (a b : List Frame) → stated_sum (a ++ b) ≡ stated_sum a + stated_sum b
unfolding stated_sum
stated-append [] b = omega arith
stated-append (f ∷ a) b = let e = stated-append a b in omega arith

module _ (form : Form) where
  pub all_append : (a b : List Frame) → all_bytes form (a ++ b) ≡ all_bytes form a ++ all_bytes form b
  unfolding all_bytes
  all_append [] b = refl
  all_append (f ∷ a) b =
      ap (λ (l : List ℕ). form.bytes f.item ++ l) (all_append a b) ∙ sym (append_assoc (form.bytes f.item) (all_bytes form a) (all_bytes form b))

  pub grown-append : (w : Writer) (a b : List Frame) → grown_by form w (a ++ b) ≡ grown_by form (grown_by form w a) b
  unfolding grown_by
  grown-append w [] b = refl
  grown-append w (f ∷ a) b = grown-append (grown w (shape_of form f.item)) a b

  -- what the fold makes of a writer's other fields does not depend on its target, nor on whether it was finished
  pub grown-settled : (fs : List Frame) (w : Writer) (target now : ℕ) (before finished : Bool)
      → settled (grown_by form (settled w target before) fs) now finished ≡ settled (grown_by form w fs) now finished
  unfolding grown_by grown
  grown-settled [] w target now before finished = refl
  grown-settled (f ∷ fs) w target now before finished =
      grown-settled fs (grown w (shape_of form f.item)) target now (leb target (w.offset + size_of (shape_of form f.item))) finished

  pub grown-id : (fs : List Frame) (w : Writer) → (grown_by form w fs).id ≡ w.id
  unfolding grown_by grown
  grown-id [] w = refl
  grown-id (f ∷ fs) w = grown-id fs (grown w (shape_of form f.item))

  pub grown_target : (fs : List Frame) (w : Writer) → (grown_by form w fs).target ≡ w.target
  unfolding grown_by grown
  grown_target [] w = refl
  grown_target (f ∷ fs) w = grown_target fs (grown w (shape_of form f.item))

  pub grown-items : (fs : List Frame) (w : Writer) → (grown_by form w fs).items ≡ w.items + length fs
  unfolding grown_by grown
  grown-items [] w = omega arith
  grown-items (f ∷ fs) w = let e = grown-items fs (grown w (shape_of form f.item)) in omega arith

  pub grown-disk : (fs : List Frame) (w : Writer) → (grown_by form w fs).disk ≡ w.disk + disk_sum fs
  unfolding grown_by grown disk_sum
  grown-disk [] w = omega arith
  grown-disk (f ∷ fs) w = let e = grown-disk fs (grown w (shape_of form f.item)) in omega arith

  pub grown-stated : (fs : List Frame) (w : Writer) → (grown_by form w fs).stated ≡ w.stated + stated_sum fs
  unfolding grown_by grown stated_sum
  grown-stated [] w = omega arith
  grown-stated (f ∷ fs) w = let e = grown-stated fs (grown w (shape_of form f.item)) in omega arith

  pub grown-offset : Sized form → (fs : List Frame) (w : Writer) → (grown_by form w fs).offset ≡ w.offset + length (all_bytes form fs)
  unfolding grown_by grown all_bytes
  grown-offset sized [] w = omega arith
  grown-offset sized (f ∷ fs) w =
      let e = grown-offset sized fs (grown w (shape_of form f.item)) in
      let n = length-append (form.bytes f.item) (all_bytes form fs) in
      let m = sized f.item in
      omega arith

  -- where a key lies, by its frame's handle and by the writer that took it
  key_of_lem : (id : ℕ) (w : Writer) (f : Frame) (fs : List Frame) → Laid form id w.offset (f ∷ fs) → key_place w (shape_of form f.item) ≡ key_of form f
  key_of_lem id w f fs l = let p = l.0.pointer in rw p

  later : (items : ℕ) (here first : Place) → first_of (suc items) here first ≡ first
  unfolding first_of pick
  later items here first = let n : suc items ≡ 0 → ⊥ = λ e. omega arith in simp (ne_eqb _ _ n)

  stays : (fs : List Frame) (w : Writer) (items : ℕ) → w.items ≡ suc items → (grown_by form w fs).first ≡ w.first
  unfolding grown_by grown
  stays [] w items e = refl
  stays (f ∷ fs) w items e = stays fs (grown w (shape_of form f.item)) (suc items) (omega arith) ∙ rw e (later items _ _)

  pub grown-first : (id : ℕ) (fs : List Frame) (w : Writer) → w.items ≡ 0 → Laid form id w.offset fs → (grown_by form w fs).first ≡ first_key form fs w.first
  unfolding grown_by grown first_key first_of pick
  grown-first id [] w z l = refl
  grown-first id (f ∷ fs) w z l = stays fs (grown w (shape_of form f.item)) 0 (omega arith) ∙ rw z (key_of_lem id w f fs l)

  pub grown-last : (id : ℕ) (fs : List Frame) (w : Writer) → Laid form id w.offset fs → (grown_by form w fs).last ≡ last_key form fs w.last
  unfolding grown_by grown last_key
  grown-last id [] w l = refl
  grown-last id (f ∷ fs) w l = grown-last id fs (grown w (shape_of form f.item)) l.1 ∙ rw (key_of_lem id w f fs l)

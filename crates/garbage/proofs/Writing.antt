-- The writer's runs are files of the first layer: each pointer names its file, its numbers fit, and the report adds up the frames.
use Prim.Native.Nat.{ℕ, ◌+◌, ◌≤◌, ◌<◌, ◌^◌}
use mathlib.Core.Path.{◌≡◌, refl, sym, ◌∙◌, ap, ap₂}
use mathlib.Core.List.Permᴰ
use mathlib.Core.List.{List, [], ◌∷◌, ◌++◌, Permᴰ}
use mathlib.Core.Bool.{Bool, true, false}
use native.Mathlib.Omega.{arith}
use lib.ListN.{length, length-append}
use Rattle.numbers.specs.Pick.{pick}
use Rattle.numbers.specs.declared.handle.BlobIndirection.{BlobIndirection}
use Rattle.frames.specs.declared.writer.Report.{Report}
use Rattle.frames.specs.Write.{report_of, end_bytes}
use Rattle.frames.specs.Shape.{blob_form, shape_of, size_of}
use Rattle.frames.specs.Runs.{Frame as Accepted, all_bytes}
use Rattle.frames.specs.Ran.{Laid, stated_sum, Ran}
use Rattle.frames.specs.GrownLaws.{blob-sized}
use Rattle.frames.specs.RunLaws as run
use Rattle.garbage.specs.Tallies.{Typed, AllTyped}
use Rattle.garbage.specs.Files.{Frame, File, gone_of, all_gone, stated_of, Own, Finished, AllFinished, Distinct, In}
use Rattle.garbage.specs.Files as F
use Rattle.garbage.specs.Written.{Written, run_of, FromZero, AllFromZero, with_drops, file_of, files_of, Among, here, there}
use Rattle.garbage.specs.Verdicts.{dead_of}
use Rattle.garbage.specs.Theorems.{WrittenSameBytes, WrittenDeadExactly}
use Rattle.garbage.proofs.Dealing.{same_bytes_lem, dead_exactly_lem}

-- ---- one file
-- a frame's bytes, and where the next frame lies
abbrev bytes_for : Accepted → List ℕ
bytes_for f = blob_form.bytes f.item

abbrev behind : ℕ → Accepted → ℕ
behind offset f = offset + size_of (shape_of blob_form f.item)

module _ (id most : ℕ) (small : id < 2 ^ 64) (m : most < 2 ^ 64) where
  one : (offset : ℕ) (f : Accepted) (fs : List Accepted) (b : Bool) (rest : List Frame) → Laid blob_form id offset (f ∷ fs) → offset + length (all_bytes blob_form (f ∷ fs)) ≤ most
      → (behind offset f + length (all_bytes blob_form fs) ≤ most → Own id rest) → Own id (record { pointer = f.pointer; gone = b } ∷ rest)
  unfolding all_bytes
  one offset f fs b rest l h k =
      let n = length-append (bytes_for f) (all_bytes blob_form fs) in
      let z = blob-sized f.item in
      let p = l.0.pointer in
      (rw p, (rw p (omega arith), rw p small, rw p (omega (arith, l.0.value)), rw p l.0.stated), k (omega arith))

  own : (offset : ℕ) (fs : List Accepted) (gone : List Bool) → Laid blob_form id offset fs → offset + length (all_bytes blob_form fs) ≤ most → Own id (with_drops fs gone)
  own offset [] gone l h = tt
  own offset (f ∷ fs) [] l h = one offset f fs false (with_drops fs []) l h (own (behind offset f) fs [] l.1)
  own offset (f ∷ fs) (b ∷ gone) l h = one offset f fs b (with_drops fs gone) l h (own (behind offset f) fs gone l.1)

stated-is : (id offset : ℕ) (fs : List Accepted) (gone : List Bool) → Laid blob_form id offset fs → stated_sum fs ≡ stated_of (with_drops fs gone)
unfolding stated_sum stated_of
stated-is id offset [] gone l = refl
stated-is id offset (f ∷ fs) [] l = ap₂ ◌+◌ (sym (ap (λ (p : BlobIndirection). p.stated) l.0.pointer)) (stated-is id (behind offset f) fs [] l.1)
stated-is id offset (f ∷ fs) (b ∷ gone) l = ap₂ ◌+◌ (sym (ap (λ (p : BlobIndirection). p.stated) l.0.pointer)) (stated-is id (behind offset f) fs gone l.1)

module _ (f : Written) (z : FromZero f) where
  ran : Ran blob_form f.writer f.buffer (run_of f)
  ran = run.ran blob_form blob-sized f.calls f.writer f.buffer z.unfinished z.typed

  inside : f.writer.offset + length (all_bytes blob_form (run_of f).frames) ≤ length f.buffer
  inside =
      let h = ran.fits (omega (arith, z.offset)) in
      omega (arith, h, length-append (all_bytes blob_form (run_of f).frames) (end_bytes (run_of f).writer.finished))

  pub finished : Finished (file_of f)
  finished = record {
    own = own f.writer.id (length f.buffer) z.id z.room f.writer.offset (run_of f).frames f.gone ran.laid inside;
    total =
        (let t = run.ran-stated blob_form blob-sized f.writer f.buffer (run_of f) ran in
        let e : (run_of f).writer.stated ≡ stated_sum (run_of f).frames = omega (arith, t, z.stated) in e)
        ∙ stated-is f.writer.id f.writer.offset (run_of f).frames f.gone ran.laid;
  }

  pub one-report : (run_of f).reports ≡ report_of (run_of f).writer ∷ []
  unfolding pick
  one-report = ran.reports ∙ rw z.done

  pub reported : (report : Report) → (run_of f).reports ≡ report ∷ [] → report_of (run_of f).writer ≡ report
  reported report e =
      let q : report_of (run_of f).writer ∷ [] ≡ report ∷ [] = sym one-report ∙ e in
      first q
    where
      first : {a b : Report} → a ∷ [] ≡ b ∷ [] → a ≡ b
      first q = cc

all_finished : (fs : List Written) → AllFromZero fs → AllFinished (files_of fs)
all_finished [] z = tt
all_finished (f ∷ fs) z = (finished f z.0, all_finished fs z.1)

among : (f : Written) (fs : List Written) → Among f fs → In (file_of f) (files_of fs)
among f [] x = elim x [ ]
among f (g ∷ fs) here = F.here
among f (g ∷ fs) (there i) = F.there (among f fs i)

from_zero : (f : Written) (fs : List Written) → AllFromZero fs → Among f fs → FromZero f
from_zero f [] z x = elim x [ ]
from_zero f (g ∷ fs) z here = z.0
from_zero f (g ∷ fs) z (there i) = from_zero f fs z.1 i

-- ---- the drops' numbers fit, in any order
typed-append : (ps qs : List BlobIndirection) → AllTyped ps → AllTyped qs → AllTyped (ps ++ qs)
typed-append [] qs s t = t
typed-append (p ∷ ps) qs s t = (s.0, typed-append ps qs s.1 t)

typed-gone : (id : ℕ) (fs : List Frame) → Own id fs → AllTyped (gone_of fs)
unfolding gone_of pick
typed-gone id [] o = tt
typed-gone id (f ∷ fs) o = go f.gone (typed-gone id fs o.2)
  where
    go : (b : Bool) → AllTyped (gone_of fs) → AllTyped (pick b (f.pointer ∷ gone_of fs) (gone_of fs))
    go true t = (o.1, t)
    go false t = t

typed-all : (fs : List File) → AllFinished fs → AllTyped (all_gone fs)
unfolding all_gone
typed-all [] w = tt
typed-all (f ∷ fs) w = typed-append (gone_of f.frames) (all_gone fs) (typed-gone f.id f.frames w.0.own) (typed-all fs w.1)

moved : {p q : BlobIndirection} → p ≡ q → Typed q → Typed p
moved e t = rw e t

typed_perm : {ps qs : List BlobIndirection} → Permᴰ ps qs → AllTyped qs → AllTyped ps
typed_perm Permᴰ.nil t = tt
typed_perm (Permᴰ.cons e d) t = (moved e t.0, typed_perm d t.1)
typed_perm (Permᴰ.swap p q) t = (moved p t.1.0, (moved q t.0, t.1.1))
typed_perm (Permᴰ.trans d e) t = typed_perm d (typed_perm e t)

pub written-same-bytes : WrittenSameBytes
written-same-bytes fs a b m z d p q e =
    let t : AllTyped (all_gone (files_of fs)) = typed-all (files_of fs) (all_finished fs z) in
    same_bytes_lem a b m (typed_perm p t) (typed_perm q t) (Permᴰ.trans p (Permᴰ.symm q)) e

pub written_dead_exactly_lem : WrittenDeadExactly
written_dead_exactly_lem fs a m f report z d i r p e =
    let t : AllTyped (all_gone (files_of fs)) = typed-all (files_of fs) (all_finished fs z) in
    ap (dead_of m f.writer.id) (sym (reported f (from_zero f fs z i) report r))
    ∙ dead_exactly_lem (files_of fs) a m (file_of f) (all_finished fs z) d (among f fs i) (typed_perm p t) p e

-- Laws of handles and indirections as bytes: what the round trips stand on.
use Rattle.std.specs.Prelude.{◌≡◌, ℕ, ◌+◌, ◌≤◌, List, ◌++◌, length, Ok, Err, refl}
use Rattle.std.proofs.Common.{sym, ap, ◌∙◌, arith, length-append}
use Rattle.std.proofs.lemmas.List.Edits.{sets}
use Rattle.numbers.specs.LeLaws.{sets-append}
use Rattle.numbers.specs.Leb128.{shortest, ReadOf, got, read_of}
use Rattle.numbers.specs.ReadingLaws.{got-value, got-used, not_got}
use Rattle.numbers.specs.Leb128Laws.{length_some, within}
use Rattle.numbers.specs.Handle.{handle_bytes, indirection_bytes, onward, handle_of, indirection_of}
use Rattle.numbers.specs.declared.handle.ValueHandle.{ValueHandle}
use Rattle.numbers.specs.declared.handle.BlobIndirection.{BlobIndirection}

pub length-handle : (h : ValueHandle) → length (handle_bytes h) ≡ length (shortest h.offset) + length (shortest h.file) + length (shortest h.size)
unfolding handle_bytes
length-handle h = simp length-append (omega arith)

pub length_indirection : (i : BlobIndirection) → length (indirection_bytes i) ≡ length (handle_bytes i.handle) + length (shortest i.stated)
unfolding indirection_bytes
length_indirection i = length-append (handle_bytes i.handle) (shortest i.stated)

pub handle-some : (h : ValueHandle) → 1 ≤ length (handle_bytes h)
handle-some h = omega (arith, length-handle h, length_some h.offset)

-- the three numbers laid one after another are the handle laid
pub handle-laid : (h : ValueHandle) (b₀ b₁ b₂ b₃ : List ℕ) (at file-at size-at : ℕ)
    → b₁ ≡ sets b₀ at (shortest h.offset) → file-at ≡ at + length (shortest h.offset)
    → b₂ ≡ sets b₁ file-at (shortest h.file) → size-at ≡ file-at + length (shortest h.file)
    → b₃ ≡ sets b₂ size-at (shortest h.size)
    → b₃ ≡ sets b₀ at (handle_bytes h)
unfolding handle_bytes
handle-laid h b₀ b₁ b₂ b₃ at file-at size-at p e q f r =
    r ∙ rw (f, q, sets-append (shortest h.file) (shortest h.size) b₁ file-at, p, e) (sets-append (shortest h.offset) (shortest h.file ++ shortest h.size) b₀ at)

pub indirection_laid : (i : BlobIndirection) (b₀ b₁ b₂ : List ℕ) (at stated-at : ℕ)
    → b₁ ≡ sets b₀ at (handle_bytes i.handle) → stated-at ≡ at + length (handle_bytes i.handle)
    → b₂ ≡ sets b₁ stated-at (shortest i.stated)
    → b₂ ≡ sets b₀ at (indirection_bytes i)
unfolding indirection_bytes
indirection_laid i b₀ b₁ b₂ at stated-at p e q = q ∙ rw (p, e) (sets-append (handle_bytes i.handle) (shortest i.stated) b₀ at)

-- a handle that was read: its three numbers, one after another
pub record HandleRead (at : ℕ) (s : List ℕ) (h : ValueHandle) (used : ℕ) : Type 0 where
  pub n : ℕ
  pub m : ℕ
  pub k : ℕ
  pub offset : read_of 64 at s ≡ got h.offset n
  pub file : read_of 64 (at + n) s ≡ got h.file m
  pub size : read_of 32 (at + n + m) s ≡ got h.size k
  pub all : used ≡ n + m + k

-- what was got by going on was got first, and then from there
pub record Onward {A B : Type 0} (r : ReadOf A) (next : A → ℕ → ReadOf B) (value : B) (used : ℕ) : Type 0 where
  pub first : A
  pub n : ℕ
  pub was : r ≡ got first n
  pub then : next first n ≡ got value used

pub onward-parts : {A B : Type 0} (r : ReadOf A) (next : A → ℕ → ReadOf B) (value : B) (used : ℕ) → onward r next ≡ got value used → Onward r next value used
unfolding onward
onward-parts (Ok r) next value used e = record { first = r.value; n = r.used; was = refl; then = e }
onward-parts (Err why) next value used e = not_got e

pub handle-parts : (at : ℕ) (s : List ℕ) (h : ValueHandle) (used : ℕ) → handle_of at s ≡ got h used → HandleRead at s h used
unfolding handle_of
handle-parts at s h used e =
    let a = onward-parts (read_of 64 at s) _ h used e in
    let b = onward-parts (read_of 64 (at + a.n) s) _ h used a.then in
    let c = onward-parts (read_of 32 (at + a.n + b.n) s) _ h used b.then in
    let f = got-value c.then in
    record {
      n = a.n;
      m = b.n;
      k = c.n;
      offset = a.was ∙ ap (λ (x : ValueHandle). got x.offset a.n) f;
      file = b.was ∙ ap (λ (x : ValueHandle). got x.file b.n) f;
      size = c.was ∙ ap (λ (x : ValueHandle). got x.size c.n) f;
      all = sym (got-used c.then);
    }

-- a handle that was read lies whole in the bytes
pub within-handle : (at : ℕ) (s : List ℕ) (h : ValueHandle) (used : ℕ) → handle_of at s ≡ got h used → at + used ≤ length s
within-handle at s h used e =
    let r = handle-parts at s h used e in
    omega (arith, r.all, within 32 (at + r.n + r.m) s h.size r.k r.size)

-- an indirection that was read: its handle, then the stated length
pub record IndirectionRead (at : ℕ) (s : List ℕ) (i : BlobIndirection) (used : ℕ) : Type 0 where
  pub n : ℕ
  pub k : ℕ
  pub handle : handle_of at s ≡ got i.handle n
  pub stated : read_of 32 (at + n) s ≡ got i.stated k
  pub all : used ≡ n + k

pub indirection_parts : (at : ℕ) (s : List ℕ) (i : BlobIndirection) (used : ℕ) → indirection_of at s ≡ got i used → IndirectionRead at s i used
unfolding indirection_of
indirection_parts at s i used e =
    let a = onward-parts (handle_of at s) _ i used e in
    let b = onward-parts (read_of 32 (at + a.n) s) _ i used a.then in
    let f = got-value b.then in
    record {
      n = a.n;
      k = b.n;
      handle = a.was ∙ ap (λ (x : BlobIndirection). got x.handle a.n) f;
      stated = b.was ∙ ap (λ (x : BlobIndirection). got x.stated b.n) f;
      all = sym (got-used b.then);
    }

pub within_indirection : (at : ℕ) (s : List ℕ) (i : BlobIndirection) (used : ℕ) → indirection_of at s ≡ got i used → at + used ≤ length s
within_indirection at s i used e =
    let r = indirection_parts at s i used e in
    omega (arith, r.all, within 32 (at + r.n) s i.stated r.k r.stated)

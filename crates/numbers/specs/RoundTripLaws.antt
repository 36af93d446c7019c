-- What is written reads back, and what was read shortest is what is written; a caller's proof cites `indirection_back`.
use Rattle.std.specs.Prelude.{◌≡◌, ℕ, zero, suc, ◌+◌, ◌-◌, ◌^◌, ◌<◌, ◌≤◌, List, ◌++◌, length, take, drop, Ok, refl}
use Rattle.std.proofs.Common.{sym, ap, ◌∙◌, append_assoc, arith, length-append, length-take, drop_at, drop-drop, get_or-drop, take-add}
use Rattle.std.proofs.lemmas.List.Edits.{sets-eq}
use Rattle.std.proofs.Math.Seq.{drop-append_seam}
use Rattle.numbers.specs.Le.{Octets}
use Rattle.numbers.specs.Wrote.{wrote_of, placed}
use Rattle.numbers.specs.WroteLaws.{wrote_used}
use Rattle.numbers.specs.Leb128.{shortest, in_groups, got, read_in, groups, read_of}
use Rattle.numbers.specs.Leb128Laws.{length_some, length_most, found}
use Rattle.numbers.specs.GroupLaws.{reads-groups, shortest-groups, shortest-holds, in_width, found_below, found-groups}
use Rattle.numbers.specs.Handle.{handle_bytes, indirection_bytes, onward, handle_of, indirection_of}
use Rattle.numbers.specs.HandleLaws.{length-handle, length_indirection, handle-parts, indirection_parts}
use Rattle.numbers.specs.declared.handle.ValueHandle.{ValueHandle}
use Rattle.numbers.specs.declared.handle.BlobIndirection.{BlobIndirection}

-- ---- places
-- what was written stands at its place, and what was there after it
pub stands : (bytes buf : List ℕ) (at n : ℕ) → wrote_of bytes at buf ≡ Ok n → 1 ≤ length bytes → drop at (placed bytes at buf) ≡ bytes ++ drop (at + length bytes) buf
stands bytes buf at n e h =
    let u = wrote_used bytes buf at n e in
    let k : length (take at buf) ≡ at = length-take at buf ∙ (omega (arith, u.1)) in
    ap (drop at) (u.2 ∙ sets-eq bytes buf at (omega (arith, u.1)) ∙ append_assoc (take at buf) bytes (drop (at + length bytes) buf))
    ∙ drop_at (take at buf) (bytes ++ drop (at + length bytes) buf) at k

-- past what stands at a place
pub past : (s a b : List ℕ) (at : ℕ) → drop at s ≡ a ++ b → drop (at + length a) s ≡ b
past s a b at e = sym (drop-drop (length a) at s) ∙ ap (drop (length a)) e ∙ drop-append_seam a b

-- ---- numbers
pub reads-back : (w at x : ℕ) (s rest : List ℕ) → 0 < w → x < 2 ^ w → drop at s ≡ shortest x ++ rest → read_of w at s ≡ got x (length (shortest x))
reads-back w at x s rest p h e = go (length (shortest x)) refl
  where
    go : (n : ℕ) → length (shortest x) ≡ n → read_of w at s ≡ got x (length (shortest x))
    go zero f = absurd (omega (arith, length_some x))
    go (suc n) f =
        let g : drop at s ≡ in_groups (suc n) x ++ rest = e ∙ ap (λ (l : List ℕ). l ++ rest) (shortest-groups x ∙ ap (λ (k : ℕ). in_groups k x) f) in
        ap (read_in (groups w) (2 ^ w) at) g
        ∙ reads-groups (groups w) (2 ^ w) at n x rest (omega (arith, in_width w x p h)) (rw f at (shortest-holds x)) h
        ∙ ap (got x) (sym f)

pub none_shorter : (w at value used : ℕ) (s : List ℕ) → read_of w at s ≡ got value used → length (shortest value) ≤ used
none_shorter w at value used s e =
    let f = found (groups w) (2 ^ w) at (drop at s) value used e in
    let k = used - 1 in
    let u : suc k ≡ used = omega (arith, f.last) in
    let l : length (shortest value) ≤ suc k = length_most k value (rw u (found_below (groups w) (2 ^ w) (drop at s) value used f)) in
    omega arith

pub writes_back : (w at value used : ℕ) (s : List ℕ) → Octets s → read_of w at s ≡ got value used → used ≡ length (shortest value)
    → take used (drop at s) ≡ shortest value
writes_back w at value used s b e u =
    found-groups (groups w) (2 ^ w) (drop at s) value used (λ k. rw (get_or-drop at s k 0) (b (at + k))) (found (groups w) (2 ^ w) at (drop at s) value used e)
    ∙ ap (λ (n : ℕ). in_groups n value) u ∙ sym (shortest-groups value)

-- ---- handles and indirections
pub handle-back : (h : ValueHandle) (at : ℕ) (s rest : List ℕ) → h.offset < 2 ^ 64 → h.file < 2 ^ 64 → h.size < 2 ^ 32
    → drop at s ≡ handle_bytes h ++ rest → handle_of at s ≡ got h (length (handle_bytes h))
unfolding handle_bytes handle_of onward
handle-back h at s rest p q r e =
    let a = shortest h.offset in
    let b = shortest h.file in
    let c = shortest h.size in
    let e₁ : drop at s ≡ shortest h.offset ++ (shortest h.file ++ (shortest h.size ++ rest)) = e ∙ simp append_assoc in
    let e₂ = past s a (b ++ (c ++ rest)) at e₁ in
    let e₃ = past s b (c ++ rest) (at + length a) e₂ in
    let n : length a + length b + length c ≡ length (a ++ (b ++ c)) = simp length-append (omega arith) in
    rw (reads-back 64 at h.offset s (b ++ (c ++ rest)) (omega arith) p e₁, reads-back 64 (at + length a) h.file s (c ++ rest) (omega arith) q e₂, reads-back 32 (at + length a + length b) h.size s rest (omega arith) r e₃)
    (ap (got h) n)

pub indirection_back : (i : BlobIndirection) (at : ℕ) (s rest : List ℕ) → i.handle.offset < 2 ^ 64 → i.handle.file < 2 ^ 64 → i.handle.size < 2 ^ 32 → i.stated < 2 ^ 32
    → drop at s ≡ indirection_bytes i ++ rest → indirection_of at s ≡ got i (length (indirection_bytes i))
unfolding indirection_bytes indirection_of onward
indirection_back i at s rest p q r t e =
    let a = handle_bytes i.handle in
    let b = shortest i.stated in
    let e₁ : drop at s ≡ handle_bytes i.handle ++ (shortest i.stated ++ rest) = e ∙ simp append_assoc in
    let e₂ = past s a (b ++ rest) at e₁ in
    rw (handle-back i.handle at s (b ++ rest) p q r e₁, reads-back 32 (at + length a) i.stated s rest (omega arith) t e₂)
    (ap (got i) (sym (length-append a b)))

-- a handle read from as few bytes as it is written in
pub handle-again : (at : ℕ) (s : List ℕ) (h : ValueHandle) (used : ℕ) → Octets s → handle_of at s ≡ got h used
    → used ≡ length (handle_bytes h) → take used (drop at s) ≡ handle_bytes h
unfolding handle_bytes
handle-again at s h used b e u =
    let r = handle-parts at s h used e in
    let n = r.n in
    let m = r.m in
    let k = r.k in
    let l = length-handle h in
    let i₁ = none_shorter 64 at h.offset n s r.offset in
    let i₂ = none_shorter 64 (at + n) h.file m s r.file in
    let i₃ = none_shorter 32 (at + n + m) h.size k s r.size in
    let w₁ = writes_back 64 at h.offset n s b r.offset (omega (arith, r.all)) in
    let w₂ = writes_back 64 (at + n) h.file m s b r.file (omega (arith, r.all)) in
    let w₃ = writes_back 32 (at + n + m) h.size k s b r.size (omega (arith, r.all)) in
    let f : n + m + k ≡ n + (m + k) = omega arith in
    ap (λ (x : ℕ). take x (drop at s)) (r.all ∙ f)
    ∙ take-add n (m + k) (drop at s)
    ∙ rw (drop-drop n at s, take-add m k (drop (at + n) s), drop-drop m (at + n) s, w₁, w₂, w₃)

pub handle_least : (at : ℕ) (s : List ℕ) (h : ValueHandle) (used : ℕ) → handle_of at s ≡ got h used → length (handle_bytes h) ≤ used
handle_least at s h used e =
    let r = handle-parts at s h used e in
    let i₁ = none_shorter 64 at h.offset r.n s r.offset in
    let i₂ = none_shorter 64 (at + r.n) h.file r.m s r.file in
    let i₃ = none_shorter 32 (at + r.n + r.m) h.size r.k s r.size in
    omega (arith, length-handle h, r.all)

pub indirection_again : (at : ℕ) (s : List ℕ) (i : BlobIndirection) (used : ℕ) → Octets s → indirection_of at s ≡ got i used
    → used ≡ length (indirection_bytes i) → take used (drop at s) ≡ indirection_bytes i
unfolding indirection_bytes
indirection_again at s i used b e u =
    let r = indirection_parts at s i used e in
    let n = r.n in
    let k = r.k in
    let l = length_indirection i in
    let i₁ = handle_least at s i.handle n r.handle in
    let i₂ = none_shorter 32 (at + n) i.stated k s r.stated in
    let w₁ = handle-again at s i.handle n b r.handle (omega (arith, r.all)) in
    let w₂ = writes_back 32 (at + n) i.stated k s b r.stated (omega (arith, r.all)) in
    ap (λ (x : ℕ). take x (drop at s)) r.all
    ∙ take-add n k (drop at s)
    ∙ rw (drop-drop n at s, w₁, w₂)

-- The theorems of specs/Theorems.antt, and the one value of their record.
use Rattle.std.proofs.Common.{◌≡◌, ℕ, zero, suc, ◌+◌, ◌-◌, ◌^◌, ◌≤◌, List, length, get_or, drop, sym, ap, ◌∙◌, inl, inr, ⊎_elim, lt_of_lt_of_le, arith, lit<, get_or-drop, get_or-take}
use native.Mathlib.Nat.{pow-le-pow_right}
use Rattle.numbers.specs.WroteLaws.{wrote_used}
use Rattle.numbers.specs.Leb128.{shortest, in_groups, got, read_in, groups}
use Rattle.numbers.specs.Leb128Laws.{length_some, found}
use Rattle.numbers.specs.GroupLaws.{reads-groups, shortest-holds, found_below, found-groups, unpadded}
use Rattle.numbers.specs.Handle.{handle_bytes, indirection_bytes, onward, handle_of, indirection_of}
use Rattle.numbers.specs.HandleLaws.{handle-some, length_indirection, handle-parts, indirection_parts}
use Rattle.numbers.specs.RoundTripLaws.{stands, reads-back, none_shorter, handle-back, indirection_back, handle-again, indirection_again}
use Rattle.numbers.specs.Theorems.{Theorems, WrittenReads, PaddedReads, OnlySpellings, ReadWrites}
use Rattle.numbers.specs.Theorems.{HandleDecodes, HandleEncodes, HandleReads, HandleRefuses}
use Rattle.numbers.specs.Theorems.{IndirectionDecodes, IndirectionEncodes, IndirectionReads, IndirectionRefuses}
use Rattle.numbers.proofs.Refused.{cut_exactly_lem, too_long_exactly_lem}

written-reads : WrittenReads
written-reads w at x n buf p h e =
    reads-back w at x _ (drop (at + length (shortest x)) buf) p h (stands (shortest x) buf at n e (length_some x))
    ∙ ap (got x) (sym (wrote_used (shortest x) buf at n e).0)

padded_reads_lem : PaddedReads
padded_reads_lem w at x zero s rest h l m e = absurd (omega (arith, length_some x))
padded_reads_lem w at x (suc n) s rest h l m e =
    ap (read_in (groups w) (2 ^ w) at) e
    ∙ reads-groups (groups w) (2 ^ w) at n x rest (omega arith) (lt_of_lt_of_le (shortest-holds x) (pow-le-pow_right {n = 128} (lit< tt) {i = length (shortest x)} {j = suc n} l)) h

only_spellings_lem : OnlySpellings
only_spellings_lem w at x n s b e =
    let f = found (groups w) (2 ^ w) at (drop at s) x n e in (
      found-groups (groups w) (2 ^ w) (drop at s) x n (λ k. rw (get_or-drop at s k 0) (b (at + k))) f,
      none_shorter w at x n s e,
      f.allowed,
      f.small,
    )

read_writes_lem : ReadWrites
read_writes_lem w at x zero s b e u = absurd (omega (arith, (found (groups w) (2 ^ w) at (drop at s) x 0 e).last))
read_writes_lem w at x (suc n) s b e u =
    let f = found (groups w) (2 ^ w) at (drop at s) x (suc n) e in
    let g = (only_spellings_lem w at x (suc n) s b e).0 in
    let i : suc n - 1 ≡ n = omega arith in
    let l : get_or s (at + (suc n - 1)) 0 ≡ get_or (in_groups (suc n) x) n 0 =
    ap (λ (k : ℕ). get_or s (at + k) 0) i ∙ sym (get_or-drop at s n 0) ∙ sym (get_or-take (suc n) (drop at s) n 0 (omega arith)) ∙ ap (λ (t : List ℕ). get_or t n 0) g in
    sym (g ∙ unpadded n x (found_below (groups w) (2 ^ w) (drop at s) x (suc n) f) (⊎_elim (λ z. inl (omega arith)) (λ z. inr (omega arith)) u))

handle_decodes_lem : HandleDecodes
handle_decodes_lem h at n buf p q r e =
    handle-back h at _ (drop (at + length (handle_bytes h)) buf) p q r (stands (handle_bytes h) buf at n e (handle-some h))
    ∙ ap (got h) (sym (wrote_used (handle_bytes h) buf at n e).0)

indirection_decodes_lem : IndirectionDecodes
indirection_decodes_lem i at n buf p q r t e =
    let l : 1 ≤ length (indirection_bytes i) = omega (arith, length_indirection i, handle-some i.handle) in
    indirection_back i at _ (drop (at + length (indirection_bytes i)) buf) p q r t (stands (indirection_bytes i) buf at n e l)
    ∙ ap (got i) (sym (wrote_used (indirection_bytes i) buf at n e).0)

handle_encodes_lem : HandleEncodes
handle_encodes_lem at n s h b e u = sym (handle-again at s h n b e u)

indirection_encodes_lem : IndirectionEncodes
indirection_encodes_lem at n s i b e u = sym (indirection_again at s i n b e u)

handle-reads : HandleReads
unfolding handle_of onward
handle-reads at n s h = (handle-parts at s h n, λ r. rw (r.offset, r.file, r.size) (ap (got h) (sym r.all)))

indirection_reads_lem : IndirectionReads
unfolding indirection_of onward
indirection_reads_lem at n s i = (indirection_parts at s i n, λ r. rw (r.handle, r.stated) (ap (got i) (sym r.all)))

handle_refuses_lem : HandleRefuses
unfolding handle_of onward
handle_refuses_lem at offset n file m s why = (λ e. rw e, λ e f. rw (e, f), λ e f g. rw (e, f, g))

indirection_refuses_lem : IndirectionRefuses
unfolding indirection_of onward
indirection_refuses_lem at n s h why = (λ e. rw e, λ e f. rw (e, f))

pub theorems : Theorems
theorems = record {
  written_reads = written-reads;
  padded_reads = padded_reads_lem;
  only_spellings = only_spellings_lem;
  read_writes = read_writes_lem;
  cut_exactly = cut_exactly_lem;
  too_long_exactly = too_long_exactly_lem;
  handle_decodes = handle_decodes_lem;
  indirection_decodes = indirection_decodes_lem;
  handle_encodes = handle_encodes_lem;
  indirection_encodes = indirection_encodes_lem;
  handle_reads = handle-reads;
  indirection_reads = indirection_reads_lem;
  handle_refuses = handle_refuses_lem;
  indirection_refuses = indirection_refuses_lem;
}

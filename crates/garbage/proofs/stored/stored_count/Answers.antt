-- The count's bytes, the count, then the entries' bytes.
use Rattle.std.proofs.Common.{rules, ◌≡◌, ℕ, ◌-◌, ◌*◌, ◌≤◌, ◌<◌, List, length, Result, Ok, Err, sym, ap, ◌∙◌}
use borrow.Author.Tests.{lt-ltb, le-ltb}
use Rattle.numbers.specs.Pick.{pick}
use Rattle.numbers.specs.Le.{num}
use Rattle.garbage.specs.declared.stored.LoadRefusal.{LoadRefusal}
use Rattle.garbage.specs.declared.stored.LoadRefusal.TheVariants.{CutShort, MapFull}
use Rattle.garbage.specs.Stored.{stored_count}
use Rattle.garbage.proofs.stored.stored_count.Goals as goal

abbrev cut : ℕ → ℕ → ℕ → LoadRefusal
cut at needed present = CutShort (record { at = at; needed = needed; present = present })

no-count : (s : List ℕ) (why : LoadRefusal) → length s < 4 → why ≡ cut 0 4 (length s) → ◌≡◌ {A = Result ℕ LoadRefusal} (Err why) (stored_count s)
unfolding stored_count pick
no-count s why h p = ap (λ (x : LoadRefusal). Err x) p ∙ sym (rw (lt-ltb (length s) 4 h))

module _ (s : List ℕ) (k : ℕ) (e : k ≡ num 4 s) (h : 4 ≤ length s) where
  too_many : 64 < k → ◌≡◌ {A = Result ℕ LoadRefusal} (Err MapFull) (stored_count s)
  unfolding stored_count pick
  too_many q = sym (rw (le-ltb (length s) 4 h, ← e, lt-ltb 64 k q))

  module _ (q : k ≤ 64) where
    too_short : (why : LoadRefusal) → length s - 4 < 28 * k → why ≡ cut 4 (28 * k) (length s - 4) → ◌≡◌ {A = Result ℕ LoadRefusal} (Err why) (stored_count s)
    unfolding stored_count pick
    too_short why r p = ap (λ (x : LoadRefusal). Err x) p ∙ sym (rw (le-ltb (length s) 4 h, ← e, le-ltb 64 k q, lt-ltb (length s - 4) (28 * k) r))

    all_there : 28 * k ≤ length s - 4 → ◌≡◌ {A = Result ℕ LoadRefusal} (Ok k) (stored_count s)
    unfolding stored_count pick
    all_there r = sym (rw (le-ltb (length s) 4 h, ← e, le-ltb 64 k q, le-ltb (length s - 4) (28 * k) r))

pub returns-in_err-enough : goal.returns-in_err-enough
returns-in_err-enough c =
    let e = c.in_err-enough.ensures {u = tt} in
    let r : c.from_residual.result ≡ Err c.in_err-enough.field-0.0 = search rules in
    r ∙ no-count c.args.s.now _ e.0 e.1

pub returns-then-count-gt64 : goal.returns-then-count-gt64
returns-then-count-gt64 c = too_many c.args.s.now c.get-count.result c.get-count.ensures (c.in_ok-enough.ensures {u = tt}) c.if-count-gt64.true

pub returns-in_err-enough-2 : goal.returns-in_err-enough-2
returns-in_err-enough-2 c =
    let e = c.in_err-enough-2.ensures {u = tt} in
    let r : c.from_residual-in_err-enough-2.result ≡ Err c.in_err-enough-2.field-0.0 = search rules in
    r ∙ too_short c.args.s.now c.get-count.result c.get-count.ensures (c.in_ok-enough.ensures {u = tt}) c.if-count-gt64.false _ e.0 e.1

pub returns : goal.returns
returns c = all_there c.args.s.now c.get-count.result c.get-count.ensures (c.in_ok-enough.ensures {u = tt}) c.if-count-gt64.false (c.in_ok-enough-2.ensures {u = tt})

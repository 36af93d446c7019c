-- What is summed so far and what is left add up to the whole sum.
use Rattle.std.proofs.Common.{rules, ◌≡◌, ◌<◌, ◌≤◌, ◌^◌, ◌+◌, ◌-◌, true, false, ℕ, length, get_or, take, Option, Some, None, Result, Ok, Err, subst, sym, ap, ◌∙◌, arith}
use Rattle.std.specs.Option.{SomeIff, ok_or}
use lib.Seq.{length-take-le, get_or-take}
use borrow.Author.Tests.{lt-ltb, le-ltb}
use Rattle.numbers.specs.Pick.{pick}
use Rattle.garbage.specs.declared.map.FragmentationMap.{FragmentationMap}
use Rattle.garbage.specs.declared.map.CountRefusal.{CountRefusal}
use Rattle.garbage.specs.declared.map.CountRefusal.TheVariants.{MapFull, SumTooBig}
use Rattle.garbage.specs.Maps.{columns_of, rows, entries_of, well_formed}
use Rattle.garbage.specs.Merges.{disk_sum, stale_bytes_of}
use Rattle.garbage.proofs.Sound.{well-few}
use Rattle.garbage.proofs.Pruning.{only, sum-only, sum_open, sum-out}
use Rattle.garbage.proofs.map.FragmentationMap.stale_bytes.Goals as goal

module _ (m : FragmentationMap) where
  malformed : well_formed m ≡ false → ◌≡◌ {A = Result ℕ CountRefusal} (Err MapFull) (stale_bytes_of m)
  unfolding pick
  malformed h = sym (rw h)

  module _ (h : well_formed m ≡ true) where
    abbrev whole : ℕ
    whole = disk_sum (rows (only m.disk) 0 m.count)

    is_whole : disk_sum (entries_of m) ≡ whole
    is_whole = sum-only (columns_of m) 0 m.count

    too-big : 18446744073709551615 < whole → ◌≡◌ {A = Result ℕ CountRefusal} (Err SumTooBig) (stale_bytes_of m)
    unfolding pick
    too-big q = sym (rw (h, le-ltb (disk_sum (entries_of m)) (2 ^ 64) (omega (arith, is_whole))))

    added-up : (t : ℕ) → t ≡ whole → t < 2 ^ 64 → ◌≡◌ {A = Result ℕ CountRefusal} (Ok t) (stale_bytes_of m)
    unfolding pick
    added-up t q k = ap (λ (n : ℕ). Ok n) (q ∙ sym is_whole) ∙ sym (rw (h, lt-ltb (disk_sum (entries_of m)) (2 ^ 64) (omega (arith, is_whole))))

pub returns-in_err-sound : goal.returns-in_err-sound
returns-in_err-sound c =
    let r : c.from_residual.result ≡ Err MapFull = search rules in
    r ∙ malformed c.args.self (c.in_err-sound.ensures {u = tt})

-- one number more
module _ (m : FragmentationMap) (h : well_formed m ≡ true) (l : length m.disk ≡ 64) (t i : ℕ) (q : i < length (take m.count m.disk))
    (v : t + disk_sum (rows (only m.disk) i (m.count - i)) ≡ disk_sum (rows (only m.disk) 0 m.count)) where
  abbrev read : ℕ
  read = get_or (take m.count m.disk) i 0

  within : i < m.count
  within = omega (arith, q, length-take-le m.count m.disk (omega (arith, l, well-few m h)))

  more : t + read + disk_sum (rows (only m.disk) (i + 1) (m.count - (i + 1))) ≡ disk_sum (rows (only m.disk) 0 m.count)
  more = omega (arith, v, sum_open m.disk i m.count within, get_or-take m.count m.disk i 0 within)

  over : (r : Option ℕ) → SomeIff r (t + read < 2 ^ 64) (t + read) → r ≡ None → ◌≡◌ {A = Result ℕ CountRefusal} (Err SumTooBig) (stale_bytes_of m)
  over r s e =
      let n : t + read < 2 ^ 64 → ⊥ = subst (λ (x : Option ℕ). SomeIff x (t + read < 2 ^ 64) (t + read)) e s in
      too-big m h (omega (arith, more, n))

  next : (r : Option ℕ) (n : ℕ) → SomeIff r (t + read < 2 ^ 64) (t + read) → r ≡ Some n → (n < 2 ^ 64) × (n + disk_sum (rows (only m.disk) (i + 1) (m.count - (i + 1))) ≡ disk_sum (rows (only m.disk) 0 m.count))
  next r n s e =
      let k : (t + read < 2 ^ 64) × (n ≡ t + read) = subst (λ (x : Option ℕ). SomeIff x (t + read < 2 ^ 64) (t + read)) e s in
      (omega (arith, k.0, k.1), omega (arith, more, k.1))

pub loop-bytes-init : goal.loop-bytes-init
loop-bytes-init c =
    let z : c.args.self.count - 0 ≡ c.args.self.count = omega arith in
    record { small = omega arith; left = omega (arith, ap (λ (k : ℕ). disk_sum (rows (only c.args.self.disk) 0 k)) z) }

pub returns-in_err-total : goal.returns-in_err-total
returns-in_err-total c =
    let w = c.in_ok-sound.ensures {u = tt} in
    let e = c.in_err-total.ensures {u = tt} in
    let r : c.from_residual-in_err-total.result ≡ Err c.in_err-total.field-0.0 = search rules in
    r ∙ e.value ∙ ap (λ (o : Option ℕ). ok_or o SumTooBig) e.ok_part
    ∙ over c.args.self w (search rules) c.loop-bytes.total c.loop-bytes.bytes-index c.loop-bytes-test.true c.loop-bytes.invariant.left c.checked_add.result c.checked_add.ensures e.ok_part

pub loop-bytes-preserved : goal.loop-bytes-preserved
loop-bytes-preserved c =
    let w = c.in_ok-sound.ensures {u = tt} in
    let e = c.in_ok-total.ensures {u = tt} in
    let k = next c.args.self w (search rules) c.loop-bytes.total c.loop-bytes.bytes-index c.loop-bytes-test.true c.loop-bytes.invariant.left c.checked_add.result c.in_ok-total.total c.checked_add.ensures e.ok_part in
    record { small = k.0; left = k.1 }

pub returns : goal.returns
returns c =
    let m = c.args.self in
    let w = c.in_ok-sound.ensures {u = tt} in
    let l : length m.disk ≡ 64 = search rules in
    let n : m.count ≤ c.loop-bytes.bytes-index = omega (arith, c.loop-bytes-test.false, length-take-le m.count m.disk (omega (arith, l, well-few m w))) in
    added-up m w c.loop-bytes.total (omega (arith, c.loop-bytes.invariant.left, sum-out m.disk c.loop-bytes.bytes-index m.count n)) c.loop-bytes.invariant.small

-- Each answer is the one that reading finds from the bytes passed so far.
use Rattle.std.proofs.Common.{◌≡◌, ℕ, ◌+◌, ◌-◌, ◌*◌, ◌^◌, ◌<◌, ◌≤◌, List, length, drop, sym, ap, ap₂, ◌∙◌, arith, rules, pow_mono}
use Rattle.numbers.specs.Leb128.{Reading, got, refused, groups, read_as, read_in, read_of}
use Rattle.numbers.specs.Width.{Holds}
use Rattle.numbers.specs.declared.leb128.NumberRefusal.TheVariants.{CutShort, TooLong}
use Rattle.numbers.proofs.Reading.{Passed, Left, begun, turn-cut, turn-got, turn_on, all_left, more_left, next_left, group_under, last-refused}
use Rattle.numbers.proofs.leb128.read.Goals as goal

-- a group of no more than is left makes a number of the width, which 64 bits hold
fits : (width max i value weight left b : ℕ) (t : List ℕ) → Holds width max → Passed (groups (8 * width)) i value weight t × Left (8 * width) i left → b ≤ left
    → (value + weight * b < 2 ^ (8 * width)) × (value + weight * b ≤ max) × (value + weight * b < 2 ^ 64)
fits width max i value weight left b t h p l =
    let u = group_under (8 * width) i left p.1 (groups (8 * width)) value weight t p.0 b l in
    let m : 2 ^ (8 * width) ≤ 2 ^ 64 = pow_mono {i = 8 * width} {j = 64} (omega (arith, h.most)) in
    (u, omega (arith, h.all), omega arith)

-- what reading finds from there, as a value of the type
found : {A : Type 0} (of : ℕ → A) (w at : ℕ) (s t : List ℕ) (r : Reading) → t ≡ drop at s → read_in (groups w) (2 ^ w) at t ≡ r → read_as of r ≡ read_as of (read_of w at s)
found of w at s t r e f = ap (read_as of) (sym f ∙ ap (read_in (groups w) (2 ^ w) at) e)

pub loop-i-init : goal.loop-i-init
loop-i-init g c = let w = 8 * g.T.Number.width in
    let h = g.met.T.Number.holds in
    (begun (groups w) c.tail-t.result.now (omega (arith, h.some)), all_left w _ (omega (arith, h.some)) (omega (arith, h.all, c.MAX-left.ensures)))

pub returns-then-left-b : goal.returns-then-left-b
unfolding read_as
returns-then-left-b g c = let w = 8 * g.T.Number.width in
    let l = c.loop-i in
    let p = l.invariant in
    let refuses = last-refused w c.args.at l.i l.value l.weight l.left c.tail-t.result.now p.1 p.0 c.from-b.result c.from-b.ensures c.loop-i-test.true c.if-left-lt128.true c.if-left-b.true in
    found g.T.Number.of w c.args.at c.args.s.now c.tail-t.result.now (refused TooLong) c.tail-t.ensures.0 refuses

pub overflow_mul-weight : goal.overflow_mul-weight
overflow_mul-weight g c = let l = c.loop-i in
    omega (arith, fits _ _ l.i l.value l.weight l.left c.from-b.result _ g.met.T.Number.holds l.invariant (omega (arith, c.else-left-lt128.either)))

pub overflow_add-value : goal.overflow_add-value
overflow_add-value g c = let l = c.loop-i in
    omega (arith, fits _ _ l.i l.value l.weight l.left c.from-b.result _ g.met.T.Number.holds l.invariant (omega (arith, c.else-left-lt128.either)))

pub narrow-requires : goal.narrow-requires
narrow-requires g c = let l = c.loop-i in
    (fits _ _ l.i l.value l.weight l.left c.from-b.result _ g.met.T.Number.holds l.invariant (omega (arith, c.else-left-lt128.either))).1

pub returns-then-b-lt128 : goal.returns-then-b-lt128
unfolding read_as
returns-then-b-lt128 g c = let w = 8 * g.T.Number.width in
    let l = c.loop-i in
    let p = l.invariant in
    let t = c.tail-t.result.now in
    let u = (fits _ _ l.i l.value l.weight l.left c.from-b.result _ g.met.T.Number.holds p (omega (arith, c.else-left-lt128.either))).0 in
    let reads = turn-got (2 ^ w) c.args.at (groups w) l.i l.value l.weight t p.0 c.from-b.result c.from-b.ensures c.loop-i-test.true c.if-b-lt128.true u in
    ap₂ got c.narrow.ensures (search rules) ∙ found g.T.Number.of w c.args.at c.args.s.now t (got (l.value + l.weight * c.from-b.result) (l.i + 1)) c.tail-t.ensures.0 reads

pub overflow_mul-value : goal.overflow_mul-value
overflow_mul-value g c = let l = c.loop-i in
    omega (arith, fits _ _ l.i l.value l.weight l.left (c.from-b.result - 128) _ g.met.T.Number.holds l.invariant (omega (arith, c.else-left-lt128.either, c.from-b.ensures, c.type_inv.t l.i)))

pub overflow_add-value-in-loop-i : goal.overflow_add-value-in-loop-i
overflow_add-value-in-loop-i g c = let l = c.loop-i in
    omega (arith, fits _ _ l.i l.value l.weight l.left (c.from-b.result - 128) _ g.met.T.Number.holds l.invariant (omega (arith, c.else-left-lt128.either, c.from-b.ensures, c.type_inv.t l.i)))

pub overflow_mul-weight-in-loop-i : goal.overflow_mul-weight-in-loop-i
overflow_mul-weight-in-loop-i g c = let l = c.loop-i in
    omega (arith, fits _ _ l.i l.value l.weight l.left 128 _ g.met.T.Number.holds l.invariant (omega (arith, c.else-left-lt128.either)))

pub loop-i-preserved : goal.loop-i-preserved
loop-i-preserved g c = let w = 8 * g.T.Number.width in
    let l = c.loop-i in
    let p = l.invariant in
    let h : 128 ≤ l.left = omega (arith, c.else-left-lt128.either) in
    let b : c.from-b.result < 256 = omega (arith, c.from-b.ensures, c.type_inv.t l.i) in (
      turn_on (2 ^ w) c.args.at (groups w) l.i l.value l.weight c.tail-t.result.now p.0 c.from-b.result c.from-b.ensures c.loop-i-test.true c.if-b-lt128.false b (omega (arith, more_left w l.i l.left p.1 h)),
      next_left w l.i l.left p.1 h,
    )

pub returns : goal.returns
unfolding read_as
returns g c = let w = 8 * g.T.Number.width in
    let l = c.loop-i in
    let t = c.tail-t.result.now in
    let n = length t in
    let e : l.i ≡ n = omega arith in
    let cuts = turn-cut (2 ^ w) c.args.at (groups w) l.i l.value l.weight t l.invariant.0 (omega arith) in
    ap refused (search rules) ∙ found g.T.Number.of w c.args.at c.args.s.now t (refused (CutShort (record { at = c.args.at; needed = n + 1; present = n }))) c.tail-t.ensures.0 (rw e at cuts)

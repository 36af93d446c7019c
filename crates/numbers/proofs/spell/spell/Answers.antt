-- What is left to spell, laid on what is there, gives the whole spelling laid on what was there.
use Rattle.std.proofs.Common.{◌≡◌, ℕ, ◌+◌, ◌/◌, ◌%◌, ◌<◌, ◌≤◌, List, set, refl, ◌∙◌, add-one, arith, rules}
use lib.Seq.{sets}
use Rattle.numbers.specs.Leb128.{shortest}
use Rattle.numbers.specs.Leb128Laws.{shortest-one, shortest-more, length-one, length_more}
use Rattle.numbers.proofs.spell.spell.Goals as goal

turn : (b : List ℕ) (to rest : ℕ) → 128 ≤ rest → sets (set b to (rest % 128 + 128)) (to + 1) (shortest (rest / 128)) ≡ sets b to (shortest rest)
turn b to rest h = rw (shortest-more rest h, add-one)

last : (b : List ℕ) (to rest : ℕ) → rest < 128 → set b to rest ≡ sets b to (shortest rest)
last b to rest h = rw (shortest-one rest h)

pub loop-left-init : goal.loop-left-init
loop-left-init g c =
    let e = g.met.T.Number.widens c.args.x c.into-left.result c.into-left.ensures in
    (rw e, rw e, refl)

pub bounds-buf-to : goal.bounds-buf-to
bounds-buf-to g c = let l = c.loop-left in
    omega (arith, length_more l.left (search rules))

pub loop-left-preserved : goal.loop-left-preserved
loop-left-preserved g c = let l = c.loop-left in
    let h : 128 ≤ l.left = search rules in
    (turn l.buf l.to l.left h ∙ l.invariant.0, omega (arith, length_more l.left h), search rules)

pub bounds-buf-to-2 : goal.bounds-buf-to-2
bounds-buf-to-2 g c = let l = c.loop-left in
    omega (arith, length-one l.left (search rules))

pub returns : goal.returns
returns g c = let l = c.loop-left in
    let h : l.left < 128 = search rules in
    record { end = omega (arith, length-one l.left h); bytes = last l.buf l.to l.left h ∙ l.invariant.0 }

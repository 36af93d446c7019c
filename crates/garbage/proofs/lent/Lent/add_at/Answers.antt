-- Where the id has no place yet, there is room for it or not.
use Rattle.std.proofs.Common.{rules, ◌≡◌, ◌<◌, ℕ, List, Result, MatchResult, Ok, Err, ◌∙◌, subst, ap, arith}
use Rattle.garbage.specs.declared.map.FragmentationMap.{FragmentationMap}
use Rattle.garbage.specs.Columns.{held, StandsAt, GoesTo}
use Rattle.garbage.proofs.Fits.{fits_all}
use Rattle.garbage.proofs.Slots.{no_room, put_new}
use Rattle.garbage.proofs.lent.Lent.add_at.Goals as goal

goes_there : (id : ℕ) (ids : List ℕ) (place : Result ℕ ℕ) (i : ℕ) → place ≡ Err i → MatchResult place (StandsAt id ids) (GoesTo id ids) → GoesTo id ids i
goes_there id ids place i e p = subst (λ (r : Result ℕ ℕ). MatchResult r (StandsAt id ids) (GoesTo id ids)) e p

pub returns-then-self-eq64-clause-is : goal.returns-then-self-eq64-clause-is
returns-then-self-eq64-clause-is c =
    no_room (held c.args.self.now) c.requires.ready c.args.e c.in-Err.i (goes_there c.args.e.id _ c.args.place c.in-Err.i c.in-Err.is c.requires.place) (fits_all c.args.e (search rules) (search rules) (search rules)) c.if-self-eq64.true

pub returns-else-self-eq64-clause-is : goal.returns-else-self-eq64-clause-is
returns-else-self-eq64-clause-is c =
    let few = c.requires.ready.sound.few in
    let room : c.args.self.now.count.now < 64 = omega (arith, few, c.if-self-eq64.false) in
    ap (λ (m : FragmentationMap). record { answer = Ok tt; map = m }) c.insert.ensures.is
    ∙ put_new (held c.args.self.now) c.requires.ready c.args.e c.in-Err.i (goes_there c.args.e.id _ c.args.place c.in-Err.i c.in-Err.is c.requires.place) (fits_all c.args.e (search rules) (search rules) (search rules)) room

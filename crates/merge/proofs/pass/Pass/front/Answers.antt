-- The root of the tournament and the lowest refusal are what goes first.
use Rattle.merge.specs.PassLaws.{front_refused, front_kept}
use Rattle.merge.proofs.pass.Pass.front.Goals as goal

pub returns-in-Some : goal.returns-in-Some
returns-in-Some c = let s = c.args.self.now in
    front_refused s.image.now s.state s.tree s.refusal s.going _ c.in-Some.is

pub returns-in-None : goal.returns-in-None
returns-in-None c = let s = c.args.self.now in
    front_kept s.image.now s.state s.tree s.refusal s.going c.in-None.is

-- Each answer is a case of the definition.
use Rattle.merge.specs.PassLaws.{wins-none, wins-alone, wins-both}
use Rattle.merge.proofs.tournament.wins.Goals as goal

pub returns-in_default : goal.returns-in_default
returns-in_default c = wins-none c.args.image.now _ _ c.in_default.is

pub returns-in_default-y : goal.returns-in_default-y
returns-in_default-y c = wins-alone c.args.image.now _ _ c.in_default-y.is

pub returns : goal.returns
returns c = wins-both c.args.image.now _ _ _ _ _ c.in-Some.is c.in-Some-y.is c.goes_first.ensures

-- The table is the secret.
use Rattle.hash.specs.Secret.{secret}
use Rattle.hash.proofs.secret.word.Goals as goal

pub returns : goal.returns
unfolding secret
returns c = c.read64.ensures

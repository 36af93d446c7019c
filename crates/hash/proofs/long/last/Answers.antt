-- The last words of the secret begin at its 121st byte.
use Rattle.hash.specs.Secret.{secret, secret_length}
use Rattle.hash.proofs.long.last.Goals as goal

pub returns : goal.returns
unfolding secret_length secret
returns c = c.accumulate.ensures

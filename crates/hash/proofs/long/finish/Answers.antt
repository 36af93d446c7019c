-- The two halves.
use Rattle.hash.specs.Secret.{secret, secret_length}
use Rattle.hash.specs.ShapeLong.{finish_of}
use Rattle.hash.proofs.long.finish.Goals as goal

pub returns : goal.returns
unfolding finish_of secret_length secret
returns c = rw (c.merge.ensures, c.merge-2.ensures, c.wrapping_mul.ensures, c.wrapping_mul-2.ensures)

-- A handle's bytes are those of its three numbers.
use Rattle.std.proofs.Common.{arith}
use Rattle.numbers.specs.HandleLaws.{length-handle}
use Rattle.numbers.proofs.handle.handle_size.Goals as goal

pub returns : goal.returns
returns c = omega (arith, length-handle c.args.h)

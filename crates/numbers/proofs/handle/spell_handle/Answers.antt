-- The three numbers laid one after another are the handle laid.
use Rattle.std.proofs.Common.{arith, rules}
use Rattle.numbers.specs.HandleLaws.{length-handle, handle-laid}
use Rattle.numbers.proofs.handle.spell_handle.Goals as goal

pub spell-file_at-requires : goal.spell-file_at-requires
spell-file_at-requires c = omega (arith, length-handle c.args.h)

pub spell-size_at-requires : goal.spell-size_at-requires
spell-size_at-requires c = omega (arith, length-handle c.args.h)

pub spell-requires : goal.spell-requires
spell-requires c = omega (arith, length-handle c.args.h)

pub returns : goal.returns
returns c = record { end = omega (arith, length-handle c.args.h); bytes = search (rules, handle-laid) }

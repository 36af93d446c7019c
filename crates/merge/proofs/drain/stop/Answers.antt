-- Each answer is a case of the definition.
use Rattle.std.proofs.Common.{rules}
use Rattle.merge.specs.DrainLaws.{stop_less, stop_greater, stop_file, stop_found, stop_past, stop_short}
use Rattle.merge.proofs.drain.stop.Goals as goal

pub returns-in-Less : goal.returns-in-Less
returns-in-Less c = search (rules, stop_less)

pub returns-in-Greater : goal.returns-in-Greater
returns-in-Greater c = search (rules, stop_greater)

pub returns-in-Equal : goal.returns-in-Equal
returns-in-Equal c = search (rules, stop_file)

pub returns-in-Less-cmp : goal.returns-in-Less-cmp
returns-in-Less-cmp c = search (rules, stop_past)

pub returns-in-Equal-cmp : goal.returns-in-Equal-cmp
returns-in-Equal-cmp c = search (rules, stop_found)

pub returns-in-Greater-cmp : goal.returns-in-Greater-cmp
returns-in-Greater-cmp c = search (rules, stop_short)

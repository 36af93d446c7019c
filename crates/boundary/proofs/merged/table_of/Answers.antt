-- Each part is made of what the columns hold at its index.
use Rattle.std.proofs.Common.{rules}
use mathlib.Core.Path.{ap}
use Rattle.merge.specs.Parts.{no_part}
use Rattle.boundary.specs.Tables.{part_at}
use Rattle.numbers.specs.Made.{made}
use Rattle.boundary.proofs.merged.table_of.Goals as goal

pub returns : goal.returns
returns c = let s = c.args in
    ap (λ ps. record { count = s.count; parts = ps }) (made _ _ _ (part_at s.starts.now s.lengths.now s.files.now s.ats.now) (λ i y q k. search rules) 16 no_part c.from_fn-parts.ensures.items)

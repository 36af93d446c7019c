-- The spelling is laid down where it fits, and nothing where it does not.
use Rattle.std.proofs.Common.{ap, ◌∙◌, arith, rules}
use Rattle.std.proofs.lemmas.List.Edits.{sets}
use Rattle.numbers.specs.WroteLaws.{wrote_not, wrote_all}
use Rattle.numbers.specs.Leb128.{shortest}
use Rattle.numbers.specs.Leb128Laws.{length_some}
use Rattle.numbers.proofs.leb128.write.Goals as goal

pub returns-then-room-n : goal.returns-then-room-n
returns-then-room-n g c = let a = c.args in
    let w = wrote_not (shortest (g.T.Number.value a.x)) a.buf.now a.at _ _ c.size-n.ensures.size c.room.ensures c.if-room-n.true in
    record { answer = w.0; bytes = w.1 }

pub spell-requires : goal.spell-requires
spell-requires g c = grind (arith, length_some (g.T.Number.value c.args.x))

pub returns : goal.returns
returns g c = let a = c.args in
    let w = wrote_all (shortest (g.T.Number.value a.x)) a.buf.now _ a.at _ _ c.size-n.ensures.size c.room.ensures c.if-room-n.false (c.spell.ensures.bytes ∙ ap (λ to. sets a.buf.now to (shortest (g.T.Number.value a.x))) (search rules)) in
    record { answer = w.0; bytes = w.1 }

-- Each answer is a case of the definition.
use Rattle.std.proofs.Common.{◌≡◌, ◌+◌, length, refl, sym, ◌∙◌}
use Rattle.std.proofs.lemmas.Result.{err_from_is_err_and}
use Rattle.numbers.specs.PartLaws.{part_length}
use Rattle.frames.specs.Layout.{header_length}
use Rattle.frames.proofs.PointLaws.{found-cut, found-whole, within-other, within-short, within-whole, tested-found, tested_wrong}
use borrow.Author.Rules.{rules}
use Rattle.frames.proofs.reader.find.Goals as goal

pub returns-in_err-has : goal.returns-in_err-has
returns-in_err-has c =
    let p = err_from_is_err_and c.from_residual.result c.from_residual.ensures.1 in
    rw (p.1, p.2, c.in_err-has.ensures.1) (sym (found-cut c.args.file.now (length c.args.key.now) c.args.handle c.in_err-has.ensures.0))

pub returns-then-not-marked : goal.returns-then-not-marked
returns-then-not-marked c =
    let w = found-whole c.args.file.now (length c.args.key.now) c.args.handle c.in_ok-has.ensures _ c.part-taken.ensures.0 in
    sym (w ∙ within-other _ _ _ _ _ c.marked.ensures (search rules))

pub returns-in_err-enough : goal.returns-in_err-enough
returns-in_err-enough c =
    let p = err_from_is_err_and c.from_residual-in_err-enough.result c.from_residual-in_err-enough.ensures.1 in
    let w = found-whole c.args.file.now (length c.args.key.now) c.args.handle c.in_ok-has.ensures _ c.part-taken.ensures.0 in
    let l : length c.part-taken.result.now ≡ header_length + length c.args.key.now + c.args.handle.size = search (rules, part_length) in
    rw (p.1, p.2, c.in_err-enough.ensures.1) (sym (w ∙ within-short _ _ _ _ _ c.marked.ensures (search rules) _ c.read_header-header.ensures l c.in_err-enough.ensures.0))

pub returns-then-ne : goal.returns-then-ne
returns-then-ne c =
    let w = found-whole c.args.file.now (length c.args.key.now) c.args.handle c.in_ok-has.ensures _ c.part-taken.ensures.0 in
    let l : length c.part-taken.result.now ≡ header_length + length c.args.key.now + c.args.handle.size = search (rules, part_length) in
    let v = within-whole _ c.args.handle.offset _ _ _ c.marked.ensures (search rules) _ c.read_header-header.ensures l c.in_ok-enough.ensures _ c.taken_sum-computed.ensures in
    sym (w ∙ v ∙ tested_wrong _ _ _ _ _ refl (search rules))

pub returns : goal.returns
returns c =
    let w = found-whole c.args.file.now (length c.args.key.now) c.args.handle c.in_ok-has.ensures _ c.part-taken.ensures.0 in
    let l : length c.part-taken.result.now ≡ header_length + length c.args.key.now + c.args.handle.size = search (rules, part_length) in
    let v = within-whole _ c.args.handle.offset _ _ _ c.marked.ensures (search rules) _ c.read_header-header.ensures l c.in_ok-enough.ensures _ c.taken_sum-computed.ensures in
    sym (w ∙ v ∙ tested-found _ _ _ _ _ refl (search rules))

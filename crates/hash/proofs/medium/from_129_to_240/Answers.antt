-- Four chunks, no to three more, and the last two.
use Rattle.std.proofs.Common.{◌∙◌, arith}
use Rattle.hash.proofs.Chunks.{law_240, has_chunk, no_chunk}
use Rattle.hash.proofs.medium.from_129_to_240.Goals.{then-n-ge160, else-n-ge160, then-n-ge192, else-n-ge192, then-n-ge224, else-n-ge224}
use Rattle.hash.proofs.medium.from_129_to_240.Goals as goal

pub returns : goal.returns
returns g c = let s = g.T.Text.bytes c.args.s.now in
    law_240 s _ _ _ _ _ _ _ _ _ _ _ _ _ _ c.len-n.ensures (omega arith) (omega arith) c.start-acc.ensures
    c.onward-acc.ensures c.onward-acc-2.ensures c.onward-acc-3.ensures c.onward-acc-4.ensures c.stir-acc.ensures
    (elim c.if-n-ge160.branch [
      | then-n-ge160 w ↦ has_chunk s 160 4 3 _ _ (omega arith) (w.acc-is ∙ w.onward-acc-then-n-ge160.ensures)
      | else-n-ge160 w ↦ no_chunk s 160 4 3 _ _ (omega arith) w.acc-is
    ])
    (elim c.if-n-ge192.branch [
      | then-n-ge192 w ↦ has_chunk s 192 5 35 _ _ (omega arith) (w.acc-is ∙ w.onward-acc-then-n-ge192.ensures)
      | else-n-ge192 w ↦ no_chunk s 192 5 35 _ _ (omega arith) w.acc-is
    ])
    (elim c.if-n-ge224.branch [
      | then-n-ge224 w ↦ has_chunk s 224 6 67 _ _ (omega arith) (w.acc-is ∙ w.onward-acc-then-n-ge224.ensures)
      | else-n-ge224 w ↦ no_chunk s 224 6 67 _ _ (omega arith) w.acc-is
    ])
    c.back.ensures c.back-2.ensures c.mixed.ensures c.finish.ensures

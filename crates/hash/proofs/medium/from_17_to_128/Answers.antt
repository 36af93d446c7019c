-- One to four rounds, by the length.
use Rattle.std.proofs.Common.{◌∙◌, ap, arith}
use Rattle.hash.specs.Medium.{round_inward}
use Rattle.hash.proofs.Chunks.{one_round, two_rounds, three_rounds, four_rounds}
use Rattle.hash.proofs.medium.from_17_to_128.Goals.{then-n-gt32, then-n-gt64, then-n-gt96, else-n-gt96, else-n-gt64, else-n-gt32}
use Rattle.hash.proofs.medium.from_17_to_128.Goals as goal

pub returns : goal.returns
returns g c = let s = g.T.Text.bytes c.args.s.now in
    elim c.if-n-gt32.branch [
      | then-n-gt32 w ↦ elim w.if-n-gt64.branch [
        | then-n-gt64 w' ↦ elim w'.if-n-gt96.branch [
          | then-n-gt96 w'' ↦ four_rounds s _ _ _ _ _ _ _ c.len-n.ensures (omega arith) (omega arith) c.start-acc.ensures w''.inward-acc.ensures (w'.inward-acc-then-n-gt64.ensures ∙ ap (round_inward s 2) w''.acc-is) (w.inward-acc-then-n-gt32.ensures ∙ ap (round_inward s 1) w'.acc-is) (c.inward.ensures ∙ ap (round_inward s 0) w.acc-is) c.finish.ensures
          | else-n-gt96 w'' ↦ three_rounds s _ _ _ _ _ _ c.len-n.ensures (omega arith) (omega arith) c.start-acc.ensures (w'.inward-acc-then-n-gt64.ensures ∙ ap (round_inward s 2) w''.acc-is) (w.inward-acc-then-n-gt32.ensures ∙ ap (round_inward s 1) w'.acc-is) (c.inward.ensures ∙ ap (round_inward s 0) w.acc-is) c.finish.ensures
        ]
        | else-n-gt64 w' ↦ two_rounds s _ _ _ _ _ c.len-n.ensures (omega arith) (omega arith) c.start-acc.ensures (w.inward-acc-then-n-gt32.ensures ∙ ap (round_inward s 1) w'.acc-is) (c.inward.ensures ∙ ap (round_inward s 0) w.acc-is) c.finish.ensures
      ]
      | else-n-gt32 w ↦ one_round s _ _ _ _ c.len-n.ensures (omega arith) (omega arith) c.start-acc.ensures (c.inward.ensures ∙ ap (round_inward s 0) w.acc-is) c.finish.ensures
    ]

-- Bytes that are all there are the first ones; of others each is the one at its place, or 0.
use Rattle.std.proofs.Common.{◌∙◌, sym, rules}
use Rattle.numbers.specs.LeLaws.{padded_whole}
use Rattle.numbers.proofs.Padding.{padded_at}
use Rattle.numbers.specs.Made.{made}
use Rattle.numbers.proofs.number.front.Goals as goal

pub returns-in-Some : goal.returns-in-Some
returns-in-Some g c = let h = c.in-Some.ensures.cases in
    h.same ∙ sym (padded_whole _ _ h.enough)

pub returns-in-None : goal.returns-in-None
returns-in-None g c = made _ _ _ _ (λ i y q k. search rules) _ 0 c.from_fn.ensures.items ∙ sym (padded_at _ _)

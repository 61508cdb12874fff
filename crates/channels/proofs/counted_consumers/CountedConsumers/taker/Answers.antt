use Rattle.channels.proofs.Imports.{◌≡◌, ◌∙◌, ap, subst, List, find, ConsumerCounts, CountsAgree, is_numbered, taker_held, taker_among, Consumer, CountedConsumer}
use Rattle.std.specs.Prelude.{◌==◌, option_map}
use Rattle.channels.proofs.Counting.{taker_kept}
use Rattle.channels.proofs.counted_consumers.CountedConsumers.taker.Goals as goal

pub returns : goal.returns
returns c given = subst (λ (s : ConsumerCounts). CountsAgree s given → option_map (λ k. k.now) c.taker_of.result ≡ taker_among c.args.limit given (find (λ (x : Consumer). x.number == c.args.number) s.consumers)) c.self.view_is
    (λ k. c.taker_of.ensures ∙ ap (λ (ss : List CountedConsumer). taker_held c.args.limit c.self.inside.given (find (is_numbered c.args.number) ss)) c.deref.ensures.value
    ∙ taker_kept c.args.limit c.self.inside.given c.args.number c.self.inside.consumers.items given k.each k.all)

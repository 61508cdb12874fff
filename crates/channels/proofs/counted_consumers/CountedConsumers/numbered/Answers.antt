use Rattle.channels.proofs.Imports.{◌≡◌, ◌∙◌, ap, subst, List, find, ConsumerCounts, is_numbered, Consumer, CountedConsumer}
use Rattle.std.specs.Prelude.{◌==◌, option_map}
use Rattle.channels.proofs.Numbering.{counted_is}
use Rattle.channels.proofs.counted_consumers.CountedConsumers.numbered.Goals as goal

pub returns : goal.returns
returns c = subst (λ (s : ConsumerCounts). option_map (λ k. k.now) c.consumer_of.result ≡ find (λ (x : Consumer). x.number == c.args.number) s.consumers) c.self.view_is
    (c.consumer_of.ensures ∙ ap (λ (ss : List CountedConsumer). option_map (λ (s : CountedConsumer). s.consumer) (find (is_numbered c.args.number) ss)) c.deref.ensures.value ∙ counted_is c.args.number c.self.inside.consumers.items)

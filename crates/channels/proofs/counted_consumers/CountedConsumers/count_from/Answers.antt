use Rattle.channels.proofs.Imports.{◌≡◌, ◌∙◌, sym, ap, subst, List, ConsumerCounts, takes_from, CountedConsumer}
use Rattle.std.proofs.Common.{count_by}
use Rattle.channels.proofs.Mapped.{count_by-map}
use Rattle.channels.proofs.counted_consumers.CountedConsumers.count_from.Goals as goal

pub returns : goal.returns
returns c = subst (λ (s : ConsumerCounts). c.count_from.result ≡ count_by (takes_from c.args.queue) s.consumers) c.self.view_is
    (c.count_from.ensures ∙ ap (λ (ss : List CountedConsumer). count_by (λ (s : CountedConsumer). takes_from c.args.queue s.consumer) ss) c.deref.ensures.value ∙ sym (count_by-map (λ (s : CountedConsumer). s.consumer) (takes_from c.args.queue) c.self.inside.consumers.items))

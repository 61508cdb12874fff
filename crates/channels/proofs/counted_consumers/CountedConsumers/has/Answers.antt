use Rattle.channels.proofs.Imports.{◌≡◌, ◌∙◌, sym, ap, subst, List, list_any, ConsumerCounts, is_named, has_name, CountedConsumer}
use Rattle.channels.proofs.Mapped.{list_any-map}
use Rattle.channels.proofs.counted_consumers.CountedConsumers.has.Goals as goal

pub returns : goal.returns
returns c = subst (λ (s : ConsumerCounts). c.is_in_use.result ≡ list_any (is_named c.args.tag.now) s.consumers) c.self.view_is
    (c.is_in_use.ensures ∙ ap (λ (ss : List CountedConsumer). list_any (has_name c.args.tag.now) ss) c.deref.ensures.value ∙ sym (list_any-map (λ (s : CountedConsumer). s.consumer) (is_named c.args.tag.now) c.self.inside.consumers.items))

use Rattle.channels.proofs.Imports.{◌≡◌, ◌∙◌, sym, ap, subst, List, map, not, count_to, taker_of, ConsumerCounts, CountsAgree, consumers_of, counts_of, is_named, has_name, Consumer, CountedConsumer}
use Rattle.std.proofs.Common.{filter}
use Rattle.channels.proofs.Counting.{counts_filtered}
use Rattle.channels.proofs.Mapped.{filter-map}
use Rattle.channels.proofs.counted_consumers.CountedConsumers.remove_by_tag.Goals as goal

pub returns-clause-consumers : goal.returns-clause-consumers
returns-clause-consumers c = subst (λ (s : ConsumerCounts). consumers_of c.remove_tagged.new.consumers.items ≡ filter (λ x. not (is_named c.args.tag.now x)) s.consumers) c.self.view_is
    (ap consumers_of c.remove_tagged.ensures.consumers ∙ sym (filter-map (λ (s : CountedConsumer). s.consumer) (λ x. not (is_named c.args.tag.now x)) c.self.inside.consumers.items))

pub returns-clause-counted : goal.returns-clause-counted
returns-clause-counted c given k =
    let was : CountsAgree (record { consumers = consumers_of c.self.inside.consumers.items; held = counts_of c.self.inside.consumers.items; given = c.self.inside.given; room = _ }) given = subst (λ (s : ConsumerCounts). CountsAgree s given) (sym c.self.view_is) k in
    record {
      each = subst (λ (ss : List CountedConsumer). counts_of ss ≡ map (λ (x : Consumer). count_to taker_of x.number given) (consumers_of ss)) (sym c.remove_tagged.ensures.consumers) (counts_filtered (λ s. not (has_name c.args.tag.now s)) c.self.inside.consumers.items given was.each);
      all = was.all;
    }

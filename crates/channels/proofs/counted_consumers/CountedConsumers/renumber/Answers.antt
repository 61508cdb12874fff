use Rattle.channels.proofs.Imports.{◌∙◌, refl, sym, ap, subst, map, ConsumerCounts, CountsAgree, consumers_of, counts_of, consumer_moved}
use Rattle.channels.proofs.Moving.{moved_consumers, moved_counts, moved_counted}
use Rattle.channels.proofs.counted_consumers.CountedConsumers.renumber.Goals as goal

pub returns-clause-consumers : goal.returns-clause-consumers
returns-clause-consumers c =
    ap consumers_of c.renumber.ensures.consumers ∙ moved_consumers c.args.indices.now c.self.inside.consumers.items
    ∙ ap (λ (s : ConsumerCounts). map (consumer_moved c.args.indices.now) s.consumers) c.self.view_is

pub returns-clause-counted : goal.returns-clause-counted
returns-clause-counted c given k =
    let was : CountsAgree (record { consumers = consumers_of c.self.inside.consumers.items; held = counts_of c.self.inside.consumers.items; given = c.self.inside.given; room = _ }) given = subst (λ (s : ConsumerCounts). CountsAgree s given) (sym c.self.view_is) k in
    moved_counted c.args.indices.now _ _ given
    (ap consumers_of c.renumber.ensures.consumers ∙ moved_consumers c.args.indices.now c.self.inside.consumers.items)
    (ap counts_of c.renumber.ensures.consumers ∙ moved_counts c.args.indices.now c.self.inside.consumers.items)
    refl was

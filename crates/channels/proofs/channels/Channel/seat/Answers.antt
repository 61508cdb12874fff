use Rattle.channels.proofs.Imports.{sym, subst, ConsumerCounts, TagsAndCountsAgree}
use Rattle.channels.proofs.channels.Channel.seat.Goals as goal

pub invariant_of-self : goal.invariant_of-self
invariant_of-self c =
    let i = c.self.inside in
    subst (λ (s : ConsumerCounts). TagsAndCountsAgree i.pending.last i.next_tag s i.pending.outstanding i.next_number i.most_given) (sym c.seat.ensures) c.self.invariant

use Rattle.channels.proofs.Imports.{◌<◌, ℕ, sym, subst, List, CountsAgree, AreNumbered, NoneAbove, TagsDiffer, Delivery}
use Rattle.channels.proofs.Moving.{moved_numbered, none_above_moved}
use Rattle.channels.proofs.Tagging.{differ_moved}
use Rattle.channels.proofs.channels.Channel.renumber.Goals as goal

pub invariant_of-self : goal.invariant_of-self
invariant_of-self c = (
  subst (λ (n : ℕ). n < c.self.inside.next_tag) (sym c.renumber.ensures.last) c.self.invariant.0,
  subst (λ (os : List Delivery). CountsAgree c.renumber-2.new.self os) (sym c.renumber.ensures.outstanding) (c.renumber-2.ensures.counted _ c.self.invariant.1),
  subst (AreNumbered c.self.inside.next_number) (sym c.renumber-2.ensures.consumers) (moved_numbered c.args.indices.now c.self.inside.next_number _ c.self.invariant.2),
  subst (NoneAbove c.self.inside.most_given) (sym c.renumber.ensures.outstanding) (none_above_moved c.self.inside.most_given c.args.indices.now c.self.inside.pending.outstanding c.self.invariant.3),
  subst TagsDiffer (sym c.renumber-2.ensures.consumers) (differ_moved c.args.indices.now _ c.self.invariant.4),
)

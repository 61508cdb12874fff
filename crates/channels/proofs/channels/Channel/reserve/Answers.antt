use Rattle.channels.proofs.Imports.{◌<◌, ℕ, sym, subst, CountsAgree, NoneAbove}
use Rattle.channels.proofs.channels.Channel.reserve.Goals as goal

pub invariant_of-self : goal.invariant_of-self
invariant_of-self c = (
  subst (λ (n : ℕ). n < c.self.inside.next_tag) (sym c.reserve.ensures.last) c.self.invariant.0,
  subst (CountsAgree c.self.inside.consumers) (sym c.reserve.ensures.outstanding) c.self.invariant.1,
  c.self.invariant.2,
  subst (NoneAbove c.self.inside.most_given) (sym c.reserve.ensures.outstanding) c.self.invariant.3,
  c.self.invariant.4,
)

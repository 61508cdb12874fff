use Rattle.exchange_graph.proofs.Names.{subst, AreSteps, Text}
use Rattle.exchange_graph.proofs.Edging.{no_source, no_target, steps_on}
use Rattle.exchange_graph.proofs.topologies.Topology.leads_on.Goals as goal

pub returns-in_default : goal.returns-in_default
returns-in_default c = no_source c.args.self.now c.args.key.now c.args.exchange.now c.args.other.now c.in_default.ensures.absent

pub returns-in_default-exchange_at : goal.returns-in_default-exchange_at
returns-in_default-exchange_at c = no_target c.args.self.now c.args.key.now c.args.exchange.now c.args.other.now c.ghost_is_well_formed.ensures c.in_default-exchange_at.ensures.absent

pub returns : goal.returns
returns c =
    let t = c.args.self.now in
    rw (c.any_onward.ensures, c.as_slice.ensures.value)
    (steps_on t c.args.key.now c.args.exchange.now c.args.other.now c.in-Some-exchange_at.to c.in_ok-ends.ends.items c.ghost_is_well_formed.ensures
    (subst (λ (n : Text). AreSteps t c.args.key.now n c.in_ok-ends.ends.items) c.in-Some.ensures.named c.in_ok-ends.ensures) c.in-Some-exchange_at.ensures.within c.in-Some-exchange_at.ensures.named)

use Rattle.exchange_graph.proofs.Names.{subst, AreSteps, Text}
use Rattle.exchange_graph.proofs.Edging.{no_queue, no_fan, by_name, nothing, steps_in}
use Rattle.exchange_graph.proofs.Starting.{not_empty}
use Rattle.exchange_graph.proofs.topologies.Topology.leads_in.Goals as goal

pub returns-in_default : goal.returns-in_default
returns-in_default c = no_queue c.args.self.now c.args.key.now c.args.exchange.now c.args.queue.now c.ghost_is_well_formed.ensures c.in_default.ensures.absent

pub returns-in_default-exchange_at : goal.returns-in_default-exchange_at
returns-in_default-exchange_at c = no_fan c.args.self.now c.args.key.now c.args.exchange.now c.args.queue.now (not_empty c.args.exchange.now c.is_empty.result c.is_empty.ensures c.if-is_empty.false) c.in_default-exchange_at.ensures.absent

pub returns : goal.returns
returns c =
    let t = c.args.self.now in
    rw (c.any_into.ensures, c.as_slice.ensures.value)
    (steps_in t c.args.key.now c.args.exchange.now c.args.queue.now c.in-Some.to c.in_ok-ends.ends.items c.ghost_is_well_formed.ensures
    (subst (λ (n : Text). AreSteps t c.args.key.now n c.in_ok-ends.ends.items) c.in-Some-exchange_at.ensures.named c.in_ok-ends.ensures) c.in-Some.ensures.within c.in-Some.ensures.named)

pub returns-then-is_empty : goal.returns-then-is_empty
returns-then-is_empty c =
    rw c.eq.ensures
    (by_name c.args.self.now c.args.key.now c.args.exchange.now c.args.queue.now c.in-Some.to c.ghost_is_well_formed.ensures (nothing c.args.exchange.now c.is_empty.result c.is_empty.ensures c.if-is_empty.true) c.in-Some.ensures.within c.in-Some.ensures.named)

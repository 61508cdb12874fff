use Rattle.engine.proofs.Names.{◌≡◌, ◌∙◌, ap, refl, subst, sym, is_some, false≢true, Topology, IsWellFormed, AllHold, Config, IsConsistent, AreNamed, AreConnections, Parts, world_of, new_is_consistent}
use Rattle.broker.specs.Turns.{topology_kept, broker_of}
use Rattle.engine.proofs.Openings.{no_connection}
use Rattle.engine.proofs.engines.Engine.new.Goals as goal

pub invariant_of-result : goal.invariant_of-result
invariant_of-result c =
    let t : topology_kept c.in_ok-new.field-0 ≡ c.into_parts-topology.result.0 = c.in_ok-new.ensures.topology in
    let formed' : IsWellFormed (topology_kept c.in_ok-new.field-0) = subst (λ (z : Topology). IsWellFormed z) (sym t) c.into_parts-topology.ensures.well_formed in
    let hold' : AllHold (topology_kept c.in_ok-new.field-0) c.into_parts-topology.result.1.items = subst (λ (z : Topology). AllHold z c.into_parts-topology.result.1.items) (sym t) c.into_parts-topology.ensures.hold in
    let parts : Parts = record { broker = c.in_ok-new.field-0; guarantees = c.into_parts-topology.result.1.items; users = c.args.users.items; given = 0; connections = c.in_ok-with_capacity.field-0.items } in
    let connections' : AreConnections 0 c.in_ok-with_capacity.field-0.items = rw c.in_ok-with_capacity.ensures.items (record { rising = tt; each = tt }) in
    let f : Config = record { topology = topology_kept c.in_ok-new.field-0; guarantees = c.into_parts-topology.result.1.items; users = c.args.users.items } in
    let consistent' : IsConsistent (world_of parts) = subst IsConsistent (sym (no_connection parts f refl refl refl refl c.in_ok-with_capacity.ensures.items c.in_ok-new.ensures.empty)) (new_is_consistent f (record { wf = formed'; hold = hold' })) in
    let named' : AreNamed (topology_kept c.in_ok-new.field-0) (broker_of c.in_ok-new.field-0) = λ d h ch e. absurd (false≢true (ap is_some (sym (c.in_ok-new.ensures.empty.channels d h) ∙ e))) in
    record { hold = hold'; formed = formed'; connections = connections'; consistent = consistent'; named = named' }

pub returns : goal.returns
returns c =
    let parts : Parts = record { broker = c.in_ok-new.field-0; guarantees = c.into_parts-topology.result.1.items; users = c.args.users.items; given = 0; connections = c.in_ok-with_capacity.field-0.items } in
    let f : Config = record { topology = c.args.checked.topology; guarantees = c.args.checked.guarantees; users = c.args.users.items } in
    no_connection parts f (c.in_ok-new.ensures.topology ∙ c.into_parts-topology.ensures.topology) c.into_parts-topology.ensures.guarantees refl refl c.in_ok-with_capacity.ensures.items c.in_ok-new.ensures.empty

use Rattle.paths.proofs.Names.{◌≡◌, true, on_ok_weaker, ◌↔◌, KeyedPlace, Queue, NextLocation}
use Rattle.paths.specs.declared.keyed.KeyedPlace.TheVariants.{Exchange}
use Rattle.paths.proofs.Among.{add_none, add_same, dies_at, dies_nowhere}
use Rattle.paths.proofs.walking.die.Goals as goal

pub returns-in_default : goal.returns-in_default
returns-in_default c = add_none _ c.args.locations.now.items (dies_nowhere c.args.topology.now c.args.name.now c.args.next.now c.args.key.now c.in_default.ensures.absent)

pub returns : goal.returns
returns c =
    let t = c.args.topology.now in
    let is : (s : KeyedPlace) → NextLocation t c.args.name.now c.args.next.now (Queue c.args.key.now) s ↔ ((c.leads_dead.result ≡ true) × (s ≡ Exchange c.in_ok-dead_key.field-0)) =
    rw c.in_ok-dead_key.ensures
    (dies_at t c.args.name.now c.args.next.now c.args.key.now c.in-Some.place c.queue-queue.result.now c.leads_dead.result c.ghost_is_well_formed.ensures c.in-Some.ensures.within c.in-Some.ensures.named c.queue-queue.ensures c.leads_dead.ensures) in
    on_ok_weaker c.add_if.result (λ a. add_same _ _ c.args.locations.now.items c.add_if.new.locations.items is a) c.add_if.ensures

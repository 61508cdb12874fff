use Rattle.commands.proofs.Names.{◌∙◌, ap, by_channel, open_in, option_map, waiting, Kept, broker_of, names_of, topology_kept}
use Rattle.commands.proofs.Freed.{channel_is_freed, held_within}
use Rattle.commands.proofs.Placing.{placed_put, placed_new}
use Rattle.commands.proofs.Remaining.{emptied, none_seen}
use Rattle.commands.proofs.Stepping.{IsFreed, cleared_is}
use Rattle.commands.proofs.cores.Core.clear.Goals as goal

pub requeue-requires : goal.requeue-requires
requeue-requires c = held_within (record { store = c.self.inside.depot; connections = c.self.inside.connections }) c.args.connection c.args.number (waiting c.outstanding-held.result.now) c.self.invariant c.outstanding-held.ensures.all

pub returns-clause-cleared : goal.returns-clause-cleared
returns-clause-cleared c =
    let connection = c.args.connection in
    let number = c.args.number in
    let old : Kept = record { store = c.self.inside.depot; connections = c.self.inside.connections } in
    let new : Kept = record { store = c.requeue.new.self; connections = c.put.new.self } in
    let freed : IsFreed (by_channel connection number) old.store new.store =
    channel_is_freed old c.args.self.now connection number (waiting c.outstanding-held.result.now) new.store c.self.view_is c.requires.agreed c.outstanding-held.ensures.all c.requeue.ensures in
    rw (← c.self.view_is) (cleared_is old new connection number c.args.channel freed c.put.ensures.put)

pub invariant_of-self : goal.invariant_of-self
invariant_of-self c =
    let old : Kept = record { store = c.self.inside.depot; connections = c.self.inside.connections } in
    let new : Kept = record { store = c.requeue.new.self; connections = c.put.new.self } in
    placed_put old new c.args.connection c.args.number c.args.channel c.requeue.ensures.topology c.put.ensures.put
    (λ k is. placed_new (topology_kept old) k (c.requires.nothing k is) (c.requires.free k is)) c.self.invariant

pub returns-clause-topology : goal.returns-clause-topology
returns-clause-topology c = c.requeue.ensures.topology ∙ ap topology_kept c.self.view_is

-- its consumers leave with it
pub returns-clause-ended : goal.returns-clause-ended
returns-clause-ended c =
    let connection = c.args.connection in
    let number = c.args.number in
    let old : Kept = record { store = c.self.inside.depot; connections = c.self.inside.connections } in
    let new : Kept = record { store = c.requeue.new.self; connections = c.put.new.self } in
    let freed : IsFreed (by_channel connection number) old.store new.store =
    channel_is_freed old c.args.self.now connection number (waiting c.outstanding-held.result.now) new.store c.self.view_is c.requires.agreed c.outstanding-held.ensures.all c.requeue.ensures in
    rw (← c.self.view_is) (
      c.put.ensures.before,
      emptied (broker_of old) (broker_of new) connection number (option_map (open_in (names_of old)) c.args.channel)
          (cleared_is old new connection number c.args.channel freed c.put.ensures.put).channels (none_seen (names_of old) c.args.channel c.requires.free),
    )

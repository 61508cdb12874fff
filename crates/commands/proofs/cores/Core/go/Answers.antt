use Rattle.commands.proofs.Names.{◌≡◌, ◌∙◌, ap, by_connection, running_in, Kept, broker_of, topology_kept}
use Rattle.std.specs.Option.{option_copied}
use Rattle.commands.proofs.Freed.{connection_is_freed, within_at}
use Rattle.commands.proofs.Placing.{placed_gone}
use Rattle.commands.proofs.Remaining.{gone_empties}
use Rattle.commands.proofs.Stepping.{IsFreed, gone_is}
use Rattle.commands.proofs.cores.Core.go.Goals as goal

pub requeue_all-requires : goal.requeue_all-requires
requeue_all-requires c =
    let old : Kept = record { store = c.self.inside.depot; connections = c.self.inside.connections } in
    let before : option_copied c.as_ref.result ≡ running_in old.connections c.args.connection = c.as_ref.ensures.value ∙ c.remove-before.ensures.before in
    within_at old c.args.connection (option_copied c.as_ref.result) before c.self.invariant

pub returns : goal.returns
returns c =
    let old : Kept = record { store = c.self.inside.depot; connections = c.self.inside.connections } in
    let new : Kept = record { store = c.requeue_all.new.depot; connections = c.remove-before.new.self } in
    let before : option_copied c.as_ref.result ≡ running_in old.connections c.args.connection = c.as_ref.ensures.value ∙ c.remove-before.ensures.before in
    let freed : IsFreed (by_connection c.args.connection) old.store new.store =
    connection_is_freed old c.args.self.now c.args.connection (option_copied c.as_ref.result) new.store c.self.view_is c.requires before c.requeue_all.ensures in
    let gone = gone_is old new c.args.connection freed c.remove-before.ensures.holds in
    record {
      gone = rw (← c.self.view_is) gone;
      ended = rw (← c.self.view_is) (c.remove-before.ensures.before, gone_empties (broker_of old) (broker_of new) c.args.connection gone);
      topology = freed.topology ∙ ap topology_kept c.self.view_is;
    }

pub invariant_of-self : goal.invariant_of-self
invariant_of-self c =
    let old : Kept = record { store = c.self.inside.depot; connections = c.self.inside.connections } in
    let new : Kept = record { store = c.requeue_all.new.depot; connections = c.remove-before.new.self } in
    let before : option_copied c.as_ref.result ≡ running_in old.connections c.args.connection = c.as_ref.ensures.value ∙ c.remove-before.ensures.before in
    let freed : IsFreed (by_connection c.args.connection) old.store new.store =
    connection_is_freed old c.args.self.now c.args.connection (option_copied c.as_ref.result) new.store c.self.view_is c.requires before c.requeue_all.ensures in
    placed_gone old new c.args.connection freed.topology c.remove-before.ensures.holds.channels_are c.self.invariant

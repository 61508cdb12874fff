use Rattle.commands.proofs.Names.{◌≡◌, ◌∙◌, ap, refl, by_connection, running_in, Kept, broker_of, topology_kept}
use Rattle.std.specs.Option.{option_copied}
use Rattle.commands.proofs.Freed.{connection_is_freed, within_at}
use Rattle.commands.proofs.Placing.{placed_opened}
use Rattle.commands.proofs.Remaining.{opened_empties}
use Rattle.commands.proofs.Stepping.{IsFreed, opened_is}
use Rattle.commands.proofs.cores.Core.open.Goals as goal

pub requeue_all-requires : goal.requeue_all-requires
requeue_all-requires c =
    let old : Kept = record { store = c.self.inside.depot; connections = c.self.inside.connections } in
    let before : option_copied c.as_ref.result ≡ running_in old.connections c.args.connection = c.as_ref.ensures.value ∙ c.in_ok-before.ensures.before in
    within_at old c.args.connection (option_copied c.as_ref.result) before c.self.invariant

pub returns : goal.returns
returns c =
    let old : Kept = record { store = c.self.inside.depot; connections = c.self.inside.connections } in
    let new : Kept = record { store = c.requeue_all.new.depot; connections = c.open.new.self } in
    let before : option_copied c.as_ref.result ≡ running_in old.connections c.args.connection = c.as_ref.ensures.value ∙ c.in_ok-before.ensures.before in
    let freed : IsFreed (by_connection c.args.connection) old.store new.store =
    connection_is_freed old c.args.self.now c.args.connection (option_copied c.as_ref.result) new.store c.self.view_is c.requires before c.requeue_all.ensures in
    let opened = opened_is old new c.args.connection c.args.channel_max c.args.channels freed c.in_ok-before.ensures.ok in
    record {
      ok = rw (← c.self.view_is) (record { sent = refl; noted = refl; left = opened });
      ended = rw (← c.self.view_is) (c.in_ok-before.ensures.before, opened_empties (broker_of old) (broker_of new) c.args.connection c.args.channel_max c.args.channels opened);
      topology = freed.topology ∙ ap topology_kept c.self.view_is;
      err = tt;
    }

pub invariant_of-self-2 : goal.invariant_of-self-2
invariant_of-self-2 c =
    let old : Kept = record { store = c.self.inside.depot; connections = c.self.inside.connections } in
    let new : Kept = record { store = c.requeue_all.new.depot; connections = c.open.new.self } in
    let before : option_copied c.as_ref.result ≡ running_in old.connections c.args.connection = c.as_ref.ensures.value ∙ c.in_ok-before.ensures.before in
    let freed : IsFreed (by_connection c.args.connection) old.store new.store =
    connection_is_freed old c.args.self.now c.args.connection (option_copied c.as_ref.result) new.store c.self.view_is c.requires before c.requeue_all.ensures in
    placed_opened old new c.args.connection c.args.channel_max c.args.channels freed.topology c.in_ok-before.ensures.ok c.self.invariant

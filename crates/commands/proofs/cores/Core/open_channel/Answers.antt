use Rattle.commands.proofs.Names.{◌≡◌, ◌∙◌, ap, refl, subst, [], ◌∷◌, Channel, new_channel, Is, Send, open_in, Kept, broker_of, topology_kept, names_of}
use Rattle.std.proofs.Common.{Some}
use Rattle.model.specs.Step.{with_channel}
use Rattle.channels.specs.Open.{Open}
use Rattle.commands.proofs.Stepping.{put_is, running_there}
use Rattle.commands.proofs.Placing.{placed_put, placed_new, placed_some}
use Rattle.commands.proofs.cores.Core.open_channel.Goals as goal

pub open_channel-requires : goal.open_channel-requires
open_channel-requires c = running_there (record { store = c.self.inside.depot; connections = c.self.inside.connections }) c.args.self.now c.args.connection c.self.view_is c.requires

pub returns-clause-ok : goal.returns-clause-ok
returns-clause-ok c =
    let connection = c.args.connection in
    let number = c.args.channel in
    let old : Kept = record { store = c.self.inside.depot; connections = c.self.inside.connections } in
    let new : Kept = record { store = c.self.inside.depot; connections = c.open_channel.new.self } in
    let fresh : open_in (names_of old) c.new.result ≡ new_channel = ap (open_in (names_of old)) c.new.ensures in
    rw (← c.self.view_is)
    (record {
      sent = c.in_ok-step.ensures.sends ∙ ap (λ (s : Send). s ∷ []) c.open_ok.ensures.send;
      noted = c.in_ok-step.ensures.notes;
      left = subst (λ (ch : Channel). Is (with_channel (broker_of old) connection number (Some ch)) (broker_of new)) fresh
          (put_is old new connection number (Some c.new.result) refl c.in_ok-open_channel.ensures.ok);
    })

pub invariant_of-self-2 : goal.invariant_of-self-2
invariant_of-self-2 c =
    let old : Kept = record { store = c.self.inside.depot; connections = c.self.inside.connections } in
    let new : Kept = record { store = c.self.inside.depot; connections = c.open_channel.new.self } in
    placed_put old new c.args.connection c.args.channel (Some c.new.result) refl c.in_ok-open_channel.ensures.ok
    (placed_some (topology_kept old) c.new.result
    (placed_new (topology_kept old) c.new.result (ap (λ (x : Open). x.given.outstanding) c.new.ensures) (ap (λ (x : Open). x.given.consumers) c.new.ensures)))
    c.self.invariant

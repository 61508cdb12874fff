-- A connection is there exactly while it runs, and has channels only while it is there.
use Rattle.laws.proofs.Names.{◌≡◌, ℕ, List, Bool, true, false, refl, sym, ap, ◌∙◌, is_some, ◌==◌, eqb-true, Topology, Channel, Broker, Step, Happening, event_connection, ArePresent, Send, Note}
use Rattle.std.proofs.Common.{Option, Some}
use Rattle.std.specs.Prelude.{if◌then◌else◌}
use Rattle.laws.proofs.Agreed.{At, own, other, pair_at}
use Rattle.laws.proofs.Channels.{Changes, unchanged, one_channel, all_channels, step_changes}
use Rattle.laws.proofs.Linked.{step_running}

-- channels only of connections that are there
abbrev AreServed : Broker → Type 0
AreServed b = (c k : ℕ) (ch : Channel) → b.channel c k ≡ Some ch → is_some (b.connection c) ≡ true

served_after : (t : Topology) (old new : Broker) (sends : List Send) (notes : List Note) (c : ℕ) → Changes t old sends notes new c → AreServed old → AreServed new
served_after t old new sends notes c (unchanged channels connections) served d k ch e = connections d ∙ served d k ch (sym (channels d k) ∙ e)
served_after t old new sends notes c (one_channel h now channels connections there fate) served d k ch e = ap is_some (connections d) ∙ go (pair_at old.channel c h now d k)
  where
    go : At (Option Channel) old.channel c h now d k → is_some (old.connection d) ≡ true
    go (own f g is) = ap (λ (n : ℕ). is_some (old.connection n)) f ∙ there
    go (other distinct is) = served d k ch (sym is ∙ sym (channels d k) ∙ e)
served_after t old new sends notes c (all_channels row channels queues there others) served d k ch e = go (d == c) refl
  where
    go : (v : Bool) → (d == c) ≡ v → is_some (new.connection d) ≡ true
    go true f = ap (λ (n : ℕ). is_some (new.connection n)) (eqb-true d c f) ∙ there k ch (sym (ap (λ (b : Bool). if b then row k else old.channel d k) f) ∙ sym (channels d k) ∙ e)
    go false f = ap is_some (others d f) ∙ served d k ch (sym (ap (λ (b : Bool). if b then row k else old.channel d k) f) ∙ sym (channels d k) ∙ e)

pub step_present : (h : Happening) → Step h.config h.before h.event h.sends h.notes h.after → ArePresent h.before → ArePresent h.after
step_present h s was = record {
  connections = step_running h.config h.before h.after h.event h.sends h.notes s was.connections;
  channels = served_after h.config.topology h.before.broker h.after.broker h.sends h.notes (event_connection h.event) (step_changes h s) was.channels;
}

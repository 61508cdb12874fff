-- Which consumers are awake (own).
use Rattle.std.specs.Prelude.{◌≡◌, ◌⊎◌, ℕ, true, Option, Some}
use Rattle.model.specs.Topology.{IsIn}
use Rattle.channels.specs.Open.{Open}
use Rattle.channels.specs.RunningConnections.{channel_of, is_number}
use Rattle.channels.specs.declared.consumers.Consumer.{Consumer}
use Rattle.commands.specs.State.{Kept, broker_of}
use Rattle.commands.specs.Picked.{CannotTake}
use Rattle.commands.specs.declared.picks.Pick.{Pick}

-- each consumer of connection `c`, on the channel with this number or on any if there is none, is awake, as `Awake` says of the index of its queue, its
-- connection, its channel and its number, or can't take a message now
abbrev pub AreUp : ℕ → Option ℕ → (ℕ → ℕ → ℕ → ℕ → Type 0) → Kept → Type 0
AreUp c number Awake kept = (p : Pick) (ch : Open) (k : Consumer) → p.connection ≡ c → is_number number p.channel ≡ true
    → channel_of kept.connections p.connection p.channel ≡ Some ch → IsIn k ch.given.consumers → k.number ≡ p.number
    → Awake k.queue p.connection p.channel p.number ⊎ CannotTake (broker_of kept) p

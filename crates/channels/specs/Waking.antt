-- Which consumers are awake (own).
use Rattle.std.specs.Prelude.{◌≡◌, ◌⊎◌, ℕ, true, Option, Some}
use Rattle.model.specs.Topology.{IsIn}
use Rattle.channels.specs.Open.{Open, HasNoTaker}
use Rattle.channels.specs.RunningConnections.{is_number}
use Rattle.channels.specs.declared.consumers.Consumer.{Consumer}

-- each consumer of the channel is awake, as `Awake` says of the index of its queue and its number, or can't take a message now
abbrev pub AreWoken : (ℕ → ℕ → Type 0) → Open → Type 0
AreWoken Awake ch = (k : Consumer) → IsIn k ch.given.consumers → Awake k.queue k.number ⊎ HasNoTaker ch k.number

-- `AreWoken` of each open channel with this number, or of each if there is none; `Awake` tells the channel, too
abbrev pub AreWokenOn : (ℕ → ℕ → ℕ → Type 0) → (ℕ → Option Open) → Option ℕ → Type 0
AreWokenOn Awake channels number = (h : ℕ) (ch : Open) → is_number number h ≡ true → channels h ≡ Some ch → AreWoken (λ q. Awake q h) ch

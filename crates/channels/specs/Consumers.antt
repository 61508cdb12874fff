-- Consumers of a channel, by number.
use Rattle.std.specs.Prelude.{◌≡◌, ◌<◌, ℕ, false, Option, Some, None, IsSome, if◌then◌else◌}
use Rattle.channels.specs.Deliveries.{consumer_at}
use Rattle.channels.specs.Open.{Open, IsOne, IsTaker, HasNoTaker}
use Rattle.channels.specs.declared.consumers.Consumer.{Consumer}
use Rattle.channels.specs.RunningConnections.{Running, channel_in}

-- the consumer with this number, if the channel is open and has it
abbrev pub consumer_numbered : Option Open → ℕ → Option Consumer
consumer_numbered None number = None
consumer_numbered (Some ch) number = consumer_at ch.given number

-- `k` is the consumer with this number of channel `h` of the connection, and the only one with it.
pub record IsOneOn (l : Running) (h number : ℕ) (k : Consumer) : Type 0 where
  pub channel : Open
  pub there : channel_in l h ≡ Some channel
  pub one : IsOne channel number k

-- the number of the channel's next consumer: 1 if it is not open; `None` if it awaits close-ok, since a consume does nothing then
abbrev pub next_number : Option Open → Option ℕ
next_number None = Some 1
next_number (Some ch) = if ch.is_closing then None else Some ch.given.next_number

-- each consumer of this channel has a number below `next`
abbrev pub AreBelow : Option Open → ℕ → Type 0
AreBelow ch next = (number : ℕ) → IsSome (consumer_numbered ch number) → number < next

-- `k` is the consumer with this number on channel `h` of the connection, and can take a message now.
pub record MayTakeOn (l : Running) (h number : ℕ) (k : Consumer) : Type 0 where
  pub awake : l.is_paused ≡ false
  pub channel : Open
  pub there : channel_in l h ≡ Some channel
  pub open_still : channel.is_closing ≡ false
  pub taker : IsTaker channel number k

-- the result is the consumer `number` if it can take a message now, and `None` if it can't
abbrev pub ReturnsConsumerOn : Running → ℕ → ℕ → Option Consumer → Type 0
ReturnsConsumerOn l h number (Some k) = MayTakeOn l h number k
ReturnsConsumerOn l h number None = (ch : Open) → l.is_paused ≡ false → channel_in l h ≡ Some ch → ch.is_closing ≡ false → HasNoTaker ch number

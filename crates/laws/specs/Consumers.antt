-- Consumers keep their tags and numbers, and what is delivered to them can be addressed.
use Rattle.std.specs.Prelude.{◌≡◌, ◌<◌, ◌≤◌, ◌^◌, ◌⊎◌, ℕ, List, true, false, Option, Some}
use Rattle.std.specs.List.{AllByRecursion}
use Rattle.model.specs.Topology.{Topology, IsIn}
use Rattle.model.specs.Broker.{Consumer, Channel, Broker}
use Rattle.model.specs.Prefetch.{count_to}
use Rattle.model.specs.Consuming.{is_in_use, server_tag, next_free, taker_of}
use Rattle.model.specs.Step.{greatest, channel_or_new, Acts, IsDelivery}
use Rattle.model.specs.State.{Config}
use Rattle.model.specs.Commands.{Stream}
use Rattle.model.specs.Run.{Happening, empty_broker}
use Rattle.model.specs.History.{Occurrence}
use Rattle.model.specs.Arrivals.{IsSaid, World, new_world, Turns, Waits, TakesOutput, Opens, Loses, Pumps, Reloads, Plays, with_heard}
use Rattle.model.specs.Naming.{AreNamedOn, AreNamed}
use Rattle.model.specs.Sending.{AreCarried, IsAddressed}
use Rattle.model.specs.declared.events.Send.{Send}
use Rattle.model.specs.declared.contents.Content.{Content}
use Rattle.model.specs.declared.events.Event.{Event}
use Rattle.model.specs.declared.events.Event.TheVariants.{Command}
use Rattle.model.specs.declared.methods.Consume.{Consume}
use Rattle.model.specs.declared.methods.Method.TheVariants.{BasicConsume}
use Rattle.model.specs.declared.events.Arrival.{Arrival}
use Rattle.model.specs.declared.notes.Note.{Note}

-- ---- consumers by their names

-- In the empty broker the consumers are named as `AreNamed` says, and each event keeps them so.
pub record ConsumersStayNamed : Type 0 where
  pub empty : (t : Topology) → AreNamed t empty_broker
  pub acts : (t : Topology) (old new : Broker) (e : Event) (sends : List Send) (notes : List Note) → IsSaid e → AreNamed t old
      → Acts t old e sends notes new → AreNamed t new
  -- The next consumer of a channel begins with no unacknowledged message, also if it has the tag of one that was cancelled.
  pub fresh : (t : Topology) (ch : Channel) → AreNamedOn t ch → count_to taker_of ch.next_number ch.outstanding ≡ 0

-- The consumers of the world are named as `AreNamed` says, under the topology in force.
abbrev pub IsWorldNamed : World → Type 0
IsWorldNamed w = AreNamed w.config.topology w.state.broker

-- `IsWorldNamed` is true of a world with no connection, and each kind of step keeps it true.
pub record WorldsStayNamed : Type 0 where
  pub new_worlds : (f : Config) → IsWorldNamed (new_world f)
  pub turns : (old new : World) (c : ℕ) (hs : List Happening) → IsWorldNamed old → Turns old c hs new → IsWorldNamed new
  pub waits : (old new : World) (c : ℕ) → IsWorldNamed old → Waits old c new → IsWorldNamed new
  pub hears : (w : World) (c : ℕ) (bytes : List ℕ) → IsWorldNamed w → IsWorldNamed (with_heard w c bytes)
  pub takes : (old new : World) (c n : ℕ) (hs : List Happening) → IsWorldNamed old → TakesOutput old c n hs new → IsWorldNamed new
  pub opens : (old new : World) (e : Event) (s : Stream) (hs : List Happening) → IsSaid e → IsWorldNamed old → Opens old e s hs new → IsWorldNamed new
  pub loses : (old new : World) (c : ℕ) (hs : List Happening) → IsWorldNamed old → Loses old c hs new → IsWorldNamed new
  pub pumps : (old new : World) (hs : List Happening) → IsWorldNamed old → Pumps old hs new → IsWorldNamed new
  pub reloads : (old new : World) (offered : Config) (os : List Occurrence) → IsWorldNamed old → Reloads old offered os new → IsWorldNamed new

-- `IsWorldNamed` is true after any arrivals, if it was true before them.
abbrev pub PlaysStayNamed : Type 0
PlaysStayNamed = (old new : World) (arrivals : List (Arrival Config)) (os : List Occurrence) → IsWorldNamed old → Plays old arrivals os new → IsWorldNamed new

-- ---- how consumers are made

-- `k` is a consumer of channel `h` of connection `c`.
abbrev pub WasConsumer : Broker → ℕ → ℕ → Consumer → Type 0
WasConsumer b c h k = (ch : Channel) × (b.channel c h ≡ Some ch) × IsIn k ch.consumers

-- The event is a consume on channel `h` of connection `c`, and `k` has the next number of that channel.
abbrev pub IsMadeBy : Broker → Event → ℕ → ℕ → Consumer → Type 0
IsMadeBy b e c h k = (m : Consume) × (content : Option Content) × (e ≡ Command c h (BasicConsume m) content)
    × (k.number ≡ (channel_or_new (b.channel c h)).next_number)

-- Each consumer after an event was there before it, or the event is the consume that makes it.
abbrev pub ConsumersAreMade : Type 0
ConsumersAreMade = (t : Topology) (old new : Broker) (e : Event) (sends : List Send) (notes : List Note) → Acts t old e sends notes new
    → (c h : ℕ) (k : Consumer) → WasConsumer new c h k → WasConsumer old c h k ⊎ IsMadeBy old e c h k

-- ---- deliveries

-- If consumers are named as `AreNamed` says and each message can be given out, a delivery's sends can be addressed, on a channel that a frame can name.
abbrev pub DeliveriesAreAddressed : Type 0
DeliveriesAreAddressed = (t : Topology) (old new : Broker) (c : ℕ) (sends : List Send) (notes : List Note) (d : IsDelivery old c sends notes new)
    → AreCarried old → AreNamed t old → d.made.number < 2 ^ 16 → AllByRecursion (IsAddressed c) sends

-- ---- the tags that the server makes

-- The number of the next tag that the server makes on the channel: the first, from `next_name` on, whose tag is free.
pub record IsNextTag (ch : Channel) : Type 0 where
  pub least : ch.next_name ≤ next_free ch
  -- The number's tag is free, unless the number is the greatest one, which is never given.
  pub free : next_free ch < greatest → is_in_use (server_tag (next_free ch)) ch.consumers ≡ false
  -- The tags of all numbers from `next_name` to the one before it are in use.
  pub before : (k : ℕ) → ch.next_name ≤ k → k < next_free ch → is_in_use (server_tag k) ch.consumers ≡ true

-- On each channel `next_free` is the number that `IsNextTag` describes, and the only one; it is the greatest number if all other tags are in use.
pub record NextTagsAreFound : Type 0 where
  pub next : (ch : Channel) → IsNextTag ch
  pub only : (ch : Channel) (n : ℕ) → ch.next_name ≤ n → n < greatest → is_in_use (server_tag n) ch.consumers ≡ false
      → ((k : ℕ) → ch.next_name ≤ k → k < n → is_in_use (server_tag k) ch.consumers ≡ true) → next_free ch ≡ n
  pub none_left : (ch : Channel) → ch.next_name ≤ greatest
      → ((k : ℕ) → ch.next_name ≤ k → k < greatest → is_in_use (server_tag k) ch.consumers ≡ true) → next_free ch ≡ greatest

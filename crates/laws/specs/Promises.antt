-- The promises that every run keeps.
use Rattle.std.specs.Prelude.{◌≡◌, ℕ, List, [], ◌∷◌, map, filter_map, Option, Some, None}
use Rattle.std.specs.List.{AllByRecursion}
use Rattle.model.specs.Words.{Text}
use Rattle.model.specs.Broker.{Broker}
use Rattle.model.specs.State.{Config, State}
use Rattle.model.specs.Tracing.{AreKept}
use Rattle.model.specs.Run.{Happening, Run, AreCounted, notes_of, sends_of}
use Rattle.model.specs.Spelling.{sends_to}
use Rattle.model.specs.Arrivals.{IsSaid}
use Rattle.model.specs.Acks.{Ack, EnteredOnce, acked, ack_for}
use Rattle.model.specs.Nacks.{Nack, nacks_of}
use Rattle.model.specs.Allowed.{AreAllowed, AreAllowedIn}
use Rattle.model.specs.Causes.{HaveCauses, HaveOrigins}
use Rattle.model.specs.Routed.{EnterAsRouted}
use Rattle.model.specs.Letters.{DieAsRouted, DieOnce}
use Rattle.model.specs.Contents.{AreSourced}
use Rattle.model.specs.Headline.{IsSound, KeepsEvents}
use Rattle.model.specs.declared.events.Send.{Send}
use Rattle.model.specs.declared.events.Send.TheVariants as send
use Rattle.model.specs.declared.methods.Method.{Method}
use Rattle.model.specs.declared.methods.Method.TheVariants.{BasicAck, BasicNack}

-- ---- acks and nacks as they are sent

-- The method on channel `h` as an ack, if it is basic.ack.
abbrev pub ack_of : ℕ → Method → Option Ack
ack_of h (BasicAck m) = Some (record { channel = h; number = m.delivery_tag; multiple = m.multiple })
ack_of h m = None

-- The ack that the send carries, if it carries one.
abbrev pub ack_sent : Send → Option Ack
ack_sent (send.Greeting c) = None
ack_sent (send.Command c h m content) = ack_of h m

-- The method on channel `h` as a nack, if it is basic.nack.
abbrev pub nack_of : ℕ → Method → Option Nack
nack_of h (BasicNack m) = Some (record { channel = h; number = m.delivery_tag; multiple = m.multiple })
nack_of h m = None

-- The nack that the send carries, if it carries one.
abbrev pub nack_sent : Send → Option Nack
nack_sent (send.Greeting c) = None
nack_sent (send.Command c h m content) = nack_of h m

-- ---- premises

-- The configuration in force at each event is sound.
abbrev pub AreSound : List Happening → Type 0
AreSound hs = AllByRecursion (λ (h : Happening). IsSound h.config) hs

-- The configuration in force after the event.
abbrev pub config_after : Happening → Config
config_after h = h.config

-- `f` is in force at the first event, what is in force after an event is in force at the next, and `last` is in force after all of them.
abbrev pub InForce : Config → List Happening → Config → Type 0
InForce f [] last = last ≡ f
InForce f (h ∷ hs) last = (h.config ≡ f) × InForce (config_after h) hs last

-- Each command among the events has a method with a spelling, and a content that is not too large.
abbrev pub AreSaid : List Happening → Type 0
AreSaid hs = AllByRecursion (λ (h : Happening). IsSaid h.event) hs

-- How a run under `f` may begin: no message in a queue has a number above that of the publishes counted, and each may be in its queue.
pub record IsBegun (f : Config) (b : Broker) : Type 0 where
  pub counted : AreCounted b
  pub kept : AreKept f b

-- ---- laws of every run

-- Each publish confirmed by ack entered every queue that a guarantee promises for it, exactly once, if the configurations in force are sound.
abbrev pub AckedEnterOnce : Type 0
AckedEnterOnce = (hs : List Happening) (old new : State) → AreSound hs → AreSaid hs → Run old hs new → (c : ℕ)
    → AllByRecursion (EnteredOnce (notes_of hs)) (acked c hs)

-- The acks sent to a connection are those of its publishes confirmed by ack, one for one and in order.
abbrev pub AcksAreAcked : Type 0
AcksAreAcked = (hs : List Happening) (old new : State) → Run old hs new → (c : ℕ) → filter_map ack_sent (sends_to c (sends_of hs)) ≡ map ack_for (acked c hs)

-- The nacks sent to a connection are those of its publishes confirmed by nack, one for one and in order.
abbrev pub NacksAreNacked : Type 0
NacksAreNacked = (hs : List Happening) (old new : State) → Run old hs new → (c : ℕ) → filter_map nack_sent (sends_to c (sends_of hs)) ≡ nacks_of c hs

-- No message, as a publish or a dead letter, entered a queue that a guarantee forbids to its publish. Where the publish was sent is taken
-- from all notes of the run.
abbrev pub ForbiddenAreNotEntered : Type 0
ForbiddenAreNotEntered = (f last : Config) (hs : List Happening) (old new : State) → AreSound hs → InForce f hs last → AreSaid hs
    → IsBegun f old.broker → Run old hs new → AllByRecursion (AreAllowedIn (notes_of hs)) hs

-- No message entered a queue that a guarantee forbids to its publish. Where the publish was sent is taken from the event's notes
-- and from the queues before the event.
abbrev pub ForbiddenAreNotEnteredAtEvents : Type 0
ForbiddenAreNotEnteredAtEvents = (f last : Config) (hs : List Happening) (old new : State) → AreSound hs → InForce f hs last → AreSaid hs
    → IsBegun f old.broker → Run old hs new → AllByRecursion AreAllowed hs

-- Each message that left a queue left it by an event that may take it out for the cause that is noted.
abbrev pub CausesAreShown : Type 0
CausesAreShown = (hs : List Happening) (old new : State) → Run old hs new → AllByRecursion HaveCauses hs

-- What entered a queue came by its publish, noted at the same event, or as the dead
-- letter of a message that was in a queue before the event and left it by a rejection.
abbrev pub OriginsAreShown : Type 0
OriginsAreShown = (hs : List Happening) (old new : State) → Run old hs new → AllByRecursion HaveOrigins hs

-- Each publish entered each queue to which it was routed, once, unless that queue was full. It was acked only if none was full.
abbrev pub PublishesEnterAsRouted : Type 0
PublishesEnterAsRouted = (hs : List Happening) (old new : State) → Run old hs new → AllByRecursion EnterAsRouted hs

-- If the configurations in force are sound, the dead letter of each rejected message entered each
-- queue to which it goes on, unless that queue was full; no other dead letter entered a queue.
abbrev pub LettersComeAsRouted : Type 0
LettersComeAsRouted = (hs : List Happening) (old new : State) → AreSound hs → Run old hs new → AllByRecursion DieAsRouted hs

-- If the configurations in force are sound, then at each event, for each publish number,
-- at most as many dead letters entered a queue as messages of that number were rejected.
abbrev pub LettersComeOnce : Type 0
LettersComeOnce = (hs : List Happening) (old new : State) → AreSound hs → Run old hs new → AllByRecursion DieOnce hs

-- If no message is in a queue at the beginning, each that is given out has the body
-- and the properties of its publish, except for headers that tell of its deaths.
abbrev pub GivenAsPublished : Type 0
GivenAsPublished = (hs : List Happening) (old new : State) → ((q : Text) → old.broker.queue q ≡ []) → Run old hs new → AreSourced [] hs

-- The events keep all promises of `KeepsEvents`. These are the laws above, without those about acks, nacks and contents that are sent,
-- and four more: about publish numbers, redelivered marks, the channels of other connections, and the balance of every queue.
abbrev pub RunsKeepEvents : Type 0
RunsKeepEvents = (f last : Config) (hs : List Happening) (old new : State) → AreSound hs → InForce f hs last → AreSaid hs → IsBegun f old.broker
    → Run old hs new → KeepsEvents old.broker hs new.broker

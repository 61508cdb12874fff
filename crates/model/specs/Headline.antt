-- Certified delivery: what is promised of a whole run, in the words of a client and of the topology's owner
-- (own). Start with `CertifiedDelivery`, near the end. Each promise is a definition of its own: Acks, Nacks,
-- Routed, Allowed, Causes, Letters, Order, Fresh, Contents, Unrefused, Noted, Settled, Alone, LoggedIn.
use Rattle.std.specs.Prelude.{◌≡◌, ◌+◌, ℕ, List, [], filter_map, Some, slice_get}
use Rattle.std.specs.List.{AllByRecursion}
use Rattle.model.specs.Topology.{IsWellFormed}
use Rattle.model.specs.Guarantee.{AllHold}
use Rattle.model.specs.Broker.{Broker}
use Rattle.model.specs.Agreement.{IsAgreed}
use Rattle.model.specs.State.{Config}
use Rattle.model.specs.Run.{Happening, notes_of, Stays, empty_broker}
use Rattle.model.specs.History.{Occurrence, IsDecided, NoneDone, StaysOver, state_after, in_force_after, events_of, reloads_of, notes_over}
use Rattle.model.specs.Arrivals.{World, new_world, Plays, Shows, Seen, Shown}
use Rattle.model.specs.Acks.{acked, HasAcksOf, EnteredOnce}
use Rattle.model.specs.Nacks.{nacks_of, HasNacks}
use Rattle.model.specs.Routed.{EnterAsRouted, number_in, CountUp}
use Rattle.model.specs.Allowed.{AreAllowed, AreAllowedIn}
use Rattle.model.specs.Causes.{HaveCauses, HaveOrigins}
use Rattle.model.specs.Letters.{DieAsRouted, DieOnce}
use Rattle.model.specs.Order.{GivesInOrder}
use Rattle.model.specs.Fresh.{EnterFresh, MarksWhatWasGiven}
use Rattle.model.specs.Contents.{AreSourced}
use Rattle.model.specs.Unrefused.{GetsAreAnswered, PurgesLeaveNone}
use Rattle.model.specs.Noted.{PublishesAreTaken}
use Rattle.model.specs.Settled.{SettlesAsAsked, NoneIsForgotten}
use Rattle.model.specs.Alone.{ChangesOwnAlone, ArePresent}
use Rattle.model.specs.LoggedIn.{EntersByLogin}
use Rattle.model.specs.Tracing.{AreKept, AreSafe}
use Rattle.model.specs.declared.notes.Note.{Note}
use Rattle.model.specs.declared.events.Arrival.{Arrival}

-- The promises kept at each of the events `hs`. `all` are all notes that were made,
-- and `from` and `to` the numbers of publishes counted before and after the events.
pub record KeepsEach (all : List Note) (from : ℕ) (hs : List Happening) (to : ℕ) : Type 0 where
  -- Each publish confirmed by ack entered every queue that a `Reaches` guarantee in
  -- force at its event promises for its exchange and key, exactly once, as a publish.
  pub entered : (c : ℕ) → AllByRecursion (EnteredOnce all) (acked c hs)
  -- Each publish entered each queue to which it is routed, once, unless that queue was full. It was acked only if none of them was full.
  pub routed : AllByRecursion EnterAsRouted hs
  -- Publishes are numbered one after another, from `from` + 1 to `to`, so no two have the same number.
  pub numbered : CountUp from (filter_map number_in all) to
  -- No message, as a publish or a dead letter, entered a queue that a `Never` guarantee in force forbids for the exchange and key
  -- of its publish. Where the publish was sent is taken from the event's notes and from the queues before the event.
  pub never : AllByRecursion AreAllowed hs
  -- No message entered a queue that a `Never` guarantee in force forbids for an exchange and key under which `all` notes the message's publish.
  pub never_in_all : AllByRecursion (AreAllowedIn all) hs
  -- A message that left a queue left it for the cause that is noted: an acknowledgement,
  -- a rejection, a purge, or being given out without acknowledgement.
  pub causes : AllByRecursion HaveCauses hs
  -- A message that entered a queue came by its own publish, noted at this event, or is the
  -- dead letter of a message that was in a queue before the event and left it by a rejection.
  pub come : AllByRecursion HaveOrigins hs
  -- What entered a queue is at its end after the event, in the order of the notes, ready and not marked as redelivered.
  pub fresh : AllByRecursion EnterFresh hs
  -- A message marked as redelivered after the event was in that queue before it, and had been given out since it entered.
  pub marked : AllByRecursion MarksWhatWasGiven hs
  -- The dead letter of each rejected message entered each queue to which it goes on, unless that queue was full; no other dead letter entered a queue.
  pub letters : AllByRecursion DieAsRouted hs
  -- So at each event, for each number, at most as many dead letters entered a queue as messages of that number were rejected.
  pub once : AllByRecursion DieOnce hs
  -- No event of one connection changed a channel of another.
  pub alone : AllByRecursion ChangesOwnAlone hs

-- The promises kept by the events `hs`, which lead from the state `old` of the broker to `new`.
pub record KeepsEvents (old : Broker) (hs : List Happening) (new : Broker) : Type 0 where
  pub each : KeepsEach (notes_of hs) old.published hs new.published
  -- At each event, each message that was in a queue or entered it left it or is still there. Each event begins with the state after the one before it.
  pub stays : Stays old hs new

-- The promises kept by the occurrences `os`, which are events and the reloads between them, from the state `old` of the broker to `new`.
pub record KeepsOccurrences (old : Broker) (os : List Occurrence) (new : Broker) : Type 0 where
  pub each : KeepsEach (notes_over os) old.published (events_of os) new.published
  -- Each message that was in a queue or entered it left it by an event or is still there; a reload takes none out.
  pub stays : StaysOver old os new

-- What is promised of all occurrences `os` from the empty broker to `last`, with `f` in force at first, and of the outputs of the `connections`.
pub record KeepsPromises (f : Config) (os : List Occurrence) (last : Broker) (connections : List Shown) : Type 0 where
  pub events : KeepsOccurrences empty_broker os last
  -- Each reload was done because there was no obstacle, or was refused for the first obstacle and changed nothing.
  pub reloads : AllByRecursion IsDecided (reloads_of os)
  -- If no reload was done, then at the end no guarantee forbids a message the queue that it is in, or a queue to which dead letters can bring it.
  pub safe : NoneDone os → AreSafe f.topology f.guarantees last
  -- Whatever was reloaded, at the end each message is in a queue of the topology in force, and dead letters can bring it to no queue that a
  -- guarantee in force forbids it. Nor is the queue that it is in forbidden, unless the message was in a queue when the last reload was done.
  pub kept : AreKept (in_force_after f os) last
  -- After each event and each reload, each held message is unacknowledged, under its tag, on the channel that holds
  -- it, and the message of each unacknowledged delivery is held. So no message is held by a channel that is not open.
  pub agreed : AllByRecursion (λ (o : Occurrence). IsAgreed (state_after o).broker) os
  -- The broker has a connection exactly while the connection runs, and a channel is open only on such a connection.
  pub present : AllByRecursion (λ (o : Occurrence). ArePresent (state_after o)) os
  -- A connection passes its login only by an event that logs it in as a user in force, unless it is opened to run at once.
  pub logged_in : AllByRecursion EntersByLogin (events_of os)
  -- An acknowledgement, a rejection or a recovery that is not refused settles the deliveries that its tag takes: each message
  -- left its queue or is ready there again, as the client asked. Each other delivery of the channel is still unacknowledged.
  pub settled : AllByRecursion SettlesAsAsked (events_of os)
  -- Each delivery that was unacknowledged before an event still is, or its message left its queue, or is ready there again, at the same index.
  pub accounted : AllByRecursion NoneIsForgotten (events_of os)
  -- A get that is not refused gives out the first ready message of its queue, or is answered by get-empty if there is none.
  pub gets : AllByRecursion GetsAreAnswered (events_of os)
  -- A purge that is not refused leaves no ready message in its queue.
  pub purges : AllByRecursion PurgesLeaveNone (events_of os)
  -- A publish that is not refused is noted, and in confirm mode confirmed under the next confirm number of its channel.
  pub taken : AllByRecursion PublishesAreTaken (events_of os)
  -- Each content that was sent is that of the event's own publish, which goes back, or of a message given out to a get or a consumer
  -- of its queue. The message has the body and the properties of an earlier publish, except for headers that tell of its deaths.
  pub contents : AreSourced [] (events_of os)
  -- Messages were given out in order, and a message came to be held only by being given out.
  pub order : GivesInOrder (events_of os)
  -- The acks in the output of connection `i` + 1 are those of its publishes confirmed by ack, one for one.
  pub acks : (i : ℕ) (seen : Shown) → slice_get connections i ≡ Some seen → HasAcksOf (acked (i + 1) (events_of os)) seen.output
  -- The nacks in the output of connection `i` + 1 are those of its publishes confirmed by nack, one for one.
  pub nacks : (i : ℕ) (seen : Shown) → slice_get connections i ≡ Some seen → HasNacks (nacks_of (i + 1) (events_of os)) seen.output

-- The headline. The `arrivals` came, one by one, to a broker with no connection under the configuration `f`. `occurrences` are all events and reloads
-- that the arrivals brought about, and `seen` is what these showed, outputs and notes. Each promise is kept, under what was in force at its event.
pub record CertifiedDelivery (f : Config) (arrivals : List (Arrival Config)) (seen : Seen) : Type 0 where
  pub occurrences : List Occurrence
  pub last : World
  pub plays : Plays (new_world f) arrivals occurrences last
  pub shows : Shows occurrences last seen
  pub promises : KeepsPromises f occurrences last.state.broker seen.connections

-- The configuration is sound: its topology is well-formed, and all of its guarantees hold.
pub record IsSound (f : Config) : Type 0 where
  pub wf : IsWellFormed f.topology
  pub hold : AllHold f.topology f.guarantees

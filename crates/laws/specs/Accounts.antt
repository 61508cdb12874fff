-- What becomes of deliveries in every run from the empty broker, and examples that the promises about them refuse.
use Rattle.std.specs.Prelude.{List, [], ◌∷◌, false, true, ◌==◌, ◌&&◌, if◌then◌else◌, Some, None, codes}
use Rattle.std.specs.List.{AllByRecursion}
use Rattle.model.specs.Agreement.{IsAgreed}
use Rattle.model.specs.Broker.{Outstanding, new_channel}
use Rattle.model.specs.Entries.{freed_now}
use Rattle.model.specs.Deliveries.{holder_of}
use Rattle.model.specs.Phases.{running_session, no_session}
use Rattle.model.specs.State.{State}
use Rattle.model.specs.Run.{Happening, Run, empty_broker, empty_state}
use Rattle.model.specs.Unrefused.{GetsAreAnswered, PurgesLeaveNone}
use Rattle.model.specs.Noted.{PublishesAreTaken}
use Rattle.model.specs.Settled.{SettlesAsAsked, NoneIsForgotten}
use Rattle.model.specs.Alone.{ArePresent}
use Rattle.model.specs.LoggedIn.{EntersByLogin}
use Rattle.model.specs.declared.messages.Entry.{Entry}
use Rattle.model.specs.declared.methods.StartOk.{StartOk}
use Rattle.model.specs.declared.methods.Method.TheVariants.{ConnectionStartOk, ConnectionTuneOk, BasicAck, BasicReject, BasicGet, QueuePurge}
use Rattle.model.specs.declared.events.Event.{Event}
use Rattle.model.specs.declared.events.Event.TheVariants.{Command, Lose}
use Rattle.laws.specs.Agreeing.{taken, first_held}
use Rattle.laws.specs.Rows.{one_queue, first_entry, second_entry, event_of_notes, under, audit_alone}

-- ---- every run

-- What holds of one event, and of the state after it.
pub record Lasts (h : Happening) : Type 0 where
  pub agreed : IsAgreed h.after.broker
  pub present : ArePresent h.after
  pub logged_in : EntersByLogin h
  pub settled : SettlesAsAsked h
  pub accounted : NoneIsForgotten h
  pub gets : GetsAreAnswered h
  pub purges : PurgesLeaveNone h
  pub taken : PublishesAreTaken h

-- In every run from the empty broker, held messages and unacknowledged deliveries agree, a channel is
-- of a connection that runs, which logged in, a command settles deliveries as the client asked, no
-- delivery is forgotten, a get is answered, a purge leaves no ready message, and a publish is noted.
abbrev pub DeliveriesAreAccountedFor : Type 0
DeliveriesAreAccountedFor = (hs : List Happening) (new : State) → Run empty_state hs new → AllByRecursion Lasts hs

-- ---- what the promises refuse

-- The first publish, held by a get on channel 1 of connection 1, under tag 1.
abbrev pub taken_entry : Entry
taken_entry = first_held (holder_of 1 1 taken)

-- Connection 1 runs with these unacknowledged deliveries on its channel 1, and the queue `audit` has these entries.
abbrev pub holding : List Outstanding → List Entry → State
holding given entries = record {
  broker = record empty_broker {
    published = 2;
    queue = one_queue (codes "audit") entries;
    connection = λ c. if c == 1 then Some (record { channel_max = 255; is_paused = false }) else None;
    channel = λ c h. if c == 1 && h == 1 then Some (record new_channel { next_tag = 2; outstanding = given }) else None;
  };
  session = λ c. if c == 1 then running_session else no_session;
}

-- No connection runs, and the queue `audit` has these entries.
abbrev pub left_behind : List Entry → State
left_behind entries = record { broker = record empty_broker { published = 2; queue = one_queue (codes "audit") entries }; session = λ c. no_session }

-- The event `e` between these states, which notes nothing.
abbrev pub quiet_event : Event → State → State → Happening
quiet_event e old new = record (event_of_notes [] old [] new) { event = e }

-- An acknowledgement of tag 1.
abbrev pub acknowledging : Event
acknowledging = Command 1 1 (BasicAck (record { delivery_tag = 1; multiple = false })) None

-- A rejection of tag 1 that requeues.
abbrev pub requeueing : Event
requeueing = Command 1 1 (BasicReject (record { delivery_tag = 1; requeue = true })) None

-- A get from `audit`.
abbrev pub gets_one : Event
gets_one = Command 1 1 (BasicGet (record { reserved = 0; queue = codes "audit"; no_ack = false })) None

-- A purge of `audit`.
abbrev pub purges_all : Event
purges_all = Command 1 1 (QueuePurge (record { reserved = 0; queue = codes "audit"; no_wait = true })) None

-- The event of `quiet_event`, under the topology with the queue `audit` alone.
abbrev pub over_audit : Event → State → State → Happening
over_audit e old new = record (quiet_event e old new) { config = record (under []) { topology = audit_alone } }

-- Each promise is false for an example that breaks it.
pub record AccountsRefuse : Type 0 where
  -- An acknowledgement after which its message is still in the queue.
  pub ack_takes_nothing_out : SettlesAsAsked (quiet_event acknowledging (holding (taken ∷ []) (taken_entry ∷ [])) (holding [] (taken_entry ∷ []))) → ⊥
  -- A message that is requeued, and is in no queue.
  pub requeued_is_lost : SettlesAsAsked (quiet_event requeueing (holding (taken ∷ []) (taken_entry ∷ [])) (holding [] [])) → ⊥
  -- A message that is requeued behind one that was behind it.
  pub requeued_at_the_end : SettlesAsAsked (quiet_event requeueing (holding (taken ∷ []) (taken_entry ∷ second_entry ∷ []))
      (holding [] (second_entry ∷ freed_now taken_entry ∷ []))) → ⊥
  -- A message that is requeued, and still unacknowledged.
  pub requeued_is_outstanding : SettlesAsAsked (quiet_event requeueing (holding (taken ∷ []) (taken_entry ∷ []))
      (holding (taken ∷ []) (freed_now taken_entry ∷ []))) → ⊥
  -- A delivery whose connection is lost, while its message is still held, so that nobody can be given it.
  pub lost_with_its_connection : NoneIsForgotten (quiet_event (Lose 1) (holding (taken ∷ []) (taken_entry ∷ [])) (left_behind (taken_entry ∷ []))) → ⊥
  -- A get that is not answered although a message is ready.
  pub get_without_answer : GetsAreAnswered (over_audit gets_one (holding [] (first_entry ∷ [])) (holding [] (first_entry ∷ []))) → ⊥
  -- A purge that leaves a ready message.
  pub purge_leaves_one : PurgesLeaveNone (over_audit purges_all (holding [] (first_entry ∷ [])) (holding [] (first_entry ∷ []))) → ⊥
  -- A connection that runs without a login.
  pub runs_without_login : EntersByLogin (quiet_event
      (Command 1 0 (ConnectionTuneOk (record { channel_max = 0; frame_max = 0; heartbeat = 0 })) None) (left_behind []) (holding [] [])) → ⊥
  -- A connection that logged in although no user is known.
  pub login_of_nobody : (start : StartOk) → EntersByLogin (quiet_event (Command 1 0 (ConnectionStartOk start) None) (left_behind []) (holding [] [])) → ⊥
  -- A connection in the broker whose session has ended.
  pub connection_of_none : ArePresent (record (holding [] []) { session = λ c. no_session }) → ⊥
  -- A channel whose connection is gone.
  pub channel_of_none : ArePresent (record (left_behind []) { broker = record (holding [] []).broker { connection = λ c. None } }) → ⊥

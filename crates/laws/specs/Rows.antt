-- Worked examples, which the checker computes: a definition that says something else is found at once.
use Rattle.std.specs.Prelude.{◌≡◌, ◌++◌, ℕ, List, Bool, [], ◌∷◌, codes, true, false, Option, Some, None, replicate, filter_map, if◌then◌else◌}
use Rattle.std.specs.Str.{bytes_eq}
use Rattle.model.specs.Words.{Text, words}
use Rattle.model.specs.Topology.{Topology}
use Rattle.model.specs.Guarantee.{Guarantee}
use Rattle.model.specs.Broker.{Consumer, Channel, new_channel, refuses}
use Rattle.model.specs.Deliveries.{first_ready, channel_after}
use Rattle.model.specs.Consuming.{tag_for, consumer_of, with_consumer, may_take}
use Rattle.model.specs.Frames.{frame_bytes, IsBroken}
use Rattle.model.specs.Grammar.{ids, ids_of}
use Rattle.model.specs.Headers.{header_bytes, no_properties}
use Rattle.model.specs.Spelling.{method_frame, body_frame, spelling}
use Rattle.model.specs.Commands.{Goes_on, Makes, Breaks, Drops, is_too_large, taken_dropped}
use Rattle.model.specs.Step.{
  channel_close,
  connection_close,
  select_sends,
  confirm_sends,
  consume_sends,
  empty_publish,
  return_of,
  greatest,
  Of_channel,
  Of_connection,
  refusal_of_consume,
}
use Rattle.model.specs.Phases.{no_session}
use Rattle.model.specs.State.{Config, State}
use Rattle.model.specs.History.{Reload, Of_reload, IsDecided, StaysOver}
use Rattle.model.specs.Reloading.{survived_now}
use Rattle.model.specs.Run.{Happening, Stays, empty_broker}
use Rattle.model.specs.Acks.{Acked as AckedPublish, HasAcksOf, EnteredOnce}
use Rattle.model.specs.Allowed.{AreAllowed}
use Rattle.model.specs.Causes.{HaveCauses, HaveOrigins}
use Rattle.model.specs.Routed.{EnterAsRouted, number_in, CountUp}
use Rattle.model.specs.Letters.{DieOnce}
use Rattle.model.specs.Contents.{HaveSources}
use Rattle.model.specs.Tracing.{AreKept, AreSafe}
use Rattle.model.specs.declared.contents.Content.{Content}
use Rattle.model.specs.declared.messages.Entry.{Entry}
use Rattle.model.specs.declared.messages.Taker.TheVariants as taker
use Rattle.model.specs.declared.methods.Consume.{Consume}
use Rattle.model.specs.declared.methods.Publish.{Publish as Publishing}
use Rattle.model.specs.declared.messages.Mark.TheVariants.{Ready}
use Rattle.model.specs.declared.events.Event.TheVariants.{Resume}
use Rattle.model.specs.declared.notes.Cause.TheVariants.{Acked, Rejected}
use Rattle.model.specs.declared.notes.Way.TheVariants.{Publish, Dead}
use Rattle.model.specs.declared.topologies.DeclaredQueue.{DeclaredQueue}
use Rattle.model.specs.declared.topologies.Mode.TheVariants.{Reaches, Never}
use Rattle.model.specs.declared.events.Command.TheVariants.{TooLarge}
use Rattle.model.specs.declared.methods.Method.TheVariants.{ConfirmSelect, BasicPublish}
use Rattle.model.specs.declared.notes.Note.{Note}
use Rattle.model.specs.declared.notes.Note.TheVariants.{Published, Entered, Confirmed, Left, Reloaded, ReloadRefused}
use Rattle.model.specs.declared.obstacles.Obstacle.{Obstacle}
use Rattle.model.specs.declared.obstacles.Obstacle.TheVariants.{InUse, Breaks}
use Rattle.model.specs.declared.messages.User.{User}
use Rattle.model.specs.declared.notes.Answer.TheVariants.{Ack}

-- ---- words of keys

-- The words of keys: a key with none, with two, and with empty ones.
pub record WordsOfKeys : Type 0 where
  pub none : words [] ≡ []
  pub two : words (codes "orders.new") ≡ codes "orders" ∷ codes "new" ∷ []
  pub empty_between : words (codes "a..b") ≡ codes "a" ∷ [] ∷ codes "b" ∷ []
  pub dot_alone : words (codes ".") ≡ [] ∷ [] ∷ []

-- ---- the first publish

-- What a client writes: confirm.select, and a publish to `orders` under the key `new`, with the body `hi`.
pub record FirstInput : Type 0 where
  pub select : frame_bytes (method_frame 1 (ConfirmSelect false)) ≡ 1 ∷ 0 ∷ 1 ∷ 0 ∷ 0 ∷ 0 ∷ 5 ∷ 0 ∷ 85 ∷ 0 ∷ 10 ∷ 0 ∷ 206 ∷ []
  pub publish : frame_bytes
      (method_frame 1 (BasicPublish (record { reserved = 0; exchange = codes "orders"; routing_key = codes "new"; mandatory = false; immediate = false })))
      ≡ 1 ∷ 0 ∷ 1 ∷ 0 ∷ 0 ∷ 0 ∷ 18 ∷ 0 ∷ 60 ∷ 0 ∷ 40 ∷ 0 ∷ 0 ∷ 6 ∷ 111 ∷ 114 ∷ 100 ∷ 101 ∷ 114 ∷ 115 ∷ 3 ∷ 110 ∷ 101 ∷ 119 ∷ 0 ∷ 206 ∷ []
  pub header : frame_bytes (record { kind = 2; channel = 1; payload = header_bytes 2 no_properties })
      ≡ 2 ∷ 0 ∷ 1 ∷ 0 ∷ 0 ∷ 0 ∷ 14 ∷ 0 ∷ 60 ∷ 0 ∷ 0 ∷ 0 ∷ 0 ∷ 0 ∷ 0 ∷ 0 ∷ 0 ∷ 0 ∷ 2 ∷ 0 ∷ 0 ∷ 206 ∷ []
  pub body : frame_bytes (body_frame 1 (codes "hi")) ≡ 3 ∷ 0 ∷ 1 ∷ 0 ∷ 0 ∷ 0 ∷ 2 ∷ 104 ∷ 105 ∷ 206 ∷ []

-- The frame of confirm.select-ok on channel 1.
abbrev pub select_ok : List ℕ
select_ok = 1 ∷ 0 ∷ 1 ∷ 0 ∷ 0 ∷ 0 ∷ 4 ∷ 0 ∷ 85 ∷ 0 ∷ 11 ∷ 206 ∷ []

-- The frame of basic.ack on channel 1 for number 1 alone.
abbrev pub first_ack : List ℕ
first_ack = 1 ∷ 0 ∷ 1 ∷ 0 ∷ 0 ∷ 0 ∷ 13 ∷ 0 ∷ 60 ∷ 0 ∷ 80 ∷ 0 ∷ 0 ∷ 0 ∷ 0 ∷ 0 ∷ 0 ∷ 0 ∷ 1 ∷ 0 ∷ 206 ∷ []

-- What the client reads: select-ok, and then the ack of confirm number 1.
pub record FirstOutput : Type 0 where
  pub select : spelling 131072 (select_sends 1 1 false) ≡ select_ok
  pub ack : spelling 131072 (confirm_sends 1 1 (Some 1) Ack) ≡ first_ack

-- ---- another end byte

-- confirm.select with CD in place of the end byte CE.
abbrev pub bad_end : List ℕ
bad_end = 1 ∷ 0 ∷ 1 ∷ 0 ∷ 0 ∷ 0 ∷ 5 ∷ 0 ∷ 85 ∷ 0 ∷ 10 ∷ 0 ∷ 205 ∷ []

-- No frame can begin with the bytes `bad_end`, and the answer is connection.close 501 with the text frame-error.
pub record BadEnd : Type 0 where
  pub broken : IsBroken 131072 bad_end
  pub answer : spelling 131072 (connection_close 1 501 (ids 0 0) ∷ [])
      ≡ 1 ∷ 0 ∷ 0 ∷ 0 ∷ 0 ∷ 0 ∷ 22 ∷ 0 ∷ 10 ∷ 0 ∷ 50 ∷ 1 ∷ 245 ∷ 11 ∷ 102 ∷ 114 ∷ 97 ∷ 109 ∷ 101 ∷ 45 ∷ 101 ∷ 114 ∷ 114 ∷ 111 ∷ 114 ∷ 0 ∷ 0 ∷ 0 ∷ 0 ∷ 206 ∷ []

-- ---- a content that is too large

-- Which content is too large, what follows as the bytes of its body come, and how it is answered.
pub record TooLargeContent : Type 0 where
  -- A body of 1,048,576 bytes is accepted, and one with a byte more is not.
  pub largest : is_too_large (header_bytes 1048576 no_properties) 1048576 ≡ false
  pub larger : is_too_large (header_bytes 1048577 no_properties) 1048577 ≡ true
  -- The body is dropped: with one byte missing, complete, and with one byte too many.
  pub missing : taken_dropped 1 1048577 1048576 ≡ Goes_on (Drops 1048577 1048576)
  pub come : taken_dropped 1 1048577 1048577 ≡ Makes (TooLarge 1)
  pub past : taken_dropped 1 1048577 1048578 ≡ Breaks 501
  -- channel.close 311 with the text content-too-large, for class 60, method 40.
  pub answer : spelling 131072 (channel_close 1 1 311 (ids_of empty_publish) ∷ [])
      ≡ 1 ∷ 0 ∷ 1 ∷ 0 ∷ 0 ∷ 0 ∷ 28 ∷ 0 ∷ 20 ∷ 0 ∷ 40 ∷ 1 ∷ 55 ∷ 17 ∷ 99 ∷ 111 ∷ 110 ∷ 116 ∷ 101 ∷ 110 ∷ 116 ∷ 45 ∷ 116 ∷ 111 ∷ 111 ∷ 45 ∷ 108 ∷ 97
      ∷ 114 ∷ 103 ∷ 101 ∷ 0 ∷ 60 ∷ 0 ∷ 40 ∷ 206 ∷ []

-- ---- what the headline refuses

-- What is sent to `orders` under `new` reaches `audit`.
abbrev pub wanted : Guarantee
wanted = record { mode = Reaches; exchange = codes "orders"; pattern = codes "new"; queue = codes "audit"; excepts = [] }

-- The first publish, confirmed by ack.
abbrev pub first_acked : AckedPublish
first_acked = record { number = 1; channel = 1; exchange = codes "orders"; key = codes "new"; confirm = 1; guarantees = wanted ∷ [] }

-- The notes of the first publish, without an entry.
abbrev pub notes_without_entry : List Note
notes_without_entry = Published 1 1 1 (codes "orders") (codes "new") (Some 1) ∷ Confirmed 1 Ack ∷ []

-- The ack `first_ack` with `multiple` set: it acknowledges all publishes up to its number.
abbrev pub multiple_ack : List ℕ
multiple_ack = 1 ∷ 0 ∷ 1 ∷ 0 ∷ 0 ∷ 0 ∷ 13 ∷ 0 ∷ 60 ∷ 0 ∷ 80 ∷ 0 ∷ 0 ∷ 0 ∷ 0 ∷ 0 ∷ 0 ∷ 0 ∷ 1 ∷ 1 ∷ 206 ∷ []

-- ---- what happens at single events

-- A content with no property and an empty body.
abbrev pub no_content : Content
no_content = record { properties = no_properties; body = [] }

-- The first publish as an entry of a queue.
abbrev pub first_entry : Entry
first_entry =
    record {
      message = record {
        number = 1;
        first_exchange = codes "orders";
        first_key = codes "new";
        exchange = codes "orders";
        key = codes "new";
        content = no_content;
        redelivered = false;
        survived = false;
      };
      mark = Ready;
    }

-- The entries of each queue, if only the one called `name` has any.
abbrev pub one_queue : Text → List Entry → Text → List Entry
one_queue name entries q = if bytes_eq q name then entries else []

-- The first publish, as the client sends it.
abbrev pub first_sent : Publishing
first_sent = record { reserved = 0; exchange = codes "orders"; routing_key = codes "new"; mandatory = false; immediate = false }

-- The note that the first publish came, outside confirm mode.
abbrev pub first_published : Note
first_published = Published 1 1 1 (codes "orders") (codes "new") None

-- A broker with one publish counted, and with these entries in the queue `audit`.
abbrev pub with_entries : List Entry → State
with_entries entries = record { broker = record empty_broker { published = 1; queue = one_queue (codes "audit") entries }; session = λ c. no_session }

-- What is sent to `orders` under `new` never reaches `bin`.
abbrev pub forbids : Guarantee
forbids = record { mode = Never; exchange = codes "orders"; pattern = codes "new"; queue = codes "bin"; excepts = [] }

-- These guarantees in force, over an empty topology.
abbrev pub under : List Guarantee → Config
under guarantees = record { topology = record { exchanges = []; queues = []; bindings = [] }; guarantees = guarantees; users = [] }

-- An event between two states with these notes, under these guarantees.
abbrev pub event_of_notes : List Guarantee → State → List Note → State → Happening
event_of_notes guarantees old notes new = record {
  config = under guarantees;
  event = Resume 1;
  before = old;
  sends = [];
  notes = notes;
  frame_max = 131072;
  after = new;
}

-- A run of one event with these notes, under no guarantee.
abbrev pub one_event : State → List Note → State → List Happening
one_event old notes new = event_of_notes [] old notes new ∷ []

-- Two events, with the notes of each: by the first the entry vanishes.
abbrev pub vanishing : List Note → List Note → State → List Happening
vanishing first second last = event_of_notes [] (with_entries (first_entry ∷ [])) first (with_entries []) ∷ event_of_notes [] (with_entries []) second last ∷ []

-- A configuration with the queue `audit` alone.
abbrev pub with_audit : Config
with_audit =
    record (under []) {
      topology = record {
        exchanges = [];
        queues = record { name = codes "audit"; limit = None; byte_limit = None; dead_letter_exchange = None; dead_letter_key = None } ∷ [];
        bindings = [];
      };
    }

-- A reload that is noted as done and puts an empty topology in force in place of `with_audit`.
abbrev pub reload_of_none : State → State → Reload
reload_of_none old new = record { config = with_audit; offered = under []; before = old; notes = Reloaded ∷ []; after = new; in_force = under [] }

-- A reload of `offered` that is refused for `obstacle`, and leaves `in_force`.
abbrev pub refused_reload : Config → State → Obstacle → Config → Reload
refused_reload offered state obstacle in_force = record {
  config = with_audit;
  offered = offered;
  before = state;
  notes = ReloadRefused obstacle ∷ [];
  after = state;
  in_force = in_force;
}

-- The queue `audit`, which dead-letters to `bin` by the default exchange.
abbrev pub audit_to_bin : DeclaredQueue
audit_to_bin = record { name = codes "audit"; limit = None; byte_limit = None; dead_letter_exchange = Some []; dead_letter_key = Some (codes "bin") }

-- The queue `bin`.
abbrev pub bin : DeclaredQueue
bin = record { name = codes "bin"; limit = None; byte_limit = None; dead_letter_exchange = None; dead_letter_key = None }

-- The queues `audit` and `bin`, under a guarantee that what is sent to `orders` under `new` never reaches `bin`.
abbrev pub into_bin : Config
into_bin = record (under (forbids ∷ [])) { topology = record { exchanges = []; queues = audit_to_bin ∷ bin ∷ []; bindings = [] } }

-- A reload that puts `into_bin` in force, while a message sent to `orders` under `new` waits in `audit`.
abbrev pub reload_into_bin : Reload
reload_into_bin = record {
  config = with_audit;
  offered = into_bin;
  before = with_entries (first_entry ∷ []);
  notes = Reloaded ∷ [];
  after = with_entries (survived_now first_entry ∷ []);
  in_force = into_bin;
}

-- A user called `bob`.
abbrev pub somebody : User
somebody = record { name = codes "bob"; hash = [] }

-- Each promise of the headline is false for an output, notes or events that break it.
pub record HeadlineRefuses : Type 0 where
  -- An output without the ack of an acked publish.
  pub output_without_ack : HasAcksOf (first_acked ∷ []) select_ok → ⊥
  -- An output with an ack that no publish had.
  pub unearned_ack : HasAcksOf [] (select_ok ++ first_ack) → ⊥
  -- An ack of a publish that did not enter the promised queue.
  pub ack_without_entry : EnteredOnce notes_without_entry first_acked → ⊥
  -- An output whose ack acknowledges more than its publish.
  pub ack_of_more : HasAcksOf (first_acked ∷ []) (select_ok ++ multiple_ack) → ⊥
  -- A message that vanishes, and comes back by the next event.
  pub message_comes_back : Stays (with_entries (first_entry ∷ [])).broker (vanishing [] [] (with_entries (first_entry ∷ [])))
      (with_entries (first_entry ∷ [])).broker → ⊥
  -- A message whose leaving is noted an event late.
  pub late_note : Stays (with_entries (first_entry ∷ [])).broker (vanishing [] (Left 1 (codes "audit") Acked ∷ []) (with_entries []))
      (with_entries []).broker → ⊥
  -- A dead letter that enters a queue forbidden to its publish, which is known by the entry that was in a queue before.
  pub forbidden_entry : AreAllowed (event_of_notes (forbids ∷ []) (with_entries (first_entry ∷ [])) (Entered 1 (codes "bin") Dead ∷ [])
      (with_entries (first_entry ∷ []))) → ⊥
  -- A message that leaves a queue twice in which it was once.
  pub left_twice : Stays (with_entries (first_entry ∷ [])).broker
      (one_event (with_entries (first_entry ∷ [])) (Left 1 (codes "audit") Acked ∷ Left 1 (codes "audit") Acked ∷ []) (with_entries []))
      (with_entries []).broker → ⊥
  -- A message that leaves by an event that takes none out.
  pub left_by_no_cause : HaveCauses (event_of_notes [] (with_entries (first_entry ∷ [])) (Left 1 (codes "audit") Acked ∷ []) (with_entries [])) → ⊥
  -- A message that enters without a publish and without a death.
  pub entered_by_no_publish : HaveOrigins (event_of_notes [] (with_entries []) (Entered 1 (codes "audit") Publish ∷ []) (with_entries (first_entry ∷ []))) → ⊥
  -- A dead letter of a message that was in no queue.
  pub dead_letter_of_none : HaveOrigins (event_of_notes [] (with_entries []) (Left 1 (codes "audit") Rejected ∷ Entered 1 (codes "bin") Dead ∷ [])
      (with_entries [])) → ⊥
  -- A dead letter of a message that stays where it was.
  pub dead_letter_of_one_that_stays : HaveOrigins (event_of_notes [] (with_entries (first_entry ∷ [])) (Entered 1 (codes "bin") Dead ∷ [])
      (with_entries (first_entry ∷ []))) → ⊥
  -- A publish that enters a queue to which it is not routed.
  pub entered_without_route : EnterAsRouted (event_of_notes [] (with_entries []) (first_published ∷ Entered 1 (codes "audit") Publish ∷ [])
      (with_entries (first_entry ∷ []))) → ⊥
  -- Two publishes with one number.
  pub one_number_for_two : CountUp 0 (filter_map number_in (first_published ∷ first_published ∷ [])) 2 → ⊥
  -- A content that is sent, though no publish came with it.
  pub content_of_no_publish : HaveSources [] (record
      (event_of_notes [] (with_entries (first_entry ∷ [])) [] (with_entries (first_entry ∷ []))) { sends = return_of 1 1 first_sent no_content ∷ [] }) → ⊥
  -- A reload by which a waiting message is gone.
  pub reload_loses_one : StaysOver (with_entries (first_entry ∷ [])).broker
      (Of_reload (reload_of_none (with_entries (first_entry ∷ [])) (with_entries [])) ∷ []) (with_entries []).broker → ⊥
  -- A reload that is done although the new topology lacks a queue in use.
  pub reload_strands_one : IsDecided (reload_of_none (with_entries (first_entry ∷ [])) (with_entries (survived_now first_entry ∷ []))) → ⊥
  -- A reload that is refused although there is no obstacle.
  pub reload_refused_for_nothing : IsDecided (refused_reload with_audit (with_entries []) (InUse (codes "audit")) with_audit) → ⊥
  -- A reload that is refused for a message that could come where it is forbidden, although the missing queue in use is the earlier obstacle.
  pub reload_refused_for_the_second : IsDecided (refused_reload (under []) (with_entries (first_entry ∷ []))
      (Breaks (codes "audit") (codes "new") 1) with_audit) → ⊥
  -- A reload that is refused, and puts other users in force.
  pub reload_refused_with_users : IsDecided (refused_reload (under []) (with_entries (first_entry ∷ [])) (InUse (codes "audit"))
      (record with_audit { users = somebody ∷ [] })) → ⊥
  -- A reload that is done although a waiting message could come to a queue that a new guarantee forbids to it.
  pub reload_beside_a_danger : IsDecided reload_into_bin → ⊥
  -- A message in a queue that a guarantee forbids it.
  pub forbidden_stay : AreSafe with_audit.topology (record forbids { queue = codes "audit" } ∷ []) (with_entries (first_entry ∷ [])).broker → ⊥
  -- A message that can reach, by dead-lettering, a queue that a guarantee forbids to it.
  pub forbidden_death : AreSafe into_bin.topology into_bin.guarantees (with_entries (first_entry ∷ [])).broker → ⊥
  -- A message that may come by its death to a queue forbidden it, though it was in a queue when the last reload was done.
  pub forbidden_death_after_a_reload : AreKept into_bin (with_entries (survived_now first_entry ∷ [])).broker → ⊥
  -- Two dead letters of one message, in one queue.
  pub two_letters_of_one : DieOnce (event_of_notes [] (with_entries (first_entry ∷ []))
      (Left 1 (codes "audit") Rejected ∷ Entered 1 (codes "bin") Dead ∷ Entered 1 (codes "bin") Dead ∷ []) (with_entries [])) → ⊥

-- ---- consumers

-- A consume of `audit` that gives this tag.
abbrev pub consume_of : Text → Consume
consume_of tag = record {
  reserved = 0;
  queue = codes "audit";
  consumer_tag = tag;
  no_local = false;
  no_ack = false;
  exclusive = false;
  no_wait = false;
  arguments = [];
}

-- A new channel on which each consumer has a prefetch of 1.
abbrev pub one_each : Channel
one_each = record new_channel { each_limit = 1 }

-- The consumer that a consume with this tag makes on the channel `one_each`.
abbrev pub consumer_under : Text → Consumer
consumer_under tag = consumer_of one_each (consume_of tag)

-- The channel `one_each` with that consumer.
abbrev pub consuming_under : Text → Channel
consuming_under tag = with_consumer one_each (consume_of tag)

-- Whether the consumer `mine` may take a message on its channel after the change `given`.
abbrev pub may_after : (Channel → Channel) → Bool
may_after given = may_take (given (consuming_under (codes "mine"))) (consumer_under (codes "mine"))

-- The entry of a publish after the first one.
abbrev pub second_entry : Entry
second_entry = record first_entry { message = record first_entry.message { number = 2 } }

-- What a consume makes, and what its consumer may take.
pub record FirstConsumer : Type 0 where
  -- If the client gives no tag, the answer on channel 1 is basic.consume-ok with the tag amq.ctag-1.
  pub answer : spelling 131072 (consume_sends 1 1 false (consumer_under []).tag)
      ≡ 1 ∷ 0 ∷ 1 ∷ 0 ∷ 0 ∷ 0 ∷ 15 ∷ 0 ∷ 60 ∷ 0 ∷ 21 ∷ 10 ∷ 97 ∷ 109 ∷ 113 ∷ 46 ∷ 99 ∷ 116 ∷ 97 ∷ 103 ∷ 45 ∷ 49 ∷ 206 ∷ []
  -- The tag that the server makes next is a new one: it skips a tag that is in use, even one that a client took.
  pub next : tag_for (consuming_under []) [] ≡ codes "amq.ctag-2"
  pub past : tag_for (consuming_under (codes "amq.ctag-1")) [] ≡ codes "amq.ctag-2"
  -- The consumer may take a message, but none while it has one unacknowledged; a message of a get or of another consumer does not count.
  pub may : may_after (λ ch. ch) ≡ true
  pub full : may_after (channel_after false (codes "audit") (taker.Consumer 1)) ≡ false
  pub got : may_after (channel_after false (codes "audit") taker.Get) ≡ true
  pub another : may_after (channel_after false (codes "audit") (taker.Consumer 2)) ≡ true
  -- The consumer is given the oldest message.
  pub oldest : first_ready (first_entry ∷ second_entry ∷ []) ≡ Some first_entry

-- A topology with the queue `audit` alone.
abbrev pub audit_alone : Topology
audit_alone =
    record {
      exchanges = [];
      queues = record {
        name = codes "audit";
        limit = None;
        byte_limit = None;
        dead_letter_exchange = None;
        dead_letter_key = None;
      } ∷ [];
      bindings = [];
    }

-- A channel with `n` consumers, all under the tag `mine`.
abbrev pub full_channel : ℕ → Channel
full_channel n = record new_channel { consumers = replicate n (consumer_under (codes "mine")) }

-- A consume that asks to be the only consumer.
abbrev pub exclusive_consume : Consume
exclusive_consume = record (consume_of (codes "mine")) { exclusive = true }

-- What refuses a consume, in the order in which it is looked for.
pub record RefusedConsumes : Type 0 where
  pub no_queue : refusal_of_consume (under []).topology (full_channel 256) exclusive_consume ≡ Some (Of_channel 404)
  pub exclusive : refusal_of_consume audit_alone (full_channel 256) exclusive_consume ≡ Some (Of_connection 540)
  pub in_use : refusal_of_consume audit_alone (full_channel 256) (consume_of (codes "mine")) ≡ Some (Of_connection 530)
  pub too_many : refusal_of_consume audit_alone (record (full_channel 256) { next_number = greatest }) (consume_of (codes "other")) ≡ Some (Of_connection 506)
  pub spent : refusal_of_consume audit_alone (record (full_channel 255) { next_number = greatest }) (consume_of (codes "other")) ≡ Some (Of_connection 541)
  pub none : refusal_of_consume audit_alone (full_channel 255) (consume_of (codes "other")) ≡ None

-- The queue `audit` with these limits, of messages and of bytes.
abbrev pub audit_with : Option ℕ → Option ℕ → Option DeclaredQueue
audit_with limit byte_limit =
    Some (record { name = codes "audit"; limit = limit; byte_limit = byte_limit; dead_letter_exchange = None; dead_letter_key = None })

-- When a queue refuses a message, by how many messages are ready, how many bytes they have, and the size of the body.
pub record FullQueues : Type 0 where
  -- A queue limited to four bytes takes four and no more; with four bytes in it, it still takes an empty body.
  pub long : refuses (audit_with None (Some 4)) 0 0 5 ≡ true
  pub whole : refuses (audit_with None (Some 4)) 0 0 4 ≡ false
  pub empty : refuses (audit_with None (Some 4)) 1 4 0 ≡ false
  pub more : refuses (audit_with None (Some 4)) 1 4 1 ≡ true
  -- If a requeue exceeded the limit, not even an empty body is taken.
  pub passed : refuses (audit_with None (Some 4)) 2 7 0 ≡ true
  -- Either limit refuses by itself.
  pub count : refuses (audit_with (Some 2) (Some 4)) 2 0 0 ≡ true
  pub bytes : refuses (audit_with (Some 2) (Some 4)) 1 3 2 ≡ true
  pub neither : refuses (audit_with (Some 2) (Some 4)) 1 3 1 ≡ false
  -- A queue without limits takes all.
  pub unlimited : refuses (audit_with None None) 4294967296 4294967296 4294967296 ≡ false

-- What a command does to an open channel and to the queues, whatever other connections and channels there are.
use Rattle.std.specs.Prelude.{◌≡◌, ◌++◌, ℕ, Bool, List, [], Option, Some, None, IsSome, Result, Ok, Err, true, false}
use Rattle.std.specs.List.{AllByRecursion}
use Rattle.model.specs.Words.{Text}
use Rattle.model.specs.Broker.{Broker, Channel, Connection, with_pair}
use Rattle.model.specs.Topology.{Topology, queue_names}
use Rattle.model.specs.Agreement.{IsAgreed}
use Rattle.model.specs.Deliveries.{Settlement, Returns, after_delivery, delivery_notes, first_ready}
use Rattle.model.specs.Grammar.{IsMethod}
use Rattle.model.specs.Sending.{IsCarried}
use Rattle.model.specs.Step as step
use Rattle.model.specs.Step.{Is, Performs, Settles, refusal, refusal_of, channel_or_new}
use Rattle.model.specs.declared.contents.Content.{Content}
use Rattle.model.specs.declared.events.Send.{Send}
use Rattle.model.specs.declared.messages.Entry.{Entry}
use Rattle.model.specs.declared.messages.Taker.{Taker}
use Rattle.model.specs.declared.methods.Close.{Close}
use Rattle.model.specs.declared.methods.Method.{Method}
use Rattle.model.specs.declared.methods.Method.TheVariants as method
use Rattle.model.specs.declared.notes.Note.{Note}
use Rattle.exchange_graph.specs.Marks.{queue_name}
use Rattle.channels.specs.Open.{Open, open_in}
use Rattle.depot.specs.Store.{Store, entries_named, queue_at}
use Rattle.channels.specs.Placed.{IsPlaced}
use Rattle.commands.specs.Judged.{HasChannel, IsQueueIndex, refusal_seen}
use Rattle.commands.specs.declared.refusals.Refusal.{Refusal}
use Rattle.commands.specs.declared.refusals.Stop.{Stop}
use Rattle.commands.specs.declared.refusals.Stop.TheVariants.{Refused, Memory}
use Rattle.replies.specs.Sent.{AreAddressed}
use Rattle.replies.specs.declared.steps.Step.{Step}
use Rattle.commands.specs.State.{Kept, broker_of, topology_kept}
use Rattle.commands.specs.Picked.{AddressesTo, IsPick, DeliversTo}
use Rattle.commands.specs.declared.picks.Pick.{Pick}
use Rattle.commands.specs.declared.commands.asking.Left as asked
use Rattle.commands.specs.declared.commands.asking.Left.TheVariants as left
use Rattle.commands.specs.declared.commands.Done.{Done}
use Rattle.commands.specs.declared.commands.Done.TheVariants.{Performed, Left}

-- ---- states

-- the connections and channels of a state, without its queues
pub record Side : Type 0 where
  pub connection : ℕ → Option Connection
  pub channel : ℕ → ℕ → Option Channel

-- the state with these queues, connections and channels
abbrev pub state_of : Store → Side → Broker
state_of s side = record { published = s.published; queue = entries_named s; connection = side.connection; channel = side.channel }

-- an open channel as the model has it
abbrev pub seen : Store → Open → Channel
seen s ch = open_in (queue_names s.topology.queues) ch

-- Channel `h` of connection `c` changed from `ch` to `ch'`, and no other channel and no connection changed.
pub record Turns (c h : ℕ) (ch ch' : Channel) (old new : Side) : Type 0 where
  pub was : old.channel c h ≡ Some ch
  pub connections : (d : ℕ) → new.connection d ≡ old.connection d
  pub channels : (d k : ℕ) → new.channel d k ≡ with_pair old.channel c h (Some ch') d k

-- What a command needs: some agreed state has these queues and this channel, and the channel names only queues that exist.
pub record CanCommand (c h : ℕ) (s : Store) (ch : Open) : Type 0 where
  pub side : Side
  pub there : side.channel c h ≡ Some (seen s ch)
  pub agreed : IsAgreed (state_of s side)
  pub placed : IsPlaced s.topology ch

-- ---- commands

-- what a result means: there is no refusal, and `Does` holds; or the command is refused for `against`; or there is no refusal, and an allocation failed
abbrev pub ComesTo : Option step.Refusal → (Step → Type 0) → Result Step Stop → Type 0
ComesTo against Does (Ok s) = (against ≡ None) × Does s
ComesTo against Does (Err (Refused r)) = against ≡ Some (refusal_seen r)
ComesTo against Does (Err Memory) = against ≡ None

-- the method can be encoded, and so can each message in a queue
abbrev pub HasSpelling : Store → Method → Type 0
HasSpelling s m = IsMethod m × ((q : Text) → AllByRecursion (λ (e : Entry). IsCarried e.message) (entries_named s q))

-- what each result of a command on an open channel means, for the command's method and content
abbrev pub Commands : ℕ → ℕ → Store → Open → Method → Option Content → Result Step Stop → Store → Open → Type 0
Commands c h s ch m content result s' ch' = (old new : Side) → Turns c h (seen s ch) (seen s' ch') old new
    → ComesTo (refusal_of s.topology (state_of s old) (seen s ch) m)
    (λ x. Performs s.topology (state_of s old) c h (seen s ch) m content x.sends.items x.notes.items (state_of s' new)) result

-- `Commands` of a method that carries no content, whatever content came with it
abbrev pub CommandsPlain : ℕ → ℕ → Store → Open → Method → Result Step Stop → Store → Open → Type 0
CommandsPlain c h s ch m result s' ch' = (content : Option Content) → Commands c h s ch m content result s' ch'

-- `CommandsPlain` of a method that reads and changes its channel alone, whatever the queues are
abbrev pub CommandsOnChannel : ℕ → ℕ → Open → Method → Result Step Stop → Open → Type 0
CommandsOnChannel c h ch m result ch' = (s : Store) → CommandsPlain c h s ch m result s ch'

-- `CommandsPlain` of a method that leaves its channel as it is, whichever open channel that is
abbrev pub CommandsOnQueues : ℕ → ℕ → Store → Method → Result Step Stop → Store → Type 0
CommandsOnQueues c h s m result s' = (ch : Open) → CommandsPlain c h s ch m result s' ch

-- the deliveries that `tag` settles are settled as `how` says, with these sends and notes (`Settles` of the model's step)
abbrev pub SettlesHere : Settlement → ℕ → ℕ → Store → Open → ℕ → Bool → List Send → List Send → List Note → Store → Open → Type 0
SettlesHere how c h s ch tag multiple wanted sends notes s' ch' = (old new : Side) → Turns c h (seen s ch) (seen s' ch') old new
    → Settles s.topology how (state_of s old) c h (seen s ch) tag multiple wanted sends notes (state_of s' new)

-- the deliveries that `tag` settles are requeued, whatever is sent, and nothing is noted
abbrev pub RequeuesHere : ℕ → ℕ → Store → Open → ℕ → Bool → Store → Open → Type 0
RequeuesHere c h s ch tag multiple s' ch' = (sends : List Send) → SettlesHere Returns c h s ch tag multiple sends sends [] s' ch'

-- the first ready message of the queue at this index is given out under the channel's next delivery tag
abbrev pub GivesHere : ℕ → ℕ → Store → Open → Bool → ℕ → Taker → Store → Open → Type 0
GivesHere c h s ch no_ack place by s' ch' = (old new : Side) → Turns c h (seen s ch) (seen s' ch') old new
    → Is (after_delivery (state_of s old) c h (seen s ch) no_ack (queue_name s.topology place) by) (state_of s' new)

-- the note of giving out the first ready message of the queue at this index is appended: that it left the queue, if it needs no acknowledgement
abbrev pub NotesGiving : Store → ℕ → Bool → List Note → List Note → Type 0
NotesGiving s place no_ack old new = (e : Entry) → first_ready (queue_at s place) ≡ Some e
    → new ≡ old ++ delivery_notes no_ack e.message.number (queue_name s.topology place)

-- if a delivery to the consumer `p` can be made, it is made, with these sends and notes
abbrev pub DeliversHere : Pick → Store → Open → List Send → List Note → Store → Open → Type 0
DeliversHere p s ch sends notes s' ch' = (old new : Side) → Turns p.connection p.channel (seen s ch) (seen s' ch') old new
    → IsPick (state_of s old) p → DeliversTo (state_of s old) p sends notes (state_of s' new)

-- `AddressesTo` of what is sent to the connection of the consumer `p`, whatever other connections and channels there are
abbrev pub AddressesHere : Pick → Store → Open → List Send → Type 0
AddressesHere p s ch sends = (side : Side) → side.channel p.connection p.channel ≡ Some (seen s ch)
    → AddressesTo s.topology (state_of s side) p.connection sends

-- no allocation failed
abbrev pub WantsNone : {A : Type 0} → Result A Stop → Type 0
WantsNone (Ok x) = Unit {0}
WantsNone (Err (Refused r)) = Unit {0}
WantsNone (Err Memory) = ⊥

-- ---- commands that need more than their channel

-- the method `m` asks for what the last argument says, and the channel is open, awaits close-ok, or is not open, as that requires
abbrev pub AsksLeft : Topology → Option Channel → Method → asked.Left → Type 0
AsksLeft t ch m left.OpenChannel = (reserved : Text) × (m ≡ method.ChannelOpen reserved) × (ch ≡ None)
AsksLeft t ch m left.AnswerClose = (x : Close) × (m ≡ method.ChannelClose x) × IsSome ch × ((channel_or_new ch).is_closing ≡ false)
AsksLeft t ch m left.AnswerClosing = (x : Close) × (m ≡ method.ChannelClose x) × IsSome ch × ((channel_or_new ch).is_closing ≡ true)
AsksLeft t ch m left.EndChannel = (m ≡ method.ChannelCloseOk) × IsSome ch
AsksLeft t ch m left.CloseConnection = (x : Close) × (m ≡ method.ConnectionClose x)
AsksLeft t ch m (left.FindQueue place d) = (m ≡ method.QueueDeclare d.now) × IsSome ch × IsQueueIndex t d.now.queue place

-- some method asks for `l`
abbrev pub CanFinish : Topology → Option Channel → asked.Left → Type 0
CanFinish t ch l = (m : Method) × AsksLeft t ch m l

-- what a decision means: there is no refusal, and the method asks for `l`; or the method is refused for `against`
abbrev pub Asks : Topology → Option Channel → Method → Option step.Refusal → Result asked.Left Refusal → Type 0
Asks t ch m against (Ok l) = (against ≡ None) × AsksLeft t ch m l
Asks t ch m against (Err r) = (against ≡ Some (refusal_seen r)) × HasChannel r ch

-- what a result means: the command is performed; or it asks for `l`; or it is refused for `against`; or an allocation failed, and there is no refusal
abbrev pub Answers : Option step.Refusal → Topology → Broker → ℕ → ℕ → Option Channel → Method → Option Content → Result Done Stop → Broker → Type 0
Answers against t old c h ch m content (Ok (Performed s)) new =
    (against ≡ None) × Performs t old c h (channel_or_new ch) m content s.sends.items s.notes.items new
Answers against t old c h ch m content (Ok (Left l)) new = (against ≡ None) × AsksLeft t ch m l
Answers against t old c h ch m content (Err (Refused r)) new = (against ≡ Some (refusal_seen r)) × HasChannel r ch
Answers against t old c h ch m content (Err Memory) new = against ≡ None

-- the outcome of a command that needs only its channel: its step was performed, or it stopped
abbrev pub done_of : Result Step Stop → Result Done Stop
done_of (Ok s) = Ok (Performed s)
done_of (Err stop) = Err stop

-- a command that needs more than its channel, or its refusal
abbrev pub left_of : Result asked.Left Refusal → Result Done Stop
left_of (Ok l) = Ok (Left l)
left_of (Err r) = Err (Refused r)

-- `Answers` on an open channel of a connection whose greatest channel number is `max`
abbrev pub AnswersHere : ℕ → ℕ → ℕ → Store → Open → Method → Option Content → Result Done Stop → Store → Open → Type 0
AnswersHere max c h s ch m content result s' ch' = (old new : Side) (conn : Connection) → conn.channel_max ≡ max → Turns c h (seen s ch) (seen s' ch') old new
    → Answers (refusal s.topology (state_of s old) conn h m (Some (seen s ch))) s.topology (state_of s old) c h (Some (seen s ch)) m content
    result (state_of s' new)

-- `Answers` on channel `h`, which is not open, of any connection whose greatest channel number is `max`
abbrev pub AnswersUnopened : ℕ → ℕ → Method → Result Done Stop → Type 0
AnswersUnopened max h m result = (t : Topology) (b new : Broker) (c : ℕ) (conn : Connection) (content : Option Content) → conn.channel_max ≡ max
    → Answers (refusal t b conn h m None) t b c h None m content result new

-- `Answers` on a connection; `None` if it is not running, and then nothing has changed
abbrev pub AnswersOn : Kept → ℕ → ℕ → Method → Option Content → Option (Result Done Stop) → Kept → Type 0
AnswersOn old c h m content None new = ((broker_of old).connection c ≡ None) × (new ≡ old)
AnswersOn old c h m content (Some r) new = (conn : Connection) × ((broker_of old).connection c ≡ Some conn)
    × Answers (refusal (topology_kept old) (broker_of old) conn h m ((broker_of old).channel c h))
    (topology_kept old) (broker_of old) c h ((broker_of old).channel c h) m content r (broker_of new)

-- `Stays` holds unless the command was performed
abbrev pub UnlessPerformed : Result Done Stop → Type 0 → Type 0
UnlessPerformed (Ok (Performed s)) Stays = Unit {0}
UnlessPerformed (Ok (Left l)) Stays = Stays
UnlessPerformed (Err stop) Stays = Stays

-- the command was not performed
abbrev pub IsNotPerformed : Result Done Stop → Type 0
IsNotPerformed (Ok (Performed s)) = ⊥
IsNotPerformed (Ok (Left l)) = Unit {0}
IsNotPerformed (Err stop) = Unit {0}

-- if the command was performed, all that it sends is for connection `c`
abbrev pub IsAddressedBy : ℕ → Result Done Stop → Type 0
IsAddressedBy c (Ok (Performed s)) = AreAddressed c s.sends.items
IsAddressedBy c (Ok (Left l)) = Unit {0}
IsAddressedBy c (Err stop) = Unit {0}

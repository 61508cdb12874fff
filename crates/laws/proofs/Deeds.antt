-- What an event does to queues, channels and what is outstanding. Here alone all cases of `Acts` are walked over: a new command is a new line here.
use Rattle.laws.proofs.Names.{◌≡◌, ℕ, List, [], ◌∷◌, ◌++◌, Bool, true, false, cond, refl, sym, ap, subst, ◌∙◌, None, ◌⊎◌, inl, inr, filter_map, is_some, nat_le, ◌==◌, ◌&&◌, eqb-true, eq-eqb, false≢true, same_Some, Text, Topology, IsIn, Consumer, Channel, Connection, Broker, is_ready, new_channel, with_one, with_pair, with_row, Ids, ids_of, Message, freed, by_channel, by_connection, Settlement, Leaves, Rejects, Returns, of_rejected, first_ready, ready_in, after_delivery, delivery_notes, after_purge, purge_notes, with_consumer, without_consumer, is_running, after_sends, WasGiven, IsCauseIn, IsCauseAt, content_in, event_connection, Gives, to_get, to_consumer, Refusal, Ignored, Of_channel, Of_connection, Acts, Does, Is, Gets, Settles, IsPublish, IsDelivery, Performs, Refuses, OnConnection, OnLarge, answer_of, channel_or_new, channels_up_to, confirm_sends, content_or_none, empty_publish, is_awaiting, is_some_full, next_of, opened, paused, purge_sends, refusal, refusal_of_consume, refusal_of_large, reply, returned_sends, with_channel, with_freed, with_gone, Entry, Holder, Mark, Ready, Held, Taker, Content, Consume, Get, Method, ConnectionClose, ChannelOpen, ChannelOpenOk, ChannelFlow, ChannelFlowOk, ChannelClose, ChannelCloseOk, ExchangeDeclare, ExchangeDeclareOk, QueueDeclare, QueuePurge, QueuePurgeOk, BasicQos, BasicQosOk, BasicConsume, BasicConsumeOk, BasicCancel, BasicCancelOk, BasicPublish, BasicGet, BasicGetEmpty, BasicAck, BasicReject, BasicNack, BasicRecover, BasicRecoverOk, ConfirmSelect, ConfirmSelectOk, Send, Event, Open, First, Running, Fault, Lose, Pause, Resume, Deliver, Answer, Cause, Auto, Purged, Rejected, Note}
use Rattle.std.proofs.Common.{map, filter, Option, Some}
use Rattle.std.specs.Prelude.{if◌then◌else◌}
use Rattle.model.specs.Step.{Makes, Decides}
use Rattle.model.specs.declared.messages.Taker.TheVariants as taker
use Rattle.model.specs.declared.methods.Publish.{Publish}
use Rattle.model.specs.declared.methods.Purge.{Purge}
use Rattle.model.specs.declared.methods.Qos.{Qos}
use Rattle.model.specs.declared.events.Event.TheVariants.{Command, TooLarge}
use Rattle.model.specs.declared.notes.Answer.TheVariants as answered
use Rattle.model.specs.declared.notes.Cause.TheVariants.{Acked}
use Rattle.laws.proofs.Accepted.{awaited, consumes_on, is_open, not_awaited, not_open}
use Rattle.laws.proofs.Leaving.{is_plain}
use Rattle.laws.proofs.Replies.{is_reply, IsReplyAtMost}

-- ---- what is noted

-- no publish is counted, nothing is noted, and no content is sent
pub record IsStill (old new : Broker) (sends : List Send) (notes : List Note) : Type 0 where
  pub counted : new.published ≡ old.published
  pub noted : notes ≡ []
  pub bare : filter_map content_in sends ≡ []

-- the event is a publish, of a connection that runs, and is not refused
pub record Publishes (t : Topology) (old new : Broker) (e : Event) (sends : List Send) (notes : List Note) : Type 0 where
  pub c : ℕ
  pub h : ℕ
  pub ch : Channel
  pub publish : Publish
  pub given : Option Content
  pub event : e ≡ Command c h (BasicPublish publish) given
  pub connection : Connection
  pub accepted : refusal t old connection h (BasicPublish publish) (old.channel c h) ≡ None
  pub is : IsPublish t old c h ch publish (content_or_none given) sends notes new

-- ---- what becomes of queues

-- what these held is ready again; where they are none, the queues are as they were
abbrev pub AreFreed : Broker → Broker → (Holder → Bool) → Type 0
AreFreed old new mine = (q : Text) → new.queue q ≡ map (freed mine) (old.queue q)

abbrev pub AreSame : Broker → Broker → Type 0
AreSame old new = (q : Text) → new.queue q ≡ old.queue q

-- ---- what becomes of channels

-- the channel, or a new one where it is not open
abbrev pub channel_at : Broker → ℕ → ℕ → Channel
channel_at b c h = channel_or_new (b.channel c h)

-- channel h of connection c, which is there, is this now; the other channels and the connections stay
pub record Puts (old new : Broker) (c h : ℕ) (now : Option Channel) : Type 0 where
  pub there : is_some (old.connection c) ≡ true
  pub channels : (d k : ℕ) → new.channel d k ≡ with_pair old.channel c h now d k
  pub connections : (d : ℕ) → new.connection d ≡ old.connection d

-- what is outstanding stays so, and the next tag too
pub record HoldsAlike (ch now : Channel) : Type 0 where
  pub outstanding : now.outstanding ≡ ch.outstanding
  pub next_tag : now.next_tag ≡ ch.next_tag
  pub is_closing : now.is_closing ≡ ch.is_closing

-- the consumers of channel h of connection c stay, or are one more by the event, or fewer
pub data Serves (t : Topology) (e : Event) (c h : ℕ) (ch now : Channel) : Type 0 where
  as_before : now.consumers ≡ ch.consumers → now.next_number ≡ ch.next_number → Serves t e c h ch now
  one_more : (m : Consume) (content : Option Content) → e ≡ Command c h (BasicConsume m) content → refusal_of_consume t ch m ≡ None → now ≡ with_consumer ch m → Serves t e c h ch now
  fewer : (tag : Text) → now ≡ without_consumer ch tag → Serves t e c h ch now

-- one that has no consumer, and on which nothing is outstanding
pub record IsEmpty (ch : Channel) : Type 0 where
  pub consumers : ch.consumers ≡ []
  pub outstanding : ch.outstanding ≡ []

-- these empty ones are the channels of connection c now, which has any only where it is there; the other connections stay
pub record Renews (old new : Broker) (c : ℕ) (row : ℕ → Option Channel) : Type 0 where
  pub channels : (d k : ℕ) → new.channel d k ≡ with_row old.channel c row d k
  pub empty : (k : ℕ) (ch : Channel) → row k ≡ Some ch → IsEmpty ch
  pub there : (k : ℕ) (ch : Channel) → row k ≡ Some ch → is_some (new.connection c) ≡ true
  pub others : (d : ℕ) → (d == c) ≡ false → new.connection d ≡ old.connection d

-- what an event of connection c changes that notes nothing
pub data Change (t : Topology) (old new : Broker) (e : Event) (c : ℕ) : Type 0 where
  -- no queue and no channel, and no connection comes or goes
  nothing : AreSame old new → ((d k : ℕ) → new.channel d k ≡ old.channel d k) → ((d : ℕ) → is_some (new.connection d) ≡ is_some (old.connection d)) → Change t old new e c
  -- the record of one channel, but nothing that is outstanding there
  alters : (h : ℕ) (now : Channel) → AreSame old new → Puts old new c h (Some now) → HoldsAlike (channel_at old c h) now → Serves t e c h (channel_at old c h) now → Change t old new e c
  -- a channel that awaited close-ok is not open any more
  ends : (h : ℕ) → AreSame old new → Puts old new c h None → is_awaiting (old.channel c h) ≡ true → Change t old new e c
  -- a channel is closed, and what was outstanding there is ready again
  clears : (h : ℕ) (now : Option Channel) → AreFreed old new (by_channel c h) → Puts old new c h now → ((ch : Channel) → now ≡ Some ch → IsEmpty ch) → Change t old new e c
  -- so are all channels of the connection
  renews : (row : ℕ → Option Channel) → AreFreed old new (by_connection c) → Renews old new c row → Change t old new e c

-- ---- what becomes of messages

-- it is a get, or a consumer of the channel
abbrev pub IsTakerOf : Channel → Taker → Type 0
IsTakerOf ch taker.Get = Unit {0}
IsTakerOf ch (taker.Consumer number) = (k : Consumer) × IsIn k ch.consumers × (k.number ≡ number)

-- The first ready message of a queue is given out on channel h of connection c.
pub record GivesFirst (old new : Broker) (e : Event) (c : ℕ) (sends : List Send) (notes : List Note) : Type 0 where
  pub h : ℕ
  pub ch : Channel
  pub no_ack : Bool
  pub queue : Text
  pub by : Taker
  pub entry : Entry
  pub first : first_ready (old.queue queue) ≡ Some entry
  pub runs : is_some (old.connection c) ≡ true
  pub there : old.channel c h ≡ Some ch
  pub open_still : ch.is_closing ≡ false
  pub its : IsTakerOf ch by
  pub out : Gives old e sends notes new queue entry
  pub carries : filter_map content_in sends ≡ entry.message.content ∷ []
  pub noted : notes ≡ delivery_notes no_ack entry.message.number queue
  pub caused : no_ack ≡ true → IsCauseAt old e entry.message.number queue Auto
  pub left : Is (after_delivery old c h ch no_ack queue by) new

-- what is settled so leaves its queue for this cause
abbrev pub IsBy : Settlement → Cause → Type 0
IsBy (Leaves why) cause = cause ≡ why
IsBy Rejects cause = cause ≡ Rejected
IsBy Returns cause = ⊥

-- what leaves for a cause leaves for another than a rejection
abbrev pub IsPlain : Settlement → Type 0
IsPlain (Leaves why) = is_plain why ≡ true
IsPlain how = Unit {0}

-- A tag settles what was given out on channel h of connection c.
pub record SettlesGiven (t : Topology) (old new : Broker) (e : Event) (c : ℕ) (sends : List Send) (notes : List Note) : Type 0 where
  pub h : ℕ
  pub how : Settlement
  pub tag : ℕ
  pub multiple : Bool
  pub wanted : List Send
  pub runs : is_some (old.connection c) ≡ true
  pub plain : IsPlain how
  pub bare : filter_map content_in sends ≡ []
  pub caused : (why : Cause) → IsBy how why → (n : ℕ) (q : Text) → WasGiven old c h tag multiple n q → IsCauseAt old e n q why
  pub is : Settles t how old c h (channel_at old c h) tag multiple wanted sends notes new

-- The ready messages of a queue are taken out.
pub record PurgesReady (old new : Broker) (e : Event) (sends : List Send) (notes : List Note) : Type 0 where
  pub queue : Text
  pub bare : filter_map content_in sends ≡ []
  pub noted : notes ≡ purge_notes queue (filter is_ready (old.queue queue))
  pub caused : (entry : Entry) → IsIn entry (old.queue queue) → is_ready entry ≡ true → IsCauseAt old e entry.message.number queue Purged
  pub left : Is (after_purge old queue) new

-- ---- deeds

-- What an event of connection c does:
pub data Deed (t : Topology) (old new : Broker) (e : Event) (c : ℕ) (sends : List Send) (notes : List Note) : Type 0 where
  -- it notes nothing, and at most makes ready again what was held
  changes : IsStill old new sends notes → Change t old new e c → Deed t old new e c sends notes
  -- a publish enters queues, and its channel counts it
  enters : (h : ℕ) (now : Channel) → Publishes t old new e sends notes → Puts old new c h (Some now) → HoldsAlike (channel_at old c h) now → Serves t e c h (channel_at old c h) now → Deed t old new e c sends notes
  gives : GivesFirst old new e c sends notes → Deed t old new e c sends notes
  settles : SettlesGiven t old new e c sends notes → Deed t old new e c sends notes
  purges : PurgesReady old new e sends notes → Deed t old new e c sends notes

-- where nobody's is made ready again, all is as it was
freed_none : (es : List Entry) → map (freed (λ g. false)) es ≡ es
freed_none [] = refl
freed_none (e ∷ es) = ap (λ (x : Entry). x ∷ map (freed (λ g. false)) es) (one e.message e.mark) ∙ ap (λ (xs : List Entry). e ∷ xs) (freed_none es)
  where
    one : (m : Message) (k : Mark) → freed (λ g. false) (record { message = m; mark = k }) ≡ record { message = m; mark = k }
    one m Ready = refl
    one m (Held g) = refl

-- what a change makes ready again in the queues
pub freed_by : {t : Topology} {old new : Broker} {e : Event} {c : ℕ} → Change t old new e c → (mine : Holder → Bool) × AreFreed old new mine
freed_by {old = old} (nothing same channels connections) = (λ g. false, λ q. same q ∙ sym (freed_none (old.queue q)))
freed_by {old = old} (alters h now same puts alike serves) = (λ g. false, λ q. same q ∙ sym (freed_none (old.queue q)))
freed_by {old = old} (ends h same puts awaits) = (λ g. false, λ q. same q ∙ sym (freed_none (old.queue q)))
freed_by {c = c} (clears h now freed puts empty) = (by_channel c h, freed)
freed_by {c = c} (renews row freed puts) = (by_connection c, freed)

-- ---- the connection of the event

pub with_same : {A : Type 0} (f : ℕ → A) (n : ℕ) (a : A) → a ≡ f n → (d : ℕ) → with_one f n a d ≡ f d
with_same f n a e d = go (d == n) refl
  where
    go : (b : Bool) → (d == n) ≡ b → cond b a (f d) ≡ f d
    go true q = e ∙ ap f (sym (eqb-true d n q))
    go false q = refl

-- after these sends it is there if it runs on
abbrev pub kept_after : Broker → ℕ → List Send → Option Connection
kept_after old c sends = cond (is_running (after_sends sends)) (old.connection c) None

-- it as the broker has it after the event; the others stay
abbrev pub connection_after : Broker → Event → List Send → Option Connection
connection_after old (Open c) sends = old.connection c
connection_after old (First c bytes) sends = kept_after old c sends
connection_after old (Running c max k) sends = Some (record { channel_max = max; is_paused = false })
connection_after old (Command c h m content) sends = kept_after old c sends
connection_after old (TooLarge c h) sends = kept_after old c sends
connection_after old (Fault c code) sends = None
connection_after old (Lose c) sends = None
connection_after old (Pause c) sends = paused true (old.connection c)
connection_after old (Resume c) sends = paused false (old.connection c)
connection_after old (Deliver c) sends = old.connection c

abbrev pub IsAlone : Broker → ℕ → Option Connection → Broker → Type 0
IsAlone old c o new = (d : ℕ) → new.connection d ≡ with_one old.connection c o d

-- An event of connection c does this, changes no connection but its own, and sends one reply at most where it is no publish.
pub record Done (t : Topology) (old new : Broker) (e : Event) (c : ℕ) (after : List Send → Option Connection) (sends : List Send) (notes : List Note) : Type 0 where
  pub deed : Deed t old new e c sends notes
  pub connections : IsAlone old c (after sends) new
  pub few : IsReplyAtMost sends ⊎ Publishes t old new e sends notes

abbrev pub Acted : Topology → Broker → Broker → Event → List Send → List Note → Type 0
Acted t old new e sends notes = Done t old new e (event_connection e) (connection_after old e) sends notes

-- ---- what is sent

-- nothing, or one reply without a content, after which its connection runs on
record RunsOn (wanted : List Send) : Type 0 where
  few : IsReplyAtMost wanted
  bare : filter_map content_in wanted ≡ []
  running : is_running (after_sends wanted) ≡ true

silent : RunsOn []
silent = record { few = tt; bare = refl; running = refl }

answer : (c h : ℕ) (m : Method) → is_reply m ≡ true → is_running (after_sends (reply c h m ∷ [])) ≡ true → RunsOn (reply c h m ∷ [])
answer c h m is running = record { few = (is, refl); bare = refl; running = running }

answer_unless : (no_wait : Bool) (c h : ℕ) (m : Method) → is_reply m ≡ true → is_running (after_sends (reply c h m ∷ [])) ≡ true → RunsOn (if no_wait then [] else reply c h m ∷ [])
answer_unless true c h m is running = silent
answer_unless false c h m is running = answer c h m is running

-- a publish sends what leaves its connection running
publish_runs : (c h : ℕ) (p : Publish) (content : Content) (b : Bool) (o : Option ℕ) (a : Answer) → is_running (after_sends (returned_sends c h p content b ++ confirm_sends c h o a)) ≡ true
publish_runs c h p content true None a = refl
publish_runs c h p content true (Some n) answered.Ack = refl
publish_runs c h p content true (Some n) answered.Nack = refl
publish_runs c h p content false None a = refl
publish_runs c h p content false (Some n) answered.Ack = refl
publish_runs c h p content false (Some n) answered.Nack = refl

-- ---- channels that are not there, or new

new_is_empty : IsEmpty new_channel
new_is_empty = record { consumers = refl; outstanding = refl }

closing_is_empty : IsEmpty (record new_channel { is_closing = true })
closing_is_empty = record { consumers = refl; outstanding = refl }

no_channel : (ch : Channel) → ◌≡◌ {A = Option Channel} None (Some ch) → ⊥
no_channel ch e = false≢true (ap is_some e)

-- those that are there from the first on
row_is_empty : (k n : ℕ) (ch : Channel) → channels_up_to k n ≡ Some ch → IsEmpty ch
row_is_empty k n ch = by (nat_le 1 n && nat_le n k)
  where
    by : (v : Bool) → (if v then Some new_channel else None) ≡ Some ch → IsEmpty ch
    by true e = subst IsEmpty (same_Some new_channel ch e) new_is_empty
    by false e = absurd (no_channel ch e)

-- ---- the walk over all cases

module _ (t : Topology) (old new : Broker) (sends : List Send) (notes : List Note) where
  abbrev By : Event → ℕ → (List Send → Option Connection) → Type 0
  By e c after = Done t old new e c after sends notes

  abbrev DeedOf : Event → ℕ → Type 0
  DeedOf e c = Deed t old new e c sends notes

  -- with these sends, of a connection that stays
  stays : (e : Event) (c : ℕ) (wanted : List Send) → sends ≡ wanted → IsReplyAtMost wanted → is_running (after_sends wanted) ≡ true → ((d : ℕ) → new.connection d ≡ old.connection d) → DeedOf e c → By e c (kept_after old c)
  stays e c wanted is few running same deed = record {
    deed = deed;
    connections = λ d. same d ∙ sym (with_same old.connection c _ (ap (λ (s : List Send). kept_after old c s) is ∙ ap (λ (b : Bool). cond b (old.connection c) None) running) d);
    few = inl (subst IsReplyAtMost (sym is) few);
  }

  -- a step that notes nothing
  does : (e : Event) (c : ℕ) (after : List Send → Option Connection) (wanted : List Send) (made : Broker) → Does sends notes new wanted made → made.published ≡ old.published → IsReplyAtMost wanted → filter_map content_in wanted ≡ [] → IsAlone old c (after wanted) made → Change t old new e c → By e c after
  does e c after wanted made d same few bare alone change = record {
    deed = changes (record { counted = d.left.counted ∙ same; noted = d.noted; bare = ap (filter_map content_in) d.sent ∙ bare }) change;
    connections = λ x. d.left.connections x ∙ subst (λ (s : List Send). made.connection x ≡ with_one old.connection c (after s) x) (sym d.sent) (alone x);
    few = inl (subst IsReplyAtMost (sym d.sent) few);
  }

  still : (e : Event) (c : ℕ) (wanted : List Send) (made : Broker) → Does sends notes new wanted made → made.published ≡ old.published → ((d : ℕ) → made.connection d ≡ old.connection d) → RunsOn wanted → Change t old new e c → By e c (kept_after old c)
  still e c wanted made d counted same r change =
      stays e c wanted d.sent r.few r.running (λ x. d.left.connections x ∙ same x) (changes (record { counted = d.left.counted ∙ counted; noted = d.noted; bare = ap (filter_map content_in) d.sent ∙ r.bare }) change)

  same_state : (e : Event) (c : ℕ) → Is old new → Change t old new e c
  same_state e c is = nothing is.queues is.channels (λ d. ap is_some (is.connections d))

  -- nothing changes
  idle : (e : Event) (c : ℕ) (wanted : List Send) → Does sends notes new wanted old → RunsOn wanted → By e c (kept_after old c)
  idle e c wanted d r = still e c wanted old d refl (λ x. refl) r (same_state e c d.left)

  -- one channel has another record
  altered : (e : Event) (c h : ℕ) (wanted : List Send) (now : Channel) → is_some (old.connection c) ≡ true → Does sends notes new wanted (with_channel old c h (Some now)) → RunsOn wanted → HoldsAlike (channel_at old c h) now → Serves t e c h (channel_at old c h) now → By e c (kept_after old c)
  altered e c h wanted now there d r alike serves =
      still e c wanted _ d refl (λ x. refl) r (alters h now d.left.queues (record { there = there; channels = d.left.channels; connections = d.left.connections }) alike serves)

  cleared : (e : Event) (c h : ℕ) (wanted : List Send) (now : Option Channel) → is_some (old.connection c) ≡ true → Does sends notes new wanted (with_freed (with_channel old c h now) (by_channel c h)) → RunsOn wanted → ((ch : Channel) → now ≡ Some ch → IsEmpty ch) → By e c (kept_after old c)
  cleared e c h wanted now there d r empty =
      still e c wanted _ d refl (λ x. refl) r (clears h now d.left.queues (record { there = there; channels = d.left.channels; connections = d.left.connections }) empty)

  closes : (e : Event) (c h : ℕ) (wanted : List Send) → is_some (old.connection c) ≡ true → (v : Bool) → Does sends notes new wanted (if v then old else with_freed (with_channel old c h None) (by_channel c h)) → RunsOn wanted → By e c (kept_after old c)
  closes e c h wanted there true d r = idle e c wanted d r
  closes e c h wanted there false d r = cleared e c h wanted None there d r (λ ch e. absurd (no_channel ch e))

  limits : (e : Event) (c h : ℕ) (m : Qos) (wanted : List Send) → is_some (old.connection c) ≡ true → (v : Bool)
      → Does sends notes new wanted (with_channel old c h (Some (if v then record (channel_at old c h) { limit = m.prefetch_count } else record (channel_at old c h) { each_limit = m.prefetch_count }))) → RunsOn wanted → By e c (kept_after old c)
  limits e c h m wanted there true d r = altered e c h wanted _ there d r (record { outstanding = refl; next_tag = refl; is_closing = refl }) (as_before refl refl)
  limits e c h m wanted there false d r = altered e c h wanted _ there d r (record { outstanding = refl; next_tag = refl; is_closing = refl }) (as_before refl refl)

  -- ---- connections that go and come

  others : (c : ℕ) (o : Option Connection) → IsAlone old c o new → (d : ℕ) → (d == c) ≡ false → new.connection d ≡ old.connection d
  others c o is d distinct = is d ∙ ap (λ (b : Bool). if b then o else old.connection d) distinct

  goes : (e : Event) (c : ℕ) → Is (with_gone old c) new → Change t old new e c
  goes e c is = renews (λ k. None) is.queues (record { channels = is.channels; empty = λ k ch e. absurd (no_channel ch e); there = λ k ch e. absurd (no_channel ch e); others = others c None is.connections })

  comes : (e : Event) (c max k : ℕ) → Is (opened old c max k) new → Change t old new e c
  comes e c max k is = renews (channels_up_to k) is.queues (record {
    channels = is.channels;
    empty = row_is_empty k;
    there = λ n ch f. ap is_some (is.connections c ∙ ap (λ (b : Bool). if b then Some (record { channel_max = max; is_paused = false }) else old.connection c) (eq-eqb c c refl));
    others = others c (Some (record { channel_max = max; is_paused = false })) is.connections;
  })

  -- a pause or its end
  pauses : (e : Event) (c : ℕ) (b : Bool) → Is (record old { connection = with_one old.connection c (paused b (old.connection c)) }) new → Change t old new e c
  pauses e c b is = nothing is.queues is.channels (λ d. ap is_some (is.connections d) ∙ same d (d == c) refl)
    where
      there_still : (o : Option Connection) → is_some (paused b o) ≡ is_some o
      there_still None = refl
      there_still (Some conn) = refl

      same : (d : ℕ) (v : Bool) → (d == c) ≡ v → is_some (if v then paused b (old.connection c) else old.connection d) ≡ is_some (old.connection d)
      same d true e = there_still (old.connection c) ∙ ap (λ (n : ℕ). is_some (old.connection n)) (sym (eqb-true d c e))
      same d false e = refl

  -- ---- messages that are given out, settled and purged

  gets : (c h : ℕ) (m : Get) (content : Option Content) (conn : Connection) → refusal t old conn h (BasicGet m) (old.channel c h) ≡ None → is_some (old.connection c) ≡ true → (o : Option Entry) → first_ready (old.queue m.queue) ≡ o → Gets old c h (channel_at old c h) m o sends notes new
      → By (Command c h (BasicGet m) content) c (kept_after old c)
  gets c h m content conn accepted there None found p = idle _ c _ (record { sent = p.sent; noted = p.noted; left = p.left }) (answer c h (BasicGetEmpty []) refl refl)
  gets c h m content conn accepted there (Some entry) found p =
      let open_there : old.channel c h ≡ Some (channel_at old c h) = is_open t old conn h m (old.channel c h) accepted in
      stays _ c _ p.sent (refl, refl) refl p.left.connections (gives (record {
        h = h;
        ch = channel_at old c h;
        no_ack = m.no_ack;
        queue = m.queue;
        by = taker.Get;
        entry = entry;
        first = found;
        runs = there;
        there = open_there;
        open_still = not_awaited t old conn h m (old.channel c h) accepted;
        its = tt;
        out = to_get (channel_at old c h) refl open_there found p;
        carries = ap (filter_map content_in) p.sent;
        noted = p.noted;
        caused = λ is. (is, refl, record { entry = entry; first = found; number = refl });
        left = p.left;
      }))

  delivers : (c : ℕ) → IsDelivery old c sends notes new → By (Deliver c) c (λ s. old.connection c)
  delivers c p =
      let o = p.made in
      record {
        deed = gives (record {
          h = o.number;
          ch = o.channel;
          no_ack = o.consumer.no_ack;
          queue = o.consumer.queue;
          by = taker.Consumer o.consumer.number;
          entry = o.entry;
          first = o.first;
          runs = ap is_some o.taker.runs;
          there = o.taker.there;
          open_still = o.taker.open_still;
          its = (o.consumer, o.taker.its, refl);
          out = to_consumer refl p;
          carries = ap (filter_map content_in) p.makes.sent;
          noted = p.makes.noted;
          caused = λ is. record { made = o; no_ack = is; queue = refl; number = refl };
          left = p.makes.left;
        });
        connections = λ d. p.makes.left.connections d ∙ sym (with_same old.connection c (old.connection c) refl d);
        few = inl (subst IsReplyAtMost (sym p.makes.sent) (refl, refl));
      }

  settled : (c h : ℕ) (m : Method) (content : Option Content) (how : Settlement) (tag : ℕ) (multiple : Bool) (wanted : List Send) → is_some (old.connection c) ≡ true → Settles t how old c h (channel_at old c h) tag multiple wanted sends notes new → RunsOn wanted → IsPlain how
      → ((why : Cause) → IsBy how why → (n : ℕ) (q : Text) → WasGiven old c h tag multiple n q → IsCauseIn old c h m n q why) → By (Command c h m content) c (kept_after old c)
  settled c h m content how tag multiple wanted there p r plain caused =
      stays _ c wanted p.sent r.few r.running p.connections (settles (record { h = h; how = how; tag = tag; multiple = multiple; wanted = wanted; runs = there; plain = plain; bare = ap (filter_map content_in) p.sent ∙ r.bare; caused = caused; is = p }))

  -- it leaves by a rejection that does not requeue
  rejected_is : (requeue : Bool) (cause : Cause) → IsBy (of_rejected requeue) cause → (requeue ≡ false) × (cause ≡ Rejected)
  rejected_is true cause e = absurd e
  rejected_is false cause e = (refl, e)

  plain_if : (requeue : Bool) → IsPlain (of_rejected requeue)
  plain_if true = tt
  plain_if false = tt

  rejects : (c h : ℕ) (m : Method) (content : Option Content) (requeue : Bool) (tag : ℕ) (multiple : Bool) → is_some (old.connection c) ≡ true → Settles t (of_rejected requeue) old c h (channel_at old c h) tag multiple [] sends notes new
      → ((n : ℕ) (q : Text) → requeue ≡ false → WasGiven old c h tag multiple n q → IsCauseIn old c h m n q Rejected) → By (Command c h m content) c (kept_after old c)
  rejects c h m content requeue tag multiple there p by =
      settled c h m content (of_rejected requeue) tag multiple [] there p silent (plain_if requeue) (λ why is n q given. let r = rejected_is requeue why is in subst (IsCauseIn old c h m n q) (sym r.1) (by n q r.0 given))

  purged : (c h : ℕ) (m : Purge) (content : Option Content) → Makes sends notes new (purge_sends c h m.no_wait (ready_in (old.queue m.queue))) (purge_notes m.queue (filter is_ready (old.queue m.queue))) (after_purge old m.queue)
      → By (Command c h (QueuePurge m) content) c (kept_after old c)
  purged c h m content p =
      let r = answer_unless m.no_wait c h (QueuePurgeOk _) refl refl in
      stays _ c _ p.sent r.few r.running p.left.connections (purges (record {
        queue = m.queue;
        bare = ap (filter_map content_in) p.sent ∙ r.bare;
        noted = p.noted;
        caused = λ entry stands ready. (refl, record { entry = entry; stands = stands; ready = ready; number = refl });
        left = p.left;
      }))

  publishes : (c h : ℕ) (publish : Publish) (content : Option Content) (conn : Connection) → refusal t old conn h (BasicPublish publish) (old.channel c h) ≡ None → is_some (old.connection c) ≡ true → IsPublish t old c h (channel_at old c h) publish (content_or_none content) sends notes new
      → By (Command c h (BasicPublish publish) content) c (kept_after old c)
  publishes c h publish content conn accepted there p =
      let is : Publishes t old new (Command c h (BasicPublish publish) content) sends notes =
      record { c = c; h = h; ch = channel_at old c h; publish = publish; given = content; event = refl; connection = conn; accepted = accepted; is = p } in
      let running : is_running (after_sends sends) ≡ true = ap (λ (s : List Send). is_running (after_sends s)) p.sent ∙ publish_runs c h publish (content_or_none content) _ (next_of (channel_at old c h).confirm) (answer_of (is_some_full t old.queue (content_or_none content) p.targets)) in
      record {
        deed = enters h _ is (record { there = there; channels = p.left.channels; connections = p.left.connections }) (record { outstanding = refl; next_tag = refl; is_closing = refl }) (as_before refl refl);
        connections = λ d. p.left.connections d ∙ sym (with_same old.connection c _ (ap (λ (b : Bool). cond b (old.connection c) None) running) d);
        few = inr is;
      }

  opens : (c h : ℕ) (reserved : Text) (content : Option Content) → old.channel c h ≡ None → is_some (old.connection c) ≡ true → Does sends notes new (reply c h (ChannelOpenOk []) ∷ []) (with_channel old c h (Some new_channel)) → By (Command c h (ChannelOpen reserved) content) c (kept_after old c)
  opens c h reserved content none there p =
      let it : channel_at old c h ≡ new_channel = ap channel_or_new none in
      altered _ c h _ new_channel there p (answer c h (ChannelOpenOk []) refl refl)
      (record { outstanding = sym (ap (λ (ch : Channel). ch.outstanding) it); next_tag = sym (ap (λ (ch : Channel). ch.next_tag) it); is_closing = sym (ap (λ (ch : Channel). ch.is_closing) it) })
      (as_before (sym (ap (λ (ch : Channel). ch.consumers) it)) (sym (ap (λ (ch : Channel). ch.next_number) it)))

  -- ---- all cases

  performs : (c h : ℕ) (m : Method) (content : Option Content) (conn : Connection) → refusal t old conn h m (old.channel c h) ≡ None → is_some (old.connection c) ≡ true → Performs t old c h (channel_at old c h) m content sends notes new → By (Command c h m content) c (kept_after old c)
  performs c h (ConfirmSelect no_wait) content conn accepted there p = altered _ c h _ _ there p (answer_unless no_wait c h ConfirmSelectOk refl refl) (record { outstanding = refl; next_tag = refl; is_closing = refl }) (as_before refl refl)
  performs c h (BasicPublish publish) content conn accepted there p = publishes c h publish content conn accepted there p
  performs c h (ChannelOpen reserved) content conn accepted there p = opens c h reserved content (not_open t old conn h reserved (old.channel c h) accepted) there p
  performs c h (ChannelFlow active) content conn accepted there p = idle _ c _ p (answer c h (ChannelFlowOk active) refl refl)
  performs c h (ChannelClose m) content conn accepted there p = closes _ c h _ there (channel_at old c h).is_closing p (answer c h ChannelCloseOk refl refl)
  performs c h ChannelCloseOk content conn accepted there p = still _ c _ _ p refl (λ x. refl) silent (ends h p.left.queues (record { there = there; channels = p.left.channels; connections = p.left.connections }) (awaited t old conn h (old.channel c h) accepted))
  performs c h (ConnectionClose m) content conn accepted there p = does _ c _ _ _ p refl (refl, refl) refl (λ d. refl) (goes _ c p.left)
  performs c h (ExchangeDeclare m) content conn accepted there p = idle _ c _ p (answer_unless m.no_wait c h ExchangeDeclareOk refl refl)
  performs c h (QueueDeclare m) content conn accepted there p = idle _ c _ p.does (answer_unless m.no_wait c h _ refl refl)
  performs c h (BasicQos m) content conn accepted there p = limits _ c h m _ there m.global p (answer c h BasicQosOk refl refl)
  performs c h (BasicConsume m) content conn accepted there p =
      altered _ c h _ _ there p (answer_unless m.no_wait c h (BasicConsumeOk _) refl refl) (record { outstanding = refl; next_tag = refl; is_closing = refl }) (one_more m content refl (consumes_on t old conn h m (old.channel c h) accepted) refl)
  performs c h (BasicCancel m) content conn accepted there p = altered _ c h _ _ there p (answer_unless m.no_wait c h (BasicCancelOk _) refl refl) (record { outstanding = refl; next_tag = refl; is_closing = refl }) (fewer m.consumer_tag refl)
  performs c h (BasicGet m) content conn accepted there p = gets c h m content conn accepted there (first_ready (old.queue m.queue)) refl p
  performs c h (BasicAck m) content conn accepted there p = settled c h (BasicAck m) content (Leaves Acked) m.delivery_tag m.multiple [] there p silent refl (λ why is n q given. subst (IsCauseIn old c h (BasicAck m) n q) (sym is) given)
  performs c h (BasicReject m) content conn accepted there p = rejects c h (BasicReject m) content m.requeue m.delivery_tag false there p (λ n q e given. (e, given))
  performs c h (BasicNack m) content conn accepted there p = rejects c h (BasicNack m) content m.requeue m.delivery_tag m.multiple there p (λ n q e given. (e, given))
  performs c h (BasicRecover requeue) content conn accepted there p = settled c h (BasicRecover requeue) content Returns 0 true _ there p (answer c h BasicRecoverOk refl refl) tt (λ why is. absurd is)
  performs c h (QueuePurge m) content conn accepted there p = purged c h m content p
  performs c h _ content conn accepted there p = absurd p

  refuses : (e : Event) (c h : ℕ) (cause : Ids) (r : Refusal) → is_some (old.connection c) ≡ true → Refuses old c h cause r sends notes new → By e c (kept_after old c)
  refuses e c h cause Ignored there p = idle e c _ p silent
  refuses e c h cause (Of_channel code) there p = cleared e c h _ _ there p (answer c h (ChannelClose _) refl refl) (λ ch e. subst IsEmpty (same_Some _ ch e) closing_is_empty)
  refuses e c h cause (Of_connection code) there p = does e c _ _ _ p refl (refl, refl) refl (λ d. refl) (goes e c p.left)

  decides : (c h : ℕ) (m : Method) (content : Option Content) (conn : Connection) (r : Option Refusal) → refusal t old conn h m (old.channel c h) ≡ r → is_some (old.connection c) ≡ true → Decides t old c h m content r sends notes new → By (Command c h m content) c (kept_after old c)
  decides c h m content conn None accepted there p = performs c h m content conn accepted there p
  decides c h m content conn (Some r) refused there p = refuses _ c h (ids_of m) r there p

  commanded : (c h : ℕ) (m : Method) (content : Option Content) (o : Option Connection) → old.connection c ≡ o → OnConnection t old c h m content sends notes new o → By (Command c h m content) c (kept_after old c)
  commanded c h m content None e p = idle _ c _ p silent
  commanded c h m content (Some conn) e p = decides c h m content conn (refusal t old conn h m (old.channel c h)) refl (ap is_some e) p

  too_large : (c h : ℕ) (o : Option Connection) → old.connection c ≡ o → OnLarge old c h sends notes new o → By (TooLarge c h) c (kept_after old c)
  too_large c h None e p = idle _ c _ p silent
  too_large c h (Some conn) e p = refuses _ c h (ids_of empty_publish) (refusal_of_large conn h (old.channel c h)) (ap is_some e) p

  -- Each event of the broker does one of these.
  pub acted : (e : Event) → Acts t old e sends notes new → Acted t old new e sends notes
  acted (Open c) p = does _ c _ _ _ p refl tt refl (λ d. sym (with_same old.connection c (old.connection c) refl d)) (same_state _ c p.left)
  acted (First c bytes) p = idle _ c _ p silent
  acted (Running c max k) p = does _ c _ _ _ p refl tt refl (λ d. refl) (comes _ c max k p.left)
  acted (Command c h m content) p = commanded c h m content (old.connection c) refl p
  acted (TooLarge c h) p = too_large c h (old.connection c) refl p
  acted (Fault c code) p = does _ c _ _ _ p refl (refl, refl) refl (λ d. refl) (goes _ c p.left)
  acted (Lose c) p = does _ c _ _ _ p refl tt refl (λ d. refl) (goes _ c p.left)
  acted (Pause c) p = does _ c _ _ _ p refl tt refl (λ d. refl) (pauses _ c true p.left)
  acted (Resume c) p = does _ c _ _ _ p refl tt refl (λ d. refl) (pauses _ c false p.left)
  acted (Deliver c) p = delivers c p

  -- so does a move of the phases, which sends no content
  pub moved : (e : Event) (c max : ℕ) (v : Bool) → notes ≡ [] → filter_map content_in sends ≡ [] → Is (if v then opened old c max 0 else old) new → DeedOf e c
  moved e c max true noted bare is = changes (record { counted = is.counted; noted = noted; bare = bare }) (comes e c max 0 is)
  moved e c max false noted bare is = changes (record { counted = is.counted; noted = noted; bare = bare }) (same_state e c is)

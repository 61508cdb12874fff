-- Unacknowledged deliveries on channels and held messages in queues: two accounts that agree (own). Start with `IsAgreed`.
use Rattle.std.specs.Prelude.{◌≡◌, ◌<◌, ◌≤◌, ℕ, [], true, count_by, Some}
use Rattle.std.specs.List.{AllByRecursion}
use Rattle.model.specs.Words.{Text}
use Rattle.model.specs.Topology.{IsIn}
use Rattle.model.specs.Broker.{Outstanding, Channel, Broker}
use Rattle.model.specs.Entries.{is_held_as}
use Rattle.model.specs.Settling.{Rises}
use Rattle.model.specs.Deliveries.{holder_of}
use Rattle.model.specs.Step.{tag_of}
use Rattle.model.specs.declared.messages.Entry.{Entry}
use Rattle.model.specs.declared.messages.Holder.{Holder}
use Rattle.model.specs.declared.messages.Mark.TheVariants.{Held}

-- The channel of `holder` has an unacknowledged delivery from the queue `q`, with the tag and the taker of `holder`.
pub record IsOutstanding (b : Broker) (q : Text) (holder : Holder) : Type 0 where
  pub channel : Channel
  pub there : b.channel holder.connection holder.channel ≡ Some channel
  pub delivery : Outstanding
  pub outstanding : IsIn delivery channel.outstanding
  pub tag : delivery.tag ≡ holder.tag
  pub queue : delivery.queue ≡ q
  pub by : delivery.by ≡ holder.by

-- The message of the unacknowledged delivery `o`, on channel `h` of connection `c`, is in its queue, held by this delivery.
pub record IsHeld (b : Broker) (c h : ℕ) (o : Outstanding) : Type 0 where
  pub entry : Entry
  pub there : IsIn entry (b.queue o.queue)
  pub mark : entry.mark ≡ Held (holder_of c h o)

-- The two accounts agree: each held message has its unacknowledged delivery, and each unacknowledged delivery its held message.
pub record IsAgreed (b : Broker) : Type 0 where
  -- Each message that is held in a queue is unacknowledged on the channel that holds it.
  pub held : (q : Text) (e : Entry) (holder : Holder) → IsIn e (b.queue q) → e.mark ≡ Held holder → IsOutstanding b q holder
  -- The message of each unacknowledged delivery of a channel is held in its queue by that channel.
  pub given : (c h : ℕ) (ch : Channel) (o : Outstanding) → b.channel c h ≡ Some ch → IsIn o ch.outstanding → IsHeld b c h o
  -- At most one message of a queue is held under one tag of a channel.
  pub distinct : (q : Text) (holder : Holder) → count_by (is_held_as holder) (b.queue q) ≤ 1
  -- On each channel the tags of unacknowledged deliveries rise, and each is less than the next tag.
  pub rising : (c h : ℕ) (ch : Channel) → b.channel c h ≡ Some ch → Rises tag_of ch.outstanding
  pub before : (c h : ℕ) (ch : Channel) → b.channel c h ≡ Some ch → AllByRecursion (λ (o : Outstanding). o.tag < ch.next_tag) ch.outstanding
  -- A channel that awaits close-ok has no unacknowledged delivery.
  pub closed : (c h : ℕ) (ch : Channel) → b.channel c h ≡ Some ch → ch.is_closing ≡ true → ch.outstanding ≡ []

-- What an event gives out of a queue, and the order in which the messages of each queue are
-- given out, to gets and to consumers (AMQP 0-9-1, section 4.7, "Content Ordering Guarantee").
use Rattle.std.specs.Prelude.{◌≡◌, ℕ, List, [], ◌∷◌, ◌++◌, Bool, false, not, ◌&&◌, if◌then◌else◌, Option, Some}
use Rattle.std.specs.Str.{bytes_eq}
use Rattle.std.specs.List.{AllByRecursion}
use Rattle.model.specs.Words.{Text}
use Rattle.model.specs.Topology.{IsIn}
use Rattle.model.specs.Broker.{Channel, Broker, is_ready}
use Rattle.model.specs.Entries.{held_as}
use Rattle.model.specs.Deliveries.{first_ready}
use Rattle.model.specs.Step.{Gets, IsDelivery}
use Rattle.model.specs.Run.{Happening, notes_of}
use Rattle.model.specs.declared.contents.Content.{Content}
use Rattle.model.specs.declared.messages.Entry.{Entry}
use Rattle.model.specs.declared.messages.Holder.{Holder}
use Rattle.model.specs.declared.messages.Mark.TheVariants.{Held}
use Rattle.model.specs.declared.methods.Get.{Get}
use Rattle.model.specs.declared.methods.Method.TheVariants.{BasicGet}
use Rattle.model.specs.declared.events.Event.{Event}
use Rattle.model.specs.declared.events.Event.TheVariants.{Command, Deliver}
use Rattle.model.specs.declared.events.Send.{Send}
use Rattle.model.specs.declared.notes.Note.{Note}
use Rattle.model.specs.declared.notes.Note.TheVariants.{Entered}

-- ---- what is given out

-- From the state `old` to `new`, the event gives the entry's message out of the queue, and sends nothing else. The message goes to the
-- get that asked for it, or to a consumer of the queue that may take it, under the next delivery tag of its channel.
pub data Gives (old : Broker) (event : Event) (sends : List Send) (notes : List Note) (new : Broker) : Text → Entry → Type 0 where
  to_get : {c k : ℕ} {m : Get} {content : Option Content} {e : Entry} (ch : Channel) → event ≡ Command c k (BasicGet m) content
      → old.channel c k ≡ Some ch → first_ready (old.queue m.queue) ≡ Some e
      → Gets old c k ch m (Some e) sends notes new → Gives old event sends notes new m.queue e
  to_consumer : {c : ℕ} → event ≡ Deliver c → (d : IsDelivery old c sends notes new) → Gives old event sends notes new d.made.consumer.queue d.made.entry

-- The event `h` gives the message of the entry `e` out of the queue `q`.
abbrev pub GivesOut : Happening → Text → Entry → Type 0
GivesOut h q e = Gives h.before.broker h.event h.sends h.notes h.after.broker q e

-- The events gave messages of these numbers out of the queue `q`, in this order, each for the first time since it entered.
-- They may have given out others, too.
pub data FirstGiven (q : Text) : List Happening → List ℕ → Type 0 where
  ended : FirstGiven q [] []
  given : {h : Happening} {hs : List Happening} {e : Entry} {ns : List ℕ} → GivesOut h q e → e.message.redelivered ≡ false → FirstGiven q hs ns
      → FirstGiven q (h ∷ hs) (e.message.number ∷ ns)
  passed : {h : Happening} {hs : List Happening} {ns : List ℕ} → FirstGiven q hs ns → FirstGiven q (h ∷ hs) ns

-- ---- order

-- The first list is a subsequence of the second.
pub data IsPart : List ℕ → List ℕ → Type 0 where
  empty : IsPart [] []
  skips : {x : ℕ} {xs ys : List ℕ} → IsPart xs ys → IsPart xs (x ∷ ys)
  takes : {x : ℕ} {xs ys : List ℕ} → IsPart xs ys → IsPart (x ∷ xs) (x ∷ ys)

-- Whether the message is ready and not marked as redelivered, so that it was not given out since it entered.
abbrev pub is_fresh : Entry → Bool
is_fresh e = is_ready e && not e.message.redelivered

-- The numbers of the messages in a queue that were not given out since they entered, in order.
abbrev pub waiting : List Entry → List ℕ
waiting [] = []
waiting (e ∷ es) = if is_fresh e then e.message.number ∷ waiting es else waiting es

-- A list of one number, that of the message which entered the queue `q` by the note; an empty list if the note says nothing of the kind.
abbrev pub entered_by : Text → Note → List ℕ
entered_by q (Entered n r w) = if bytes_eq r q then n ∷ [] else []
entered_by q note = []

-- The numbers of the messages that entered the queue `q`, in the order of the notes.
abbrev pub entered : Text → List Note → List ℕ
entered q [] = []
entered q (note ∷ notes) = entered_by q note ++ entered q notes

-- The entry `e` is among `es`, and no entry ahead of it is ready.
pub record IsNext (es : List Entry) (e : Entry) : Type 0 where
  pub ahead : List Entry
  pub behind : List Entry
  pub all : es ≡ ahead ++ e ∷ behind
  pub given : AllByRecursion (λ (x : Entry). is_ready x ≡ false) ahead

-- If the event gives an entry out of a queue, no entry ahead of it there is ready before the event.
abbrev pub IsAfterThoseAhead : Happening → Type 0
IsAfterThoseAhead h = (q : Text) (e : Entry) → GivesOut h q e → IsNext (h.before.broker.queue q) e

-- ---- how messages come to be held

-- Before the event an entry of the queue `q` was held by `holder`, or the event gave the entry `x` out to `holder`.
pub data IsHeldSince (h : Happening) (q : Text) (x : Entry) (holder : Holder) : Type 0 where
  before : (y : Entry) → IsIn y (h.before.broker.queue q) → y.mark ≡ Held holder → IsHeldSince h q x holder
  by_it : {e : Entry} → GivesOut h q e → x ≡ held_as holder e → IsHeldSince h q x holder

-- For each entry that is held after the event: before it an entry of the same queue was held by the same holder, or the event gave the entry out.
abbrev pub HoldsWhatWasGiven : Happening → Type 0
HoldsWhatWasGiven h = (q : Text) (x : Entry) (holder : Holder) → IsIn x (h.after.broker.queue q) → x.mark ≡ Held holder → IsHeldSince h q x holder

-- How the events `hs`, all that happened from the empty broker on, give messages out.
pub record GivesInOrder (hs : List Happening) : Type 0 where
  -- Messages given out of a queue for the first time came out in the order in which they entered it.
  pub in_order : (q : Text) (ns : List ℕ) → FirstGiven q hs ns → IsPart ns (entered q (notes_of hs))
  -- Each message was given out only when no message ahead of it was ready.
  pub ahead : AllByRecursion IsAfterThoseAhead hs
  -- A message becomes held only by being given out.
  pub held : AllByRecursion HoldsWhatWasGiven hs

-- Calls of the core as steps of the model, from the state before to the state after.
use Rattle.std.specs.Prelude.{ℕ, List, [], ◌∷◌, Option, option_map}
use Rattle.model.specs.Arrivals.{IsSaid}
use Rattle.model.specs.Broker.{Broker}
use Rattle.model.specs.Entries.{by_channel}
use Rattle.model.specs.Grammar.{Ids, IsMethod}
use Rattle.model.specs.Sending.{AreCarried}
use Rattle.model.specs.Step.{Acts, Does, Is, Performs, Refuses, after_close, reply, with_channel, with_freed}
use Rattle.model.specs.declared.contents.Content.{Content}
use Rattle.model.specs.declared.events.Event.{Event}
use Rattle.model.specs.declared.methods.Method.{Method}
use Rattle.model.specs.declared.methods.Method.TheVariants.{ChannelCloseOk}
use Rattle.model.specs.declared.events.Send.{Send}
use Rattle.model.specs.declared.notes.Note.{Note}
use Rattle.channels.specs.Open.{Open, open_in}
use Rattle.replies.specs.Sent.{AreAddressed, connection_of_event}
use Rattle.replies.specs.declared.steps.Step.{Step}
use Rattle.commands.specs.Commands.{AsksLeft}
use Rattle.commands.specs.Judged.{IsIgnored, IsRequeued, refusal_seen}
use Rattle.commands.specs.State.{Kept, broker_of, channel_on, names_of, topology_kept}
use Rattle.commands.specs.declared.commands.asking.Left.{Left}
use Rattle.commands.specs.declared.refusals.Refusal.{Refusal}

-- ---- events

-- the event's step, with the sends and notes of `step`
abbrev pub ActsWith : Kept → Event → Step → Kept → Type 0
ActsWith old event step new = Acts (topology_kept old) (broker_of old) event step.sends.items step.notes.items (broker_of new)

-- the event's step, in which nothing is sent or noted
abbrev pub ActsAlone : Kept → Event → Kept → Type 0
ActsAlone old event new = Acts (topology_kept old) (broker_of old) event [] [] (broker_of new)

-- if the event's method and each message can be encoded, each of `sends` is for the event's connection, by a method that can be encoded
abbrev pub AddressesOwn : Broker → Event → List Send → Type 0
AddressesOwn b event sends = IsSaid event → AreCarried b → AreAddressed (connection_of_event event) sends

-- ---- commands

-- the command `m` is performed on channel `h` of connection `c`
abbrev pub PerformsOn : Kept → ℕ → ℕ → Method → Option Content → List Send → List Note → Kept → Type 0
PerformsOn old c h m content sends notes new = Performs (topology_kept old) (broker_of old) c h (channel_on old c h) m content sends notes (broker_of new)

-- if the method `m` and each message can be encoded, each of `sends` is for connection `c`, by a method that can be encoded
abbrev pub AddressesReplies : Broker → ℕ → Method → List Send → Type 0
AddressesReplies b c m sends = IsMethod m → AreCarried b → AreAddressed c sends

-- the command `m` on channel `h` of connection `c` is ignored: the connection is not running, or the channel awaits close-ok
abbrev pub IsIgnoredOn : Kept → ℕ → ℕ → Method → Type 0
IsIgnoredOn old c h m = IsIgnored (topology_kept old) (broker_of old) c h m ((broker_of old).connection c)

-- the command `m` on channel `h` of connection `c`, which is running, is a rejection that requeues, and there is no refusal
abbrev pub IsRequeuedOn : Kept → ℕ → ℕ → Method → Type 0
IsRequeuedOn old c h m = IsRequeued (topology_kept old) (broker_of old) c h m ((broker_of old).connection c)

-- ---- commands that need more than their channel

-- the method `m` on channel `h` of connection `c` asks for `l`
abbrev pub AsksOn : Kept → ℕ → ℕ → Method → Left → Type 0
AsksOn old c h m l = AsksLeft (topology_kept old) ((broker_of old).channel c h) m l

-- each command that asks for `l` is performed by `step`: with its sends and its notes
abbrev pub FinishesOn : Kept → ℕ → ℕ → Left → Step → Kept → Type 0
FinishesOn old c h l step new = (m : Method) (content : Option Content) → AsksOn old c h m l
    → PerformsOn old c h m content step.sends.items step.notes.items new

-- `AddressesReplies` for each method that asks for `l`
abbrev pub AddressesLeft : Kept → ℕ → ℕ → Left → List Send → Type 0
AddressesLeft old c h l sends = (m : Method) → AsksOn old c h m l → AddressesReplies (broker_of old) c m sends

-- ---- channels and connections that open and close

-- `step` sends `send` alone and notes nothing, and the state is `made`
abbrev pub SendsOne : Step → Send → Broker → Kept → Type 0
SendsOne step send made new = Does step.sends.items step.notes.items (broker_of new) (send ∷ []) made

-- a client's channel.close is answered: close-ok alone is sent, and the channel is gone, or unchanged if it awaits close-ok itself
abbrev pub AnswersClose : Kept → ℕ → ℕ → Step → Kept → Type 0
AnswersClose old c h step new = SendsOne step (reply c h ChannelCloseOk) (after_close (broker_of old) c h (channel_on old c h)) new

-- channel `h` of connection `c` becomes `ch`, or is gone if that is `None`, and what it held is ready again
abbrev pub ReplacesChannel : Kept → ℕ → ℕ → Option Open → Kept → Type 0
ReplacesChannel old c h ch new = Is (with_freed (with_channel (broker_of old) c h (option_map (open_in (names_of old)) ch)) (by_channel c h)) (broker_of new)

-- a method on channel `h` of connection `c`, with the ids `cause`, is refused: ignored, or its channel or connection is closed, as `refusal` says
abbrev pub RefusesOn : Kept → ℕ → ℕ → Ids → Refusal → Step → Kept → Type 0
RefusesOn old c h cause refusal step new =
    Refuses (broker_of old) c h cause (refusal_seen refusal) step.sends.items step.notes.items (broker_of new)

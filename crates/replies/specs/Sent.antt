-- What holds of every send: whom it is for, and that its method can be encoded.
use Rattle.std.specs.Prelude.{ℕ, List, [], ◌∷◌, Bool, true, false, if◌then◌else◌, Option, Some, None}
use Rattle.std.specs.List.{AllByRecursion}
use Rattle.model.specs.Sending.{IsAddressed}
use Rattle.model.specs.Step.{return_of}
use Rattle.model.specs.declared.contents.Content.{Content}
use Rattle.model.specs.declared.methods.Publish.{Publish}
use Rattle.model.specs.declared.events.Send.{Send}
use Rattle.model.specs.declared.events.Event.{Event}
use Rattle.model.specs.declared.events.Event.TheVariants.{Open, First, Running, Command, TooLarge, Fault, Lose, Pause, Resume, Deliver}

-- each send is for connection `c`, on a channel that a frame can name, and its method can be encoded; its size may be any
abbrev pub AreAddressed : ℕ → List Send → Type 0
AreAddressed c sends = AllByRecursion (IsAddressed c) sends

-- the `basic.return` of a publish that is routed nowhere, if it is mandatory, otherwise none (AMQP 0-9-1, basic.publish, "mandatory")
abbrev pub return_if : ℕ → ℕ → Publish → Content → Option Send
return_if c h p content = if p.mandatory then Some (return_of c h p content) else None

-- the list of `returned`, if there is one and the publish was routed nowhere (`true`); otherwise empty
abbrev pub sent_back : Bool → Option Send → List Send
sent_back false returned = []
sent_back true None = []
sent_back true (Some s) = s ∷ []

-- the connection that an event belongs to
abbrev pub connection_of_event : Event → ℕ
connection_of_event (Open c) = c
connection_of_event (First c bytes) = c
connection_of_event (Running c max k) = c
connection_of_event (Command c h m content) = c
connection_of_event (TooLarge c h) = c
connection_of_event (Fault c code) = c
connection_of_event (Lose c) = c
connection_of_event (Pause c) = c
connection_of_event (Resume c) = c
connection_of_event (Deliver c) = c

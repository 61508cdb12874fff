-- Contents that are only counted, not kept (own). Nobody sees the difference before the connection
-- runs, once it is closing, or for a publish that began before it ran.
use Rattle.std.specs.Prelude.{◌≡◌, ◌⊎◌, ℕ, List, false, Option, None}
use Rattle.model.specs.State.{Config, State, Step}
use Rattle.model.specs.Phases.{is_running}
use Rattle.model.specs.declared.contents.Content.{Content}
use Rattle.model.specs.declared.methods.Publish.{Publish}
use Rattle.model.specs.declared.methods.Method.TheVariants.{BasicPublish}
use Rattle.model.specs.declared.events.Send.{Send}
use Rattle.model.specs.declared.events.Event.TheVariants as event
use Rattle.model.specs.declared.notes.Note.{Note}

-- In a phase other than Running, or on a channel that is not open, a publish has the same answer and leaves the same state as one
-- whose content is too large. A channel on which a publish began before Running is not open.
abbrev pub UnkeptIsUnseen : Type 0
UnkeptIsUnseen = (f : Config) (old : State) (c h : ℕ) (p : Publish) (content : Option Content) (sends : List Send) (notes : List Note) (new : State)
    → (is_running (old.session c).phase ≡ false) ⊎ (old.broker.channel c h ≡ None)
    → (Step f old (event.Command c h (BasicPublish p) content) sends notes new → Step f old (event.TooLarge c h) sends notes new)
    × (Step f old (event.TooLarge c h) sends notes new → Step f old (event.Command c h (BasicPublish p) content) sends notes new)

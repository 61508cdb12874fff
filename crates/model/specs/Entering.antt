-- How a message enters the queues that it is routed to: each that is not full takes it.
-- Source: AMQP 0-9-1, section 3.1.2, "Queues"; RabbitMQ, "Queue Length Limit", reject-publish.
use Rattle.std.specs.Prelude.{ℕ, List, [], ◌∷◌, length, map, not, ◌&&◌, if◌then◌else◌}
use Rattle.std.specs.Str.{bytes_eq}
use Rattle.model.specs.Words.{Text}
use Rattle.model.specs.Topology.{Topology}
use Rattle.model.specs.Message.{Message}
use Rattle.model.specs.Broker.{is_full}
use Rattle.model.specs.declared.messages.Entry.{Entry}
use Rattle.model.specs.declared.messages.Mark.TheVariants.{Ready}
use Rattle.model.specs.declared.notes.Note.{Note}
use Rattle.model.specs.declared.notes.Note.TheVariants.{Entered, Refused}
use Rattle.model.specs.declared.notes.Way.{Way}

-- What is noted of a message with a body of `size` bytes and of the queue `q`: that it entered in the way `w`, or that the queue was full and refused it.
abbrev pub entry_note : Topology → (Text → List Entry) → ℕ → ℕ → Way → Text → Note
entry_note t entries size n w q = if is_full t entries q size then Refused n q else Entered n q w

-- What is noted of each of the `targets`, in order.
abbrev pub entry_notes : Topology → (Text → List Entry) → ℕ → ℕ → Way → List Text → List Note
entry_notes t entries size n w targets = map (entry_note t entries size n w) targets

-- The entries that the message `m` adds to the queue `q`, if it goes to the queues of the list: one each time that `q` is in it and is not full.
abbrev pub comes_to : Topology → (Text → List Entry) → Message → Text → List Text → List Entry
comes_to t entries m q [] = []
comes_to t entries m q (r ∷ rs) =
    if bytes_eq r q && not (is_full t entries r (length m.content.body)) then record { message = m; mark = Ready } ∷ comes_to t entries m q rs
    else comes_to t entries m q rs

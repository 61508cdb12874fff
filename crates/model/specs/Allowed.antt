-- That no message enters a queue which a `Never` guarantee forbids for the exchange and key of its publish (own). Start with `AreAllowed`.
use Rattle.std.specs.Prelude.{◌≡◌, ◌⊎◌, ℕ, List, ◌≢◌, Option, Contains}
use Rattle.std.specs.List.{AllByRecursion}
use Rattle.model.specs.Words.{Text}
use Rattle.model.specs.Topology.{IsIn}
use Rattle.model.specs.Guarantee.{Guarantee, Covers}
use Rattle.model.specs.Broker.{Broker}
use Rattle.model.specs.Run.{Happening}
use Rattle.model.specs.declared.topologies.Mode.TheVariants.{Never}
use Rattle.model.specs.declared.messages.Entry.{Entry}
use Rattle.model.specs.declared.notes.Note.{Note}
use Rattle.model.specs.declared.notes.Note.TheVariants.{Published, Entered}

-- The notes say that publish `n` was sent to the exchange `x` under `key`.
abbrev pub IsNoted : List Note → ℕ → Text → Text → Type 0
IsNoted notes n x key = (c : ℕ) × (h : ℕ) × (o : Option ℕ) × IsIn (Published n c h x key o) notes

-- A message of publish `n` is in a queue, and was first sent to the exchange `x` under `key`.
pub record IsEnqueued (b : Broker) (n : ℕ) (x key : Text) : Type 0 where
  pub queue : Text
  pub entry : Entry
  pub there : IsIn entry (b.queue queue)
  pub number : entry.message.number ≡ n
  pub exchange : entry.message.first_exchange ≡ x
  pub first_key : entry.message.first_key ≡ key

-- The event `h` shows that publish `n` was sent to the exchange `x` under `key`: its notes
-- say it, or before the event a queue had a message with that number, exchange and key.
abbrev pub WasSentTo : Happening → ℕ → Text → Text → Type 0
WasSentTo h n x key = IsNoted h.notes n x key ⊎ IsEnqueued h.before.broker n x key

-- If the note says that publish `n` entered the queue `q`, no `Never` guarantee of `gs` forbids `q`
-- for an exchange and key with which, by `Sent`, publish `n` was sent.
abbrev pub IsAllowed : List Guarantee → (ℕ → Text → Text → Type 0) → Note → Type 0
IsAllowed gs Sent (Entered n q w) = (x key : Text) → Sent n x key → (g : Guarantee) → Contains gs g → g.mode ≡ Never → Covers g x key → q ≢ g.queue
IsAllowed gs Sent note = Unit {0}

-- Each note of the event `h` is allowed by the guarantees in force. Where publishes were sent is taken from the event itself.
abbrev pub AreAllowed : Happening → Type 0
AreAllowed h = AllByRecursion (IsAllowed h.config.guarantees (WasSentTo h)) h.notes

-- Each note of the event `h` is allowed by the guarantees in force at it. Where publishes were sent is taken from `notes`, the notes of a run.
abbrev pub AreAllowedIn : List Note → Happening → Type 0
AreAllowedIn notes h = AllByRecursion (IsAllowed h.config.guarantees (IsNoted notes)) h.notes

-- The entries that a definitions file states. Source: RabbitMQ, "Definition Export and Import".
use Rattle.std.specs.Prelude.{codes, ◌≡◌, ℕ, List, Bool, Option, Some, None, Result, Ok, Err, option_and_then}
use Rattle.model.specs.Options.{◌>>=◌}
use Rattle.serde_json.specs.Data.{Data}
use Rattle.json_file.specs.Members.{array_member, each}
use Rattle.json_file.specs.Outcomes.{FailsJson}
use Rattle.json_file.specs.declared.causes.FileCause.{FileCause}
use Rattle.definitions.specs.declared.document.VhostEntry.{VhostEntry}
use Rattle.definitions.specs.declared.document.UserEntry.{UserEntry}
use Rattle.definitions.specs.declared.document.PermissionEntry.{PermissionEntry}
use Rattle.definitions.specs.declared.document.ExchangeEntry.{ExchangeEntry}
use Rattle.definitions.specs.declared.document.QueueEntry.{QueueEntry}
use Rattle.definitions.specs.declared.document.BindingEntry.{BindingEntry}
use Rattle.definitions.specs.declared.document.Document.{Document}
use Rattle.definitions.specs.Shape.{vhost_entry_at, user_entry_at, permission_entry_at, exchange_entry_at, queue_entry_at, binding_entry_at, plain_at}

-- a file's entries, each list in the file's order, and whether there is no policy, parameter or topic permission
pub record File : Type 0 where
  pub vhosts : List VhostEntry
  pub users : List UserEntry
  pub permissions : List PermissionEntry
  pub exchanges : List ExchangeEntry
  pub queues : List QueueEntry
  pub bindings : List BindingEntry
  pub plain : Bool

-- the entries of the array at member `name`
abbrev pub entries_at : {A : Type 0} → (Data → Option A) → List ℕ → Data → Option (List A)
entries_at reads name d = option_and_then (each reads) (array_member name d)

-- the entries that a JSON value states, if it is an object with all of these members, each of the right form; other members are ignored
unfoldable pub file_at : Data → Option File
file_at d = do
  vhosts ← entries_at vhost_entry_at (codes "vhosts") d
  users ← entries_at user_entry_at (codes "users") d
  permissions ← entries_at permission_entry_at (codes "permissions") d
  exchanges ← entries_at exchange_entry_at (codes "exchanges") d
  queues ← entries_at queue_entry_at (codes "queues") d
  bindings ← entries_at binding_entry_at (codes "bindings") d
  plain ← plain_at d
  Some (record { vhosts = vhosts; users = users; permissions = permissions; exchanges = exchanges; queues = queues; bindings = bindings; plain = plain })

-- the entries that a `Document` has
abbrev pub file_of : Document → File
file_of d = record {
  vhosts = d.vhosts.items;
  users = d.users.items;
  permissions = d.permissions.items;
  exchanges = d.exchanges.items;
  queues = d.queues.items;
  bindings = d.bindings.items;
  plain = d.plain;
}

-- the reader returns the entries that the value states, or refuses the value: it states none, or an allocation failed
abbrev pub GivesFile : Result Document FileCause → Option File → Type 0
GivesFile (Ok d) o = o ≡ Some (file_of d)
GivesFile (Err e) o = FailsJson e (o ≡ None)

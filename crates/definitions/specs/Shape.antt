-- The entries that a JSON value states. Source: RabbitMQ, "Definition Export and Import".
use Rattle.std.specs.Prelude.{codes, ℕ, List, [], ◌∷◌, Bool, not, ◌&&◌, Option, Some}
use Rattle.model.specs.Options.{◌>>=◌}
use Rattle.serde_json.specs.Data.{Data}
use Rattle.json_file.specs.Members.{text_member, truth_member, arguments_member, optional_text_member, optional_number_member, is_filled, has_only}
use Rattle.definitions.specs.declared.document.VhostEntry.{VhostEntry}
use Rattle.definitions.specs.declared.document.UserEntry.{UserEntry}
use Rattle.definitions.specs.declared.document.PermissionEntry.{PermissionEntry}
use Rattle.definitions.specs.declared.document.ExchangeArguments.{ExchangeArguments}
use Rattle.definitions.specs.declared.document.QueueArguments.{QueueArguments}
use Rattle.definitions.specs.declared.document.ExchangeEntry.{ExchangeEntry}
use Rattle.definitions.specs.declared.document.QueueEntry.{QueueEntry}
use Rattle.definitions.specs.declared.document.BindingEntry.{BindingEntry}

-- an entry of `vhosts`; other members are ignored
unfoldable pub vhost_entry_at : Data → Option VhostEntry
vhost_entry_at d = do
  name ← text_member (codes "name") d
  Some (record { name = name })

-- an entry of `users`; other members are ignored
unfoldable pub user_entry_at : Data → Option UserEntry
user_entry_at d = do
  name ← text_member (codes "name") d
  password_hash ← text_member (codes "password_hash") d
  hashing_algorithm ← text_member (codes "hashing_algorithm") d
  Some (record { name = name; password_hash = password_hash; hashing_algorithm = hashing_algorithm })

-- an entry of `permissions`; other members are ignored
unfoldable pub permission_entry_at : Data → Option PermissionEntry
permission_entry_at d = do
  user ← text_member (codes "user") d
  vhost ← text_member (codes "vhost") d
  configure ← text_member (codes "configure") d
  write ← text_member (codes "write") d
  reads ← text_member (codes "read") d
  Some (record { user = user; vhost = vhost; configure = configure; write = write; read = reads })

-- the one known argument of an exchange, `alternate-exchange`; `listed` says whether the exchange has no others
unfoldable pub exchange_arguments_at : Data → Option ExchangeArguments
exchange_arguments_at d = do
  stated ← arguments_member d
  alternate ← optional_text_member (codes "alternate-exchange") stated
  Some (record { alternate = alternate; listed = has_only (codes "alternate-exchange" ∷ []) stated })

-- the known members of an exchange
abbrev pub exchange_members : List (List ℕ)
exchange_members = codes "name" ∷ codes "vhost" ∷ codes "type" ∷ codes "durable" ∷ codes "auto_delete" ∷ codes "internal" ∷ codes "arguments" ∷ []

-- an entry of `exchanges`; `listed` says whether it has only known members
unfoldable pub exchange_entry_at : Data → Option ExchangeEntry
exchange_entry_at d = do
  name ← text_member (codes "name") d
  vhost ← text_member (codes "vhost") d
  kind ← text_member (codes "type") d
  durable ← truth_member (codes "durable") d
  auto_delete ← truth_member (codes "auto_delete") d
  internal ← truth_member (codes "internal") d
  arguments ← exchange_arguments_at d
  Some (record {
    name = name;
    vhost = vhost;
    kind = kind;
    auto_delete = auto_delete;
    internal = internal;
    arguments = arguments;
    listed = has_only exchange_members d;
  })

-- the known arguments of a queue
abbrev pub queue_argument_names : List (List ℕ)
queue_argument_names = codes "x-max-length" ∷ codes "x-max-length-bytes" ∷ codes "x-overflow"
    ∷ codes "x-dead-letter-exchange" ∷ codes "x-dead-letter-routing-key" ∷ []

-- the known arguments of a queue; `listed` says whether it has no others
unfoldable pub queue_arguments_at : Data → Option QueueArguments
queue_arguments_at d = do
  stated ← arguments_member d
  max_length ← optional_number_member (codes "x-max-length") stated
  max_bytes ← optional_number_member (codes "x-max-length-bytes") stated
  overflow ← optional_text_member (codes "x-overflow") stated
  dead_letter_exchange ← optional_text_member (codes "x-dead-letter-exchange") stated
  dead_letter_key ← optional_text_member (codes "x-dead-letter-routing-key") stated
  Some (record {
    max_length = max_length;
    max_bytes = max_bytes;
    overflow = overflow;
    dead_letter_exchange = dead_letter_exchange;
    dead_letter_key = dead_letter_key;
    listed = has_only queue_argument_names stated;
  })

-- the known members of a queue
abbrev pub queue_members : List (List ℕ)
queue_members = codes "name" ∷ codes "vhost" ∷ codes "durable" ∷ codes "auto_delete" ∷ codes "arguments" ∷ []

-- an entry of `queues`; `listed` says whether it has only known members
unfoldable pub queue_entry_at : Data → Option QueueEntry
queue_entry_at d = do
  name ← text_member (codes "name") d
  vhost ← text_member (codes "vhost") d
  durable ← truth_member (codes "durable") d
  auto_delete ← truth_member (codes "auto_delete") d
  arguments ← queue_arguments_at d
  Some (record { name = name; vhost = vhost; auto_delete = auto_delete; arguments = arguments; listed = has_only queue_members d })

-- the known members of a binding
abbrev pub binding_members : List (List ℕ)
binding_members = codes "source" ∷ codes "vhost" ∷ codes "destination" ∷ codes "destination_type" ∷ codes "routing_key" ∷ codes "arguments" ∷ []

-- whether a binding has only known members, and no argument
unfoldable pub binding_listed_at : Data → Option Bool
binding_listed_at d = do
  stated ← arguments_member d
  Some (has_only binding_members d && has_only [] stated)

-- an entry of `bindings`; `listed` says whether it has only known members and no argument
unfoldable pub binding_entry_at : Data → Option BindingEntry
binding_entry_at d = do
  source ← text_member (codes "source") d
  vhost ← text_member (codes "vhost") d
  destination ← text_member (codes "destination") d
  destination_type ← text_member (codes "destination_type") d
  key ← text_member (codes "routing_key") d
  listed ← binding_listed_at d
  Some (record { source = source; vhost = vhost; destination = destination; destination_type = destination_type; key = key; listed = listed })

-- whether there is no policy, parameter or topic permission
unfoldable pub plain_at : Data → Option Bool
plain_at d = do
  policies ← is_filled (codes "policies") d
  parameters ← is_filled (codes "parameters") d
  topic_permissions ← is_filled (codes "topic_permissions") d
  Some ((not policies && not parameters) && not topic_permissions)

-- What the entries of a file set up.
use Rattle.std.specs.Prelude.{codes, List, [], Option, Some, None, Result, Ok, Err, length, map, unwrap_or, if◌then◌else◌, ◌==◌}
use Rattle.std.specs.Str.{bytes_eq}
use Rattle.base64.specs.Engines.{standard}
use Rattle.base64.specs.GeneralPurpose.{decode_of}
use Rattle.base64.specs.declared.decode.DecodeError.{DecodeError}
use Rattle.model.specs.Words.{Text}
use Rattle.model.specs.Topology.{Topology}
use Rattle.model.specs.declared.messages.User.{User}
use Rattle.model.specs.declared.topologies.Exchange.{Exchange}
use Rattle.model.specs.declared.topologies.DeclaredQueue.{DeclaredQueue}
use Rattle.model.specs.declared.topologies.Binding.{Binding}
use Rattle.model.specs.declared.topologies.Destination.{Destination}
use Rattle.model.specs.declared.topologies.Destination.TheVariants as destination
use Rattle.model.specs.declared.topologies.ExchangeKind.{ExchangeKind}
use Rattle.model.specs.declared.topologies.ExchangeKind.TheVariants.{Direct, Fanout, Topic}
use Rattle.definitions.specs.declared.document.UserEntry.{UserEntry}
use Rattle.definitions.specs.declared.document.ExchangeEntry.{ExchangeEntry}
use Rattle.definitions.specs.declared.document.QueueEntry.{QueueEntry}
use Rattle.definitions.specs.declared.document.BindingEntry.{BindingEntry}
use Rattle.definitions.specs.File.{File}

-- the exchange type called `t`
abbrev pub kind_named : Text → Option ExchangeKind
kind_named t =
    if bytes_eq t (codes "direct") then Some Direct
    else if bytes_eq t (codes "fanout") then Some Fanout
    else if bytes_eq t (codes "topic") then Some Topic else None

-- the exchange that an entry sets up; an unknown type counts as direct
abbrev pub exchange_of : ExchangeEntry → Exchange
exchange_of x = record { name = x.name; kind = unwrap_or (kind_named x.kind) Direct; internal = x.internal; alternate = x.arguments.alternate }

-- the queue that an entry sets up
abbrev pub queue_of : QueueEntry → DeclaredQueue
queue_of q = record {
  name = q.name;
  limit = q.arguments.max_length;
  byte_limit = q.arguments.max_bytes;
  dead_letter_exchange = q.arguments.dead_letter_exchange;
  dead_letter_key = q.arguments.dead_letter_key;
}

-- the destination of a binding; one of an unknown type counts as the binding's source, so that no other name is looked up
abbrev pub destination_of : BindingEntry → Destination
destination_of b =
    if bytes_eq b.destination_type (codes "queue") then destination.Queue b.destination else
    if bytes_eq b.destination_type (codes "exchange") then destination.Exchange b.destination else
    destination.Exchange b.source

-- the binding that an entry sets up
abbrev pub binding_of : BindingEntry → Binding
binding_of b = record { source = b.source; to = destination_of b; key = b.key }

-- the bytes, if there are exactly 36
abbrev pub of_36 : Text → Option Text
of_36 hash = if length hash == 36 then Some hash else None

-- the decoded bytes, if decoding succeeded and there are exactly 36
abbrev pub hash_decoded : Result Text DecodeError → Option Text
hash_decoded (Ok hash) = of_36 hash
hash_decoded (Err e) = None

-- a user's salt and hash: 36 bytes, hashed by SHA-256 and written in Base64 (RFC 4648, section 4)
unfoldable pub hash_of : UserEntry → Option Text
hash_of u = if bytes_eq u.hashing_algorithm (codes "rabbit_password_hashing_sha256") then hash_decoded (decode_of standard u.password_hash) else None

-- the user that an entry sets up; the hash is empty if the entry has none in the required form (`hash_of`)
abbrev pub user_of : UserEntry → User
user_of u = record { name = u.name; hash = unwrap_or (hash_of u) [] }

-- the topology that a file sets up
abbrev pub topology_of : File → Topology
topology_of f = record { exchanges = map exchange_of f.exchanges; queues = map queue_of f.queues; bindings = map binding_of f.bindings }

-- the users that a file sets up
abbrev pub users_of : File → List User
users_of f = map user_of f.users

-- The conditions on a definitions file, cause by cause. Source: RabbitMQ, "Definition Export and Import"; the limits, and
-- what isn't supported, are own.
use Rattle.std.specs.Prelude.{codes, ◌≡◌, ◌≤◌, ℕ, List, true, false, Some, None, IsSome, map, length, All, ◌⊎◌}
use Rattle.model.specs.Words.{Text}
use Rattle.model.specs.Topology.{AreDistinct, IsIn}
use Rattle.topology_drafts.specs.Causes.{AllJoin, AllWorded, IsSmall, NamesAreDistinct, NamesLead}
use Rattle.definitions.specs.declared.document.VhostEntry.{VhostEntry}
use Rattle.definitions.specs.declared.document.UserEntry.{UserEntry}
use Rattle.definitions.specs.declared.document.PermissionEntry.{PermissionEntry}
use Rattle.definitions.specs.declared.document.ExchangeEntry.{ExchangeEntry}
use Rattle.definitions.specs.declared.document.QueueEntry.{QueueEntry}
use Rattle.definitions.specs.declared.document.BindingEntry.{BindingEntry}
use Rattle.json_file.specs.declared.causes.FileCause.{FileCause}
use Rattle.json_file.specs.declared.causes.FileCause.TheVariants.{OtherVhost, Repeated, Absent, OtherType, Unsupported}
use Rattle.json_file.specs.declared.causes.FileCause.TheVariants.{NoOverflow, Worded, TooMany, NoExchange, OtherPermission, OtherHash}
use Rattle.json_file.specs.Files.{AllClearBelow, IsCauseReported}
use Rattle.definitions.specs.File.{File}
use Rattle.definitions.specs.States.{hash_of, kind_named, topology_of}

-- ---- the names in a file

-- the names of the users, in the file's order
abbrev pub user_names : File → List Text
user_names f = map (λ (u : UserEntry). u.name) f.users

-- the users of the permissions, in the file's order
abbrev pub permission_names : File → List Text
permission_names f = map (λ (p : PermissionEntry). p.user) f.permissions

-- ---- 3: one vhost

-- the only vhost is `/`, and no entry names another
pub record HasOneVhost (f : File) : Type 0 where
  pub one : length f.vhosts ≡ 1
  pub vhosts : All (λ (v : VhostEntry). v.name ≡ codes "/") f.vhosts
  pub permissions : All (λ (p : PermissionEntry). p.vhost ≡ codes "/") f.permissions
  pub exchanges : All (λ (x : ExchangeEntry). x.vhost ≡ codes "/") f.exchanges
  pub queues : All (λ (q : QueueEntry). q.vhost ≡ codes "/") f.queues
  pub bindings : All (λ (b : BindingEntry). b.vhost ≡ codes "/") f.bindings

-- ---- 4: distinct names

-- no two users have the same name, no two queues, and no two exchanges
pub record HasDistinctNames (f : File) : Type 0 where
  pub users : AreDistinct (user_names f)
  pub topology : NamesAreDistinct (topology_of f)

-- ---- 5: the ends of bindings

-- the source and the destination of every binding exist; a destination of an unknown type counts as the binding's source
abbrev pub HasAllJoin : File → Type 0
HasAllJoin f = AllJoin (topology_of f)

-- ---- 6: exchange types

-- the type of every exchange is known
abbrev pub HasTypes : File → Type 0
HasTypes f = All (λ (x : ExchangeEntry). IsSome (kind_named x.kind)) f.exchanges

-- ---- 7: nothing that isn't supported

-- the exchange has only known members and arguments, and is not auto-delete
pub record IsPlainExchange (x : ExchangeEntry) : Type 0 where
  pub members : x.listed ≡ true
  pub arguments : x.arguments.listed ≡ true
  pub stays : x.auto_delete ≡ false

-- the queue has only known members and arguments, is not auto-delete, has no overflow but `reject-publish`, and no
-- dead-letter key without a dead-letter exchange
pub record IsPlainQueue (q : QueueEntry) : Type 0 where
  pub members : q.listed ≡ true
  pub arguments : q.arguments.listed ≡ true
  pub stays : q.auto_delete ≡ false
  pub overflow : (o : Text) → q.arguments.overflow ≡ Some o → o ≡ codes "reject-publish"
  pub key : (key : Text) → q.arguments.dead_letter_key ≡ Some key → q.arguments.dead_letter_exchange ≡ None → ⊥

-- the binding has only known members and no argument, and its destination is a queue or an exchange
pub record IsPlainBinding (b : BindingEntry) : Type 0 where
  pub members : b.listed ≡ true
  pub destination : (b.destination_type ≡ codes "queue") ⊎ (b.destination_type ≡ codes "exchange")

-- the file asks only for what is supported, and has no policy, parameter or topic permission
pub record IsSupported (f : File) : Type 0 where
  pub plain : f.plain ≡ true
  pub exchanges : All IsPlainExchange f.exchanges
  pub queues : All IsPlainQueue f.queues
  pub bindings : All IsPlainBinding f.bindings

-- ---- 8: a length limit needs an overflow

-- the queue has the overflow argument if it has a limit of messages or of bytes
pub record SaysOverflow (q : QueueEntry) : Type 0 where
  pub messages : (n : ℕ) → q.arguments.max_length ≡ Some n → q.arguments.overflow ≡ None → ⊥
  pub bytes : (n : ℕ) → q.arguments.max_bytes ≡ Some n → q.arguments.overflow ≡ None → ⊥

-- every queue with a limit has an overflow
abbrev pub HasOverflows : File → Type 0
HasOverflows f = All SaysOverflow f.queues

-- ---- 9: names and keys

-- a name has at most 255 bytes
abbrev pub IsShortName : Text → Type 0
IsShortName name = length name ≤ 255

-- every name and key is well-formed
pub record HasAllWorded (f : File) : Type 0 where
  pub users : All (λ (u : UserEntry). IsShortName u.name) f.users
  pub topology : AllWorded (topology_of f)

-- ---- 10: the limits of a file

-- there are at most 256 exchanges, 256 queues, 4,096 bindings and 256 users
pub record HasFew (f : File) : Type 0 where
  pub topology : IsSmall (topology_of f)
  pub users : length f.users ≤ 256

-- ---- 11: alternate and dead-letter exchanges

-- every alternate exchange exists, and every dead-letter exchange exists or is the default one
abbrev pub HasNamesLead : File → Type 0
HasNamesLead f = NamesLead (topology_of f)

-- ---- 12: permissions

-- the permission allows configuring nothing, and writing and reading everything
pub record PermitsAll (p : PermissionEntry) : Type 0 where
  pub configure : p.configure ≡ codes "^$"
  pub write : p.write ≡ codes ".*"
  pub read : p.read ≡ codes ".*"

-- the user is one of `names`, the users of the permissions
pub record IsPermitted (names : List Text) (u : UserEntry) : Type 0 where
  pub there : IsIn u.name names

-- the user of the permission is one of `names`
pub record IsOfUser (names : List Text) (p : PermissionEntry) : Type 0 where
  pub there : IsIn p.user names

-- each user has exactly one permission, each permission is of a user, and each allows configuring nothing, and writing and reading everything
pub record HasPermissions (f : File) : Type 0 where
  pub whole : All PermitsAll f.permissions
  pub distinct : AreDistinct (permission_names f)
  pub each : All (IsPermitted (permission_names f)) f.users
  pub known : All (IsOfUser (user_names f)) f.permissions

-- ---- 13: password hashes

-- the password of every user is hashed by SHA-256, and the hash is the Base64 of 36 bytes
abbrev pub HasHashes : File → Type 0
HasHashes f = All (λ (u : UserEntry). IsSome (hash_of u)) f.users

-- ---- all causes

-- this cause does not apply to the file
abbrev pub IsClear : FileCause → File → Type 0
IsClear OtherVhost f = HasOneVhost f
IsClear Repeated f = HasDistinctNames f
IsClear Absent f = HasAllJoin f
IsClear OtherType f = HasTypes f
IsClear Unsupported f = IsSupported f
IsClear NoOverflow f = HasOverflows f
IsClear Worded f = HasAllWorded f
IsClear TooMany f = HasFew f
IsClear NoExchange f = HasNamesLead f
IsClear OtherPermission f = HasPermissions f
IsClear OtherHash f = HasHashes f
IsClear _ f = Unit {0}

-- no cause below number `n` applies to the file
abbrev pub IsClearBelow : ℕ → File → Type 0
IsClearBelow n f = AllClearBelow (λ (bad : FileCause). IsClear bad f) n

-- the reported cause is the lowest-numbered one that applies; a report of an allocation failure promises nothing
abbrev pub IsReported : FileCause → File → Type 0
IsReported bad f = IsCauseReported (λ (lower : FileCause). IsClear lower f) bad

-- What the files that a command names state, and why one of them is refused (own).
use Rattle.std.specs.Prelude.{◌≡◌, ◌⊎◌, ℕ, List, [], ◌∷◌, Option, Some, None, false, Result, Ok, Err, MatchResult, codes, ⊤, option_map}
use Rattle.std.specs.Borrow.{Bor}
use Rattle.std.specs.Global.{Vec}
use Rattle.model.specs.Words.{Text}
use Rattle.model.specs.Topology.{Topology}
use Rattle.model.specs.Guarantee.{Guarantee}
use Rattle.model.specs.Certificates.{Certificate}
use Rattle.model.specs.declared.messages.User.{User}
use Rattle.model.specs.declared.topologies.ExchangeKind.TheVariants.{Direct}
use Rattle.model.specs.declared.topologies.Destination.TheVariants as destination
use Rattle.json_file.specs.declared.causes.FileCause.{FileCause}
use Rattle.json_file.specs.Causes.{cause_number}
use Rattle.definitions.specs.Reads.{Stated, ReadsDefinitions, IsFirst}
use Rattle.guarantees.specs.Reads.{AreAccepted, IsFirstAgainst}
use Rattle.certificate.specs.Reads.{IsCertificatesFile, ReadsCertificateFile}
use Rattle.server.specs.declared.file_refusals.FileRefusal.{FileRefusal}
use Rattle.server.specs.declared.file_refusals.FileRefusal.TheVariants.{Refused, TooLong, Unread, NoDescriptor, Memory}
use Rattle.server.specs.declared.file_refusals.RefusedFile.{RefusedFile}
use Rattle.server.specs.declared.stated.Setup.{Setup}
use Rattle.server.specs.Files.{Known, HasText, IsTooLong, IsUnreadable}

-- the name of a file, if one is given
abbrev pub file_named : Option (Bor Text) → Option Text
file_named file = option_map (λ f. f.now) file

-- ---- definitions

-- the topology if no definitions are named: the queue `audit` is bound to the direct exchange `orders` with the key `new`
abbrev pub built_in : Topology
built_in = record {
  exchanges = record { name = codes "orders"; kind = Direct; internal = false; alternate = None } ∷ [];
  queues = record { name = codes "audit"; limit = None; byte_limit = None; dead_letter_exchange = None; dead_letter_key = None } ∷ [];
  bindings = record { source = codes "orders"; to = destination.Queue (codes "audit"); key = codes "new" } ∷ [];
}

-- the file has definitions to which no cause of refusal applies, and they state `stated`
abbrev pub States : Known → Stated → Type 0
States known stated = (text : Text) × HasText known text × ReadsDefinitions (Ok stated) text

-- what the definitions of a file state, or, if no file is named, the built-in topology without users
abbrev pub StatesAt : (Text → Known) → Option Text → Stated → Type 0
StatesAt holds None stated = stated ≡ record { topology = built_in; users = [] }
StatesAt holds (Some file) stated = States (holds file) stated

-- ---- guarantees

-- the file has these guarantees, stated for this topology, and no cause of refusal applies to it
abbrev pub Promises : Known → Topology → List Guarantee → Type 0
Promises known t gs = (text : Text) × HasText known text × AreAccepted gs t text

-- the guarantees of a file, or none if no file is named
abbrev pub PromisesAt : (Text → Known) → Option Text → Topology → List Guarantee → Type 0
PromisesAt holds None t gs = gs ≡ []
PromisesAt holds (Some file) t gs = Promises (holds file) t gs

-- ---- certificates

-- the file has these certificates
abbrev pub HoldsCertificates : Known → List Certificate → Type 0
HoldsCertificates known cs = (text : Text) × HasText known text × IsCertificatesFile text cs

-- the certificates of a file, or none if no file is named
abbrev pub CertifiesAt : (Text → Known) → Option Text → List Certificate → Type 0
CertifiesAt holds None cs = cs ≡ []
CertifiesAt holds (Some file) cs = HoldsCertificates (holds file) cs

-- ---- refusals

-- Why a file is refused: the cause with the number `n` applies to it, it is too long, or it cannot be read; an allocation failure promises nothing.
abbrev pub IsWhyNot : (ℕ → Text → Type 0) → FileRefusal → Known → Type 0
IsWhyNot Stands (Refused n) known = (text : Text) × HasText known text × Stands n text
IsWhyNot Stands TooLong known = IsTooLong known
IsWhyNot Stands Unread known = IsUnreadable known
IsWhyNot Stands NoDescriptor known = IsUnreadable known
IsWhyNot Stands Memory known = ⊤

-- the cause of this number applies to the definitions, and none of a lower number
abbrev pub NamesCause : ℕ → Text → Type 0
NamesCause n text = (cause : FileCause) × (n ≡ cause_number cause) × IsFirst cause text

-- why definitions are refused
abbrev pub IsWhyUnstated : FileRefusal → Known → Type 0
IsWhyUnstated why known = IsWhyNot NamesCause why known

-- the cause of this number applies to the guarantees stated for this topology, and none of a lower number
abbrev pub HasGuaranteeCause : Topology → ℕ → Text → Type 0
HasGuaranteeCause t n text = (cause : FileCause) × (n ≡ cause_number cause) × IsFirstAgainst cause t text

-- why guarantees stated for this topology are refused
abbrev pub IsWhyUnpromised : Topology → FileRefusal → Known → Type 0
IsWhyUnpromised t why known = IsWhyNot (HasGuaranteeCause t) why known

-- the one cause that applies to the certificates file has this number
abbrev pub HasCertificateCause : ℕ → Text → Type 0
HasCertificateCause n text = (cause : FileCause) × (n ≡ cause_number cause) × ReadsCertificateFile (Err cause) text

-- why a certificates file is refused
abbrev pub IsWhyUncertified : FileRefusal → Known → Type 0
IsWhyUncertified why known = IsWhyNot HasCertificateCause why known

-- Why a file of this kind yields nothing: `file` is the named one, and it is refused for `why`; or an allocation failed, and `file` may be any.
abbrev pub IsWhyNone : (holds : Text → Known) → (FileRefusal → Known → Type 0) → Option Text → Text → FileRefusal → Type 0
IsWhyNone holds IsWhy named file why = ((named ≡ Some file) × IsWhy why (holds file)) ⊎ (why ≡ Memory)

-- why there are no definitions
abbrev pub FailsToState : (Text → Known) → Option Text → Text → FileRefusal → Type 0
FailsToState holds named file why = IsWhyNone holds IsWhyUnstated named file why

-- why there are no guarantees for this topology
abbrev pub FailsToPromise : (Text → Known) → Option Text → Topology → Text → FileRefusal → Type 0
FailsToPromise holds named t file why = IsWhyNone holds (IsWhyUnpromised t) named file why

-- why there are no certificates
abbrev pub FailsToCertify : (Text → Known) → Option Text → Text → FileRefusal → Type 0
FailsToCertify holds named file why = IsWhyNone holds IsWhyUncertified named file why

-- ---- definitions with guarantees

-- what a definitions file and a guarantees file state together; either may be named or not
pub record SetsUp (holds : Text → Known) (definitions guarantees : Option Text) (stated : Stated) (gs : List Guarantee) : Type 0 where
  pub states : StatesAt holds definitions stated
  pub promises : PromisesAt holds guarantees stated.topology gs

-- Why definitions or guarantees are refused, and the file concerned. The definitions are judged first.
pub data FailsToSetUp (holds : Text → Known) (definitions guarantees : Option Text) (file : Text) (why : FileRefusal) : Type 0 where
  -- the definitions are refused
  unstated : FailsToState holds definitions file why → FailsToSetUp holds definitions guarantees file why
  -- the definitions are accepted, and the guarantees are refused
  unpromised : (stated : Stated) → StatesAt holds definitions stated
      → FailsToPromise holds guarantees stated.topology file why → FailsToSetUp holds definitions guarantees file why

-- ---- results

-- what the definitions of the file `name` state, or why this file is refused
abbrev pub GivesStated : (Text → Known) → Text → Result Stated RefusedFile → Type 0
GivesStated holds name (Ok stated) = States (holds name) stated
GivesStated holds name (Err refused) = (refused.file.now ≡ name) × IsWhyUnstated refused.why (holds name)

-- the topology and the users that the named definitions state, or why there are none
abbrev pub GivesTopologyAt : (Text → Known) → Option Text → Result (Topology × Vec User) RefusedFile → Type 0
GivesTopologyAt holds named result = MatchResult result
    (λ stated. StatesAt holds named (record { topology = stated.0; users = stated.1.items }))
    (λ refused. FailsToState holds named refused.file.now refused.why)

-- the guarantees of a file for this topology, or why it is refused
abbrev pub ReadsPromises : Known → Topology → Result (Vec Guarantee) FileRefusal → Type 0
ReadsPromises known t result = MatchResult result (λ gs. Promises known t gs.items) (λ why. IsWhyUnpromised t why known)

-- the guarantees of the named file for this topology, or why there are none
abbrev pub GivesGuaranteesAt : (Text → Known) → Option Text → Topology → Result (Vec Guarantee) RefusedFile → Type 0
GivesGuaranteesAt holds named t (Ok gs) = PromisesAt holds named t gs.items
GivesGuaranteesAt holds named t (Err refused) = FailsToPromise holds named t refused.file.now refused.why

-- the certificates of a file, or why it is refused
abbrev pub ReadsCertificates : Known → Result (Vec Certificate) FileRefusal → Type 0
ReadsCertificates known result = MatchResult result (λ cs. HoldsCertificates known cs.items) (λ why. IsWhyUncertified why known)

-- the certificates of the named file, or why there are none
abbrev pub GivesCertificatesAt : (Text → Known) → Option Text → Result (Vec Certificate) RefusedFile → Type 0
GivesCertificatesAt holds named (Ok cs) = CertifiesAt holds named cs.items
GivesCertificatesAt holds named (Err refused) = FailsToCertify holds named refused.file.now refused.why

-- what the named definitions and guarantees state together, or why one of the two files is refused
abbrev pub GivesSetup : (Text → Known) → Option Text → Option Text → Result Setup RefusedFile → Type 0
GivesSetup holds definitions guarantees (Ok s) =
    SetsUp holds definitions guarantees (record { topology = s.topology; users = s.users.items }) s.guarantees.items
GivesSetup holds definitions guarantees (Err refused) = FailsToSetUp holds definitions guarantees refused.file.now refused.why

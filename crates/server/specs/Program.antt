-- What the program does (own): the answers of its commands, its messages and its exit status.
use Rattle.std.specs.Prelude.{◌≡◌, ◌+◌, ◌⊎◌, ◌++◌, ◌≤◌, ℕ, Bool, List, [], ◌∷◌, Option, Some, None, Ok, Err, codes, decimal, length, slice_get, take, ⊤}
use Rattle.model.specs.Words.{Text}
use Rattle.model.specs.Topology.{Topology}
use Rattle.model.specs.State.{Config}
use Rattle.model.specs.Arrivals.{Seen, World, new_world}
use Rattle.model.specs.Guarantee.{Guarantee}
use Rattle.model.specs.Certificates.{Certificate as Shown}
use Rattle.model.specs.declared.events.Arrival.{Arrival}
use Rattle.model.specs.declared.events.Arrival.TheVariants as arrival
use Rattle.clap.specs.declared.error.kind.ErrorKind.{ErrorKind}
use Rattle.clap.specs.declared.error.kind.ErrorKind.TheVariants.{OutOfMemory}
use Rattle.definitions.specs.Reads.{Stated}
use Rattle.certificate.specs.declared.faults.CertFault.{CertFault}
use Rattle.certificate.specs.Drafts.{IsDraft}
use Rattle.certificate.specs.Reads.{IsCertificatesFile}
use Rattle.certificate.specs.declared.drafts.Draft.{Draft}
use Rattle.certificate.specs.Certified.{AreCertified, FailsFirst}
use Rattle.guarantee_search.specs.declared.verdicts.Verdict.{Verdict}
use Rattle.model.specs.Headline.{CertifiedDelivery}
use Rattle.command_line.specs.CommandLine.{Wanted, Check, Verify, Replay, Serve, Route, AsksFor, AsksNothing}
use Rattle.server.specs.declared.refusals.CommandRefusal.{CommandRefusal}
use Rattle.server.specs.declared.refusals.Report.{Report}
use Rattle.server.specs.declared.replaying.BrokerFiles.{BrokerFiles}
use Rattle.server.specs.declared.refusals.CommandRefusal.TheVariants.{Line, Refused, TooLong, Unread, NoDescriptor, Unwritten}
use Rattle.server.specs.declared.refusals.CommandRefusal.TheVariants.{NoExchange, Certificate, NotListening, Memory}
use Rattle.server.specs.Refusals.{IsOfFile}
use Rattle.scripts.specs.FileNames.{FileNames}
use Rattle.scripts.specs.Script.{ScriptArrival, script}
use Rattle.scripts.specs.Transcript.{transcript_text}
use Rattle.server.specs.Routes.{ListsExchange}
use Rattle.server.specs.Files.{Known, HasText, IsTooLong, IsUnreadable, AreKept, AreKeptBut, most_bytes}
use Rattle.server.specs.Streams.{OutputStream, GetsNothing, PutsOut, TriesPut, status_after}
use Rattle.server.specs.Stated.{file_named, States, HoldsCertificates, CertifiesAt, SetsUp, FailsToSetUp, FailsToCertify}
use Rattle.server.specs.Verdicts.{JudgesAll, certificates_in, status_of_verdicts}
use Rattle.server.specs.Outcomes.{Verifies, fault_number}

-- ---- what is in force

-- the configuration of the topology and the users in `stated`, under the guarantees `gs`
abbrev pub force_of : Stated → List Guarantee → Config
force_of stated gs = record { topology = stated.topology; guarantees = gs; users = stated.users }

-- These files put `force` in force: what the definitions state, under exactly the guarantees of their file, each of which has its certificate.
pub record IsInForce (holds : Text → Known) (definitions guarantees certificates : Option Text) (force : Config) : Type 0 where
  pub stated : Stated
  pub promised : List Guarantee
  pub set_up : SetsUp holds definitions guarantees stated promised
  pub shown : List Shown
  pub certifies : CertifiesAt holds certificates shown
  pub certified : AreCertified stated.topology promised shown
  pub is : force ≡ force_of stated promised

-- `Says` holds for the files that are named for a broker
abbrev pub OverNamed : (Option Text → Option Text → Option Text → Type 0) → BrokerFiles → Type 0
OverNamed Says named = Says (file_named named.definitions) (file_named named.guarantees) (file_named named.certificates)

-- a broker just started from these files: their topology, guarantees and users are in force, and no connection was opened
abbrev pub IsStarted : (Text → Known) → Text → Text → Text → World → Type 0
IsStarted holds definitions guarantees certificates world =
    (force : Config) × IsInForce holds (Some definitions) (Some guarantees) (Some certificates) force × (world ≡ new_world force)

-- ---- what is printed

-- the file has a script, and these are its events
abbrev pub ReadsScript : Known → List ScriptArrival → Type 0
ReadsScript known arrivals = (text : Text) × HasText known text × (script text ≡ Ok arrivals)

-- what is in force by the files of a reload
abbrev pub IsInForceBy : (Text → Known) → FileNames → Config → Type 0
IsInForceBy holds names force = IsInForce holds (Some names.definitions) (Some names.guarantees) (Some names.certificates) force

-- The event of the broker for an event of a script: a reload brings what its files put in force, any other event stays as it is.
abbrev pub IsSetUp : (Text → Known) → ScriptArrival → Arrival Config → Type 0
IsSetUp holds arrival.Open a = a ≡ arrival.Open
IsSetUp holds (arrival.Ready k) a = a ≡ arrival.Ready k
IsSetUp holds (arrival.In c bytes) a = a ≡ arrival.In c bytes
IsSetUp holds (arrival.Sent c n) a = a ≡ arrival.Sent c n
IsSetUp holds arrival.Pump a = a ≡ arrival.Pump
IsSetUp holds (arrival.Lose c) a = a ≡ arrival.Lose c
IsSetUp holds (arrival.Reload names) a = (force : Config) × (a ≡ arrival.Reload force) × IsInForceBy holds names force

-- the events of the broker for the events of a script, one by one
abbrev pub AreSetUp : (Text → Known) → List ScriptArrival → List (Arrival Config) → Type 0
AreSetUp holds [] arrivals = arrivals ≡ []
AreSetUp holds (s ∷ ss) arrivals = (a : Arrival Config) × (rest : List (Arrival Config)) × (arrivals ≡ a ∷ rest) × IsSetUp holds s a × AreSetUp holds ss rest

-- The text is the transcript of a run over these events, and certified delivery holds for that run.
pub record PrintsRun (force : Config) (arrivals : List (Arrival Config)) (printed : Text) : Type 0 where
  pub seen : Seen
  pub certified : CertifiedDelivery force arrivals seen
  pub shown : printed ≡ transcript_text seen

-- The text is the transcript of the file's script. The files of its reloads are read before the run.
pub record PrintsFile (holds : Text → Known) (script : Text) (force : Config) (printed : Text) : Type 0 where
  pub said : List ScriptArrival
  pub read : ReadsScript (holds script) said
  pub arrivals : List (Arrival Config)
  pub set_up : AreSetUp holds said arrivals
  pub prints : PrintsRun force arrivals printed

-- the queues to which the key leads from the exchange, by the definitions of a file; `None` if the exchange does not exist
abbrev pub ListsFile : Known → Text → Text → Option Text → Type 0
ListsFile known exchange key listed = (stated : Stated) × States known stated × ListsExchange stated.topology exchange key listed

-- ---- written certificates

-- the text reads back as exactly these certificates, and is not too long to be read
pub record ReadsBack (text : Text) (cs : List Shown) : Type 0 where
  pub short : length text ≤ most_bytes
  pub states : IsCertificatesFile text cs

-- the file reads back as exactly these certificates, and no other file is known to have changed
pub record IsFiled (before after : Text → Known) (file : Text) (cs : List Shown) : Type 0 where
  pub text : Text
  pub has : HasText (after file) text
  pub read_back : ReadsBack text cs
  pub others : AreKeptBut file before after

-- a refused command changes no file, except one that it could not write
abbrev pub FilesAreLeft : (Text → Known) → (Text → Known) → Text → CommandRefusal → Type 0
FilesAreLeft before after file (Line n) = AreKept before after
FilesAreLeft before after file (Refused n) = AreKept before after
FilesAreLeft before after file TooLong = AreKept before after
FilesAreLeft before after file Unread = AreKept before after
FilesAreLeft before after file NoDescriptor = AreKept before after
FilesAreLeft before after file Unwritten = AreKeptBut file before after
FilesAreLeft before after file NoExchange = AreKept before after
FilesAreLeft before after file (Certificate n fault) = AreKept before after
FilesAreLeft before after file NotListening = AreKept before after
FilesAreLeft before after file Memory = AreKept before after

-- why certificates are not written: the write failed, their file would be too long, or an allocation failed
abbrev pub IsUnwritten : CommandRefusal → Type 0
IsUnwritten (Line n) = ⊥
IsUnwritten (Refused n) = ⊥
IsUnwritten TooLong = ⊥
IsUnwritten Unread = ⊥
IsUnwritten NoDescriptor = ⊥
IsUnwritten Unwritten = ⊤
IsUnwritten NoExchange = ⊥
IsUnwritten (Certificate n fault) = ⊥
IsUnwritten NotListening = ⊥
IsUnwritten Memory = ⊤

-- certificates were not written, and no file is known to have changed except the one that could not be written
abbrev pub IsUnfiled : (Text → Known) → (Text → Known) → Text → CommandRefusal → Type 0
IsUnfiled before after file why = IsUnwritten why × FilesAreLeft before after file why

-- What `check` writes: if a file is named and all guarantees hold, it has their certificates; otherwise no file is changed.
pub data WritesOut (before after : Text → Known) : Option Text → List Verdict → Type 0 where
  -- no file is named
  unnamed : {verdicts : List Verdict} → AreKept before after → WritesOut before after None verdicts
  -- some guarantee fails or is undecided
  doubtful : {file : Text} {verdicts : List Verdict} → (status_of_verdicts verdicts ≡ 0 → ⊥)
      → AreKept before after → WritesOut before after (Some file) verdicts
  -- all guarantees hold
  filed : {file : Text} {verdicts : List Verdict} → status_of_verdicts verdicts ≡ 0
      → IsFiled before after file (certificates_in verdicts) → WritesOut before after (Some file) verdicts

-- if a file is named, there is a draft of these certificates
abbrev pub Drafts : Option Text → Option Draft → List Shown → Type 0
Drafts None draft cs = Unit {0}
Drafts (Some file) None cs = ⊥
Drafts (Some file) (Some draft) cs = IsDraft draft cs

-- ---- refusals

-- the message about a file: `warren: FILE: ` and what is wrong with it
abbrev pub message_about : Text → Text → Text
message_about file what = codes "warren: " ++ (file ++ (codes ": " ++ (what ++ 10 ∷ [])))

-- the message for an allocation failure
abbrev pub out_of_memory : Text
out_of_memory = codes "warren: memory\n"

-- the message for an exchange that does not exist
abbrev pub no_exchange : Text
no_exchange = codes "warren: no exchange\n"

-- the message for an address at which it cannot listen
abbrev pub not_listening : Text
not_listening = codes "warren: cannot listen\n"

-- the message of a refusal
abbrev pub refusal_line : Text → CommandRefusal → Text
refusal_line file (Line n) = message_about file (codes "line " ++ decimal n)
refusal_line file (Refused n) = message_about file (codes "refused " ++ decimal n)
refusal_line file TooLong = message_about file (codes "refused 10")
refusal_line file Unread = message_about file (codes "cannot read")
refusal_line file NoDescriptor = message_about file (codes "no descriptor is free")
refusal_line file Unwritten = message_about file (codes "cannot write")
refusal_line file NoExchange = no_exchange
refusal_line file (Certificate n fault) = codes "warren: certificate " ++ (decimal n ++ (codes ": fault " ++ (decimal fault ++ 10 ∷ [])))
refusal_line file NotListening = not_listening
refusal_line file Memory = out_of_memory

-- the exit status: 3 if a file, a certificate or an exchange is refused, 4 if an allocation, an input or an output failed, sockets included
abbrev pub status_of : CommandRefusal → ℕ
status_of (Line n) = 3
status_of (Refused n) = 3
status_of TooLong = 3
status_of Unread = 4
status_of NoDescriptor = 4
status_of Unwritten = 4
status_of NoExchange = 3
status_of (Certificate n fault) = 3
status_of NotListening = 4
status_of Memory = 4

-- Why a script's file is not replayed: its first line at fault, its length, or that it cannot be read; an allocation failure promises nothing.
abbrev pub IsWhyOfFile : CommandRefusal → Known → Type 0
IsWhyOfFile (Line n) known = (text : Text) × HasText known text × (script text ≡ Err n)
IsWhyOfFile (Refused n) known = ⊥
IsWhyOfFile TooLong known = IsTooLong known
IsWhyOfFile Unread known = IsUnreadable known
IsWhyOfFile NoDescriptor known = IsUnreadable known
IsWhyOfFile Unwritten known = ⊥
IsWhyOfFile NoExchange known = ⊥
IsWhyOfFile (Certificate n fault) known = ⊥
IsWhyOfFile NotListening known = ⊥
IsWhyOfFile Memory known = ⊤

-- why a script's text is not replayed: its first line at fault; an allocation failure needs no reason
abbrev pub IsRefusalOf : CommandRefusal → Text → Type 0
IsRefusalOf (Line n) text = script text ≡ Err n
IsRefusalOf Memory text = ⊤
IsRefusalOf other text = ⊥

-- Why guarantees are not admitted: the first certificate at fault, counted from 1, and its first fault; an allocation failure needs no reason.
abbrev pub IsWhyUnadmitted : Topology → List Guarantee → List Shown → CommandRefusal → Type 0
IsWhyUnadmitted t gs cs (Line n) = ⊥
IsWhyUnadmitted t gs cs (Refused n) = ⊥
IsWhyUnadmitted t gs cs TooLong = ⊥
IsWhyUnadmitted t gs cs Unread = ⊥
IsWhyUnadmitted t gs cs NoDescriptor = ⊥
IsWhyUnadmitted t gs cs Unwritten = ⊥
IsWhyUnadmitted t gs cs NoExchange = ⊥
IsWhyUnadmitted t gs cs (Certificate n k) = (fault : CertFault) × (place : ℕ) × (n ≡ place + 1) × (k ≡ fault_number fault) × FailsFirst t gs cs place fault
IsWhyUnadmitted t gs cs NotListening = ⊥
IsWhyUnadmitted t gs cs Memory = ⊤

-- ---- the answers of the commands

-- `check`: the verdict on each guarantee of the file, and what is written
pub record IsJudged (before after : Text → Known) (definitions guarantees : Text) (out : Option Text) (text : Text) (status : ℕ) : Type 0 where
  pub stated : Stated
  pub promised : List Guarantee
  pub set_up : SetsUp before (Some definitions) (Some guarantees) stated promised
  pub verdicts : List Verdict
  pub judged : JudgesAll stated.topology promised verdicts text status
  pub written : WritesOut before after out verdicts

-- `check`, if all guarantees hold but their certificates cannot be written: the verdicts are printed all the same, and `why` is the reason
pub record IsJudgedUnfiled (before after : Text → Known) (definitions guarantees file text : Text) (why : CommandRefusal) : Type 0 where
  pub stated : Stated
  pub promised : List Guarantee
  pub set_up : SetsUp before (Some definitions) (Some guarantees) stated promised
  pub verdicts : List Verdict
  pub judged : JudgesAll stated.topology promised verdicts text 0
  pub unfiled : IsUnfiled before after file why

-- `verify`: whether the certificate of each guarantee is accepted
pub record IsVerified (holds : Text → Known) (definitions guarantees certificates text : Text) (status : ℕ) : Type 0 where
  pub stated : Stated
  pub promised : List Guarantee
  pub set_up : SetsUp holds (Some definitions) (Some guarantees) stated promised
  pub shown : List Shown
  pub certifies : HoldsCertificates (holds certificates) shown
  pub verified : Verifies stated.topology promised shown text status

-- `replay`: the transcript of the script, over what is in force
pub record IsReplayed (holds : Text → Known) (script : Text) (definitions guarantees certificates : Option Text) (text : Text) (status : ℕ) : Type 0 where
  pub force : Config
  pub in_force : IsInForce holds definitions guarantees certificates force
  pub printed : PrintsFile holds script force text
  pub good : status ≡ 0

-- `route`: the queues to which the key leads
pub record IsRouted (holds : Text → Known) (definitions exchange key text : Text) (status : ℕ) : Type 0 where
  pub listed : ListsFile (holds definitions) exchange key (Some text)
  pub good : status ≡ 0

-- What a command prints, its exit status, and the files before and after it. `serve` prints nothing here.
abbrev pub IsCommandAnswered : (Text → Known) → (Text → Known) → Wanted → Text → ℕ → Type 0
IsCommandAnswered before after (Check definitions guarantees out) text status = IsJudged before after definitions guarantees out text status
IsCommandAnswered before after (Verify definitions guarantees certificates) text status =
    IsVerified before definitions guarantees certificates text status × AreKept before after
IsCommandAnswered before after (Replay script definitions guarantees certificates) text status =
    IsReplayed before script definitions guarantees certificates text status × AreKept before after
IsCommandAnswered before after (Serve definitions guarantees certificates listen turns reload) text status = ⊥
IsCommandAnswered before after (Route definitions exchange key) text status = IsRouted before definitions exchange key text status × AreKept before after

-- what a command prints if its file can't be written, the reason why it can't, and the files before and after the command
abbrev pub IsAnsweredUnfiled : (Text → Known) → (Text → Known) → Wanted → Text → Text → CommandRefusal → Type 0
IsAnsweredUnfiled before after (Check definitions guarantees out) text file why =
    (out ≡ Some file) × IsJudgedUnfiled before after definitions guarantees file text why
IsAnsweredUnfiled before after (Verify definitions guarantees certificates) text file why = ⊥
IsAnsweredUnfiled before after (Replay script definitions guarantees certificates) text file why = ⊥
IsAnsweredUnfiled before after (Serve definitions guarantees certificates listen turns reload) text file why = ⊥
IsAnsweredUnfiled before after (Route definitions exchange key) text file why = ⊥

-- a command is answered in full; or, if there is a report, in all but the file that the report names
abbrev pub AnswersBut : (Text → Known) → (Text → Known) → Wanted → Text → ℕ → Option Report → Type 0
AnswersBut before after wanted text status None = IsCommandAnswered before after wanted text status
AnswersBut before after wanted text status (Some report) = IsAnsweredUnfiled before after wanted text report.file.now report.why

-- the definitions file that a command names
abbrev pub definitions_of : Wanted → Option Text
definitions_of (Check definitions guarantees out) = Some definitions
definitions_of (Verify definitions guarantees certificates) = Some definitions
definitions_of (Replay script definitions guarantees certificates) = definitions
definitions_of (Serve definitions guarantees certificates listen turns reload) = Some definitions
definitions_of (Route definitions exchange key) = Some definitions

-- the guarantees file that a command names
abbrev pub guarantees_of : Wanted → Option Text
guarantees_of (Check definitions guarantees out) = Some guarantees
guarantees_of (Verify definitions guarantees certificates) = Some guarantees
guarantees_of (Replay script definitions guarantees certificates) = guarantees
guarantees_of (Serve definitions guarantees certificates listen turns reload) = Some guarantees
guarantees_of (Route definitions exchange key) = None

-- the certificates file that a command reads
abbrev pub certificates_of : Wanted → Option Text
certificates_of (Check definitions guarantees out) = None
certificates_of (Verify definitions guarantees certificates) = Some certificates
certificates_of (Replay script definitions guarantees certificates) = certificates
certificates_of (Serve definitions guarantees certificates listen turns reload) = Some certificates
certificates_of (Route definitions exchange key) = None

-- The commands that run a broker, and the files from which they start it.
pub data RunsOver : Wanted → (definitions guarantees certificates : Option Text) → Type 0 where
  replays : {script : Text} {definitions guarantees certificates : Option Text}
      → RunsOver (Replay script definitions guarantees certificates) definitions guarantees certificates
  serves : {definitions guarantees certificates listen : Text} {turns reload : Option Text}
      → RunsOver (Serve definitions guarantees certificates listen turns reload) (Some definitions) (Some guarantees) (Some certificates)

-- Why these files put nothing in force, and the file concerned. They are judged in this order.
pub data FailsOver (holds : Text → Known) (definitions guarantees certificates : Option Text) : Text → CommandRefusal → Type 0 where
  -- the definitions are refused, or the guarantees stated for them
  not_set_up : {file : Text} {why : CommandRefusal} → IsOfFile (FailsToSetUp holds definitions guarantees) file why
      → FailsOver holds definitions guarantees certificates file why
  -- the certificates file is refused
  not_certified : {file : Text} {why : CommandRefusal} (stated : Stated) (gs : List Guarantee) → SetsUp holds definitions guarantees stated gs
      → IsOfFile (FailsToCertify holds certificates) file why → FailsOver holds definitions guarantees certificates file why
  -- a certificate is not accepted for its guarantee, or a guarantee or a certificate has no partner
  not_admitted : {file : Text} (stated : Stated) (gs : List Guarantee) (cs : List Shown) (why : CommandRefusal) → SetsUp holds definitions guarantees stated gs
      → CertifiesAt holds certificates cs → IsWhyUnadmitted stated.topology gs cs why → FailsOver holds definitions guarantees certificates file why
  -- an allocation failed
  no_memory : {file : Text} → FailsOver holds definitions guarantees certificates file Memory

-- why the files of a reload put nothing in force
abbrev pub FailsBy : (Text → Known) → FileNames → Text → CommandRefusal → Type 0
FailsBy holds names file why = FailsOver holds (Some names.definitions) (Some names.guarantees) (Some names.certificates) file why

-- why an event of a script is refused: the files of its reload are refused, or an allocation failed
abbrev pub IsWhyNotSetUp : (Text → Known) → ScriptArrival → Text → CommandRefusal → Type 0
IsWhyNotSetUp holds (arrival.Reload names) file why = FailsBy holds names file why
IsWhyNotSetUp holds said file why = why ≡ Memory

-- Why the events of a script are refused: the files of one reload are refused, while those of all reloads before it are accepted; or an allocation failed.
pub data FailsToReload (holds : Text → Known) (said : List ScriptArrival) : Text → CommandRefusal → Type 0 where
  at : {file : Text} {why : CommandRefusal} (place : ℕ) (names : FileNames) (before : List (Arrival Config))
      → slice_get said place ≡ Some (arrival.Reload names)
      → AreSetUp holds (take place said) before → FailsBy holds names file why
      → FailsToReload holds said file why
  no_room : {file : Text} → FailsToReload holds said file Memory

-- Why a script prints nothing, once its broker's files are in force, and the file concerned.
pub data FailsToPlay (holds : Text → Known) (script : Text) : Text → CommandRefusal → Type 0 where
  -- the script is refused
  unread_script : (why : CommandRefusal) → IsWhyOfFile why (holds script) → FailsToPlay holds script script why
  -- the script is accepted, and the files of a reload are refused
  unloaded : {file : Text} {why : CommandRefusal} (said : List ScriptArrival)
      → ReadsScript (holds script) said → FailsToReload holds said file why → FailsToPlay holds script file why
  -- an allocation failed
  no_run : {file : Text} → FailsToPlay holds script file Memory

-- Why a command prints nothing, and the file concerned. The files are judged in this order.
pub data Fails (holds : Text → Known) : Wanted → Text → CommandRefusal → Type 0 where
  -- the definitions are refused, or the guarantees stated for them
  unset : {wanted : Wanted} {file : Text} {why : CommandRefusal}
      → IsOfFile (FailsToSetUp holds (definitions_of wanted) (guarantees_of wanted)) file why → Fails holds wanted file why
  -- the certificates file is refused
  uncertified : {wanted : Wanted} {file : Text} {why : CommandRefusal} (stated : Stated) (gs : List Guarantee)
      → SetsUp holds (definitions_of wanted) (guarantees_of wanted) stated gs
      → IsOfFile (FailsToCertify holds (certificates_of wanted)) file why → Fails holds wanted file why
  -- the files from which a broker is to start put nothing in force
  unforced : {wanted : Wanted} {file : Text} {why : CommandRefusal}
      {definitions guarantees certificates : Option Text} → RunsOver wanted definitions guarantees certificates
      → FailsOver holds definitions guarantees certificates file why → Fails holds wanted file why
  -- the broker's files are in force, and the script is refused, or the files of a reload in it
  unplayed : {script file : Text} {why : CommandRefusal} {definitions guarantees certificates : Option Text} (force : Config)
      → IsInForce holds definitions guarantees certificates force → FailsToPlay holds script file why
      → Fails holds (Replay script definitions guarantees certificates) file why
  -- the exchange does not exist
  unrouted : {file exchange key : Text} → ListsFile (holds file) exchange key None → Fails holds (Route file exchange key) file NoExchange
  -- the command is `serve`, and the call can open no sockets
  no_sockets : {definitions guarantees certificates listen file : Text} {turns reload : Option Text}
      → Fails holds (Serve definitions guarantees certificates listen turns reload) file NotListening
  -- an allocation failed
  wanting : {wanted : Wanted} {file : Text} → Fails holds wanted file Memory

-- the command prints nothing for the reason `why`, and leaves the files as `after`
abbrev pub IsNotAnswered : (Text → Known) → (Text → Known) → Wanted → Text → CommandRefusal → Type 0
IsNotAnswered before after wanted file why = Fails before wanted file why × FilesAreLeft before after file why

-- ---- the program

-- the line was written, or, if there was no memory for it, the message for an allocation failure: all of it, or a proper prefix
abbrev pub WritesLine : OutputStream → Text → Bool → Type 0
WritesLine err line whole = PutsOut err line whole ⊎ PutsOut err out_of_memory whole

-- the refusal was reported, or an allocation failure in its place
abbrev pub RefusesWith : OutputStream → Text → CommandRefusal → ℕ → Type 0
RefusesWith err file why status = TriesPut err (refusal_line file why) (status_of why) status ⊎ TriesPut err out_of_memory 4 status

-- the reason why a script prints nothing was reported, with this exit status
pub record IsUnplayed (holds : Text → Known) (script : Text) (err : OutputStream) (status : ℕ) : Type 0 where
  pub file : Text
  pub why : CommandRefusal
  pub fails : FailsToPlay holds script file why
  pub reported : RefusesWith err file why status

-- the reason why a command prints nothing was reported, with this exit status; the command leaves the files as `after`
pub record IsWhyReported (before after : Text → Known) (wanted : Wanted) (err : OutputStream) (status : ℕ) : Type 0 where
  pub file : Text
  pub why : CommandRefusal
  pub fails : IsNotAnswered before after wanted file why
  pub reported : RefusesWith err file why status

-- the text was written, with this exit status; then, if there is a report, its message
abbrev pub PutsBoth : OutputStream → OutputStream → Text → ℕ → Option Report → ℕ → Type 0
PutsBoth out err text wanted None status = TriesPut out text wanted status × GetsNothing err
PutsBoth out err text wanted (Some report) status = (done : Bool) × PutsOut out text done × RefusesWith err report.file.now report.why status

-- the refusal of a command line was reported: an allocation failure by our own message, any other by clap's text
abbrev pub ShowsError : ErrorKind → OutputStream → ℕ → Type 0
ShowsError kind err status = ((kind ≡ OutOfMemory) × TriesPut err out_of_memory 4 status)
    ⊎ ((kind ≡ OutOfMemory → ⊥) × ((done : Bool) × (status ≡ status_after done 3)))

-- How a call of the program ends: by its words, what is known about files before and after it, what standard output and standard error got, and the
-- exit status. If a stream took only a part, `done` is false and the status is 4.
pub data RunsAs (words : List Text) (before after : Text → Known) (out err : OutputStream) : ℕ → Type 0 where
  -- the command's answer was printed
  printed : (wanted : Wanted) (text : Text) (status : ℕ) (done : Bool) → AsksFor words wanted
      → IsCommandAnswered before after wanted text status → PutsOut out text done → GetsNothing err
      → RunsAs words before after out err (status_after done status)
  -- the command's answer was printed, and then the reason why a file was not written
  put_unfiled : {status : ℕ} (wanted : Wanted) (text file : Text) (why : CommandRefusal) (done : Bool)
      → AsksFor words wanted → IsAnsweredUnfiled before after wanted text file why → PutsOut out text done
      → RefusesWith err file why status → RunsAs words before after out err status
  -- the command prints nothing, and the reason was reported
  reported : {wanted : Wanted} {file : Text} (why : CommandRefusal) (done : Bool) → AsksFor words wanted
      → IsNotAnswered before after wanted file why → GetsNothing out → PutsOut err (refusal_line file why) done
      → RunsAs words before after out err (status_after done (status_of why))
  -- the command prints nothing, and an allocation failed when the reason was to be reported: `warren: memory` is reported instead
  report_failed : {wanted : Wanted} {file : Text} (why : CommandRefusal) (done : Bool) → AsksFor words wanted
      → IsNotAnswered before after wanted file why → GetsNothing out → PutsOut err out_of_memory done
      → RunsAs words before after out err 4
  -- the words ask for no command, and clap's own text was printed
  unasked : (done : Bool) → AsksNothing words → GetsNothing out → AreKept before after → RunsAs words before after out err (status_after done 3)
  -- an allocation failed before the words were parsed
  unread : (done : Bool) → GetsNothing out → PutsOut err out_of_memory done → AreKept before after → RunsAs words before after out err 4

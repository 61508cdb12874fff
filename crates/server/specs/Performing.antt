-- What the calls behind the commands return (own): an answer, or why there is none.
use Rattle.std.specs.Prelude.{◌≡◌, ℕ, List, Option, Some, Result, Ok, Err, MatchResult, option_map}
use Rattle.std.specs.Global.{Vec}
use Rattle.model.specs.Words.{Text}
use Rattle.model.specs.Topology.{Topology}
use Rattle.model.specs.State.{Config}
use Rattle.model.specs.Guarantee.{Guarantee}
use Rattle.model.specs.Certificates.{Certificate as Shown}
use Rattle.model.specs.declared.events.Arrival.{Arrival}
use Rattle.model.specs.declared.messages.User.{User}
use Rattle.certificate.specs.Admitted.{Admitted}
use Rattle.certificate.specs.Certified.{AreCertified}
use Rattle.certificate.specs.Drafts.{IsDraft}
use Rattle.certificate.specs.declared.drafts.Draft.{Draft}
use Rattle.guarantee_search.specs.declared.verdicts.Verdict.{Verdict}
use Rattle.engine.specs.InForce.{in_force}
use Rattle.command_line.specs.CommandLine.{Wanted, Verify, Replay, Route, Asks}
use Rattle.command_line.specs.declared.asked.Asked.{Asked}
use Rattle.scripts.specs.FileNames.{FileNames}
use Rattle.scripts.specs.Script.{ScriptArrival}
use Rattle.server.specs.declared.answering.Answered.{Answered}
use Rattle.server.specs.declared.file_refusals.RefusedFile.{RefusedFile}
use Rattle.server.specs.declared.judging.Output.{Output}
use Rattle.server.specs.declared.refusals.CommandRefusal.{CommandRefusal}
use Rattle.server.specs.declared.refusals.Report.{Report}
use Rattle.server.specs.declared.replaying.BrokerFiles.{BrokerFiles}
use Rattle.server.specs.Files.{Known}
use Rattle.server.specs.Stated.{FailsToState}
use Rattle.server.specs.Streams.{OutputStream, GetsNothing}
use Rattle.server.specs.Verdicts.{certificates_in, status_of_verdicts}
use Rattle.server.specs.Program.{AnswersBut, AreSetUp, Drafts, Fails, FailsBy, FailsOver, FailsToReload, IsFiled, IsInForce, IsInForceBy, IsNotAnswered}
use Rattle.server.specs.Program.{IsReplayed, IsRouted, IsSetUp, IsUnfiled, IsUnplayed, IsVerified, IsWhyNotSetUp, IsWhyOfFile, IsWhyReported}
use Rattle.server.specs.Program.{IsWhyUnadmitted, ListsFile, OverNamed, PrintsFile, PutsBoth, ReadsScript, RunsAs, WritesOut}

-- ---- what is in force

-- topology and guarantees are admitted as they are, each guarantee by its certificate; or the reason why they are not
abbrev pub AdmitsAll : Topology → List Guarantee → List Shown → Result Admitted CommandRefusal → Type 0
AdmitsAll t gs cs (Ok admitted) = (admitted ≡ record { topology = t; guarantees = gs }) × AreCertified t gs cs
AdmitsAll t gs cs (Err why) = IsWhyUnadmitted t gs cs why

-- what the files named for a broker put in force, with the users; or why they put nothing in force
abbrev pub GivesForce : (Text → Known) → BrokerFiles → Result (Admitted × Vec User) Report → Type 0
GivesForce holds named (Ok force) = OverNamed (λ d g c. IsInForce holds d g c (in_force force.0 force.1.items)) named
GivesForce holds named (Err report) = OverNamed (λ d g c. FailsOver holds d g c report.file.now report.why) named

-- what the files of a reload put in force, or why they put nothing in force
abbrev pub GivesForceBy : (Text → Known) → FileNames → Result Config Report → Type 0
GivesForceBy holds names (Ok force) = IsInForceBy holds names force
GivesForceBy holds names (Err report) = FailsBy holds names report.file.now report.why

-- ---- scripts

-- the events of the script in a file, or why the file is refused
abbrev pub GivesScript : Known → Result (Vec ScriptArrival) CommandRefusal → Type 0
GivesScript known result = MatchResult result (λ said. ReadsScript known said.items) (λ why. IsWhyOfFile why known)

-- the event of the broker for an event of a script, or why that is refused
abbrev pub GivesArrival : (Text → Known) → ScriptArrival → Result (Arrival Config) Report → Type 0
GivesArrival holds said (Ok arrival) = IsSetUp holds said arrival
GivesArrival holds said (Err report) = IsWhyNotSetUp holds said report.file.now report.why

-- the events of the broker for those of a script, or why these are refused
abbrev pub GivesArrivals : (Text → Known) → List ScriptArrival → Result (Vec (Arrival Config)) Report → Type 0
GivesArrivals holds said (Ok arrivals) = AreSetUp holds said arrivals.items
GivesArrivals holds said (Err report) = FailsToReload holds said report.file.now report.why

-- the transcript of the script over `force`, and nothing is reported; or the reason why there is none was reported, with an exit status
abbrev pub PlaysFile : (Text → Known) → Text → Config → OutputStream → Result (Vec ℕ) ℕ → Type 0
PlaysFile holds script force err (Ok text) = PrintsFile holds script force text.items × GetsNothing err
PlaysFile holds script force err (Err status) = IsUnplayed holds script err status

-- `replay`: the transcript of the script over what the named files put in force, and nothing is reported; or the reason why there is none was reported
abbrev pub ReplaysOver : (Text → Known) → (Text → Known) → Text → BrokerFiles → OutputStream → Result Output ℕ → Type 0
ReplaysOver before after script named err (Ok o) =
    OverNamed (λ d g c. IsReplayed before script d g c o.text.items o.status) named × GetsNothing err
ReplaysOver before after script named err (Err status) =
    OverNamed (λ d g c. IsWhyReported before after (Replay script d g c) err status) named

-- ---- written certificates

-- the file has the certificates of the draft now, whichever these are; or the reason why they were not written
abbrev pub FilesDraft : (Text → Known) → (Text → Known) → Text → Draft → Result Unit CommandRefusal → Type 0
FilesDraft before after file draft result = (cs : List Shown) → IsDraft draft cs
    → MatchResult result (λ u. IsFiled before after file cs) (λ why. IsUnfiled before after file why)

-- all guarantees hold, and the report says why their certificates are not in the named file
abbrev pub IsReportedUnfiled : (Text → Known) → (Text → Known) → Option Text → ℕ → Report → Type 0
IsReportedUnfiled before after out status report =
    (out ≡ Some report.file.now) × (status ≡ 0) × IsUnfiled before after report.file.now report.why

-- what `check` writes, whichever verdicts the status and the draft are of; or the report of why it is not written
abbrev pub FilesVerdicts : (Text → Known) → (Text → Known) → Option Text → ℕ → Option Draft → Result Unit Report → Type 0
FilesVerdicts before after out status draft result = (verdicts : List Verdict)
    → status ≡ status_of_verdicts verdicts → Drafts out draft (certificates_in verdicts)
    → MatchResult result (λ u. WritesOut before after out verdicts) (λ report. IsReportedUnfiled before after out status report)

-- ---- commands

-- the answer to a command, or the report of why it prints nothing
abbrev pub AnswersOrNot : (Text → Known) → (Text → Known) → Wanted → Result Answered Report → Type 0
AnswersOrNot before after wanted (Ok a) = AnswersBut before after wanted a.output.text.items a.output.status a.unwritten
AnswersOrNot before after wanted (Err report) = IsNotAnswered before after wanted report.file.now report.why

-- the answer to `verify`, or the report of why it prints nothing
abbrev pub AnswersVerify : (Text → Known) → Text → Text → Text → Result Output Report → Type 0
AnswersVerify holds definitions guarantees certificates (Ok o) = IsVerified holds definitions guarantees certificates o.text.items o.status
AnswersVerify holds definitions guarantees certificates (Err report) =
    Fails holds (Verify definitions guarantees certificates) report.file.now report.why

-- the queues to which the key leads from the exchange, by the definitions of the file, or why these are refused
abbrev pub GivesRoutes : (Text → Known) → Text → Text → Text → Result (Option (Vec ℕ)) RefusedFile → Type 0
GivesRoutes holds file exchange key (Ok listed) = ListsFile (holds file) exchange key (option_map (λ (text : Vec ℕ). text.items) listed)
GivesRoutes holds file exchange key (Err refused) = FailsToState holds (Some file) refused.file.now refused.why

-- the answer to `route`, or the report of why it prints nothing
abbrev pub AnswersRoute : (Text → Known) → Text → Text → Text → Result Output Report → Type 0
AnswersRoute holds definitions exchange key (Ok o) = IsRouted holds definitions exchange key o.text.items o.status
AnswersRoute holds definitions exchange key (Err report) = Fails holds (Route definitions exchange key) report.file.now report.why

-- the answer to a command, and nothing is reported; or the reason why it prints nothing was reported, with an exit status
abbrev pub AnswersOrReports : (Text → Known) → (Text → Known) → Wanted → OutputStream → Result Answered ℕ → Type 0
AnswersOrReports before after wanted err (Ok a) =
    AnswersBut before after wanted a.output.text.items a.output.status a.unwritten × GetsNothing err
AnswersOrReports before after wanted err (Err status) = IsWhyReported before after wanted err status

-- the answer was written, with this exit status; then, if a file could not be written, its message
abbrev pub PutsAnswer : OutputStream → OutputStream → Answered → ℕ → Type 0
PutsAnswer out err a status = PutsBoth out err a.output.text.items a.output.status a.unwritten status

-- the call ends as it does for words that ask for `asked`, whichever these are
abbrev pub RunsAsked : Asked → (Text → Known) → (Text → Known) → OutputStream → OutputStream → ℕ → Type 0
RunsAsked asked before after out err status = (words : List Text) → Asks words asked → RunsAs words before after out err status

-- What `serve` does (own): its files are judged, sockets are opened, their address is reported, and clients are served.
use Rattle.std.specs.Prelude.{◌≡◌, ◌<◌, ◌^◌, ◌++◌, ℕ, Bool, true, false, [], ◌∷◌, Option, Some, None, Result, Ok, Err, codes, ⊤}
use Rattle.std.specs.Prelude.{IfSome, IfNone, IfOk, IfErr}
use Rattle.std.specs.Str.Parse.{IsNumeral, digits_value, without_leading_plus}
use Rattle.model.specs.Words.{Text}
use Rattle.model.specs.State.{Config}
use Rattle.model.specs.Arrivals.{new_world}
use Rattle.serving.specs.Wire.{Traffic}
use Rattle.serving.specs.Story.{Served, served}
use Rattle.serving.specs.Rounds.{Rounds}
use Rattle.serving.specs.Serving.{Serving, server_state}
use Rattle.serving.specs.Whole.{IsServed}
use Rattle.engine.specs.Allocating.{MayAllocate}
use Rattle.engine.specs.World.{Parts, world_of}
use Rattle.server.specs.Files.{Known}
use Rattle.server.specs.declared.clients.Ended.{Ended}
use Rattle.server.specs.declared.clients.ServeArguments.{ServeArguments}
use Rattle.server.specs.declared.clients.Service.{Service}
use Rattle.server.specs.declared.refusals.Report.{Report}
use Rattle.server.specs.declared.refusals.CommandRefusal.{CommandRefusal}
use Rattle.server.specs.declared.refusals.CommandRefusal.TheVariants.{Line, Refused, TooLong, Unread, NoDescriptor, Unwritten}
use Rattle.server.specs.declared.refusals.CommandRefusal.TheVariants.{NoExchange, Certificate, NotListening, Memory}
use Rattle.server.specs.Stated.{file_named}
use Rattle.server.specs.Streams.{OutputStream, GetsNothing, GetsText, PutsOut, TriesPut, gain}
use Rattle.server.specs.Program.{FailsOver, IsInForce, IsStarted, RefusesWith, out_of_memory}

-- ---- the files

-- a refusal that does not concern sockets
abbrev pub IsOfFiles : CommandRefusal → Type 0
IsOfFiles (Line n) = ⊤
IsOfFiles (Refused n) = ⊤
IsOfFiles TooLong = ⊤
IsOfFiles Unread = ⊤
IsOfFiles NoDescriptor = ⊤
IsOfFiles Unwritten = ⊤
IsOfFiles NoExchange = ⊤
IsOfFiles (Certificate n fault) = ⊤
IsOfFiles NotListening = ⊥
IsOfFiles Memory = ⊤

-- Why no broker is started from these files, and the file concerned.
pub record FailsToStart (holds : Text → Known) (definitions guarantees certificates file : Text) (why : CommandRefusal) : Type 0 where
  pub fails : FailsOver holds (Some definitions) (Some guarantees) (Some certificates) file why
  pub judged : IsOfFiles why

-- a broker was just started from these files, or the report says why not
abbrev pub StartsBroker : (Text → Known) → Text → Text → Text → Result Parts Report → Type 0
StartsBroker holds definitions guarantees certificates (Ok engine) = IsStarted holds definitions guarantees certificates (world_of engine)
StartsBroker holds definitions guarantees certificates (Err report) =
    FailsToStart holds definitions guarantees certificates report.file.now report.why

-- a server without peers, whose broker was just started from the files of `asked`; or the report says why there is none
abbrev pub StartsServer : (Text → Known) → ServeArguments → Result (Serving Parts) Report → Type 0
StartsServer holds asked (Ok server) =
    IsStarted holds asked.definitions.now asked.guarantees.now asked.certificates.now (world_of server.machine) × (server.peers ≡ [])
StartsServer holds asked (Err report) =
    FailsToStart holds asked.definitions.now asked.guarantees.now asked.certificates.now report.file.now report.why

-- ---- sockets

-- Open sockets: what they have reported so far, and their address.
pub record Opened : Type 0 where
  pub past : Traffic
  pub address : Text

-- the outcomes that opening sockets may have: no sockets (`None`), or open ones
abbrev pub Openings : Type 1
Openings = Option Opened → Type 0

-- the line that reports the address
abbrev pub listening_line : Text → Text
listening_line address = codes "warren: listening on " ++ (address ++ 10 ∷ [])

-- `true`: the stream took the text and was flushed; `false`: it took the text or a proper prefix of it, and the write or the flush failed
abbrev pub IsTaken : OutputStream → Text → Bool → Type 0
IsTaken s text true = GetsText s text
IsTaken s text false = (done : Bool) × PutsOut s text done

-- the address was reported, and nothing was reported on standard error
abbrev pub IsReported : Text → OutputStream → OutputStream → Type 0
IsReported address out err = GetsText out (listening_line address) × GetsNothing err

-- Why the address was not reported: an allocation failed, which was reported instead, or the stream did not take the line.
pub data IsUnreported (address : Text) (out err : OutputStream) : ℕ → Type 0 where
  wanting : {status : ℕ} → GetsNothing out → TriesPut err out_of_memory 4 status → IsUnreported address out err status
  untaken : (done : Bool) → PutsOut out (listening_line address) done → GetsNothing err → IsUnreported address out err 4

-- Sockets were opened, which have reported `traffic` so far, and their address was reported.
pub record CanCome (may : Openings) (traffic : Traffic) (out err : OutputStream) : Type 0 where
  pub address : Text
  pub opened : may (Some (record { past = traffic; address = address }))
  pub is_reported : IsReported address out err

-- No sockets were opened, or their address could not be reported, with this exit status.
pub data NobodyComes (may : Openings) (out err : OutputStream) : ℕ → Type 0 where
  shut : {status : ℕ} → may None → GetsNothing out → RefusesWith err [] NotListening status → NobodyComes may out err status
  unreported : {status : ℕ} (opened : Opened) → may (Some opened) → IsUnreported opened.address out err status → NobodyComes may out err status

-- the address was reported, or the exit status is that of a report that failed
abbrev pub ReportsAddress : Text → OutputStream → OutputStream → Result Unit ℕ → Type 0
ReportsAddress address out err (Ok u) = IsReported address out err
ReportsAddress address out err (Err status) = IsUnreported address out err status

-- sockets that were opened, and whose address was reported, or the exit status with which nobody comes; `past` says what sockets have reported so far
abbrev pub OpensSockets : {W : Type 0} → Openings → (W → Traffic) → OutputStream → OutputStream → Result W ℕ → Type 0
OpensSockets may past out err (Ok sockets) = CanCome may (past sockets) out err
OpensSockets may past out err (Err status) = NobodyComes may out err status

-- ---- `serve`

-- the number of turns to serve: the number given, if that is below 2^64, or 2^64 - 1 if none is given
abbrev pub IsTurns : Option Text → ℕ → Type 0
IsTurns None turns = turns ≡ 18446744073709551615
IsTurns (Some text) turns = IsNumeral 10 (without_leading_plus text) → digits_value 10 (without_leading_plus text) < 2 ^ 64
    → turns ≡ digits_value 10 (without_leading_plus text)

-- How `serve` ends if it served no client, with this exit status. The files are judged before sockets are opened: if they are refused, `Unasked` says
-- that no sockets were asked for.
pub data EndsUnserved (holds : Text → Known) (definitions guarantees certificates : Text)
    (Unasked : Type 0) (may : Openings) (out err : OutputStream) : ℕ → Type 0 where
  refused : {file : Text} {status : ℕ} (why : CommandRefusal) → FailsToStart holds definitions guarantees certificates file why → Unasked
      → GetsNothing out → RefusesWith err file why status → EndsUnserved holds definitions guarantees certificates Unasked may out err status
  no_clients : {status : ℕ} (force : Config) → IsInForce holds (Some definitions) (Some guarantees) (Some certificates) force
      → NobodyComes may out err status → EndsUnserved holds definitions guarantees certificates Unasked may out err status

-- A broker without any connection was just started from these files, sockets were opened, and their address was reported.
pub record Begins (holds : Text → Known) (definitions guarantees certificates : Text) (may : Openings) (out err : OutputStream) (start : Served) : Type 0 where
  pub force : Config
  pub in_force : IsInForce holds (Some definitions) (Some guarantees) (Some certificates) force
  pub traffic : Traffic
  pub can_come : CanCome may traffic out err
  pub is : start ≡ served (new_world force) [] traffic

-- Clients were served: by a broker just started from these files, in `count` rounds, after the address was reported.
pub record ServesClients (holds : Text → Known) (definitions guarantees certificates : Text)
    (turns : Option Text) (may : Openings) (out err : OutputStream) (end : Served) : Type 0 where
  pub force : Config
  pub in_force : IsInForce holds (Some definitions) (Some guarantees) (Some certificates) force
  pub start : Traffic
  pub can_come : CanCome may start out err
  pub count : ℕ
  pub counted : IsTurns turns count
  pub rounds : Rounds MayAllocate count (served (new_world force) [] start) end
  -- all that arrived at the broker, and certified delivery's promises of it
  pub kept : IsServed MayAllocate force start end

-- How `serve` ends: with the last state of the server, if it listened, and this exit status.
abbrev pub ServeEnds : (Text → Known) → Text → Text → Text → Option Text → Type 0 → Openings → OutputStream → OutputStream → Option Served → ℕ → Type 0
ServeEnds holds definitions guarantees certificates turns Unasked may out err None status =
    EndsUnserved holds definitions guarantees certificates Unasked may out err status
ServeEnds holds definitions guarantees certificates turns Unasked may out err (Some end) status =
    ServesClients holds definitions guarantees certificates turns may out err end × (status ≡ 0)

-- ---- the calls of `serve`
-- A function before one state or two says what is known in it: `holds` of files, `listens` of a listener, `sees` of standard output, `reads` of standard
-- error, and `past` of sockets.

-- the state of a service: its broker's world, its peers, and what its sockets have reported so far
abbrev pub service_state : {W : Type 0} → (W → Traffic) → Service W → Served
service_state past service = server_state world_of past service.server service.sockets

-- if a service is returned, it begins with the files and the address of `asked`
abbrev pub BeginsOk : {F L O E W : Type 0} → (F → Text → Known) → F → ServeArguments → (L → Text → Openings) → L
    → (O → Option Text) → O → O → (E → Option Text) → E → E → (W → Traffic) → Result (Service W) ℕ → Type 0
BeginsOk holds files asked listens listener sees out out' reads err err' past result = IfOk result (λ service.
    Begins (holds files) asked.definitions.now asked.guarantees.now asked.certificates.now
    (listens listener asked.listen.now) (gain sees out out') (gain reads err err') (service_state past service))

-- if an exit status is returned, no client is served
abbrev pub BeginsErr : {F L O E X : Type 0} → (F → Text → Known) → F → ServeArguments → (L → Text → Openings) → L → L
    → (O → Option Text) → O → O → (E → Option Text) → E → E → Result X ℕ → Type 0
BeginsErr holds files asked listens listener listener' sees out out' reads err err' result = IfErr result (λ status.
    EndsUnserved (holds files) asked.definitions.now asked.guarantees.now asked.certificates.now
    (listener' ≡ listener) (listens listener asked.listen.now) (gain sees out out') (gain reads err err') status)

-- if a service is returned, clients were served as `asked`, and the exit status is 0
abbrev pub EndsSome : {F L O E W : Type 0} → (F → Text → Known) → F → ServeArguments → (L → Text → Openings) → L
    → (O → Option Text) → O → O → (E → Option Text) → E → E → (W → Traffic) → Ended W → Type 0
EndsSome holds files asked listens listener sees out out' reads err err' past ended = IfSome ended.service (λ service.
    ServesClients (holds files) asked.definitions.now asked.guarantees.now asked.certificates.now (file_named asked.turns)
    (listens listener asked.listen.now) (gain sees out out') (gain reads err err') (service_state past service) × (ended.status ≡ 0))

-- if no service is returned, no client was served
abbrev pub EndsNone : {F L O E W : Type 0} → (F → Text → Known) → F → ServeArguments → (L → Text → Openings) → L → L
    → (O → Option Text) → O → O → (E → Option Text) → E → E → Ended W → Type 0
EndsNone holds files asked listens listener listener' sees out out' reads err err' ended = IfNone ended.service (
    EndsUnserved (holds files) asked.definitions.now asked.guarantees.now asked.certificates.now
    (listener' ≡ listener) (listens listener asked.listen.now) (gain sees out out') (gain reads err err') ended.status)

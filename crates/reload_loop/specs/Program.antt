-- The program that serves through sockets, and may read its files again while it serves (own).
use Rattle.std.specs.Prelude.{◌≡◌, ◌<◌, ◌≤◌, ◌^◌, ℕ, Bool, true, List, [], Option, Some, None, IfSome, IfNone, ⊤}
use Rattle.std.specs.Str.Parse.{IsNumeral, digits_value, without_leading_plus}
use Rattle.model.specs.Words.{Text}
use Rattle.model.specs.State.{Config}
use Rattle.model.specs.Arrivals.{new_world}
use Rattle.serving.specs.Wire.{Traffic}
use Rattle.serving.specs.Story.{Served, served}
use Rattle.serving.specs.Whole.{IsServed}
use Rattle.engine.specs.Allocating.{MayAllocate}
use Rattle.command_line.specs.CommandLine.{Wanted, Check, Verify, Replay, Serve, Route, AsksFor}
use Rattle.server.specs.Files.{Known, AreKept}
use Rattle.server.specs.Stated.{file_named}
use Rattle.scripts.specs.FileNames.{FileNames}
use Rattle.server.specs.Streams.{OutputStream, TriesPut, change, gain, status_after}
use Rattle.server.specs.declared.clients.Ended.{Ended}
use Rattle.server.specs.declared.clients.ServeArguments.{ServeArguments}
use Rattle.server.specs.Program.{IsInForceBy, RunsAs, out_of_memory}
use Rattle.server.specs.Clients.{CanCome, EndsUnserved, IsTurns, Openings, ServeEnds, service_state}
use Rattle.reload_loop.specs.declared.program.ReloadArguments.{ReloadArguments}
use Rattle.reload_loop.specs.Snapshots.{Snap, IsReadFrom, known_in}
use Rattle.reload_loop.specs.ServesOn.{ServesTelling, between_rounds}

-- the names of the files of `serve`
abbrev pub names_in : ServeArguments → FileNames
names_in a = record { definitions = a.definitions.now; guarantees = a.guarantees.now; certificates = a.certificates.now }

-- `serve` with these arguments, and with the number of rounds between two looks, if one is given
abbrev pub asked_by : ServeArguments → Option Text → Wanted
asked_by a every = Serve a.definitions.now a.guarantees.now a.certificates.now a.listen.now (file_named a.turns) every

-- the words ask to serve the files `names` at the address `listen`, for `turns` rounds if that is given, and, if `every` is given,
-- to look at the files after each `every` rounds
abbrev pub AsksToServe : List Text → FileNames → Text → Option Text → Option Text → Type 0
AsksToServe words names listen turns every = AsksFor words (Serve names.definitions names.guarantees names.certificates listen turns every)

-- a command other than `serve`
abbrev pub IsNotServe : Wanted → Type 0
IsNotServe (Check definitions guarantees out) = ⊤
IsNotServe (Verify definitions guarantees certificates) = ⊤
IsNotServe (Replay script definitions guarantees certificates) = ⊤
IsNotServe (Serve definitions guarantees certificates listen turns reload) = ⊥
IsNotServe (Route definitions exchange key) = ⊤

-- `every`, at least 1, is the number of rounds between two looks: the one that `text` gives, if it gives one from 1 to 2^64 - 1
pub record IsEvery (text : Text) (every : ℕ) : Type 0 where
  pub some : 1 ≤ every
  pub is : IsNumeral 10 (without_leading_plus text) → digits_value 10 (without_leading_plus text) < 2 ^ 64 → 1 ≤ digits_value 10 (without_leading_plus text)
      → every ≡ digits_value 10 (without_leading_plus text)

-- Clients were served by a broker started from the files as they were first read, for the given number of rounds, after the address was
-- reported. Between rounds there were looks at the files, at times that the clock gave.
pub record ServesReloading (gives : ℕ → Type 0) (holds : Text → Known) (names : FileNames) (turns : Option Text)
    (every : Text) (may : Openings) (out err : OutputStream) (end : Served) (whole : Bool) : Type 0 where
  pub first : Snap
  pub read : IsReadFrom holds names first
  pub force : Config
  pub in_force : IsInForceBy (known_in names first) names force
  pub start : Traffic
  -- what standard error holds once the address was reported
  pub said : Option Text
  pub can_come : CanCome may start out (change err.before said)
  pub count : ℕ
  pub counted : IsTurns turns count
  pub step : ℕ
  pub stepped : IsEvery every step
  pub last : Snap
  pub serves : ServesTelling gives holds names step count (between_rounds (served (new_world force) [] start) first None said true)
      (between_rounds end last None err.after whole)
  -- all that arrived at the broker, reloads included, and certified delivery's promises of it
  pub kept : IsServed MayAllocate force start end

-- How `serve --reload` ends: with the server as it is at the end, if clients could connect,
-- and a status that says whether each line of a look was taken whole.
pub data ReloadsEnd (gives : ℕ → Type 0) (holds : Text → Known) (names : FileNames) (turns : Option Text) (every : Text)
    (Unasked : Type 0) (may : Openings) (out err : OutputStream) : Option Served → ℕ → Type 0 where
  unserved : {status : ℕ} (first : Snap) → IsReadFrom holds names first
      → EndsUnserved (known_in names first) names.definitions names.guarantees names.certificates
      Unasked may out err status
      → ReloadsEnd gives holds names turns every Unasked may out err None status
  reloading : {end : Served} {whole : Bool} → ServesReloading gives holds names turns every may out err end whole
      → ReloadsEnd gives holds names turns every Unasked may out err (Some end) (status_after whole 0)

-- the names of the files of `serve --reload`
abbrev pub names_reloaded : ReloadArguments → FileNames
names_reloaded asked = names_in asked.arguments

-- the outcomes that opening sockets for `serve --reload` may have; `listens` says what a listener does with an address
abbrev pub openings_for : {L : Type 0} → (L → Text → Openings) → L → ReloadArguments → Openings
openings_for listens listener asked = listens listener asked.arguments.listen.now

-- If a service is returned, clients were served as `asked`, with looks at the files, and the status says whether each line of a look was taken whole.
-- A function before one state or two says what is known in it: of files, of a listener, of standard output, of standard error, and of sockets.
abbrev pub IfServed : {F L O E W : Type 0} → (ℕ → Type 0) → (F → Text → Known) → F → ReloadArguments → (L → Text → Openings) → L
    → (O → Option Text) → O → O → (E → Option Text) → E → E → (W → Traffic) → Ended W → Type 0
IfServed gives holds files asked listens listener sees out out' reads err err' past ended = IfSome ended.service (λ service.
    (whole : Bool) × ServesReloading gives (holds files) (names_reloaded asked) (file_named asked.arguments.turns) asked.every.now
    (openings_for listens listener asked) (gain sees out out') (gain reads err err') (service_state past service) whole
    × (ended.status ≡ status_after whole 0))

-- if no service is returned, no client was served
abbrev pub IfUnserved : {F L O E W : Type 0} → (ℕ → Type 0) → (F → Text → Known) → F → ReloadArguments → (L → Text → Openings) → L → L
    → (O → Option Text) → O → O → (E → Option Text) → E → E → Ended W → Type 0
IfUnserved gives holds files asked listens listener listener' sees out out' reads err err' ended = IfNone ended.service (
    ReloadsEnd gives (holds files) (names_reloaded asked) (file_named asked.arguments.turns) asked.every.now (listener' ≡ listener)
    (openings_for listens listener asked) (gain sees out out') (gain reads err err') None ended.status)

-- How a call ends that can open sockets; `may` has the outcomes that opening them at an address may have, and `Unasked` says that none were asked for.
-- `gives` says which times the clock may give.
pub data RunsWithSockets (gives : ℕ → Type 0) (words : List Text) (before after : Text → Known) (Unasked : Type 0)
    (may : Text → Openings) (out err : OutputStream) : Option Served → ℕ → Type 0 where
  -- it ends as `program` does, without sockets; if the words ask to serve, it does so only because an allocation failed before they were read
  without : {status : ℕ} → RunsAs words before after out err status → Unasked
      → ((names : FileNames) (listen : Text) (turns every : Option Text) → AsksToServe words names listen turns every → TriesPut err out_of_memory 4 status)
      → RunsWithSockets gives words before after Unasked may out err None status
  -- the words ask to serve, and not to read the files again
  serves : {end : Option Served} {status : ℕ} (names : FileNames) (listen : Text) (turns : Option Text)
      → AsksToServe words names listen turns None → AreKept before after
      → ServeEnds before names.definitions names.guarantees names.certificates turns Unasked (may listen) out err end status
      → RunsWithSockets gives words before after Unasked may out err end status
  -- the words ask to serve, and to read the files again
  reloads : {end : Option Served} {status : ℕ} (names : FileNames) (listen every : Text) (turns : Option Text)
      → AsksToServe words names listen turns (Some every) → AreKept before after
      → ReloadsEnd gives before names turns every Unasked (may listen) out err end status
      → RunsWithSockets gives words before after Unasked may out err end status

-- The command line of warren, in the terms of clap's contract: which subcommand the words name, and with which arguments (own).
use Rattle.std.specs.Prelude.{◌≡◌, ◌⊎◌, ℕ, List, [], Option, Some, None, false, true, codes, if◌then◌else◌, option_map, option_and_then}
use Rattle.std.specs.Str.{bytes_eq}
use Rattle.clap.specs.Words.{App, Row, Rule, Text, app_of, first_of, new_app, new_rule, subcommand_of, with_rule, with_subcommand, fault_of, kind_of}
use Rattle.clap.specs.declared.builder.command.Command.{Command}
use Rattle.clap.specs.declared.builder.command.Command.TheViews.{out-Command as fields_of}
use Rattle.clap.specs.declared.error.Error.{Error}
use Rattle.clap.specs.declared.error.kind.ErrorKind.TheVariants.{OutOfMemory}
use Rattle.clap.specs.declared.builder.ArgAction.TheVariants.{Set}
use Rattle.clap.specs.declared.builder.value_parser.ValueParser.TheVariants.{Unsigned}
use Rattle.command_line.specs.declared.asked.Asked.{Asked}
use Rattle.command_line.specs.declared.asked.Asked.TheVariants as asked

-- ---- the subcommands and their arguments

-- `command` has the arguments of `wanted`, and passes none of them on to its subcommands
pub record IsCommand (command : Command) (wanted : App) : Type 0 where
  pub app : app_of command ≡ wanted
  pub local : (fields_of command).has_globals ≡ false

-- a positional argument that has to be given
abbrev pub needed : Text → Rule
needed id = record (new_rule id) { required = true; action = Some Set }

-- an option `--id FILE`
abbrev pub option : Text → Rule
option id = record (new_rule id) { long = Some id; action = Some Set; value_names = 1 }

-- an option `--id VALUE` that has to be given
abbrev pub needed_option : Text → Rule
needed_option id = record (option id) { required = true }

-- an option `--id N` with a decimal number, from `least` to 2^64 - 1
abbrev pub number_option : ℕ → Text → Rule
number_option least id = record (option id) { parser = Some (Unsigned least 18446744073709551615) }

-- a command with the arguments `DEFS GUARANTEES`
abbrev pub over_guarantees : Text → App
over_guarantees name = with_rule (with_rule (new_app name) (needed (codes "DEFS"))) (needed (codes "GUARANTEES"))

-- `check DEFS GUARANTEES [--out FILE]`
abbrev pub check : App
check = with_rule (over_guarantees (codes "check")) (option (codes "out"))

-- `verify DEFS GUARANTEES CERTS`
abbrev pub verify : App
verify = with_rule (over_guarantees (codes "verify")) (needed (codes "CERTS"))

-- `replay SCRIPT [--definitions FILE]`
abbrev pub replay_over : App
replay_over = with_rule (with_rule (new_app (codes "replay")) (needed (codes "SCRIPT"))) (option (codes "definitions"))

-- `replay SCRIPT [--definitions FILE] [--guarantees FILE] [--certificates FILE]`
abbrev pub replay : App
replay = with_rule (with_rule replay_over (option (codes "guarantees"))) (option (codes "certificates"))

-- `serve DEFS GUARANTEES CERTS --listen IP:PORT`
abbrev pub serve_at : App
serve_at = with_rule (with_rule (over_guarantees (codes "serve")) (needed (codes "CERTS"))) (needed_option (codes "listen"))

-- `serve DEFS GUARANTEES CERTS --listen IP:PORT [--turns N]`
abbrev pub serve_for : App
serve_for = with_rule serve_at (number_option 0 (codes "turns"))

-- `serve DEFS GUARANTEES CERTS --listen IP:PORT [--turns N] [--reload N]`
abbrev pub serve : App
serve = with_rule serve_for (number_option 1 (codes "reload"))

-- `route DEFS EXCHANGE KEY`
abbrev pub route : App
route = with_rule (with_rule (with_rule (new_app (codes "route")) (needed (codes "DEFS"))) (needed (codes "EXCHANGE"))) (needed (codes "KEY"))

-- a program that has to be called with one of its subcommands, or with `--version`
abbrev pub with_subcommands : Text → App
with_subcommands name = record (new_app name) { top = record (new_app name).top { has_version = true; subcommand_required = true } }

-- the program with the subcommands that judge guarantees
abbrev pub judging : App
judging = with_subcommand (with_subcommand (with_subcommands (codes "warren")) check.top) verify.top

-- the program with the subcommands that judge guarantees and those that run a broker
abbrev pub running : App
running = with_subcommand (with_subcommand judging replay.top) serve.top

-- the program with all its subcommands
abbrev pub warren : App
warren = with_subcommand running route.top

-- ---- the commands

-- a command with its arguments
pub data Wanted : Type 0 where
  Check : (definitions guarantees : Text) (out : Option Text) → Wanted
  Verify : (definitions guarantees certificates : Text) → Wanted
  Replay : (script : Text) (definitions guarantees certificates : Option Text) → Wanted
  Serve : (definitions guarantees certificates listen : Text) (turns reload : Option Text) → Wanted
  Route : (definitions exchange key : Text) → Wanted

-- the command of an `Asked`, with the texts that it borrows
abbrev pub wanted_of : Asked → Wanted
wanted_of (asked.Check definitions guarantees out) = Check definitions.now guarantees.now (option_map (λ file. file.now) out)
wanted_of (asked.Verify definitions guarantees certificates) = Verify definitions.now guarantees.now certificates.now
wanted_of (asked.Replay script definitions guarantees certificates) =
    Replay script.now (option_map (λ file. file.now) definitions) (option_map (λ file. file.now) guarantees) (option_map (λ file. file.now) certificates)
wanted_of (asked.Serve definitions guarantees certificates listen turns reload) =
    Serve definitions.now guarantees.now certificates.now listen.now (option_map (λ n. n.now) turns) (option_map (λ n. n.now) reload)
wanted_of (asked.Route definitions exchange key) = Route definitions.now exchange.now key.now

-- the meaning of `←` below: if a text is missing, there is no command
infixl 10 ◌>>=◌
abbrev pub ◌>>=◌ : {A B : Type 0} → Option A → (A → Option B) → Option B
o >>= f = option_and_then f o

-- the command that the arguments of `check` ask for
abbrev pub check_of : List Row → Option Wanted
check_of rows = do
  definitions ← first_of (codes "DEFS") rows
  guarantees ← first_of (codes "GUARANTEES") rows
  Some (Check definitions guarantees (first_of (codes "out") rows))

-- the command that the arguments of `verify` ask for
abbrev pub verify_of : List Row → Option Wanted
verify_of rows = do
  definitions ← first_of (codes "DEFS") rows
  guarantees ← first_of (codes "GUARANTEES") rows
  certificates ← first_of (codes "CERTS") rows
  Some (Verify definitions guarantees certificates)

-- the command that the arguments of `replay` ask for
abbrev pub replay_of : List Row → Option Wanted
replay_of rows = do
  script ← first_of (codes "SCRIPT") rows
  Some (Replay script (first_of (codes "definitions") rows) (first_of (codes "guarantees") rows) (first_of (codes "certificates") rows))

-- the command that the arguments of `serve` ask for
abbrev pub serve_of : List Row → Option Wanted
serve_of rows = do
  definitions ← first_of (codes "DEFS") rows
  guarantees ← first_of (codes "GUARANTEES") rows
  certificates ← first_of (codes "CERTS") rows
  listen ← first_of (codes "listen") rows
  Some (Serve definitions guarantees certificates listen (first_of (codes "turns") rows) (first_of (codes "reload") rows))

-- the command that the arguments of `route` ask for
abbrev pub route_of : List Row → Option Wanted
route_of rows = do
  definitions ← first_of (codes "DEFS") rows
  exchange ← first_of (codes "EXCHANGE") rows
  key ← first_of (codes "KEY") rows
  Some (Route definitions exchange key)

-- the command that the subcommand `named.0` asks for with the arguments `named.1`
abbrev pub wanted_by : Text × List Row → Option Wanted
wanted_by named =
    if bytes_eq named.0 (codes "check") then check_of named.1 else
    if bytes_eq named.0 (codes "verify") then verify_of named.1 else
    if bytes_eq named.0 (codes "replay") then replay_of named.1 else
    if bytes_eq named.0 (codes "serve") then serve_of named.1 else
    if bytes_eq named.0 (codes "route") then route_of named.1 else
    None

-- ---- the words

-- clap finds no fault in `words`, and they ask for the command `wanted` with its arguments
pub record AsksFor (words : List Text) (wanted : Wanted) : Type 0 where
  pub faultless : fault_of warren words ≡ []
  pub named : option_and_then wanted_by (subcommand_of warren words) ≡ Some wanted

-- `words` ask for the command `asked`
abbrev pub Asks : List Text → Asked → Type 0
Asks words asked = AsksFor words (wanted_of asked)

-- `words` ask for no command, as a call for help does
abbrev pub AsksNothing : List Text → Type 0
AsksNothing words = (wanted : Wanted) → AsksFor words wanted → ⊥

-- `words` are refused with the error `e` only if an allocation failed, which its kind says, or if they ask for no command
abbrev pub AreWordsRefused : List Text → Error → Type 0
AreWordsRefused words e = (kind_of e ≡ OutOfMemory) ⊎ AsksNothing words

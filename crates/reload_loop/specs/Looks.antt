-- One look at the files between rounds: what they state is put in force, or a line says why not, once a minute at most (own).
use Rattle.std.specs.Prelude.{◌++◌, ℕ, Bool, true, Option, Some, None, Result, Ok, Err, is_ok, codes, ⊤}
use Rattle.model.specs.Words.{Text}
use Rattle.model.specs.State.{Config}
use Rattle.model.specs.Arrivals.{World, Same}
use Rattle.model.specs.Reloading.{IsObstacle}
use Rattle.model.specs.declared.obstacles.Obstacle.{Obstacle}
use Rattle.runs.specs.Reloaded.{IsPutInForce, NothingHinders}
use Rattle.runs.specs.Faults.{obstacle_in}
use Rattle.runs.specs.Wants.{To_reload}
use Rattle.engine.specs.Allocating.{JudgingOfferMayAllocate, MayAllocate}
use Rattle.runs.specs.declared.faults.ReloadFault.{ReloadFault}
use Rattle.engine.specs.World.{Parts, world_of}
use Rattle.serving.specs.Serving.{Serving}
use Rattle.server.specs.Files.{Known}
use Rattle.scripts.specs.FileNames.{FileNames}
use Rattle.scripts.specs.Transcript.{obstacle_line}
use Rattle.server.specs.declared.refusals.CommandRefusal.{CommandRefusal}
use Rattle.server.specs.Program.{FailsBy, IsInForceBy, WritesLine, out_of_memory, refusal_line}
use Rattle.server.specs.Streams.{OutputStream, GetsNothing, PutsOut, gain}
use Rattle.reload_loop.specs.declared.found.Found.{Found}
use Rattle.reload_loop.specs.declared.found.Found.TheVariants.{Nothing, Refused, Admitted, Wanting}
use Rattle.reload_loop.specs.declared.snapshots.Names.{Names}
use Rattle.reload_loop.specs.Snapshots.{Snap, AreHeld, IsOther, IsReadFrom, known_in, names_of}
use Rattle.reload_loop.specs.Telling.{Told, Tells, Carries, IsCarried, told_at, told_of}

-- the line that reports an obstacle: `warren: ` and the line of the note
abbrev pub obstacle_message : Obstacle → Text
obstacle_message o = codes "warren: " ++ obstacle_line o

-- the line of the obstacle was written, or, if there is none, the line of an allocation failure: the whole line, or else a prefix of it
abbrev pub IsWhyNotReported : OutputStream → Option Obstacle → Bool → Type 0
IsWhyNotReported err (Some o) whole = WritesLine err (obstacle_message o) whole
IsWhyNotReported err None whole = PutsOut err out_of_memory whole

-- the line that says why a reload was not done was written: the whole line, or else a prefix
abbrev pub IsFaultReported : OutputStream → ReloadFault → Bool → Type 0
IsFaultReported err fault whole = IsWhyNotReported err (obstacle_in fault) whole

-- by the texts that were read, the files put `force` in force
abbrev pub IsStated : FileNames → Snap → Config → Type 0
IsStated names read force = IsInForceBy (known_in names read) names force

-- by the texts that were read, `file` names the file or certificate that is refused, and `why` is the reason
abbrev pub IsWhyRefused : FileNames → Snap → Text → CommandRefusal → Type 0
IsWhyRefused names read file why = FailsBy (known_in names read) names file why

-- ---- what is remembered between looks

-- The files, as read, are refused, naming `file` for the reason `why`, and differ from the texts that are kept.
pub record IsRefusal (names : FileNames) (kept read : Snap) (file : Text) (why : CommandRefusal) : Type 0 where
  pub other : IsOther read kept
  pub fails : IsWhyRefused names read file why

-- The files, as read, state the configuration `force`, and differ from the texts that are kept.
pub record IsOffered (names : FileNames) (kept read : Snap) (force : Config) : Type 0 where
  pub other : IsOther read kept
  pub states : IsStated names read force

-- what an earlier look found and did not put in force, if anything
abbrev pub WasFound : FileNames → Snap → Found → Type 0
WasFound names kept Nothing = ⊤
WasFound names kept (Refused read report at) = IsRefusal names kept read report.file.now report.why
WasFound names kept (Admitted read force at) = IsOffered names kept read force
WasFound names kept (Wanting read at) = ⊤

-- the files still are as they were when an earlier look read what it found; false if it found nothing
abbrev pub IsFoundAgain : (Text → Known) → FileNames → Found → Type 0
IsFoundAgain holds names Nothing = ⊥
IsFoundAgain holds names (Refused read report at) = IsReadFrom holds names read
IsFoundAgain holds names (Admitted read force at) = IsReadFrom holds names read
IsFoundAgain holds names (Wanting read at) = ⊥

-- what a look finds in the files: `Nothing` if they have the texts that are kept, otherwise a refusal or a configuration
abbrev pub IsFound : (Text → Known) → FileNames → Snap → Found → Type 0
IsFound holds names kept Nothing = AreHeld holds names kept
IsFound holds names kept (Refused read report at) = IsReadFrom holds names read × IsRefusal names kept read report.file.now report.why
IsFound holds names kept (Admitted read force at) = IsReadFrom holds names read × IsOffered names kept read force
IsFound holds names kept (Wanting read at) = ⊥

-- ---- an offered configuration

-- why judging does not let `offered` be put in force: its first obstacle, or, for `None`, an allocation failure, which is possible at this judging
abbrev pub IsWhyNotPut : World → Config → Option Obstacle → Type 0
IsWhyNotPut old offered (Some o) = IsObstacle old.config.topology offered old.state.broker o
IsWhyNotPut old offered None = JudgingOfferMayAllocate old offered

-- there is no obstacle to `offered`, or the result says why it is not put in force
abbrev pub JudgesOffer : World → Config → Result Unit ReloadFault → Type 0
JudgesOffer old offered (Ok x) = NothingHinders old offered
JudgesOffer old offered (Err fault) = IsWhyNotPut old offered (obstacle_in fault)

-- ---- a look

-- What a look does at the time `now`. It leads from the last line about files that were not put in force, the kept texts, by which the configuration in
-- force was judged, and the world before it to those after it. If anything is refused it reports one line, but none about files of which it did in the
-- 60 seconds before (`Tells`); otherwise it reports none. The last argument is whether standard error took the whole line.
pub data Looks (holds : Text → Known) (names : FileNames) (now : ℕ) (err : OutputStream) (told : Option Told) (kept : Snap) (old : World)
    : Option Told → Snap → World → Bool → Type 0 where
  -- the files have the kept texts
  unchanged : AreHeld holds names kept → GetsNothing err → Looks holds names now err told kept old None kept old true
  -- the files have other texts, and what they state is in force now
  done : {read : Snap} {new : World} (force : Config) → IsReadFrom holds names read → IsOther read kept → IsStated names read force → IsPutInForce old force new
      → GetsNothing err → Looks holds names now err told kept old None read new true
  -- the files have other texts, and are refused
  refused : {at : ℕ} {whole : Bool} (read : Snap) (file : Text) (why : CommandRefusal) → IsReadFrom holds names read → IsOther read kept
      → IsWhyRefused names read file why → Tells told now read err (WritesLine err (refusal_line file why)) at whole
      → Looks holds names now err told kept old (Some (told_at read at)) kept old whole
  -- the files have other texts, and there is an obstacle to what they state
  stopped : {at : ℕ} {new : World} {whole : Bool} (read : Snap) (force : Config) (o : Obstacle)
      → IsReadFrom holds names read → IsOther read kept → IsStated names read force
      → IsObstacle old.config.topology force old.state.broker o → Same old new
      → Tells told now read err (WritesLine err (obstacle_message o)) at whole
      → Looks holds names now err told kept old (Some (told_at read at)) kept new whole
  -- the files have other texts, and an allocation failed, as is possible only if there is no obstacle to what they state, or if judging it may allocate
  wanting : {at : ℕ} {new : World} {whole : Bool} (read : Snap) (force : Config)
      → IsReadFrom holds names read → IsOther read kept → IsStated names read force
      → MayAllocate old (To_reload force) → Same old new
      → Tells told now read err (PutsOut err out_of_memory) at whole
      → Looks holds names now err told kept old (Some (told_at read at)) kept new whole

-- ---- a look, by the server whose broker it reloads

-- A look at the files `names`, which leads from what is remembered, the texts `kept` and the server `old` to those after it. A function before one state
-- or two says what is known in it: of files, and of standard error.
abbrev pub LooksFrom : {F E X Y : Type 0} → (F → Text → Known) → F → Names → ℕ → (E → Option Text) → E → E
    → Found → Snap → Serving Parts → Found → Snap → Serving Parts → Result X Y → Type 0
LooksFrom holds files names now reads err err' found kept old found' kept' new result = Looks (holds files) (names_of names) now (gain reads err err')
    (told_of found) kept (world_of old.machine) (told_of found') kept' (world_of new.machine) (is_ok result)

-- a look at any files in which it finds `found`, whatever line came last
abbrev pub ActsOnFound : Found → ℕ → OutputStream → Snap → Serving Parts → Found → Snap → Serving Parts → Bool → Type 0
ActsOnFound found now err kept old found' kept' new whole = (holds : Text → Known) (names : FileNames) (told : Option Told)
    → IsFound holds names kept found → Carries told found
    → Looks holds names now err told kept (world_of old.machine) (told_of found') kept' (world_of new.machine) whole

-- a look at any files from which `read` was read, by which it offers `force`, and about which the last line was written at `at`
abbrev pub PutsOffer : Snap → Config → Option ℕ → ℕ → OutputStream → Snap → Serving Parts → Found → Snap → Serving Parts → Bool → Type 0
PutsOffer read force at now err kept old found' kept' new whole = (holds : Text → Known) (names : FileNames) (told : Option Told)
    → IsReadFrom holds names read → IsOffered names kept read force → IsCarried told read at
    → Looks holds names now err told kept (world_of old.machine) (told_of found') kept' (world_of new.machine) whole

-- What a look comes to, by its steps.
use Rattle.reload_loop.proofs.Imports.{◌≡◌, Bool, false, Decides, Option, Some, None, refl, subst, sym, Ok, Err, Text, Config, World, Same, MayAllocate, Known, AreKept, FileNames, OutputStream, change, Found, Snap, AreHeld, IsReadFrom, IsFaultReported, IsFound, IsFoundAgain, IsOffered, IsWhyNotPut, JudgesOffer, Looks, WasFound, ℕ, Tells, Told, told_at, done, refused, stopped, wanting}
use Rattle.std.proofs.Common.{true}
use Rattle.std.specs.Io.KnownBytes.{Keeps}
use Rattle.runs.specs.Reloaded.{IsPutInForce}
use Rattle.model.specs.declared.obstacles.Obstacle.{Obstacle}
use Rattle.model.specs.declared.obstacles.Obstacle.TheVariants as obstacle
use Rattle.runs.specs.Faults.{obstacle_in}
use Rattle.runs.specs.Wants.{To_reload}
use Rattle.engine.specs.Allocating.{judges}
use Rattle.engine.specs.Offered.{JudgesOffered}
use Rattle.runs.specs.declared.faults.ReloadFault.{ReloadFault}
use Rattle.runs.specs.declared.faults.ReloadFault.TheVariants.{InUse, Breaks, Memory}
use Rattle.server.specs.declared.refusals.Report.{Report}
use Rattle.server.specs.Program.{WritesLine, refusal_line}
use Rattle.reload_loop.specs.declared.found.Found.TheVariants.{Nothing, Refused, Admitted, Wanting}

-- a stream that was not written to
pub untouched : (o : Option Text) → Keeps o o
untouched None = tt
untouched (Some bytes) = refl

-- what is known of the files stays
pub same_holds : (f g : Text → Known) → AreKept f g → g ≡ f
same_holds f g k = λ i name. k name i

-- what is decided so is so, or not
pub is_not : (b : Bool) (P : Type 0) → b ≡ false → Decides b P → P → ⊥
is_not b P no' d p = let so : b ≡ true = d.1 p in cc

-- what was found before is found in files that are found as they were read then
pub found_again : (holds : Text → Known) (names : FileNames) (kept : Snap) (found : Found) → WasFound names kept found → IsFoundAgain holds names found → IsFound holds names kept found
found_again holds names kept Nothing was again = absurd again
found_again holds names kept (Refused read report at) was again = (again, was)
found_again holds names kept (Admitted read force at) was again = (again, was)
found_again holds names kept (Wanting read at) was again = absurd again

-- what is found now was found
pub was_found : (holds : Text → Known) (names : FileNames) (kept : Snap) (found : Found) → IsFound holds names kept found → WasFound names kept found
was_found holds names kept Nothing is = tt
was_found holds names kept (Refused read report at) is = is.1
was_found holds names kept (Admitted read force at) is = is.1
was_found holds names kept (Wanting read at) is = tt

-- files that have what is kept, once what is known of them stayed, had it before
pub held_before : (a b : Text → Known) (names : FileNames) (s : Snap) → AreKept a b → AreHeld b names s → AreHeld a names s
held_before a b names s k h = subst (λ (x : Text → Known). AreHeld x names s) (same_holds a b k) h

-- what is found in files once what is known of them stayed is found in those before
pub found_before : (a b : Text → Known) (names : FileNames) (kept : Snap) (found : Found) → AreKept a b → IsFound b names kept found → IsFound a names kept found
found_before a b names kept found k = subst (λ (x : Text → Known). IsFound x names kept found) (same_holds a b k)

-- what was refused is reported
pub refused_look : (holds : Text → Known) (names : FileNames) (now : ℕ) (err : OutputStream) (told : Option Told) (kept read : Snap) (old : World) (report : Report) (was : Option ℕ) (at : ℕ) (whole : Bool)
    → IsFound holds names kept (Refused read report was) → Tells told now read err (WritesLine err (refusal_line report.file.now report.why)) at whole
    → Looks holds names now err told kept old (Some (told_at read at)) kept old whole
refused_look holds names now err told kept read old report was at whole is tells = refused read report.file.now report.why is.0 is.1.other is.1.fails tells

pub done_look : (holds : Text → Known) (names : FileNames) (now : ℕ) (o : Option Text) (told : Option Told) (kept read : Snap) (a b : World) (force : Config) → IsReadFrom holds names read → IsOffered names kept read force → IsPutInForce a force b
    → Looks holds names now (change o o) told kept a None read b true
done_look holds names now o told kept read a b force from f p = done force from f.other f.states p (untouched o)

-- the obstacle to it is reported, or there is none
pub stands : (w : World) (force : Config) (found : Option Obstacle) (o : Obstacle) (fault : ReloadFault) → found ≡ Some o → JudgesOffered w force found → obstacle_in fault ≡ Some o → JudgesOffer w force (Err fault)
stands w force found o fault is t report = subst (λ (z : Option Obstacle). IsWhyNotPut w force z) (sym report) (subst (λ (z : Option Obstacle). JudgesOffered w force z) is t)

pub none_stands : (w : World) (force : Config) (found : Option Obstacle) → found ≡ None → JudgesOffered w force found → JudgesOffer w force (Ok tt)
none_stands w force found none t = subst (λ (z : Option Obstacle). JudgesOffered w force z) none t

same_world : (w : World) → Same w w
same_world w = record { config = refl; state = refl; given = refl; wires = λ c. refl }

-- why it is not put in force is reported, and nothing is different
pub judged_look : (holds : Text → Known) (names : FileNames) (now : ℕ) (err : OutputStream) (told : Option Told) (kept read : Snap) (w : World) (force : Config) (fault : ReloadFault) (at : ℕ) (whole : Bool)
    → IsReadFrom holds names read → IsOffered names kept read force
    → JudgesOffer w force (Err fault) → Tells told now read err (IsFaultReported err fault) at whole → Looks holds names now err told kept w (Some (told_at read at)) kept w whole
judged_look holds names now err told kept read w force (InUse q) at whole from f judged report = stopped read force (obstacle.InUse q) from f.other f.states judged (same_world w) report
judged_look holds names now err told kept read w force (Breaks q key number) at whole from f judged report = stopped read force (obstacle.Breaks q key number) from f.other f.states judged (same_world w) report
judged_look holds names now err told kept read w force Memory at whole from f judged report = wanting read force from f.other f.states (judges judged) (same_world w) report

-- and where an allocation failed
pub unput_look : (holds : Text → Known) (names : FileNames) (now : ℕ) (err : OutputStream) (told : Option Told) (kept read : Snap) (a b : World) (force : Config) (at : ℕ) (whole : Bool)
    → IsReadFrom holds names read → IsOffered names kept read force
    → MayAllocate a (To_reload force) → Same a b → Tells told now read err (IsFaultReported err Memory) at whole → Looks holds names now err told kept a (Some (told_at read at)) kept b whole
unput_look holds names now err told kept read a b force at whole from f may same report = wanting read force from f.other f.states may same report

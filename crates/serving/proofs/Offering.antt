-- A reload between two calls that serve: what is offered is decided, or memory was refused, and no slot and no output is different.
use Rattle.serving.proofs.Names.{◌≡◌, ℕ, List, [], Bool, Option, refl, ◌∙◌, arith, Result, Ok, Err, OnOk, OnErr, Config, Occurrence, IsSound, World, Reloads, Same, Lacks, To_reload, Traffic, whole, short, served, Reload_decided, Reload_undecided, IsServerKept, IsServed, Peer}
use Rattle.model.specs.declared.events.Arrival.TheVariants as arrival
use Rattle.model.specs.declared.obstacles.Obstacle.TheVariants as obstacle
use Rattle.slab.specs.Slab.{Slab}
use Rattle.runs.specs.Reloaded.{IsPutInForce, ReportsReload, IsMemory, wanting}
use Rattle.runs.specs.declared.faults.ReloadFault.{ReloadFault}
use Rattle.runs.specs.declared.faults.ReloadFault.TheVariants.{InUse, Breaks, Memory}
use Rattle.runs.proofs.Reloads.{put_reloads, refused_reloads}
use Rattle.serving.proofs.Onward.{tells_none, attempt_one}
use Rattle.serving.proofs.Others.{StaysFor, same_stays, gone_stays}
use Rattle.serving.proofs.Fits.{fit_within}
use Rattle.serving.proofs.Quieting.{still_quiet}
use Rattle.serving.proofs.Fullness.{full_stays}
use Rattle.serving.proofs.Keeping.{Went, went_one, went_on}

-- ---- the deed

decided : {L : Lacks} (a b : World) (ps : List (Option Peer)) (traffic : Traffic) (offered : Config) → IsSound offered → (os : List Occurrence) → Reloads a offered os b → Went L (served a ps traffic) (served b ps traffic)
decided {L = L} a b ps traffic offered sound os p =
    went_one (served a ps traffic) (served b ps traffic) (Reload_decided offered) os (record { table = (sound, refl); brings = attempt_one L a b (whole (arrival.Reload offered)) os p; greets = tt; traffic = tells_none traffic })

undecided : {L : Lacks} (a b : World) (ps : List (Option Peer)) (traffic : Traffic) (offered : Config) → IsSound offered → L a (To_reload offered) → Same a b → Went L (served a ps traffic) (served b ps traffic)
undecided {L = L} a b ps traffic offered sound wants same =
    went_one (served a ps traffic) (served b ps traffic) (Reload_undecided offered) [] (record { table = (sound, refl); brings = attempt_one L a b (short (arrival.Reload offered)) [] ([], refl, (wants, (refl, same))); greets = tt; traffic = tells_none traffic })

went_reload : {L : Lacks} (a b : World) (ps : List (Option Peer)) (traffic : Traffic) (offered : Config) (r : Result Unit ReloadFault) → IsSound offered → ReportsReload a offered r b → (IsMemory r → L a (To_reload offered)) → Went L (served a ps traffic) (served b ps traffic)
went_reload a b ps traffic offered (Ok x) sound p wants = decided a b ps traffic offered sound _ (put_reloads a b offered p)
went_reload a b ps traffic offered (Err (InUse q)) sound p wants = decided a b ps traffic offered sound _ (refused_reloads a b offered (obstacle.InUse q) p.0 p.1)
went_reload a b ps traffic offered (Err (Breaks q key number)) sound p wants = decided a b ps traffic offered sound _ (refused_reloads a b offered (obstacle.Breaks q key number) p.0 p.1)
went_reload a b ps traffic offered (Err Memory) sound p wants = undecided a b ps traffic offered sound (wants wanting) p

-- what was served before is served after
pub served_reloaded : {L : Lacks} (f : Config) (traffic now : Traffic) (a b : World) (ps : List (Option Peer)) (offered : Config) (r : Result Unit ReloadFault) → IsSound offered → ReportsReload a offered r b → (IsMemory r → L a (To_reload offered))
    → IsServed L f traffic (served a ps now) → IsServed L f traffic (served b ps now)
served_reloaded f traffic now a b ps offered r sound p wants was = went_on f traffic (served a ps now) (served b ps now) (went_reload a b ps now offered r sound p wants) was

-- ---- a configuration that is put in force without an obstacle

-- as a reload, it was done, or an allocation failed
abbrev pub as_reload : {E : Type 0} → Result Unit E → Result Unit ReloadFault
as_reload (Ok x) = Ok x
as_reload (Err e) = Err Memory

pub reports_reload : {E : Type 0} (a b : World) (offered : Config) (r : Result Unit E) → OnOk r (IsPutInForce a offered b) → OnErr r (Same a b) → ReportsReload a offered (as_reload r) b
reports_reload a b offered (Ok x) done same = done
reports_reload a b offered (Err e) done same = same

pub lacks_reload : {E : Type 0} (L : Lacks) (a : World) (offered : Config) (r : Result Unit E) → OnErr r (L a (To_reload offered)) → IsMemory (as_reload r) → L a (To_reload offered)
lacks_reload L a offered (Ok x) wants memory = elim memory [ ]
lacks_reload L a offered (Err e) wants memory = wants

-- ---- what stays

stays : (a b : World) (offered : Config) (r : Result Unit ReloadFault) → ReportsReload a offered r b → (c : ℕ) → StaysFor c a b
stays a b offered (Ok x) p c = record { wire = p.wires c; session = p.session c }
stays a b offered (Err (InUse q)) p c = same_stays a b p.1 c
stays a b offered (Err (Breaks q key number)) p c = same_stays a b p.1 c
stays a b offered (Err Memory) p c = same_stays a b p c

given_stays : (a b : World) (offered : Config) (r : Result Unit ReloadFault) → ReportsReload a offered r b → b.given ≡ a.given
given_stays a b offered (Ok x) p = p.given
given_stays a b offered (Err (InUse q)) p = p.1.given
given_stays a b offered (Err (Breaks q key number)) p = p.1.given
given_stays a b offered (Err Memory) p = p.given

-- slots and marks are as they should be after it
pub kept_reloaded : (a b : World) (peers : Slab Peer) (marks full : List Bool) (buffer : List ℕ) (offered : Config) (r : Result Unit ReloadFault) → ReportsReload a offered r b → IsServerKept a peers marks full buffer → IsServerKept b peers marks full buffer
kept_reloaded a b peers marks full buffer offered r p k =
    let ps = peers.slots in
    let same = given_stays a b offered r p in
    let was = k.settled in
    record {
      settled = record {
        in_slots = record {
          fit = fit_within a b ps ps (omega (arith, same)) (λ j q at. at) was.in_slots.fit;
          quiet = still_quiet a b ps ps marks marks was.in_slots.quiet (λ j q at m. (at, m, stays a b offered r p q.connection));
        };
        ended = λ i q at. gone_stays a b q.connection (stays a b offered r p q.connection) ∙ was.ended i q at;
        most = was.most;
      };
      full = full_stays a b ps full (λ c. stays a b offered r p c) k.full;
      room = k.room;
    }

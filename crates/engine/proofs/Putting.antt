-- What is put in force leaves an engine one.
use Rattle.engine.proofs.Names.{◌≡◌, ◌∙◌, ℕ, List, Some, None, refl, sym, ap, subst, OnErr, Config, World, Same, IsSound, Guarantee, AllHold, Topology, IsWellFormed, User, Is, Obstacle, stay_consistent, worlds_named, IsPutInForce, IsMemory, wanting, puts, To_reload, MayAllocate, WithTurn, in_force, Parts, connection_in, session_of, wire_of, config_of, world_of, AreConnections, IsEngine, Connection}
use Rattle.std.proofs.Common.{Result, Ok, Err}
use Rattle.model.specs.Reloading.{with_all_survived}
use Rattle.runs.specs.Reloaded.{NothingHinders}
use Rattle.runs.proofs.Reloads.{put_reloads}
use Rattle.runs.specs.Faults.{obstacle_in}
use Rattle.runs.specs.declared.faults.ReloadFault.{ReloadFault}
use Rattle.certificate.specs.Admitted.{Admitted}
use Rattle.broker.specs.Turns.{topology_kept, broker_of}
use Rattle.engine.proofs.Agreeing.{Agrees, agreed}

-- ---- what a reload that was done leaves

put_agrees : (old new : World) (offered : Config) → IsSound offered → Agrees old → IsPutInForce old offered new → Agrees new
put_agrees old new offered sound k p =
    let done = put_reloads old new offered p in
    record { consistent = stay_consistent.reloads old new offered _ sound k.consistent done; named = worlds_named.reloads old new offered _ k.named done }

-- the broker runs the topology that was offered, to which there was no obstacle, what is in force is what was offered, and the connections are as before
pub record Takes (old : Parts) (offered : Config) (new : Parts) : Type 0 where
  pub nothing : NothingHinders (world_of old) offered
  pub topology : topology_kept new.broker ≡ offered.topology
  pub broker : Is (with_all_survived (broker_of old.broker)) (broker_of new.broker)
  pub guarantees : new.guarantees ≡ offered.guarantees
  pub users : new.users ≡ offered.users
  pub given : new.given ≡ old.given
  pub connections : new.connections ≡ old.connections

pub put_world : (old new : Parts) (offered : Config) → Takes old offered new → IsPutInForce (world_of old) offered (world_of new)
put_world old new offered t = record {
  nothing = t.nothing;
  config = λ i. record { topology = t.topology i; guarantees = t.guarantees i; users = t.users i };
  broker = t.broker;
  session = λ c. ap (λ (ls : List Connection). session_of (connection_in ls c)) t.connections;
  given = t.given;
  wires = λ c. ap (λ (ls : List Connection). wire_of (connection_in ls c)) t.connections;
}

pub put_engine : (old new : Parts) (offered : Config) → IsEngine old → IsSound offered → Takes old offered new → IsEngine new
put_engine old new offered e sound t =
    let put = put_world old new offered t in
    let is_sound : IsSound (config_of new) = subst IsSound (sym put.config) sound in
    let after = put_agrees (world_of old) (world_of new) offered sound (agreed old e) put in
    record {
      hold = is_sound.hold;
      formed = is_sound.wf;
      connections = subst (λ (ls : List Connection). AreConnections new.given ls) (sym t.connections) (subst (λ (n : ℕ). AreConnections n old.connections) (sym t.given) e.connections);
      consistent = after.consistent;
      named = after.named;
    }

-- ---- what is offered, by its parts

pub offered_sound : (checked : Admitted) (users : List User) (t : Topology) (gs : List Guarantee) → t ≡ checked.topology → gs ≡ checked.guarantees → AllHold t gs → IsWellFormed t → IsSound (in_force checked users)
offered_sound checked users t gs te ge hold wf =
    subst IsSound (λ i. record { topology = te i; guarantees = ge i; users = users }) (record { wf = wf; hold = hold })

-- without an obstacle to a setup there is none to its parts
pub unhindered : {old now : Parts} {setup offered : Config} → old ≡ now → setup ≡ offered → NothingHinders (world_of now) setup → NothingHinders (world_of old) offered
unhindered {old = old} {setup = setup} is given nothing =
    subst (λ (s : Config). NothingHinders (world_of old) s) given (subst (λ (p : Parts). NothingHinders (world_of p) setup) (sym is) nothing)

-- a setup is put in force by its parts
pub takes : (old : Parts) (b : WithTurn) (checked : Admitted) (users : List User) (t : Topology) (gs : List Guarantee) → t ≡ checked.topology → gs ≡ checked.guarantees
    → NothingHinders (world_of old) (in_force checked users) → topology_kept b ≡ t → Is (with_all_survived (broker_of old.broker)) (broker_of b)
    → Takes old (in_force checked users) (record old { broker = b; guarantees = gs; users = users })
takes old b checked users t gs te ge nothing topology broker =
    record { nothing = nothing; topology = topology ∙ te; broker = broker; guarantees = ge; users = refl; given = refl; connections = refl }

-- ---- nothing is different where it was refused

pub same_engine : (old new : Parts) → new ≡ old → Same (world_of old) (world_of new)
same_engine old new e = subst (λ (p : Parts). Same (world_of old) (world_of p)) (sym e) (record { config = refl; state = refl; given = refl; wires = λ c. refl })

pub kept_same : {E : Type 0} (r : Result Unit E) (old new : Parts) → OnErr r (new ≡ old) → OnErr r (Same (world_of old) (world_of new))
kept_same (Ok x) old new kept = tt
kept_same (Err e) old new kept = same_engine old new kept

-- without an obstacle an allocation may fail
pub may_allocate : {E : Type 0} (r : Result Unit E) (w : World) (offered : Config) → NothingHinders w offered → OnErr r (MayAllocate w (To_reload offered))
may_allocate (Ok x) w offered nothing = tt
may_allocate (Err e) w offered nothing = puts nothing

-- what reports an obstacle is no allocation failure
pub told_is_no_memory : {f : ReloadFault} {o : Obstacle} → obstacle_in f ≡ Some o → IsMemory (Err f) → ⊥
told_is_no_memory {o = o} e wanting = let none : None ≡ Some o = e in absurd (cc)

use Rattle.engine.proofs.Names.{refl, sym, subst, err_from_is_err_and, Option, Obstacle, Config, puts, judges, JudgesOffered, IsPutInForce, in_force, world_of}
use Rattle.runs.specs.Reloaded.{NothingHinders, ReportsWhyNot}
use Rattle.engine.specs.Allocating.{JudgingOfferMayAllocate}
use Rattle.engine.proofs.Putting.{same_engine, told_is_no_memory}
use Rattle.engine.proofs.engines.Engine.reload.Goals as goal

pub returns-in_err-obstacle-clause-reported : goal.returns-in_err-obstacle-clause-reported
returns-in_err-obstacle-clause-reported c =
    let p = err_from_is_err_and c.from_residual.result c.from_residual.ensures.1 in
    rw (p.1, p.2) (same_engine c.args.self.now c.args.self.now refl)

pub returns-in_err-obstacle-clause-kept : goal.returns-in_err-obstacle-clause-kept
returns-in_err-obstacle-clause-kept c =
    let p = err_from_is_err_and c.from_residual.result c.from_residual.ensures.1 in
    rw (p.1) refl

pub returns-in_err-obstacle-clause-lines : goal.returns-in_err-obstacle-clause-lines
returns-in_err-obstacle-clause-lines c =
    let p = err_from_is_err_and c.from_residual.result c.from_residual.ensures.1 in
    rw (p.1) tt

pub returns-in_err-obstacle-clause-wants : goal.returns-in_err-obstacle-clause-wants
returns-in_err-obstacle-clause-wants c = λ memory.
    judges (subst (λ (s : Config). JudgingOfferMayAllocate (world_of c.args.self.now) s) c.new-setup.ensures c.in_err-obstacle.ensures.wants)

pub returns-in-Some-clause-reported : goal.returns-in-Some-clause-reported
returns-in-Some-clause-reported c =
    let w = world_of c.args.self.now in
    let offered : Config = in_force c.args.checked c.args.users.items in
    let judged = subst (λ (s : Config). JudgesOffered w s c.in_ok-obstacle.field-0) c.new-setup.ensures c.in_ok-obstacle.ensures.reported in
    subst (λ (o : Option Obstacle). ReportsWhyNot w offered o w) (sym c.of.ensures)
    (subst (λ (o : Option Obstacle). JudgesOffered w offered o) c.in-Some.is judged, same_engine c.args.self.now c.args.self.now refl)

pub returns-in-Some-clause-wants : goal.returns-in-Some-clause-wants
returns-in-Some-clause-wants c = λ memory. absurd (told_is_no_memory c.of.ensures memory)

pub put_in_force-requires : goal.put_in_force-requires
put_in_force-requires c =
    record { nothing = subst (λ (o : Option Obstacle). JudgesOffered (world_of c.args.self.now) c.new-setup.result o) c.in_default.is c.in_ok-obstacle.ensures.reported }

pub returns-in_err-put_in_force-clause-reported : goal.returns-in_err-put_in_force-clause-reported
returns-in_err-put_in_force-clause-reported c =
    let p = err_from_is_err_and c.from_residual-in_err-put_in_force.result c.from_residual-in_err-put_in_force.ensures.1 in
    rw (p.1, p.2) (same_engine c.args.self.now c.put_in_force.new.self c.in_err-put_in_force.ensures.kept)

pub returns-in_err-put_in_force-clause-kept : goal.returns-in_err-put_in_force-clause-kept
returns-in_err-put_in_force-clause-kept c =
    let p = err_from_is_err_and c.from_residual-in_err-put_in_force.result c.from_residual-in_err-put_in_force.ensures.1 in
    rw (p.1) c.in_err-put_in_force.ensures.kept

pub returns-in_err-put_in_force-clause-lines : goal.returns-in_err-put_in_force-clause-lines
returns-in_err-put_in_force-clause-lines c =
    let p = err_from_is_err_and c.from_residual-in_err-put_in_force.result c.from_residual-in_err-put_in_force.ensures.1 in
    rw (p.1) tt

pub returns-in_err-put_in_force-clause-wants : goal.returns-in_err-put_in_force-clause-wants
returns-in_err-put_in_force-clause-wants c = λ memory.
    let w = world_of c.args.self.now in
    let nothing : NothingHinders w c.new-setup.result = subst (λ (o : Option Obstacle). JudgesOffered w c.new-setup.result o) c.in_default.is c.in_ok-obstacle.ensures.reported in
    puts (subst (λ (s : Config). NothingHinders w s) c.new-setup.ensures nothing)

pub returns-clause-reported : goal.returns-clause-reported
returns-clause-reported c =
    subst (λ (s : Config). IsPutInForce (world_of c.args.self.now) s (world_of c.put_in_force.new.self)) c.new-setup.ensures c.in_ok-put_in_force.ensures.done

pub returns-clause-wants : goal.returns-clause-wants
returns-clause-wants c = λ memory. elim memory [ ]

use Rattle.engine.proofs.Names.{◌≡◌, new_world, world_of, in_force}
use Rattle.engine.proofs.Asked.{ok_map}
use Rattle.engine.proofs.Certifying.{certified}
use Rattle.engine.proofs.machines.run.Goals as goal

pub returns : goal.returns
returns c =
    let f = in_force c.args.checked.now c.args.users.now in
    let fresh : world_of c.in_ok-engine.engine ≡ new_world f = rw (c.in_ok-checked.ensures, c.in_ok-copied_users.ensures) at c.in_ok-engine.ensures in
    ok_map c.run_over.result _ _ (λ t run. certified f (world_of c.in_ok-engine.engine) (world_of c.run_over.new.machine) c.args.arrivals.now t fresh run) c.run_over.ensures

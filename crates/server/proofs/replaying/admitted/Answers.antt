use Rattle.server.proofs.Names.{◌≤◌, length, arith}
use Rattle.server.proofs.Kept.{place_few}
use Rattle.server.proofs.replaying.admitted.Goals as goal

pub overflow_add-result : goal.overflow_add-result
overflow_add-result c =
    let few : c.in-Err.place ≤ length c.args.promised.items = place_few _ _ _ _ _ c.in-Err.ensures in
    omega (arith, few, c.requires)

use Rattle.reload_loop.proofs.Imports.{world_of}
use Rattle.std.proofs.lemmas.Result.{err_from_is_err_and}
use Rattle.reload_loop.proofs.Outcomes.{none_stands, stands}
use Rattle.reload_loop.proofs.looking.judge.Goals as goal

pub returns-in_err-obstacle : goal.returns-in_err-obstacle
returns-in_err-obstacle c =
    let p = err_from_is_err_and c.from_residual.result c.from_residual.ensures.1 in
    rw (p.1, p.2) c.in_err-obstacle.ensures.wants

pub returns-in-Some : goal.returns-in-Some
returns-in-Some c = stands (world_of c.args.engine.now) c.args.setup.now _ _ _ c.in-Some.is c.in_ok-obstacle.ensures.reported c.of.ensures

pub returns : goal.returns
returns c = none_stands (world_of c.args.engine.now) c.args.setup.now _ c.in_default.is c.in_ok-obstacle.ensures.reported

use Rattle.runs.proofs.Names.{map, with_setup}
use Rattle.runs.proofs.Ending.{is_run}
use Rattle.runs.proofs.runs.run_over.Goals as goal

pub returns : goal.returns
returns g c =
    let world = g.M.Machine.world in
    is_run (world c.args.machine.now) (world c.play.new.machine) (map (with_setup g.M.Machine.config) c.args.arrivals.now) c.new-transcript.result c.play.new.transcript c.finish.new.self c.ghost_is_sound.ensures c.requires c.new-transcript.ensures c.in_ok-play.ensures
    c.in_ok-finish.ensures.connections c.finish.ensures.notes

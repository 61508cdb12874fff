use Rattle.runs.proofs.Names.{map, take, with_setup, PlaysAndRecords}
use Rattle.runs.proofs.runs.play.Given as goal

abbrev pub invariant-loop-arrival : goal.invariant-loop-arrival
invariant-loop-arrival g l = record { played : PlaysAndRecords (g.M.Machine.world l.initial.machine) (map (with_setup g.M.Machine.config) (take l.arrival-index l.arrivals)) l.initial.transcript (g.M.Machine.world l.machine) l.transcript }

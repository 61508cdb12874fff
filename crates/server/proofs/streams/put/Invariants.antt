use Rattle.server.proofs.Outcomes.{HasPut}
use Rattle.server.proofs.streams.put.Given as goal

abbrev pub invariant-pieces : goal.invariant-pieces
invariant-pieces g l = HasPut (g.W.Write.contents l.initial.stream) (g.W.Write.contents l.stream) l.fn.text l.rest

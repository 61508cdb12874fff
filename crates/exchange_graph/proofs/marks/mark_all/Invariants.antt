use Rattle.exchange_graph.proofs.Names.{MarksEnds}
use Rattle.std.proofs.Common.{take}
use Rattle.exchange_graph.proofs.marks.mark_all.Given as goal

abbrev pub invariant-loop-end : goal.invariant-loop-end
invariant-loop-end l = MarksEnds (take l.end-index l.ends) l.initial.seen l.initial.found l.seen l.found

use Rattle.exchange_graph.proofs.Names.{Reaching, unset}
use Rattle.exchange_graph.proofs.reach.spread.Given as goal

abbrev pub invariant-passes : goal.invariant-passes
invariant-passes l = Reaching l.topology l.start l.key l.seen l.found l.done

abbrev pub decreases-passes : goal.decreases-passes
decreases-passes l = unset l.done

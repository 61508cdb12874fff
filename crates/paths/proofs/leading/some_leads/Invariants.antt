use Rattle.paths.proofs.Leads.{NoneLeads}
use Rattle.paths.proofs.leading.some_leads.Given as goal

abbrev pub invariant-loop-visit : goal.invariant-loop-visit
invariant-loop-visit l = NoneLeads l.topology l.queue l.visits l.marks l.visit-index

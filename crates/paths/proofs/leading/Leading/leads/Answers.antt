use Rattle.paths.proofs.Names.{List, subst, sym, Decides, IsIn, Visit, IsLocationThere, SomeLeads}
use Rattle.paths.proofs.Leads.{some_tells}
use Rattle.paths.proofs.leading.Leading.leads.Goals as goal

pub some_leads-requires-clause-there : goal.some_leads-requires-clause-there
some_leads-requires-clause-there c = subst (λ (xs : List Visit). (v : Visit) → IsIn v xs → IsLocationThere c.args.topology.now v.location) (sym c.visits.ensures) c.requires.explored.explored.there

pub returns : goal.returns
returns c x key e =
    some_tells c.args.topology.now c.args.queue.now x key c.args.explored.now c.as_slice.result.now e
    (rw (c.as_slice.ensures.value, c.self.view_is) c.requires.leading) c.some_leads.result
    (subst (λ (xs : List Visit). Decides c.some_leads.result (SomeLeads c.args.topology.now c.args.queue.now xs c.as_slice.result.now)) c.visits.ensures c.some_leads.ensures)

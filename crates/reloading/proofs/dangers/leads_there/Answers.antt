use Rattle.reloading.proofs.Names.{◌∙◌, sym, subst, Decides, Text, Later, AreLeading}
use Rattle.reloading.proofs.Leading.{explored_tells}
use Rattle.reloading.proofs.dangers.leads_there.Goals as goal

pub leads-requires-clause-leading : goal.leads-requires-clause-leading
leads-requires-clause-leading c = subst (λ (z : Text). AreLeading c.args.topology.now z c.args.leading.now) (sym (c.as_bytes-forbidden.ensures ∙ c.queue.ensures)) c.requires.leading

pub returns : goal.returns
returns c q key f =
    subst (λ (z : Text). Decides c.leads.result (Later c.args.topology.now q key z)) (c.as_bytes-forbidden.ensures ∙ c.queue.ensures)
    (explored_tells c.args.topology.now q key c.as_bytes-forbidden.result.now c.args.explored.now c.leads.result c.ghost_is_well_formed.ensures f c.leads.ensures)

use Rattle.reloading.proofs.Names.{◌≡◌, ◌∙◌, false, sym, false≢true, rules}
use Rattle.reloading.proofs.Leading.{exploration_of}
use Rattle.reloading.proofs.dangers.endangers_never.Goals as goal

pub leads_there-requires-clause-explored : goal.leads_there-requires-clause-explored
leads_there-requires-clause-explored c = exploration_of c.args.topology.now c.args.queue.now c.args.message.now.key c.args.explored.now c.requires.explored

pub returns-then-not-leads_there : goal.returns-then-not-leads_there
returns-then-not-leads_there c =
    let f : c.leads_there.result ≡ false = search rules in
    (λ e. absurd (false≢true e), λ danger. absurd (false≢true (sym f ∙ (c.leads_there.ensures c.args.queue.now c.args.message.now.key c.requires.explored).1 danger.later)))

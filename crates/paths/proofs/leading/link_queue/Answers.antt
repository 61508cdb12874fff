use Rattle.paths.proofs.Names.{List, None, Some, subst, sym, on_ok_weaker, IsIn, Visit, IsLocationThere, LinksAll}
use Rattle.paths.proofs.Leads.{front_linked, no_front}
use Rattle.paths.proofs.leading.link_queue.Goals as goal

pub returns-in-None : goal.returns-in-None
returns-in-None c = no_front c.args.topology.now c.args.queue.now c.args.at c.args.links.now.items (c.requires.deaths.each c.args.at None c.in-None.ensures.none)

pub link_all-requires : goal.link_all-requires
link_all-requires c =
    let d = c.requires.deaths.each c.args.at (Some c.in-Some.explored.now) c.in-Some.ensures.some in
    subst (λ (xs : List Visit). (v : Visit) → IsIn v xs → IsLocationThere c.args.topology.now v.location) (sym c.visits.ensures) d.explored.there

pub returns-in-Some : goal.returns-in-Some
returns-in-Some c =
    let d = c.requires.deaths.each c.args.at (Some c.in-Some.explored.now) c.in-Some.ensures.some in
    on_ok_weaker c.link_all.result
    (λ a. front_linked c.args.topology.now c.args.queue.now c.args.at d.exchange d.key c.in-Some.explored.now c.args.links.now.items c.link_all.new.links.items d.fixes d.explored
    (subst (λ (xs : List Visit). LinksAll c.args.topology.now c.args.queue.now xs c.args.at c.args.links.now.items c.link_all.new.links.items) c.visits.ensures a))
    c.link_all.ensures

use Rattle.paths.proofs.Names.{take, LinksAll}
use Rattle.paths.proofs.leading.link_all.Given as goal

abbrev pub invariant-loop-visit : goal.invariant-loop-visit
invariant-loop-visit l = LinksAll l.topology l.queue (take l.visit-index l.visits) l.to l.initial.links.items l.links.items

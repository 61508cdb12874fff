use Rattle.paths.proofs.Names.{◌+◌, List, length, subst, sym, Hop, LinksAreWithin}
use Rattle.paths.proofs.Leads.{are_leading, links_within}
use Rattle.paths.proofs.leading.Leading.by.Goals as goal

pub reached-requires-clause-within : goal.reached-requires-clause-within
reached-requires-clause-within c =
    subst (λ (ls : List Hop). LinksAreWithin (length c.queues-count.result.now + 1) ls) (sym c.as_slice.ensures.value)
    (rw c.queues-count.ensures (links_within c.args.topology.now c.args.queue.now c.in_ok-links.links.items (length c.args.topology.now.queues) c.in_ok-links.ensures))

pub returns : goal.returns
returns c =
    are_leading c.args.topology.now c.args.queue.now c.in_ok-links.links.items c.in_ok-marks.marks.items c.in_ok-links.ensures
    (rw (← c.as_slice.ensures.value) (rw (← c.queues-count.ensures) c.in_ok-marks.ensures))

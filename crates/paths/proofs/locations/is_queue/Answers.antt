use Rattle.paths.proofs.Names.{◌≡◌, ◌∙◌, ◌<◌, [], length, ap, sym, subst, bytes_eq-Decides, Text, DeclaredQueue, queue_name, get_map, Spot, IsSpotThere}
use Rattle.model.specs.declared.topologies.Destination.TheVariants as destination
use Rattle.paths.proofs.locations.is_queue.Goals as goal

pub returns-in-Queue : goal.returns-in-Queue
returns-in-Queue c =
    let t = c.args.topology.now in
    let q = c.queue.result.now in
    let i = c.in-Queue.place in
    let n = c.args.name.now in
    let there : i < length t.queues = subst (λ (s : Spot). IsSpotThere t s) c.in-Queue.is c.requires in
    let named : queue_name t i ≡ q.name = get_map (λ (z : DeclaredQueue). z.name) t.queues i q [] there ∙ ap (λ (z : DeclaredQueue). z.name) (sym c.queue.ensures) in
    rw (c.eq.ensures, c.as_bytes.ensures, c.in-Queue.is)
    (λ y. ap (λ (z : Text). destination.Queue z) (named ∙ (bytes_eq-Decides q.name n).0 y), λ e. (bytes_eq-Decides q.name n).1 (sym named ∙ (let h : destination.Queue (queue_name t i) ≡ destination.Queue n = e in cc)))

use Rattle.server.proofs.Names.{[]}
use Rattle.exchange_graph.proofs.Naming.{get_map}
use Rattle.model.specs.declared.topologies.DeclaredQueue.{DeclaredQueue}
use Rattle.server.proofs.routes.put_queue.Goals as goal

pub returns : goal.returns
returns c = rw (get_map (λ (q : DeclaredQueue). q.name) c.args.queues.now c.args.place c.index-queues-place.result [] c.requires, ← c.index-queues-place.is) c.put_name.ensures

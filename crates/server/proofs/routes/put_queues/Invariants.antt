use Rattle.server.proofs.Names.{◌≡◌, ◌++◌, drop, queue_names}
use Rattle.exchange_graph.specs.Targets.{names_at}
use Rattle.server.specs.Routes.{name_lines}
use Rattle.server.proofs.routes.put_queues.Given as goal

abbrev pub invariant-loop-place : goal.invariant-loop-place
invariant-loop-place l = l.text.items ++ name_lines (names_at (queue_names l.queues) (drop l.place-index l.places)) ≡ l.fn.text.items ++ name_lines (names_at (queue_names l.queues) l.places)

use Rattle.depot.proofs.Names.{◌∙◌, sym, ap, length, length-map, length-replicate, Topology, Line}
use Rattle.depot.proofs.depots.Depot.new.Goals as goal

pub invariant_of-result : goal.invariant_of-result
invariant_of-result c =
    sym (length-map c.in_ok-queues.queues (λ (l : Line). l.entries)) ∙ ap length c.in_ok-queues.ensures ∙ length-replicate _ _ ∙ ap length c.queues.ensures
    ∙ ap (λ (t : Topology). length t.queues) (sym c.in_ok-router.ensures)

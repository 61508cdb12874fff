use Rattle.state_routes.proofs.Names.{List, [], subst, sym, Mode, Gate, AreEntered, IsEnd, dying, none}
use Rattle.state_routes.proofs.deaths.counted_gates.Goals as goal

pub returns-in-Reaches : goal.returns-in-Reaches
returns-in-Reaches c =
    let t = c.args.topology.now in
    subst (λ (m : Mode). AreEntered t c.args.patterns.now (IsEnd t c.args.queue.now) (dying m t.queues) c.new.result.items) (sym c.in-Reaches.is)
    (subst (λ (gs : List Gate). AreEntered t c.args.patterns.now (IsEnd t c.args.queue.now) [] gs) (sym c.new.ensures.items) none)

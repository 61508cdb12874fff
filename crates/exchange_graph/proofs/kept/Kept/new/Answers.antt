use Rattle.exchange_graph.proofs.Names.{arith}
use Rattle.exchange_graph.proofs.Routing.{empty_bytes, empty_length, empty_right}
use Rattle.exchange_graph.proofs.kept.Kept.new.Goals as goal

pub returns : goal.returns
returns c = λ t.
    let empty = c.in_ok-empty_slots.ensures in
    let slots = c.in_ok-empty_slots.field-0.items in
    ((empty_length 1024 slots empty, empty_bytes 1024 slots empty, omega arith), empty_right t 1024 slots empty)

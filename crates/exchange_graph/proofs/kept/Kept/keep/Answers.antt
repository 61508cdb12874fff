use Rattle.exchange_graph.proofs.Routing.{emptied_right}
use Rattle.exchange_graph.proofs.kept.Kept.keep.Goals as goal

pub returns-else-bytes-self : goal.returns-else-bytes-self
returns-else-bytes-self c = λ t keeps right. (
  c.forget_next.ensures.bounded,
  c.forget_next.ensures.right t (emptied_right t c.args.self.now.slots.items c.forget.new.self.slots.items c.args.index c.forget.ensures.emptied keeps.1),
)

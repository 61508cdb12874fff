use Rattle.exchange_graph.proofs.Names.{refl, sym}
use Rattle.exchange_graph.proofs.Keying.{absent, puts_old}
use Rattle.exchange_graph.proofs.keyed.put.Goals as goal

pub put_new-requires-clause-is_new : goal.put_new-requires-clause-is_new
put_new-requires-clause-is_new c = absent c.args.key.now c.args.keyed.now.keys (sym c.in_default.ensures.index)

pub returns : goal.returns
returns c = puts_old c.args.key.now c.args.end c.args.keyed.now _ c.in-Some.place c.requires c.in-Some.ensures.within (sym c.in-Some.ensures.index) refl c.in_ok-push_at.ensures

use Rattle.exchange_graph.proofs.Names.{sym, ◌∙◌}
use Rattle.exchange_graph.proofs.Keying.{beside_none, beside_some}
use Rattle.exchange_graph.proofs.keyed.ends_under.Goals as goal

pub returns-in-Some : goal.returns-in-Some
returns-in-Some c =
    c.as_slice.ensures
    ∙ beside_some c.args.key.now c.args.keyed.now.keys c.args.keyed.now.lists.items c.in-Some.place c.index.result.now c.requires c.in-Some.ensures.within (sym c.in-Some.ensures.index) c.index.ensures

pub returns-in-None : goal.returns-in-None
returns-in-None c = beside_none c.args.key.now c.args.keyed.now.keys c.args.keyed.now.lists.items c.requires (sym c.in-None.ensures.index)

use Rattle.exchange_graph.proofs.Names.{List, sym, ◌∙◌, subst, on_ok_weaker, Direct, End, ArePassing}
use Rattle.exchange_graph.specs.declared.fans.Index.{Index}
use Rattle.exchange_graph.specs.Found.{IsIndex}
use Rattle.exchange_graph.proofs.Passing.{passing_direct, passing_fanout}
use Rattle.exchange_graph.proofs.fans.list_passing.Goals as goal

pub returns-in-Keys : goal.returns-in-Keys
returns-in-Keys c =
    let keyed = subst (λ (index : Index). IsIndex c.args.ways.now index) c.in-Keys.is c.requires in
    rw c.in-Keys.is
    (on_ok_weaker c.list_by_key.result
    (λ e. subst (λ (es : List End). ArePassing Direct c.args.key.now c.args.ways.now es) (sym (e ∙ keyed.reported c.args.key.now)) (passing_direct c.args.key.now c.args.ways.now))
    c.list_by_key.ensures)

pub returns-in-All : goal.returns-in-All
returns-in-All c = rw c.in-All.is (on_ok_weaker c.list_all.result (λ e. rw e (passing_fanout c.args.key.now c.args.ways.now)) c.list_all.ensures)

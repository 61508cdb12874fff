use Rattle.exchange_graph.proofs.Names.{◌≡◌, sym, bytes_eq, Exchange}
use Rattle.std.proofs.Common.{Some, None, position}
use Rattle.exchange_graph.proofs.Indices.{found_if_some, found_if_none}
use Rattle.exchange_graph.proofs.topologies.Topology.exchange.Goals as goal

pub returns-in-Some : goal.returns-in-Some
returns-in-Some c =
    let at : position (λ (x : Exchange). bytes_eq x.name c.args.name.now) c.args.self.now.exchanges ≡ Some c.in-Some.place = cc in
    sym (found_if_some (λ (x : Exchange). bytes_eq x.name c.args.name.now) c.args.self.now.exchanges c.in-Some.place c.index.result.now at c.in-Some.ensures.within (rw (← c.self.view_is) c.index.ensures))

pub returns-in-None : goal.returns-in-None
returns-in-None c =
    let at : position (λ (x : Exchange). bytes_eq x.name c.args.name.now) c.args.self.now.exchanges ≡ None = cc in
    sym (found_if_none (λ (x : Exchange). bytes_eq x.name c.args.name.now) c.args.self.now.exchanges at)

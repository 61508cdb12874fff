use Rattle.exchange_graph.proofs.Names.{ℕ, List, Bool, sym, ap, subst, ◌∙◌, IfOk-weaker, set_indices, AreTargets}
use Rattle.exchange_graph.proofs.Picking.{targets_of}
use Rattle.exchange_graph.proofs.topologies.Topology.targets.Goals as goal

pub returns : goal.returns
returns c =
    IfOk-weaker c.set_indices.result _ _
    (λ v e. subst (λ (ps : List ℕ). AreTargets c.args.self.now c.args.exchange.now c.args.key.now ps) (sym (e ∙ ap (λ (bs : List Bool). set_indices 0 bs) c.as_slice.ensures.value))
    (targets_of c.args.self.now c.args.exchange.now c.args.key.now c.find.new.scratch.found.items c.in_ok-find.ensures))
    c.set_indices.ensures

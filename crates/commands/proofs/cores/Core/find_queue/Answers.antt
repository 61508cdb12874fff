use Rattle.commands.proofs.Names.{subst, sym, IfOk, CountsConsumers, Finds, IsQueueIndex, Kept, broker_of, topology_kept}
use Rattle.commands.proofs.Declaring.{found_is}
use Rattle.commands.proofs.Outcomes.{both_ok}
use Rattle.commands.proofs.cores.Core.find_queue.Goals as goal

pub returns-clause-ok : goal.returns-clause-ok
returns-clause-ok g c =
    let place = c.args.index in
    let asked = c.args.declare.now in
    let kept : Kept = record { store = c.self.inside.depot; connections = c.self.inside.connections } in
    let at : IsQueueIndex (topology_kept kept) asked.queue place = subst (λ (k : Kept). IsQueueIndex (topology_kept k) asked.queue place) (sym c.self.view_is) c.requires.index in
    subst (λ (k : Kept). IfOk c.answer_queue_declare.result (λ s. Finds (broker_of k) c.args.connection c.args.channel asked s.sends.items s.notes.items (broker_of k))) c.self.view_is
    (both_ok c.answer_queue_declare.result _ _ _ c.answer_queue_declare.ensures.sends c.answer_queue_declare.ensures.notes
    (λ s sent noted. found_is kept c.args.connection c.args.channel place c.ready_at-ready.result c.count-consumers.result asked s.sends.items s.notes.items
    c.self.invariant c.ghost_is_whole.ensures.formed.queues_distinct at.within at.named c.ghost_is_named.ensures c.ready_at-ready.ensures (subst (λ (k : Kept). CountsConsumers k.connections place c.count-consumers.result) (sym c.self.view_is) (c.requires.counted place c.count-consumers.result c.requires.index.within c.count-consumers.ensures)) sent noted))

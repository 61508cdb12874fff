use Rattle.depot.proofs.Names.{◌∙◌, List, ap, is_under, holder_of_delivery, Entry, Holder, Line, requeued, no_line}
use Rattle.depot.proofs.Changes.{changed_write}
use Rattle.depot.proofs.settling.put_back.Goals as goal

pub returns-then-is_waiting-clause-returned : goal.returns-then-is_waiting-clause-returned
returns-then-is_waiting-clause-returned c = λ waits.
    let holder = holder_of_delivery c.args.id.connection c.args.id.number c.args.given.now in
    let frees = λ (a : Holder) (es : List Entry). requeued (is_under a) es in
    let line : Line = c.queue_mut.result.now in
    changed_write (frees holder) c.args.queues.now c.args.given.now.queue c.release.new.self no_line (c.requires waits)
    (c.release.ensures.entries ∙ ap (λ (a : Holder). frees a line.entries) c.holder-holder.ensures ∙ ap (λ (l : Line). frees holder l.entries) c.queue_mut.ensures.value)

use Rattle.depot.proofs.Names.{◌∙◌, List, ap, waiting, Entry, entries_of, all_left, arrived}
use Rattle.depot.proofs.Performed.{performed}
use Rattle.depot.proofs.rejecting.reject_in.Goals as goal

pub returns-in-Ok-clause-ok : goal.returns-in-Ok-clause-ok
returns-in-Ok-clause-ok c =
    let came = c.in-Ok.arrivals.items in
    let gone = waiting c.args.gone.now in
    performed c.args.router.now c.args.id gone (entries_of c.args.queues.now) (entries_of c.arrive_all.new.queues) came c.args.notes.now.items c.prepare.new.notes.items c.in-Ok.ensures.foreseen
    (c.arrive_all.ensures.arrived ∙ ap (arrived came) (c.leave_all.ensures.left ∙ ap (λ (es : List (List Entry)). all_left c.args.id.connection c.args.id.number gone es) c.prepare.ensures.queues))

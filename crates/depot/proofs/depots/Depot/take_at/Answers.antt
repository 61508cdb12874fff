use Rattle.depot.proofs.Names.{◌∙◌, ◌++◌, List, ap, sym, subst, is_ready, Entry, CanGive, ReturnsArrival, given_notes, given_so}
use Rattle.std.proofs.Common.{find}
use Rattle.depot.proofs.Lending.{lent_queue, store_changed}
use Rattle.depot.proofs.depots.Depot.take_at.Goals as goal

pub give-arrival-requires-clause-free : goal.give-arrival-requires-clause-free
give-arrival-requires-clause-free c =
    let is = lent_queue c.self.inside.router c.self.inside.queues c.self.inside.published c.args.index _ c.queue_mut-queue.result.now c.self.view_is c.self.invariant c.requires.within c.queue_mut-queue.ensures.value in
    subst (CanGive c.args.how) (sym is) c.requires.free

pub returns-clause-reported : goal.returns-clause-reported
returns-clause-reported c =
    let is = lent_queue c.self.inside.router c.self.inside.queues c.self.inside.published c.args.index _ c.queue_mut-queue.result.now c.self.view_is c.self.invariant c.requires.within c.queue_mut-queue.ensures.value in
    subst (λ (es : List Entry). ReturnsArrival c.args.how (find is_ready es) c.give-arrival.result) is c.give-arrival.ensures.reported

pub returns-clause-notes : goal.returns-clause-notes
returns-clause-notes c =
    let is = lent_queue c.self.inside.router c.self.inside.queues c.self.inside.published c.args.index _ c.queue_mut-queue.result.now c.self.view_is c.self.invariant c.requires.within c.queue_mut-queue.ensures.value in
    c.give-arrival.ensures.notes ∙ ap (λ (es : List Entry). c.args.notes.now.items ++ given_notes c.args.how (find is_ready es)) is

pub returns-clause-given_out : goal.returns-clause-given_out
returns-clause-given_out c =
    store_changed (given_so c.args.how) c.self.inside.router c.self.inside.queues _ c.self.inside.published c.args.index _ c.queue_mut-queue.result.now c.give-arrival.new.queue c.self.view_is c.self.invariant c.requires.within c.queue_mut-queue.ensures.value
    c.give-arrival.ensures.entries c.count_taking.ensures

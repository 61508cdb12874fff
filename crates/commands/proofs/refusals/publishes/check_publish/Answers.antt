use Rattle.commands.proofs.Names.{◌≡◌, ◌∙◌, ap, sym, Option, None, err_from_is_err_and, Topology, queue_names, or_else, refusal_to, refusal_of_count, access_to, open_in}
use Rattle.model.specs.Step.{Refusal}
use Rattle.commands.proofs.Judging.{publish_is}
use Rattle.commands.proofs.refusals.publishes.check_publish.Goals as goal

pub returns-clause-refusal : goal.returns-clause-refusal
returns-clause-refusal c = λ b counted.
    let t = c.args.depot.now.topology in
    let p = c.args.publish.now in
    let ch = open_in (queue_names t.queues) c.args.channel.now in
    let reported : c.find-found.result.access ≡ access_to t p.exchange = c.find-found.ensures.access ∙ ap (λ (x : Topology). access_to x p.exchange) c.router.ensures in
    let passed : None ≡ refusal_to t p.exchange = c.in_ok-check_access.ensures t p.exchange reported in
    c.in_ok-check_counters.ensures.refusal b (queue_names t.queues) (counted ∙ sym c.published.ensures)
    ∙ ap (λ (r : Option Refusal). or_else r (refusal_of_count b ch)) passed
    ∙ sym (publish_is t b ch p c.if-publish.false)

pub returns-in_err-check_counters-clause-refusal : goal.returns-in_err-check_counters-clause-refusal
returns-in_err-check_counters-clause-refusal c = λ b counted.
    let t = c.args.depot.now.topology in
    let p = c.args.publish.now in
    let ch = open_in (queue_names t.queues) c.args.channel.now in
    let reported : c.find-found.result.access ≡ access_to t p.exchange = c.find-found.ensures.access ∙ ap (λ (x : Topology). access_to x p.exchange) c.router.ensures in
    let passed : None ≡ refusal_to t p.exchange = c.in_ok-check_access.ensures t p.exchange reported in
    let from = err_from_is_err_and c.from_residual-in_err-check_counters.result c.from_residual-in_err-check_counters.ensures.1 in
    rw (from.1, from.2)
    (c.in_err-check_counters.ensures.refusal b (queue_names t.queues) (counted ∙ sym c.published.ensures)
    ∙ ap (λ (r : Option Refusal). or_else r (refusal_of_count b ch)) passed
    ∙ sym (publish_is t b ch p c.if-publish.false))

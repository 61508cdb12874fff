use Rattle.depot.proofs.Names.{◌++◌, ◌∙◌, ap, List, ℕ, codes, death_queue, death_reason, death_exchange, text_field}
use Rattle.depot.proofs.Behind.{three_behind}
use Rattle.depot.proofs.marking.with_death.Goals as goal

pub returns : goal.returns
returns c =
    let queue = c.args.queue.now in
    let exchange = c.args.exchange.now in
    let none = c.in_ok-extend_from_slice.ensures.items ∙ ap (λ (z : List ℕ). z ++ c.args.headers.now) c.new-bytes.ensures.items in
    let one = c.in_ok-put_text.ensures ∙ ap (λ (z : List ℕ). z ++ text_field death_queue queue) none in
    let two = c.in_ok-put_text-2.ensures ∙ ap (λ (z : List ℕ). z ++ text_field death_reason (codes "rejected")) one in
    c.in_ok-put_text-3.ensures
    ∙ ap (λ (z : List ℕ). z ++ text_field death_exchange exchange) two
    ∙ three_behind c.args.headers.now death_queue queue death_reason (codes "rejected") death_exchange exchange

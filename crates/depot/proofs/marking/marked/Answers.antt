use Rattle.depot.proofs.Names.{◌≡◌, ◌++◌, ◌∙◌, ap, subst, Some, IfOk, Text, first_death}
use Rattle.model.specs.declared.contents.Fields.{Fields as Properties}
use Rattle.depot.proofs.Behind.{none_before, no_death, some_death, made_so}
use Rattle.depot.proofs.marking.marked.Goals as goal

pub returns-in_default : goal.returns-in_default
returns-in_default c =
    let queue = c.args.queue.now in
    let exchange = c.args.exchange.now in
    let old = c.args.properties.now in
    made_so c.with_headers.result queue exchange old (Some (first_death queue exchange)) (none_before queue exchange old.headers c.in_default.ensures)
    (subst (λ (h : Text). IfOk c.with_headers.result (λ (made : Properties). made ≡ record old { headers = Some h }))
    (c.deref.ensures.value
    ∙ c.in_ok-made.ensures
    ∙ ap (λ (q : Text). first_death q c.as_bytes-in_default.result.now) c.as_bytes.ensures
    ∙ ap (first_death queue) c.as_bytes-in_default.ensures)
    c.with_headers.ensures)

pub returns-then-has_field : goal.returns-then-has_field
returns-then-has_field c =
    let queue = c.args.queue.now in
    let exchange = c.args.exchange.now in
    let old = c.args.properties.now in
    made_so c.clone.result queue exchange old old.headers
    (some_death queue exchange c.in-Some.headers.now old.headers c.in-Some.ensures c.if-has_field.ensures)
    c.clone.ensures

pub returns : goal.returns
returns c =
    let queue = c.args.queue.now in
    let exchange = c.args.exchange.now in
    let old = c.args.properties.now in
    let headers = c.in-Some.headers.now ++ first_death queue exchange in
    made_so c.with_headers-2.result queue exchange old (Some headers)
    (no_death queue exchange c.in-Some.headers.now old.headers c.in-Some.ensures c.if-has_field.ensures)
    (subst (λ (h : Text). IfOk c.with_headers-2.result (λ (made : Properties). made ≡ record old { headers = Some h }))
    (c.deref-2.ensures.value
    ∙ c.in_ok-longer.ensures
    ∙ ap (λ (q : Text). c.in-Some.headers.now ++ first_death q c.as_bytes-3.result.now) c.as_bytes-2.ensures
    ∙ ap (λ (x : Text). c.in-Some.headers.now ++ first_death queue x) c.as_bytes-3.ensures)
    c.with_headers-2.ensures)

use Rattle.channels.proofs.Imports.{◌≡◌, ◌∙◌, ◌+◌, ◌++◌, sym, ap, subst, drop, take, List, ℕ, kept, waiting, Delivery, tag_of, IsTagAt}
use Rattle.channels.proofs.Marking.{marked_behind, passed_order}
use Rattle.channels.proofs.tags.forget_in.Goals as goal

pub returns-then-from-eq0-clause-order : goal.returns-then-from-eq0-clause-order
returns-then-from-eq0-clause-order c = λ last order. passed_order c.args.items.now.items c.args.start c.in-Some.to last order

pub returns-else-from-eq0-clause-kept : goal.returns-else-from-eq0-clause-kept
returns-else-from-eq0-clause-kept c =
    let live : List Delivery = drop c.args.start c.args.items.now.items in
    let i : ℕ = c.in-Some.from in
    let at : IsTagAt live i c.args.span.tag = subst (λ (ys : List Delivery). IsTagAt ys i c.args.span.tag) c.behind.ensures (c.in-Some.ensures.there c.if-from-eq0.false) in
    let next : c.in-Some.to ≡ i + 1 = c.in-Some.ensures.next c.if-from-eq0.false in
    let rest : waiting (take i live) ++ waiting (drop c.in-Some.to live) ≡ kept tag_of c.args.span.tag c.args.span.multiple (waiting live) = rw c.behind.ensures at c.in-Some.ensures.rest in
    (marked_behind c.args.items.now.items _ c.args.start i c.args.span.tag c.mark.ensures.items at).0 ∙ ap (λ (n : ℕ). waiting (take i live) ++ waiting (drop n live)) (sym next) ∙ rest

pub returns-else-from-eq0-clause-order : goal.returns-else-from-eq0-clause-order
returns-else-from-eq0-clause-order c =
    let at = subst (λ (ys : List Delivery). IsTagAt ys c.in-Some.from c.args.span.tag) c.behind.ensures (c.in-Some.ensures.there c.if-from-eq0.false) in
    (marked_behind c.args.items.now.items _ c.args.start c.in-Some.from c.args.span.tag c.mark.ensures.items at).1

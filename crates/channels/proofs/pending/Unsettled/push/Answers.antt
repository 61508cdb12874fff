use Rattle.channels.proofs.Imports.{◌<◌, ◌++◌, ◌∷◌, [], ◌∙◌, sym, ap, subst, arith, drop, List, ℕ, OutstandingList, waiting, Delivery}
use Rattle.std.proofs.lemmas.List.{drop-append-le}
use Rattle.channels.proofs.Marking.{kept_pushed, waiting_pushed}
use Rattle.channels.proofs.pending.Unsettled.push.Goals as goal

pub invariant_of-self : goal.invariant_of-self
invariant_of-self c =
    let later : c.self.inside.last < c.args.given.tag = subst (λ (l : OutstandingList). l.last < c.args.given.tag) (sym c.self.view_is) c.requires.rises in
    kept_pushed c.self.inside.items.items c.make_place-self-inside.new.items.items c.push_reserved.new.self.items c.self.inside.start c.make_place-self-inside.result c.self.inside.count c.self.inside.last c.args.given c.self.invariant
    (let s = c.make_place-self-inside.ensures.start in omega arith) (c.make_place-self-inside.ensures.order c.self.inside.last c.self.invariant.order) c.make_place-self-inside.ensures.waiting (let s = c.make_place-self-inside.ensures.fewer in omega arith) later c.push_reserved.ensures.items

pub returns-clause-outstanding : goal.returns-clause-outstanding
returns-clause-outstanding c =
    let front : ℕ = c.make_place-self-inside.result in
    let new : List Delivery = c.make_place-self-inside.new.items.items in
    let later : c.self.inside.last < c.args.given.tag = subst (λ (l : OutstandingList). l.last < c.args.given.tag) (sym c.self.view_is) c.requires.rises in
    ap (λ (ys : List Delivery). waiting (drop front ys)) c.push_reserved.ensures.items ∙ ap waiting (drop-append-le front new (c.args.given ∷ []) (let s = c.make_place-self-inside.ensures.start in omega arith))
    ∙ waiting_pushed (drop front new) c.self.inside.last c.args.given later ∙ ap (λ (ys : List Delivery). ys ++ c.args.given ∷ []) c.make_place-self-inside.ensures.waiting
    ∙ ap (λ (l : OutstandingList). l.outstanding ++ c.args.given ∷ []) c.self.view_is

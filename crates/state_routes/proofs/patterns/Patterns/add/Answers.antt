use Rattle.state_routes.proofs.Names.{◌≡◌, ◌∙◌, List, [], ◌∷◌, ◌++◌, sym, ap, subst, false≢true, Text, IsIn, Tracked, appended_if_new, same_tracked, AreKeysOf, texts_by, with_text}
use Rattle.state_routes.proofs.Keying.{grows, one_known, pattern, stays}
use Rattle.state_routes.proofs.patterns.Patterns.add.Goals as goal

pub returns-then-has : goal.returns-then-has
returns-then-has c =
    subst (λ (z : List Tracked). z ≡ appended_if_new same_tracked z (pattern c.args.kind c.args.text.now)) c.self.view_is
    (stays c.self.inside.keys c.self.inside.list.items c.args.kind c.args.text.now c.self.invariant (subst (λ (z : Text). IsIn z (texts_by c.self.inside.keys c.args.kind)) c.as_bytes.ensures (c.has.ensures.0 c.if-has.true)))

pub invariant_of-self : goal.invariant_of-self
invariant_of-self c = subst (λ (z : List Tracked). AreKeysOf c.self.inside.keys z) (sym c.reserve.ensures.items) c.self.invariant

pub invariant_of-self-in_err-put : goal.invariant_of-self-in_err-put
invariant_of-self-in_err-put c =
    subst (λ (z : _). AreKeysOf z c.reserve.new.self.items) (sym c.in_err-put.ensures.err) (subst (λ (z : List Tracked). AreKeysOf c.self.inside.keys z) (sym c.reserve.ensures.items) c.self.invariant)

pub invariant_of-self-2 : goal.invariant_of-self-2
invariant_of-self-2 c =
    one_known c.self.inside.keys c.put.new.self c.self.inside.list.items c.push_reserved.new.self.items c.args.kind c.args.text.now c.self.invariant
    (c.in_ok-put.ensures.ok ∙ ap (with_text c.self.inside.keys c.args.kind) c.as_bytes-2.ensures)
    (c.push_reserved.ensures.items
    ∙ ap (λ (z : List Tracked). z ++ c.in_ok-pattern.pattern ∷ []) c.reserve.ensures.items
    ∙ ap (λ (z : Tracked). c.self.inside.list.items ++ z ∷ []) (c.in_ok-pattern.ensures ∙ ap (pattern c.args.kind) c.in_ok-clone.ensures))

pub returns : goal.returns
returns c =
    c.push_reserved.ensures.items
    ∙ ap (λ (z : List Tracked). z ++ c.in_ok-pattern.pattern ∷ []) c.reserve.ensures.items
    ∙ ap (λ (z : Tracked). c.self.inside.list.items ++ z ∷ []) (c.in_ok-pattern.ensures ∙ ap (pattern c.args.kind) c.in_ok-clone.ensures)
    ∙ grows c.self.inside.keys c.self.inside.list.items c.args.kind c.args.text.now c.self.invariant
    (λ i. false≢true (sym c.if-has.false ∙ c.has.ensures.1 (subst (λ (z : Text). IsIn z (texts_by c.self.inside.keys c.args.kind)) (sym c.as_bytes.ensures) i)))
    ∙ ap (λ (z : List Tracked). appended_if_new same_tracked z (pattern c.args.kind c.args.text.now)) c.self.view_is

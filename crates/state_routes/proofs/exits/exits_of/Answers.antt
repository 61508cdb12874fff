use Rattle.state_routes.proofs.Names.{◌<◌, ◌∙◌, ℕ, sym, subst}
use Rattle.state_routes.proofs.Leaving.{exits_put}
use Rattle.state_routes.proofs.exits.exits_of.Goals as goal

pub put_gates-requires : goal.put_gates-requires
put_gates-requires c = λ g i. subst (λ (n : ℕ). g.link.from < n) (sym c.in_ok-exits.ensures.size) (c.requires.gates g i)

pub put_alternates-requires : goal.put_alternates-requires
put_alternates-requires c = λ l i. subst (λ (n : ℕ). l.from < n) (sym (c.in_ok-put_gates.ensures.size ∙ c.in_ok-exits.ensures.size)) (c.requires.alternates l i)

pub returns : goal.returns
returns c = exits_put c.args.gates.now c.args.alternates.now c.args.count _ _ _ c.in_ok-exits.ensures c.in_ok-put_gates.ensures c.in_ok-put_alternates.ensures

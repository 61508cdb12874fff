use Rattle.broker.proofs.Names.{ℕ, subst, IsPickFrom}
use Rattle.broker.proofs.Found.{able, none_picked, from_its}
use Rattle.broker.proofs.turns.can_deliver.Goals as goal

pub returns-in-Gone-clause-no : goal.returns-in-Gone-clause-no
returns-in-Gone-clause-no c = λ e pick. none_picked c.args.core.now c.args.pick c.in-Gone.ensures.1 pick

pub returns-in-Nothing-clause-no : goal.returns-in-Nothing-clause-no
returns-in-Nothing-clause-no c = λ e pick. none_picked c.args.core.now c.args.pick c.in-Nothing.ensures.3 pick

pub returns-in-From-clause-yes : goal.returns-in-From-clause-yes
returns-in-From-clause-yes c = λ e.
    let t = c.in-From.ensures in
    (able c.args.core.now c.in-From.place c.args.pick t.0 c.ghost_is_kept.ensures.whole (c.is_ready.ensures.yes e) t.1 t.2).pick

pub returns-in-From-clause-no : goal.returns-in-From-clause-no
returns-in-From-clause-no c = λ e pick.
    let t = c.in-From.ensures in
    c.is_ready.ensures.no e c.args.pick (subst (λ (n : ℕ). IsPickFrom c.args.core.now n c.args.pick) t.2 (from_its c.args.core.now c.args.pick t.0 t.1 pick))

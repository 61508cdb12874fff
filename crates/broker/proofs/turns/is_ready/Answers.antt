use Rattle.broker.proofs.Names.{◌∙◌, subst, sym, arith, eqb-true, eq-eqb, false≢true, HasReady}
use Rattle.broker.proofs.Found.{apart_less}
use Rattle.broker.proofs.turns.is_ready.Goals as goal

pub returns-in-Some-clause-yes : goal.returns-in-Some-clause-yes
returns-in-Some-clause-yes c = λ e. subst (HasReady c.args.core.now.store) (eqb-true c.in-Some.next c.args.place e) c.in-Some.ensures.ready

pub returns-in-Some-clause-no : goal.returns-in-Some-clause-no
returns-in-Some-clause-no c = λ e p pick.
    let least = c.in-Some.ensures.least in
    c.in-Some.ensures.before c.args.place p (omega arith) (apart_less c.args.place c.in-Some.next least (λ same. false≢true (sym e ∙ eq-eqb c.in-Some.next c.args.place (sym same)))) pick

pub returns-in-None-clause-no : goal.returns-in-None-clause-no
returns-in-None-clause-no c = λ e p pick. c.in-None.ensures c.args.place p (omega arith) pick

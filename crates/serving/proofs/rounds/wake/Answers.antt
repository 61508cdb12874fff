use Rattle.serving.proofs.Names.{List, Bool, sym, subst, Wakes}
use Rattle.serving.proofs.Quieting.{woken}
use Rattle.serving.proofs.rounds.wake.Goals as goal

pub returns-then-holds : goal.returns-then-holds
returns-then-holds c = λ w fit.
    let ps = c.args.peers.now.slots in
    let at = c.holds.ensures.there c.if-holds.true in
    subst (λ (ms : List Bool). Wakes c.args.c ps c.args.quiet.now ms) (sym c.mark.ensures) (woken w ps c.guess-slot.result at.0 c.args.c c.args.quiet.now fit at.1 at.2)

pub returns : goal.returns
returns c = c.search.ensures

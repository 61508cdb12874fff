use Rattle.serving.proofs.Names.{sym, subst, runs, passage_of, greeting, AddsCalls, Traffic}
use Rattle.serving.proofs.rounds.greet_heard.Goals as goal

pub returns : goal.returns
returns g c =
    let traffic = g.W.Wire.past in
    let said = greeting c.args.peer.socket (passage_of c.args.has_run (runs (g.M.Machine.world c.args.machine.now) c.args.peer.connection)) in
    subst (λ (t : Traffic). AddsCalls (traffic c.args.wire.now) said t) (sym c.tell_part.ensures) c.greet.ensures

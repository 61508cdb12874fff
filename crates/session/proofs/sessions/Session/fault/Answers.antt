use Rattle.session.proofs.Names.{refl, sym, ap, ◌∙◌, [], ◌∷◌, Move, Send}
use Rattle.session.proofs.Faults.{faulted_elsewhere}
use Rattle.session.proofs.sessions.Session.fault.Goals as goal

pub returns-in_ok-sends-in_default : goal.returns-in_ok-sends-in_default
returns-in_ok-sends-in_default c =
    let same = faulted_elsewhere c.args.connection c.args.self.now c.args.self.now.phase c.args.code (rw (← c.self.view_is) c.in_default.not-Closing) (rw (← c.self.view_is) c.in_default.not-Over) in
    record {
      own = c.in_ok-sends-in_default.ensures.own;
      quiet = λ none. refl;
      sends = c.in_ok-sends-in_default.ensures.sends ∙ ap (λ (s : Send). s ∷ []) (c.close.ensures.is c.args.connection) ∙ sym (ap (λ (m : Move). m.sends) same);
      ok = c.end-in_default.ensures ∙ sym (ap (λ (m : Move). m.next) same);
      err = tt;
    }

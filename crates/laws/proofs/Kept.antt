-- What every run from the empty broker keeps of what is held, outstanding and settled, event by event.
use Rattle.laws.proofs.Names.{List, [], ◌∷◌, refl, sym, ap, subst, is_some, AllByRecursion, false≢true, IsAgreed, State, Step, Happening, Run, empty_state, event_connection, ArePresent, Lasts, DeliveriesAreAccountedFor}
use Rattle.laws.proofs.Accounted.{step_accounts}
use Rattle.laws.proofs.Agreed.{agreed_on, stay_agreed}
use Rattle.laws.proofs.Present.{step_present}
use Rattle.laws.proofs.LoggedIn.{step_enters}
use Rattle.laws.proofs.Settled.{step_settles}
use Rattle.laws.proofs.Unrefused.{step_answers, step_purges}
use Rattle.laws.proofs.Noted.{step_takes}
use Rattle.laws.proofs.View.{deed_at}

-- what is held and what is outstanding agree after each step
step_agreed : (h : Happening) → Step h.config h.before h.event h.sends h.notes h.after → IsAgreed h.before.broker → IsAgreed h.after.broker
step_agreed h s a = agreed_on h.config.topology h.before.broker h.after.broker a h.event (event_connection h.event) h.sends h.notes (deed_at h s)

pub lasts_from : (hs : List Happening) (old new : State) → Run old hs new → IsAgreed old.broker → ArePresent old → AllByRecursion Lasts hs
lasts_from [] old new r a p = tt
lasts_from (h ∷ hs) old new (e, s, r) a p =
    let before : IsAgreed h.before.broker = subst (λ (z : State). IsAgreed z.broker) (sym e) a in
    let here : Lasts h = record {
      agreed = step_agreed h s before;
      present = step_present h s (subst ArePresent (sym e) p);
      logged_in = step_enters h.config h.before h.after h.sends h.notes h.event s;
      settled = step_settles h before s;
      accounted = step_accounts h before s;
      gets = step_answers h s;
      purges = step_purges h s;
      taken = step_takes h s;
    } in
    (here, lasts_from hs h.after new r here.agreed here.present)

-- In every run from the empty broker each event keeps all of these.
pub run_lasts : DeliveriesAreAccountedFor
run_lasts hs new r = lasts_from hs empty_state new r stay_agreed.empty (record { connections = λ c. refl; channels = λ c k ch e. absurd (false≢true (ap is_some e)) })

-- No message comes to be marked as redelivered that was not given out.
use Rattle.laws.proofs.Names.{◌≡◌, List, [], ◌∷◌, false, refl, sym, ap, ◌∙◌, AllByRecursion, false≢true, number_of, State, Happening, Run, WasGivenOut, MarksWhatWasGiven, Entry, MarksAreGiven}
use Rattle.laws.proofs.Traced.{Came, stood, by_letter, published, step_came}

pub step_marks : MarksAreGiven
step_marks h s q e i marked = go (step_came h.config h.before h.after h.event h.sends h.notes s q e i)
  where
    -- what came by the event is not marked
    unmarked : (x : Entry) → e ≡ x → x.message.redelivered ≡ false → WasGivenOut (h.before.broker.queue q) (number_of e)
    unmarked x is new = absurd (false≢true (sym new ∙ ap (λ (z : Entry). z.message.redelivered) (sym is) ∙ marked))

    go : Came h.config.topology h.before.broker h.after.broker h.event h.sends h.notes q e → WasGivenOut (h.before.broker.queue q) (number_of e)
    go (stood r) = record { entry = r.entry; stood = r.there; numbered = sym r.same.number; given = r.marked marked }
    go (by_letter l) = unmarked _ l.is refl
    go (published p targeted is) = unmarked _ is refl

-- At no event of a run does one.
pub run_marks : (hs : List Happening) (old new : State) → Run old hs new → AllByRecursion MarksWhatWasGiven hs
run_marks [] old new r = tt
run_marks (h ∷ hs) old new (e, s, r) = (step_marks h s, run_marks hs h.after new r)

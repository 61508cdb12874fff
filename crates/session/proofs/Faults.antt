-- A fault of the stream, wherever a close is neither awaited nor done.
use Rattle.session.proofs.Names.{◌≡◌, ◌≢◌, ℕ, [], ◌∷◌, refl, ids, connection_close, Session, faulted, no_session, Phase}
use Rattle.model.specs.declared.events.Phase.TheVariants as phase

pub faulted_elsewhere : (c : ℕ) (s : Session) (p : Phase) (code : ℕ) → p ≢ phase.Closing → p ≢ phase.Over
    → faulted c s p code ≡ record { sends = connection_close c code (ids 0 0) ∷ []; next = no_session }
faulted_elsewhere c s phase.Header code a b = refl
faulted_elsewhere c s phase.Start code a b = refl
faulted_elsewhere c s phase.Tune code a b = refl
faulted_elsewhere c s phase.Open code a b = refl
faulted_elsewhere c s phase.Running code a b = refl
faulted_elsewhere c s phase.Closing code a b = absurd (a refl)
faulted_elsewhere c s phase.Over code a b = absurd (b refl)

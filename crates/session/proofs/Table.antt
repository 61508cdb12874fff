-- The table of the opening, row by row.
use Rattle.session.proofs.Names.{◌≡◌, ℕ, Bool, refl, sym, lit<, lit≤, Session, Move, server_properties, start, or_closed, at_start, at_tune, at_open, opening_move, Phase}
use Rattle.model.specs.Tables.{IsTable, pairs_bytes}
use Rattle.model.specs.declared.events.Phase.TheVariants as phase
use Rattle.model.specs.declared.methods.Close.{Close}
use Rattle.model.specs.declared.methods.Method.{Method}
use Rattle.model.specs.declared.methods.Method.TheVariants.{ConnectionClose}
use Rattle.session.specs.Answers.{Fits, awaited_move}

-- connection.start has a spelling of 128 bytes
pub start_fits : Fits start
start_fits = record { method = (lit< tt, (lit< tt, (table, (lit< tt, (lit< tt, tt))))); size = lit≤ tt }
  where
    table : IsTable (pairs_bytes server_properties)
    table = record {
      pairs = server_properties;
      fits = record { size = lit< tt; fits = (lit< tt, (lit≤ tt, lit< tt, (lit< tt, tt, (lit< tt, tt, (lit< tt, tt, tt)))), (lit< tt, lit< tt, tt)) };
      spelled = refl;
    }

-- what is no close is what the phase awaits, or does not
closed_other : (c : ℕ) (s : Session) (m : Method) (move : Move) → ((x : Close) → m ≡ ConnectionClose x → ⊥) → or_closed c s m move ≡ move
closed_other c s (ConnectionClose x) move n = absurd (n x refl)
closed_other c s m move n = refl

pub awaited_is : (c : ℕ) (u : Bool) (s : Session) (p : Phase) (m : Method) → ((x : Close) → m ≡ ConnectionClose x → ⊥) → awaited_move c u s p m ≡ opening_move c u s p 0 m
awaited_is c u s phase.Start m n = sym (closed_other c s m (at_start c u s m) n)
awaited_is c u s phase.Tune m n = sym (closed_other c s m (at_tune c s m) n)
awaited_is c u s phase.Open m n = sym (closed_other c s m (at_open c s m) n)
awaited_is c u s phase.Header m n = refl
awaited_is c u s phase.Running m n = refl
awaited_is c u s phase.Closing m n = refl
awaited_is c u s phase.Over m n = refl

-- ---- while start-ok is awaited every method is answered

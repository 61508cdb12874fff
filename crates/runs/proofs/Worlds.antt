-- Worlds that agree at each connection are the same, and one where nothing was done waits as before.
use Rattle.runs.proofs.Names.{◌≡◌, ℕ, Option, refl, Stream, stays, World, Same, Waits, SameToCome, still, waits}
use Rattle.std.proofs.Common.{Some, None}
use Rattle.model.specs.declared.events.Command.{Command}

pub world_same : (a b : World) → Same a b → b ≡ a
world_same a b s = λ i. record { config = s.config i; state = s.state i; given = s.given i; wire = λ d. s.wires d i }

same_to_come : (kept : Option Command) (s : Stream) → SameToCome kept s kept s
same_to_come None s = waits stays
same_to_come (Some m) s = still

pub waits_not : (w : World) (c : ℕ) → Waits w c w
waits_not w c = record { config = refl; state = refl; given = refl; others = λ d ne. refl; output = refl; coming = same_to_come (w.wire c).kept (w.wire c).stream }

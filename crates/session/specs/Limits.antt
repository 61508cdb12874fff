-- The invariant of a session (own).
use Rattle.std.specs.Prelude.{◌≡◌, ◌≤◌}
use Rattle.model.specs.Phases.{Session, no_session}
use Rattle.model.specs.declared.events.Phase.TheVariants as phase

-- A frame has at most `frame_max` bytes, which is from 4,096 to 131,072. A session that is over keeps no agreed limits.
pub record IsSession (s : Session) : Type 0 where
  pub least : 4096 ≤ s.frame_max
  pub most : s.frame_max ≤ 131072
  pub over : s.phase ≡ phase.Over → s ≡ no_session

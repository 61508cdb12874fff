-- What is true of every world that a run reaches from a broker with no connection.
use Rattle.std.specs.Prelude.{◌≡◌, ℕ, Some, is_some}
use Rattle.model.specs.Broker.{Connection}
use Rattle.model.specs.Phases.{is_running}
use Rattle.model.specs.Run.{AreCounted}
use Rattle.model.specs.Arrivals.{World, is_paused}
use Rattle.model.specs.Sending.{AreCarried}
use Rattle.model.specs.Tracing.{AreKept}
use Rattle.model.specs.Headline.{IsSound}

-- The broker, the phases and the wires of the world agree, and what is in a queue can be sent.
pub record IsConsistent (w : World) : Type 0 where
  -- No message in a queue has a number above that of the publishes counted.
  pub counted : AreCounted w.state.broker
  -- Each message in a queue can be given out.
  pub carried : AreCarried w.state.broker
  -- Each message may be in its queue, under the configuration in force.
  pub kept : AreKept w.config w.state.broker
  -- The configuration in force is sound.
  pub sound : IsSound w.config
  -- The broker has a connection exactly while its phase is Running.
  pub running : (c : ℕ) → is_some (w.state.broker.connection c) ≡ is_running (w.state.session c).phase
  -- The broker has a connection as paused exactly while its output has 1,048,576 bytes or more.
  pub paused : (c : ℕ) (conn : Connection) → w.state.broker.connection c ≡ Some conn → conn.is_paused ≡ is_paused w c
  -- The broker has the channel-max that was agreed on for the connection.
  pub limits : (c : ℕ) (conn : Connection) → w.state.broker.connection c ≡ Some conn → conn.channel_max ≡ (w.state.session c).channel_max

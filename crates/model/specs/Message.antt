-- A message as contracts see it, however its bytes are kept. Source: AMQP 0-9-1, section 3.1.1, "Messages and Content".
use Rattle.std.specs.Prelude.{ℕ, Bool}
use Rattle.model.specs.Words.{Text}
use Rattle.model.specs.declared.contents.Content.{Content}

-- A message of a publish, in whichever queue it is. Dead-lettering changes its exchange and key, and keeps the first ones.
pub record Message : Type 0 where
  -- Its publish number: publishes are numbered from 1 over the whole broker.
  pub number : ℕ
  pub first_exchange : Text
  pub first_key : Text
  pub exchange : Text
  pub key : Text
  pub content : Content
  pub redelivered : Bool
  -- Whether the message was in a queue when a reload was done.
  pub survived : Bool

-- Publishes that are not refused: each is noted, and in confirm mode confirmed (AMQP 0-9-1, basic.publish; RabbitMQ, "Publisher Confirms").
use Rattle.std.specs.Prelude.{◌≡◌, ◌+◌, ℕ, Option, Some, None}
use Rattle.model.specs.Topology.{IsIn}
use Rattle.model.specs.Broker.{Channel}
use Rattle.model.specs.Step.{reply, next_of, confirm_method}
use Rattle.model.specs.Run.{Happening}
use Rattle.model.specs.Unrefused.{IsUnrefused}
use Rattle.model.specs.declared.methods.Publish.{Publish}
use Rattle.model.specs.declared.methods.Method.TheVariants.{BasicPublish}
use Rattle.model.specs.declared.notes.Answer.{Answer}
use Rattle.model.specs.declared.notes.Note.TheVariants.{Published, Confirmed}

-- Publish `n` is confirmed under the number `confirm` of channel `k` of connection `c`: an answer is noted, and the same answer is sent.
pub record IsConfirmedUnder (h : Happening) (n c k confirm : ℕ) : Type 0 where
  pub answer : Answer
  pub noted : IsIn (Confirmed n answer) h.notes
  pub sent : IsIn (reply c k (confirm_method answer confirm)) h.sends

-- If there is a confirm number, the publish is confirmed under it.
abbrev pub IsConfirmedIf : Happening → ℕ → ℕ → ℕ → Option ℕ → Type 0
IsConfirmedIf h n c k None = Unit {0}
IsConfirmedIf h n c k (Some confirm) = IsConfirmedUnder h n c k confirm

-- The event takes this publish on channel `k` of connection `c`, which is open.
pub record TakesPublish (h : Happening) (c k : ℕ) (m : Publish) : Type 0 where
  pub channel : Channel
  pub open_there : h.before.broker.channel c k ≡ Some channel
  -- The publish is noted under the next publish number and, in confirm mode, under the channel's next confirm number.
  pub noted : IsIn (Published (h.before.broker.published + 1) c k m.exchange m.routing_key (next_of channel.confirm)) h.notes
  -- It is confirmed under that confirm number.
  pub confirmed : IsConfirmedIf h (h.before.broker.published + 1) c k (next_of channel.confirm)
  -- It uses both numbers, and changes nothing else of its channel.
  pub counted : h.after.broker.published ≡ h.before.broker.published + 1
  pub used : h.after.broker.channel c k ≡ Some (record channel { confirm = next_of channel.confirm })

-- Each publish that is not refused is taken.
abbrev pub PublishesAreTaken : Happening → Type 0
PublishesAreTaken h = (c k : ℕ) (m : Publish) → IsUnrefused h c k (BasicPublish m) → TakesPublish h c k m

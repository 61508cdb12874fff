-- Examples that the promises about publishes, nacks and entries refuse.
use Rattle.std.specs.Prelude.{ℕ, List, [], ◌∷◌, ◌++◌, ◌==◌, ◌&&◌, if◌then◌else◌, false, Some, None, codes}
use Rattle.model.specs.Broker.{new_channel}
use Rattle.model.specs.Entries.{freed_now}
use Rattle.model.specs.Step.{reply, confirm_method}
use Rattle.model.specs.State.{State}
use Rattle.model.specs.Run.{Happening}
use Rattle.model.specs.Noted.{PublishesAreTaken}
use Rattle.model.specs.Nacks.{Nack, HasNacks}
use Rattle.model.specs.Fresh.{EnterFresh, MarksWhatWasGiven}
use Rattle.model.specs.declared.methods.Publish.{Publish as Publishing}
use Rattle.model.specs.declared.methods.Method.TheVariants.{BasicPublish}
use Rattle.model.specs.declared.events.Event.{Event}
use Rattle.model.specs.declared.events.Event.TheVariants.{Command}
use Rattle.model.specs.declared.events.Send.{Send}
use Rattle.model.specs.declared.notes.Way.TheVariants.{Publish}
use Rattle.model.specs.declared.notes.Answer.TheVariants.{Ack}
use Rattle.model.specs.declared.notes.Note.{Note}
use Rattle.model.specs.declared.notes.Note.TheVariants.{Published, Entered, Confirmed}
use Rattle.laws.specs.Rows.{no_content, select_ok, first_entry, with_entries, event_of_notes}
use Rattle.laws.specs.Accounts.{holding, over_audit}

-- ---- publishes

-- Connection 1 runs, `published` publishes were counted, and `last` is the last confirm number on its channel 1.
abbrev pub confirming : ℕ → ℕ → State
confirming published last = record {
  broker = record (holding [] []).broker {
    published = published;
    channel = λ c h. if c == 1 && h == 1 then Some (record new_channel { confirm = Some last }) else None;
  };
  session = (holding [] []).session;
}

-- A publish to the queue `audit` by its name.
abbrev pub to_audit : Publishing
to_audit = record { reserved = 0; exchange = []; routing_key = codes "audit"; mandatory = false; immediate = false }

-- The event of the publish `to_audit`, on channel 1 of connection 1.
abbrev pub publishes_one : Event
publishes_one = Command 1 1 (BasicPublish to_audit) (Some no_content)

-- The note of the publish `to_audit`, under this confirm number.
abbrev pub noted_under : ℕ → Note
noted_under confirm = Published 3 1 1 [] (codes "audit") (Some confirm)

-- The event `publishes_one` between the states before and after it, with these `sends` and `notes`.
abbrev pub publishing : List Send → List Note → Happening
publishing sends notes = record (over_audit publishes_one (confirming 2 0) (confirming 3 1)) { sends = sends; notes = notes }

-- ---- nacks

-- The frame of basic.nack on channel 1 for number 1 alone.
abbrev pub first_nack : List ℕ
first_nack = 1 ∷ 0 ∷ 1 ∷ 0 ∷ 0 ∷ 0 ∷ 13 ∷ 0 ∷ 60 ∷ 0 ∷ 120 ∷ 0 ∷ 0 ∷ 0 ∷ 0 ∷ 0 ∷ 0 ∷ 0 ∷ 1 ∷ 0 ∷ 206 ∷ []

-- The frame of basic.nack on channel 1 for all numbers up to 1.
abbrev pub multiple_nack : List ℕ
multiple_nack = 1 ∷ 0 ∷ 1 ∷ 0 ∷ 0 ∷ 0 ∷ 13 ∷ 0 ∷ 60 ∷ 0 ∷ 120 ∷ 0 ∷ 0 ∷ 0 ∷ 0 ∷ 0 ∷ 0 ∷ 0 ∷ 1 ∷ 1 ∷ 206 ∷ []

-- The nack of the first publish.
abbrev pub first_nacked : Nack
first_nacked = record { channel = 1; number = 1; multiple = false }

-- ---- what is refused

-- Each promise is false for an example that breaks it.
pub record ConfirmsRefuse : Type 0 where
  -- A publish that is dropped without a note.
  pub dropped : PublishesAreTaken (publishing [] []) → ⊥
  -- A publish in confirm mode that is noted, and never confirmed.
  pub never_confirmed : PublishesAreTaken (publishing [] (noted_under 1 ∷ [])) → ⊥
  -- A publish whose ack is noted, and not sent.
  pub ack_not_sent : PublishesAreTaken (publishing [] (noted_under 1 ∷ Confirmed 3 Ack ∷ [])) → ⊥
  -- A publish that is confirmed under another number than the next.
  pub number_passed_over : PublishesAreTaken (publishing (reply 1 1 (confirm_method Ack 2) ∷ []) (noted_under 2 ∷ Confirmed 3 Ack ∷ [])) → ⊥
  -- An output without the nack of a publish that was nacked.
  pub output_without_nack : HasNacks (first_nacked ∷ []) select_ok → ⊥
  -- An output with a nack, though no publish was nacked.
  pub unearned_nack : HasNacks [] (select_ok ++ first_nack) → ⊥
  -- A nack of all publishes up to a number, in place of one for that number alone.
  pub nack_of_more : HasNacks (first_nacked ∷ []) (select_ok ++ multiple_nack) → ⊥
  -- An entry that is marked as redelivered as it enters.
  pub entered_marked : EnterFresh (event_of_notes [] (with_entries []) (Entered 1 (codes "audit") Publish ∷ []) (with_entries (freed_now first_entry ∷ []))) → ⊥
  -- An entry that gets the redelivered mark while it waits, and was not given out.
  pub marked_where_it_waits : MarksWhatWasGiven (event_of_notes [] (with_entries (first_entry ∷ [])) [] (with_entries (freed_now first_entry ∷ []))) → ⊥

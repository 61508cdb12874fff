-- What the promises about deliveries refuse.
use Rattle.laws.proofs.Names.{◌≡◌, ℕ, zero, suc, List, [], ◌∷◌, true, false, refl, sym, ap, ◌∙◌, None, inl, arith, slice_get, is_some, codes, false≢true, same_Some, Outstanding, is_ready, new_channel, freed_now, Leaves, Returns, no_session, AreSettledSo, SettlesAsAsked, IsAccountedFor, outstanding_still, has_left, ready_again, NoneIsForgotten, ArePresent, Entry, Text, GivesOut, to_get, to_consumer, GetsAreAnswered, PurgesLeaveNone, EntersByLogin, ConnectionStartOk, ConnectionTuneOk, BasicAck, BasicReject, Lose, first_entry, second_entry, taken, with_taken, taken_entry, holding, left_behind, quiet_event, acknowledging, requeueing, gets_one, purges_all, over_audit, AccountsRefuse}
use Rattle.std.proofs.Common.{Option, Some}
use Rattle.model.specs.declared.methods.StartOk.{StartOk}
use Rattle.model.specs.declared.events.Event.TheVariants.{Command}
use Rattle.model.specs.declared.notes.Cause.TheVariants.{Acked}

no_ack : SettlesAsAsked (quiet_event acknowledging (holding (taken ∷ []) (taken_entry ∷ [])) (holding [] (taken_entry ∷ []))) → ⊥
no_ack settles =
    let a = settles 1 1 (BasicAck (record { delivery_tag = 1; multiple = false })) (record { tag = 1; multiple = false; how = Leaves Acked }) with_taken (record { content = None; event = refl; runs = refl; connection = record { channel_max = 255; is_paused = false }; there = refl; accepted = refl }) refl refl in
    (a.taken taken (inl refl) refl).0.left

-- what is requeued where the queue held these entries
requeued : (old now : List Entry) (given : List Outstanding) → SettlesAsAsked (quiet_event requeueing (holding (taken ∷ []) old) (holding given now)) → AreSettledSo (holding (taken ∷ []) old).broker [] (holding given now).broker 1 1 with_taken (record { tag = 1; multiple = false; how = Returns })
requeued old now given settles = settles 1 1 (BasicReject (record { delivery_tag = 1; requeue = true })) (record { tag = 1; multiple = false; how = Returns }) with_taken (record { content = None; event = refl; runs = refl; connection = record { channel_max = 255; is_paused = false }; there = refl; accepted = refl }) refl refl

-- nothing stands in an empty list
nowhere : (i : ℕ) (e : Entry) → ◌≡◌ {A = Option Entry} (slice_get [] i) (Some e) → ⊥
nowhere i e is = false≢true (ap is_some is)

lost : SettlesAsAsked (quiet_event requeueing (holding (taken ∷ []) (taken_entry ∷ [])) (holding [] [])) → ⊥
lost settles = let r = ((requeued (taken_entry ∷ []) [] [] settles).taken taken (inl refl) refl).0 in nowhere r.place (freed_now r.entry) r.stands

two_is_not_one : ◌≡◌ {A = ℕ} 2 1 → ⊥
two_is_not_one e = omega (arith, e)

one_is_not_two : ◌≡◌ {A = ℕ} 1 2 → ⊥
one_is_not_two e = omega (arith, e)

at_the_end : SettlesAsAsked (quiet_event requeueing (holding (taken ∷ []) (taken_entry ∷ second_entry ∷ [])) (holding [] (second_entry ∷ freed_now taken_entry ∷ []))) → ⊥
at_the_end settles = let r = ((requeued (taken_entry ∷ second_entry ∷ []) (second_entry ∷ freed_now taken_entry ∷ []) [] settles).taken taken (inl refl) refl).0 in at r.place r.entry r.stood r.stands
  where
    -- the message at a place is of one number before, and of another afterwards
    at : (i : ℕ) (e : Entry) → slice_get (taken_entry ∷ second_entry ∷ []) i ≡ Some e → slice_get (second_entry ∷ freed_now taken_entry ∷ []) i ≡ Some (freed_now e) → ⊥
    at zero e stood stands = two_is_not_one (ap (λ (x : Entry). x.message.number) (same_Some second_entry (freed_now e) stands) ∙ sym (ap (λ (x : Entry). x.message.number) (same_Some taken_entry e stood)))
    at (suc zero) e stood stands = one_is_not_two (ap (λ (x : Entry). x.message.number) (same_Some (freed_now taken_entry) (freed_now e) stands) ∙ sym (ap (λ (x : Entry). x.message.number) (same_Some second_entry e stood)))
    at (suc (suc i)) e stood stands = nowhere i e stood

outstanding_too : SettlesAsAsked (quiet_event requeueing (holding (taken ∷ []) (taken_entry ∷ [])) (holding (taken ∷ []) (freed_now taken_entry ∷ []))) → ⊥
outstanding_too settles = ((requeued (taken_entry ∷ []) (freed_now taken_entry ∷ []) (taken ∷ []) settles).taken taken (inl refl) refl).1 (record { channel = with_taken; there = refl; outstanding = inl refl })

-- it is held by a connection that is gone
forgotten : NoneIsForgotten (quiet_event (Lose 1) (holding (taken ∷ []) (taken_entry ∷ [])) (left_behind (taken_entry ∷ []))) → ⊥
forgotten none = by (none 1 1 taken (record { channel = with_taken; there = refl; outstanding = inl refl }))
  where
    at : (i : ℕ) (e : Entry) → slice_get (taken_entry ∷ []) i ≡ Some (freed_now e) → ⊥
    at zero e stands = false≢true (ap is_ready (same_Some taken_entry (freed_now e) stands))
    at (suc i) e stands = nowhere i (freed_now e) stands

    by : IsAccountedFor (holding (taken ∷ []) (taken_entry ∷ [])).broker [] (left_behind (taken_entry ∷ [])).broker 1 1 taken → ⊥
    by (outstanding_still on) = false≢true (ap is_some on.there)
    by (has_left cause left) = left.left
    by (ready_again again) = at again.place again.entry again.stands

not_there : ArePresent (record (holding [] []) { session = λ c. no_session }) → ⊥
not_there present = false≢true (sym (present.connections 1))

no_connection : ArePresent (record (left_behind []) { broker = record (holding [] []).broker { connection = λ c. None } }) → ⊥
no_connection present = false≢true (present.channels 1 1 (record new_channel { next_tag = 2; outstanding = [] }) refl)

-- nothing is sent to it
unanswered : GetsAreAnswered (over_audit gets_one (holding [] (first_entry ∷ [])) (holding [] (first_entry ∷ []))) → ⊥
unanswered answered = nothing (answered 1 1 (record { reserved = 0; queue = codes "audit"; no_ack = false }) (record { content = None; event = refl; runs = refl; connection = record { channel_max = 255; is_paused = false }; there = refl; accepted = refl }))
  where
    nothing : {q : Text} {e : Entry} → GivesOut (over_audit gets_one (holding [] (first_entry ∷ [])) (holding [] (first_entry ∷ []))) q e → ⊥
    nothing (to_get ch is there found p) = let sent = p.sent in cc
    nothing (to_consumer is d) = cc

one_left : PurgesLeaveNone (over_audit purges_all (holding [] (first_entry ∷ [])) (holding [] (first_entry ∷ []))) → ⊥
one_left none = false≢true (sym (ap is_some (none 1 1 (record { reserved = 0; queue = codes "audit"; no_wait = true }) (record { content = None; event = refl; runs = refl; connection = record { channel_max = 255; is_paused = false }; there = refl; accepted = refl }))))

unlogged : EntersByLogin (quiet_event (Command 1 0 (ConnectionTuneOk (record { channel_max = 0; frame_max = 0; heartbeat = 0 })) None) (left_behind []) (holding [] [])) → ⊥
unlogged enters = enters 1 refl refl

nobody : (start : StartOk) → EntersByLogin (quiet_event (Command 1 0 (ConnectionStartOk start) None) (left_behind []) (holding [] [])) → ⊥
nobody start enters = (enters 1 refl refl).2.known

pub accounts_refuse : AccountsRefuse
accounts_refuse = record { ack_takes_nothing_out = no_ack; requeued_is_lost = lost; requeued_at_the_end = at_the_end; requeued_is_outstanding = outstanding_too; lost_with_its_connection = forgotten; get_without_answer = unanswered; purge_leaves_one = one_left; runs_without_login = unlogged; login_of_nobody = nobody; connection_of_none = not_there; channel_of_none = no_connection }

-- The worked examples.
use Rattle.laws.proofs.Names.{◌≡◌, ◌≤◌, ℕ, suc, ◌-◌, Bool, true, false, List, [], ◌∷◌, ◌++◌, refl, sym, ap, subst, ◌∙◌, arith, get_or, lit≤, inl, inr, length, None, codes, decimal, filter_map, bytes_eq, false≢true, decimal_digit, Text, word, AreKept, AreSafe, IsIn, Frame, frame_bytes, IsFrame, Begins, CoversKey, method_frame, spelling, consume_sends, content_or_none, return_of, returned_notes, Routes, Picks, default, here, routed, Later, Topology, is_in_use, server_tag, Consumer, Broker, Config, State, Stays, IsObstacle, by_entry, survived_now, Of_reload, IsDecided, IsRefused, StaysOver, acks_in, HasAcksOf, IsReading, EnteredOnce, ack_for, AreAllowed, HaveOrigins, DiesAt, EnterAsRouted, note_at, number_in, CountUp, DieOnce, HasSource, given_out, sent_back, HaveSources, Note, Entered, Left, Reloaded, ReloadRefused, Entry, Dead, Rejected, ConfirmSelectOk, BasicAck, first_published, first_sent, no_content, WordsOfKeys, FirstConsumer, RefusedConsumes, FullQueues, FirstInput, FirstOutput, BadEnd, TooLargeContent, HeadlineRefuses, select_ok, first_ack, multiple_ack, first_entry, with_entries, forbids, event_of_notes, one_event, reload_of_none, refused_reload, with_audit, under, audit_to_bin, bin, into_bin, reload_into_bin, somebody, vanishing, bad_end, wanted, first_acked, notes_without_entry, consumer_under, consuming_under}
use Rattle.std.proofs.Common.{◌+◌, drop, map}
use Rattle.std.specs.Prelude.{if◌then◌else◌}
use Rattle.model.specs.Words.{none}
use Rattle.model.specs.Routing.{none as none_picked}
use Rattle.model.specs.Consuming.{first_free}
use Rattle.model.specs.Acks.{Ack}
use Rattle.model.specs.declared.obstacles.Obstacle.{Obstacle}
use Rattle.model.specs.declared.obstacles.Obstacle.TheVariants.{InUse, Breaks}
use Rattle.model.specs.declared.notes.Way.TheVariants.{Publish}
use Rattle.model.specs.declared.notes.Cause.TheVariants.{Acked}
use Rattle.laws.proofs.Reading.{reading_apart, size_at, size_is, rest_is}

pub words_of_keys : WordsOfKeys
words_of_keys = record { none = refl; two = refl; empty_between = refl; dot_alone = refl }

pub first_input : FirstInput
first_input = record { select = refl; publish = refl; header = refl; body = refl }

pub first_output : FirstOutput
first_output = record { select = refl; ack = refl }

other_byte : ◌≡◌ {A = ℕ} 205 206 → ⊥
other_byte e = omega (arith, e)

zero_is_not_one : ◌≡◌ {A = ℕ} 0 1 → ⊥
zero_is_not_one e = omega (arith, e)

-- the size in the header says where the end byte stands
bad_end_is_broken : (more rest : List ℕ) (f : Frame) → Begins 131072 (bad_end ++ more) f rest → ⊥
bad_end_is_broken more rest f b =
    let small = b.fits.size in
    let size : length f.payload ≡ 5 = sym (size_is f rest (omega arith)) ∙ sym (ap size_at b.parts) ∙ five in
    let end : drop 5 (drop 7 (bad_end ++ more)) ≡ 206 ∷ rest =
    ap (λ (bs : List ℕ). drop 5 (drop 7 bs)) b.parts ∙ sym (ap (λ n. drop n (drop 7 (frame_bytes f ++ rest))) size) ∙ rest_is f rest in
    other_byte (ap (λ (bs : List ℕ). get_or bs 0 0) end)
  where
    five : size_at (bad_end ++ more) ≡ 5
    five = refl

pub bad_end_answer : BadEnd
bad_end_answer = record { broken = record { long = lit≤ tt; never = bad_end_is_broken }; answer = refl }

pub too_large : TooLargeContent
too_large = record { largest = refl; larger = refl; missing = refl; come = refl; past = refl; answer = refl }

-- ---- what the headline refuses

is_select_ok : IsFrame 131072 (method_frame 1 ConfirmSelectOk)
is_select_ok = record { kind = inl refl; channel = lit≤ tt; size = lit≤ tt }

is_first_ack : IsFrame 131072 (method_frame 1 (BasicAck (record { delivery_tag = 1; multiple = Rattle.std.specs.Prelude.false })))
is_first_ack = record { kind = inl refl; channel = lit≤ tt; size = lit≤ tt }

select_ok_reading : IsReading select_ok (method_frame 1 ConfirmSelectOk ∷ [])
select_ok_reading = inl (record { parts = refl; each = (is_select_ok, tt) })

both_reading : IsReading (select_ok ++ first_ack) (method_frame 1 ConfirmSelectOk ∷ method_frame 1 (BasicAck (record { delivery_tag = 1; multiple = Rattle.std.specs.Prelude.false })) ∷ [])
both_reading = inl (record { parts = refl; each = (is_select_ok, (is_first_ack, tt)) })

no_ack_there : HasAcksOf (first_acked ∷ []) select_ok → ⊥
no_ack_there has =
    let e : [] ≡ ack_for first_acked ∷ [] = ap acks_in (reading_apart select_ok (method_frame 1 ConfirmSelectOk ∷ []) has.frames select_ok_reading has.reading) ∙ has.acks in
    cc

unearned : HasAcksOf [] (select_ok ++ first_ack) → ⊥
unearned has =
    let e : ack_for first_acked ∷ [] ≡ [] = ap acks_in (reading_apart (select_ok ++ first_ack) _ has.frames both_reading has.reading) ∙ has.acks in
    cc

covers_new : CoversKey wanted (codes "new")
covers_new = record { pattern = word none; kept_in = λ e i m. i }

nothing_entered : EnteredOnce notes_without_entry first_acked → ⊥
nothing_entered once =
    zero_is_not_one (once wanted (0, lit≤ tt, refl) refl (refl, covers_new))

is_multiple_ack : IsFrame 131072 (method_frame 1 (BasicAck (record { delivery_tag = 1; multiple = Rattle.std.specs.Prelude.true })))
is_multiple_ack = record { kind = inl refl; channel = lit≤ tt; size = lit≤ tt }

multiple_reading : IsReading (select_ok ++ multiple_ack) (method_frame 1 ConfirmSelectOk ∷ method_frame 1 (BasicAck (record { delivery_tag = 1; multiple = Rattle.std.specs.Prelude.true })) ∷ [])
multiple_reading = inl (record { parts = refl; each = (is_select_ok, (is_multiple_ack, tt)) })

more_acked : HasAcksOf (first_acked ∷ []) (select_ok ++ multiple_ack) → ⊥
more_acked has =
    let e : record { channel = 1; number = 1; multiple = Rattle.std.specs.Prelude.true } ∷ [] ≡ ack_for first_acked ∷ [] = ap acks_in (reading_apart (select_ok ++ multiple_ack) _ has.frames multiple_reading has.reading) ∙ has.acks in
    false≢true (sym (ap last_bit e))
  where
    last_bit : List Ack → Rattle.std.specs.Prelude.Bool
    last_bit [] = Rattle.std.specs.Prelude.false
    last_bit (a ∷ as') = a.multiple

-- the first event takes the entry away, and its notes say nothing of it
one_is_gone : (notes : List Note) (last : State) (new : Broker) → Stays (with_entries (first_entry ∷ [])).broker (vanishing [] notes last) new → ⊥
one_is_gone notes last new stays =
    let one : 1 ≡ 0 = stays.1 1 (codes "audit") in
    zero_is_not_one (sym one)

forbidden : AreAllowed (event_of_notes (forbids ∷ []) (with_entries (first_entry ∷ [])) (Entered 1 (codes "bin") Dead ∷ []) (with_entries (first_entry ∷ []))) → ⊥
forbidden allowed =
    allowed.0 (codes "orders") (codes "new") (inr (record { queue = codes "audit"; entry = first_entry; there = inl refl; number = refl; exchange = refl; first_key = refl })) forbids (0, lit≤ tt, refl) refl (refl, record { pattern = word none; kept_in = λ e i m. i }) refl

-- one left by each of the two notes, where there was one
both_left : Stays (with_entries (first_entry ∷ [])).broker (one_event (with_entries (first_entry ∷ [])) (Left 1 (codes "audit") Acked ∷ Left 1 (codes "audit") Acked ∷ []) (with_entries [])) (with_entries []).broker → ⊥
both_left stays =
    let one : 1 ≡ 2 = stays.1 1 (codes "audit") in
    two_is_not_one (sym one)
  where
    two_is_not_one : ◌≡◌ {A = ℕ} 2 1 → ⊥
    two_is_not_one e = omega (arith, e)

-- no note is of a publish
no_publish_there : HaveOrigins (event_of_notes [] (with_entries []) (Entered 1 (codes "audit") Publish ∷ []) (with_entries (first_entry ∷ []))) → ⊥
no_publish_there has = elim has.0.2.3 [ inl is ↦ cc | inr i ↦ i ]

-- no message stood anywhere
none_stood : DiesAt (event_of_notes [] (with_entries []) (Left 1 (codes "audit") Rejected ∷ Entered 1 (codes "bin") Dead ∷ []) (with_entries [])) 1 → ⊥
none_stood d = nowhere (bytes_eq d.queue (codes "audit")) d.stood
  where
    nowhere : (v : Bool) → IsIn d.entry (if v then [] else []) → ⊥
    nowhere true i = i
    nowhere false i = i

-- and none that stood is noted to have left
none_left : DiesAt (event_of_notes [] (with_entries (first_entry ∷ [])) (Entered 1 (codes "bin") Dead ∷ []) (with_entries (first_entry ∷ []))) 1 → ⊥
none_left d = elim d.left [ inl is ↦ cc | inr i ↦ i ]

-- a topology with nothing in it
abbrev nothing : Topology
nothing = record { exchanges = []; queues = []; bindings = [] }

-- nothing is routed where nothing is bound
unrouted : EnterAsRouted (event_of_notes [] (with_entries []) (first_published ∷ Entered 1 (codes "audit") Publish ∷ []) (with_entries (first_entry ∷ []))) → ⊥
unrouted enter = let e = enter 1 1 1 (codes "orders") (codes "new") None (inl refl) in nowhere (length (content_or_none e.given).body) e.targets e.goes_back e.routed (ap (drop 1) e.noted)
  where
    nowhere : (size : ℕ) (targets : List Text) (back : Bool) → Picks (Routes nothing (codes "orders") (codes "new")) [] targets
        → Entered 1 (codes "audit") Publish ∷ [] ≡ map (note_at nothing (with_entries []).broker.queue [] size 1 Publish) targets ++ (returned_notes 1 back ++ []) → ⊥
    nowhere size targets true none_picked e = cc
    nowhere size targets false none_picked e = cc

-- the second has the number of the first
same_number : CountUp 0 (filter_map number_in (first_published ∷ first_published ∷ [])) 2 → ⊥
same_number c = let two : 1 ≡ 2 = c.1.0 in omega (arith, two)

-- no publish came before, and none comes by the event
no_source : HaveSources [] (record (event_of_notes [] (with_entries (first_entry ∷ [])) [] (with_entries (first_entry ∷ []))) { sends = return_of 1 1 first_sent no_content ∷ [] }) → ⊥
no_source has = from has.0
  where
    from : HasSource [] (record (event_of_notes [] (with_entries (first_entry ∷ [])) [] (with_entries (first_entry ∷ []))) { sends = return_of 1 1 first_sent no_content ∷ [] }) no_content → ⊥
    from (given_out queue entry first is of) = of.was.among
    from (sent_back c k publish given e is) = cc

-- one was rejected, and two came
two_of_one : DieOnce (event_of_notes [] (with_entries (first_entry ∷ [])) (Left 1 (codes "audit") Rejected ∷ Entered 1 (codes "bin") Dead ∷ Entered 1 (codes "bin") Dead ∷ []) (with_entries [])) → ⊥
two_of_one once = let most : 2 ≤ 1 = once 1 (codes "bin") in omega (arith, most)

-- one waited, and none does
lost_by_reload : StaysOver (with_entries (first_entry ∷ [])).broker (Of_reload (reload_of_none (with_entries (first_entry ∷ [])) (with_entries [])) ∷ []) (with_entries []).broker → ⊥
lost_by_reload stays = elim stays.1 [
  | inl is ↦ let none : 0 ≡ 1 = ap (λ (es : List Entry). length es) (is.queues (codes "audit")) in zero_is_not_one none
  | inr e ↦ let none : 0 ≡ 1 = ap (λ (b : Broker). length (b.queue (codes "audit"))) e in zero_is_not_one none
]

-- the queue is in use, and gone
stranded_by_reload : IsDecided (reload_of_none (with_entries (first_entry ∷ [])) (with_entries (survived_now first_entry ∷ []))) → ⊥
stranded_by_reload (inl done) = done.nothing.none_stranded (codes "audit") (record { was = inl refl; gone = λ i. i; in_use = by_entry first_entry (inl refl) })
stranded_by_reload (inr refused) = let other : Reloaded ∷ [] ≡ ReloadRefused refused.obstacle ∷ [] = refused.noted in cc

-- for what it was refused
abbrev refused_for : List Note → Obstacle
refused_for (ReloadRefused obstacle ∷ notes) = obstacle
refused_for notes = InUse []

-- a refusal is for the obstacle that was noted
stands_so : (offered in_force : Config) (state : State) (obstacle : Obstacle) → IsRefused (refused_reload offered state obstacle in_force) → IsObstacle with_audit.topology offered state.broker obstacle
stands_so offered in_force state obstacle refused = subst (IsObstacle with_audit.topology offered state.broker) (sym (ap refused_for refused.noted)) refused.stands

-- the queue is not gone
refused_for_nothing : IsDecided (refused_reload with_audit (with_entries []) (InUse (codes "audit")) with_audit) → ⊥
refused_for_nothing (inl done) = let other : ReloadRefused (InUse (codes "audit")) ∷ [] ≡ Reloaded ∷ [] = done.noted in cc
refused_for_nothing (inr refused) = let first = stands_so with_audit with_audit (with_entries []) (InUse (codes "audit")) refused in first.orphaned.gone (inl refl)

-- the queue is gone, and is looked at first
refused_for_the_second : IsDecided (refused_reload (under []) (with_entries (first_entry ∷ [])) (Breaks (codes "audit") (codes "new") 1) with_audit) → ⊥
refused_for_the_second (inl done) = let other : ReloadRefused (Breaks (codes "audit") (codes "new") 1) ∷ [] ≡ Reloaded ∷ [] = done.noted in cc
refused_for_the_second (inr refused) =
    let danger = stands_so (under []) with_audit (with_entries (first_entry ∷ [])) (Breaks (codes "audit") (codes "new") 1) refused in
    danger.0 (codes "audit") (record { was = inl refl; gone = λ i. i; in_use = by_entry first_entry (inl refl) })

-- what is in force has a user more
refused_with_users : IsDecided (refused_reload (under []) (with_entries (first_entry ∷ [])) (InUse (codes "audit")) (record with_audit { users = somebody ∷ [] })) → ⊥
refused_with_users (inl done) = let other : ReloadRefused (InUse (codes "audit")) ∷ [] ≡ Reloaded ∷ [] = done.noted in cc
refused_with_users (inr refused) = let more : 1 ≡ 0 = ap (λ (f : Config). length f.users) refused.in_force in zero_is_not_one (sym more)

-- the guarantee covers what the message was first sent under
covers_first : CoversKey forbids (codes "new")
covers_first = record { pattern = word none; kept_in = λ e i m. i }

-- the message may come to the queue by one death
comes_to_bin : Later into_bin.topology (codes "audit") (codes "new") (codes "bin")
comes_to_bin = record {
  last = audit_to_bin;
  exchange = [];
  dies = record { is_queue = (0, lit≤ tt, refl); is_named = refl; dead = refl };
  comes = routed ([], here, default bin (1, lit≤ tt, refl) refl refl);
}

-- it is where it must not be
stays_forbidden : AreSafe with_audit.topology (record forbids { queue = codes "audit" } ∷ []) (with_entries (first_entry ∷ [])).broker → ⊥
stays_forbidden safe =
    (safe (codes "audit") first_entry (inl refl) (record forbids { queue = codes "audit" }) (0, lit≤ tt, refl) refl (refl, record { pattern = word none; kept_in = λ e i m. i })).0 refl

-- by its death it may come there
dies_forbidden : AreSafe into_bin.topology into_bin.guarantees (with_entries (first_entry ∷ [])).broker → ⊥
dies_forbidden safe = (safe (codes "audit") first_entry (inl refl) forbids (0, lit≤ tt, refl) refl (refl, covers_first)).1 comes_to_bin

-- also from where it stood at a reload
dies_forbidden_later : AreKept into_bin (with_entries (survived_now first_entry ∷ [])).broker → ⊥
dies_forbidden_later kept = ((kept.each (codes "audit") (survived_now first_entry) (inl refl)).safe forbids (0, lit≤ tt, refl) refl (refl, covers_first)).0 comes_to_bin

done_beside_a_danger : IsDecided reload_into_bin → ⊥
done_beside_a_danger (inl done) =
    done.nothing.none_endangered forbids (codes "audit") first_entry (0, lit≤ tt, refl) (inl refl) (inl refl) (record {
      never = refl;
      covers = (refl, covers_first);
      later = comes_to_bin;
    })
done_beside_a_danger (inr refused) = let other : Reloaded ∷ [] ≡ ReloadRefused refused.obstacle ∷ [] = refused.noted in cc

pub headline_refuses : HeadlineRefuses
headline_refuses = record {
  output_without_ack = no_ack_there;
  unearned_ack = unearned;
  ack_without_entry = nothing_entered;
  ack_of_more = more_acked;
  message_comes_back = one_is_gone [] (with_entries (first_entry ∷ [])) (with_entries (first_entry ∷ [])).broker;
  late_note = one_is_gone (Left 1 (codes "audit") Acked ∷ []) (with_entries []) (with_entries []).broker;
  forbidden_entry = forbidden;
  left_twice = both_left;
  left_by_no_cause = λ has. has.0;
  entered_by_no_publish = no_publish_there;
  dead_letter_of_none = λ has. none_stood has.1.0;
  dead_letter_of_one_that_stays = λ has. none_left has.0;
  entered_without_route = unrouted;
  one_number_for_two = same_number;
  content_of_no_publish = no_source;
  reload_loses_one = lost_by_reload;
  reload_strands_one = stranded_by_reload;
  reload_refused_for_nothing = refused_for_nothing;
  reload_refused_for_the_second = refused_for_the_second;
  reload_refused_with_users = refused_with_users;
  reload_beside_a_danger = done_beside_a_danger;
  forbidden_stay = stays_forbidden;
  forbidden_death = dies_forbidden;
  forbidden_death_after_a_reload = dies_forbidden_later;
  two_letters_of_one = two_of_one;
}

-- ---- consumers

one_digit : decimal 1 ≡ 49 ∷ []
one_digit = decimal_digit 1 (lit≤ tt)

two_digit : decimal 2 ≡ 50 ∷ []
two_digit = decimal_digit 2 (lit≤ tt)

answer_bytes : (digits : Text) → digits ≡ 49 ∷ [] → spelling 131072 (consume_sends 1 1 false (codes "amq.ctag-" ++ digits))
    ≡ 1 ∷ 0 ∷ 1 ∷ 0 ∷ 0 ∷ 0 ∷ 15 ∷ 0 ∷ 60 ∷ 0 ∷ 21 ∷ 10 ∷ 97 ∷ 109 ∷ 113 ∷ 46 ∷ 99 ∷ 116 ∷ 97 ∷ 103 ∷ 45 ∷ 49 ∷ 206 ∷ []
answer_bytes digits e = ap (λ (z : Text). spelling 131072 (consume_sends 1 1 false (codes "amq.ctag-" ++ z))) e

-- a number whose tag is free is the next one, and one whose tag is in use is passed over
found_free : (more : ℕ) (consumers : List Consumer) (n : ℕ) → is_in_use (server_tag n) consumers ≡ false → first_free (suc more) consumers n ≡ n
unfolding first_free
found_free more consumers n e = ap (λ (b : Bool). if b then first_free more consumers (n + 1) else n) e

passed_over : (more : ℕ) (consumers : List Consumer) (n : ℕ) → is_in_use (server_tag n) consumers ≡ true → first_free (suc more) consumers n ≡ first_free more consumers (n + 1)
unfolding first_free
passed_over more consumers n e = ap (λ (b : Bool). if b then first_free more consumers (n + 1) else n) e

-- the second tag is not the first
second_is_free : is_in_use (server_tag 2) (consuming_under []).consumers ≡ false
second_is_free =
    ap (λ (n : ℕ). is_in_use (server_tag 2) (record (consumer_under []) { tag = server_tag n } ∷ [])) (found_free 18446744073709551613 [] 1 refl)
    ∙ ap (λ (z : Text). is_in_use (server_tag 2) (record (consumer_under []) { tag = codes "amq.ctag-" ++ z } ∷ [])) one_digit
    ∙ ap (λ (z : Text). is_in_use (codes "amq.ctag-" ++ z) (record (consumer_under []) { tag = codes "amq.ctag-1" } ∷ [])) two_digit

-- the first is in use where a client took it, and the second is free
first_is_taken : is_in_use (server_tag 1) (consuming_under (codes "amq.ctag-1")).consumers ≡ true
first_is_taken = ap (λ (z : Text). is_in_use (codes "amq.ctag-" ++ z) (consuming_under (codes "amq.ctag-1")).consumers) one_digit

second_is_left : is_in_use (server_tag 2) (consuming_under (codes "amq.ctag-1")).consumers ≡ false
second_is_left = ap (λ (z : Text). is_in_use (codes "amq.ctag-" ++ z) (consuming_under (codes "amq.ctag-1")).consumers) two_digit

second_tag : (n : ℕ) → n ≡ 2 → server_tag n ≡ codes "amq.ctag-2"
second_tag n e = ap server_tag e ∙ ap (λ (z : Text). codes "amq.ctag-" ++ z) two_digit

pub first_consumes : FirstConsumer
first_consumes = record {
  answer = ap (λ (n : ℕ). spelling 131072 (consume_sends 1 1 false (server_tag n))) (found_free 18446744073709551613 [] 1 refl) ∙ answer_bytes (decimal 1) one_digit;
  next = second_tag _ (ap (λ (n : ℕ). first_free (18446744073709551615 - (n + 1)) (consuming_under []).consumers (n + 1)) (found_free 18446744073709551613 [] 1 refl) ∙ found_free 18446744073709551612 (consuming_under []).consumers 2 second_is_free);
  past = second_tag _ (passed_over 18446744073709551613 (consuming_under (codes "amq.ctag-1")).consumers 1 first_is_taken ∙ found_free 18446744073709551612 (consuming_under (codes "amq.ctag-1")).consumers 2 second_is_left);
  may = refl;
  full = refl;
  got = refl;
  another = refl;
  oldest = refl;
}

pub refused_consumes : RefusedConsumes
refused_consumes = record { no_queue = refl; exclusive = refl; in_use = refl; too_many = refl; spent = refl; none = refl }

pub full_queues : FullQueues
full_queues = record { long = refl; whole = refl; empty = refl; more = refl; passed = refl; count = refl; bytes = refl; neither = refl; unlimited = refl }

-- The ways in which a step can go, and the deed that it does. Here alone all cases of `Step` are walked over, and all answers of the phases.
use Rattle.laws.proofs.Names.{◌≡◌, ℕ, append-nil, arith, ◌⊎◌, List, [], ◌∷◌, ◌++◌, Bool, true, false, refl, sym, ap, subst, ◌∙◌, None, inl, inr, codes, count_by, filter_map, ◌==◌, bytes_eq, AllByRecursion, false≢true, Text, Topology, IsIn, AreDistinct, queue_names, Outstanding, Channel, Broker, is_ready, with_one, tag_of, Acts, empty_publish, reply, returned_sends, confirm_sends, next_of, channel_or_new, freed, is_held_as, Session, Move, running_session, no_session, is_running, after_sends, stays_in, to_phase, while_closing, faulted, IsAnswered, MovesInOpening, new_session, first_move, start, opening_move, on_zero, or_closed, at_start, at_tune, at_open, answers_with, closes_with, is_taken, tuned, tune, open_ok, Config, State, Moves, OfFirst, OfCommand, OfLarge, OfFault, Step, User, Happening, Balances, has_number, is_entered, is_left, IsCauseAt, AreRejections, IsOfNoRejection, content_in, event_connection, Gives, Settlement, Leaves, Rejects, Returns, AreSettled, with_queue, after_giving, holder_of, delivery_notes, purge_notes, Holder, Entry, Content, Send, Phase, Event, Open, First, Running, Fault, Lose, Pause, Resume, Deliver, Method, ConnectionStartOk, ConnectionTuneOk, ConnectionOpen, ConnectionClose, ConnectionCloseOk, Cause, Auto, Rejected, Note, Entered, Refused, Left, Answer, eight_bytes, is_ended, is_header, is_first}
use Rattle.std.proofs.Common.{◌+◌, filter, map, Option, Some}
use Rattle.std.specs.Prelude.{if◌then◌else◌}
use Rattle.model.specs.declared.events.Send.TheVariants as send
use Rattle.model.specs.declared.events.Phase.TheVariants as phase
use Rattle.model.specs.declared.events.Event.TheVariants.{Command, TooLarge}
use Rattle.model.specs.declared.methods.Publish.{Publish}
use Rattle.model.specs.declared.notes.Way.TheVariants as way
use Rattle.laws.proofs.Counts.{count-map, count_none, all_each, all-append}
use Rattle.laws.proofs.Deeds.{Deed, changes, enters, gives, settles, purges, IsStill, Publishes, GivesFirst, SettlesGiven, PurgesReady, IsBy, IsPlain, AreFreed, Acted, acted, channel_at, freed_by, moved, with_same}
use Rattle.laws.proofs.Replies.{IsReplyAtMost, IsAnswerAtMost, reply_all, reply_answers}
use Rattle.laws.proofs.Speaking.{IsCommandSend, AreCommandSends, Spoken, spoken_commands, spoken_on, spoken_still}
use Rattle.laws.proofs.Letters.{no_rejections, are_rejections}
use Rattle.laws.proofs.Dying.{HasDied, IsQuiet, leaving_quiet, leaving_enters, rejected_quiet, rejected_balances, rejected_causes}
use Rattle.laws.proofs.Leaving.{is_leaving, OfLeft, at_queue, count_change, freed_number, taken_balances, left_balances, are_leaving, left_causes, returned_counts, settled_are, purge_balances, purge_leaving, purge_causes}

-- ---- what is sent

reply_commands : (sends : List Send) → IsReplyAtMost sends → AreCommandSends sends
reply_commands sends a = reply_all IsCommandSend (λ c h m content is. tt) sends a

-- ---- the ways of the broker

-- the content is that of a message that the event gives out
abbrev pub IsGiven : Broker → Event → List Send → List Note → Broker → Content → Type 0
IsGiven old e sends notes new content = (queue : Text) × (entry : Entry) × Gives old e sends notes new queue entry × (content ≡ entry.message.content)

-- so is each content among these sends
abbrev pub AreGiven : Broker → Event → List Send → List Note → Broker → List Send → Type 0
AreGiven old e sends notes new wanted = AllByRecursion (IsGiven old e sends notes new) (filter_map content_in wanted)

-- no publish is counted, what is noted is that messages left their queues and that dead letters of what stood there came, each queue has what that leaves and adds, and one answer at most is sent
pub record CountsNone (t : Topology) (old new : Broker) (e : Event) (sends : List Send) (notes : List Note) : Type 0 where
  pub same : new.published ≡ old.published
  pub noted : AllByRecursion (IsQuiet t old.queue notes) notes
  pub balances : Balances old notes new
  pub caused : AllByRecursion (OfLeft (IsCauseAt old e)) notes
  pub rejections : AreDistinct (queue_names t.queues) → AreRejections t old.queue [] notes ⊎ AllByRecursion IsOfNoRejection notes
  pub few : IsAnswerAtMost sends
  pub contents : AreGiven old e sends notes new sends

-- of what is true of each note of a leaving, of a refusal, and of a dead letter's entering, each of these notes is
pub quiet_notes : {t : Topology} {old new : Broker} {e : Event} {sends : List Send} {notes : List Note} (P : Note → Type 0) → ((n : ℕ) (q : Text) (cause : Cause) → P (Left n q cause)) → ((n : ℕ) (q : Text) → P (Refused n q))
    → ((n : ℕ) (q : Text) → HasDied t old.queue notes n q → P (Entered n q way.Dead)) → CountsNone t old new e sends notes → AllByRecursion P notes
quiet_notes {t = t} {old = old} {notes = notes} P left refused died a = all_each _ P only notes a.noted
  where
    only : (note : Note) → IsQuiet t old.queue notes note → P note
    only (Left n q cause) is = left n q cause
    only (Refused n q) is = refused n q
    only (Entered n q way.Dead) is = died n q is
    only _ is = absurd is

-- where messages only left, each queue has all others that it had
leaving_balances : (old new : Broker) (notes : List Note) → AllByRecursion (λ (note : Note). is_leaving note ≡ true) notes
    → ((n : ℕ) (q : Text) → count_by (has_number n) (old.queue q) ≡ count_by (is_left n q) notes + count_by (has_number n) (new.queue q)) → Balances old notes new
leaving_balances old new notes leaving kept n q =
    let none = count_none (is_entered n q) notes (all_each _ _ (leaving_enters n q) notes leaving) in
    let rest = kept n q in
    omega (arith, none, rest)

abbrev pub Seen : Topology → Broker → Broker → Event → List Send → List Note → Type 0
Seen t old new e sends notes = CountsNone t old new e sends notes ⊎ Publishes t old new e sends notes

freed_count : (b : Broker) (mine : Holder → Bool) (n : ℕ) (q : Text) → count_by (has_number n) (map (freed mine) (b.queue q)) ≡ count_by (has_number n) (b.queue q)
freed_count b mine n q = count-map (has_number n) (freed mine) (freed_number n mine) (b.queue q)

-- ---- all deeds

module _ (t : Topology) (old new : Broker) (e : Event) (c : ℕ) (sends : List Send) (notes : List Note) (few : IsAnswerAtMost sends) where
  -- it is noted that these messages left
  noting : (left : List Note) → notes ≡ left → new.published ≡ old.published → AllByRecursion (λ (note : Note). is_leaving note ≡ true) left
      → ((n : ℕ) (q : Text) → count_by (has_number n) (old.queue q) ≡ count_by (is_left n q) left + count_by (has_number n) (new.queue q)) → AllByRecursion (OfLeft (IsCauseAt old e)) left → AreGiven old e sends notes new sends → CountsNone t old new e sends notes
  noting left noted same leaving kept caused contents = record {
    same = same;
    noted = all_each _ _ (leaving_quiet t old.queue notes) notes all_leaving;
    balances = leaving_balances old new notes all_leaving (λ n q. kept n q ∙ sym (ap (λ (ns : List Note). count_by (is_left n q) ns + count_by (has_number n) (new.queue q)) noted));
    caused = subst (AllByRecursion (OfLeft (IsCauseAt old e))) (sym noted) caused;
    rejections = λ distinct. inr (no_rejections notes all_leaving);
    few = few;
    contents = contents;
  }
    where
      all_leaving : AllByRecursion (λ (note : Note). is_leaving note ≡ true) notes
      all_leaving = subst (AllByRecursion (λ (note : Note). is_leaving note ≡ true)) (sym noted) leaving

  -- each queue has what it had, if nothing is noted
  all_kept : ((n : ℕ) (q : Text) → count_by (has_number n) (new.queue q) ≡ count_by (has_number n) (old.queue q)) → (n : ℕ) (q : Text) → count_by (has_number n) (old.queue q) ≡ count_by (is_left n q) [] + count_by (has_number n) (new.queue q)
  all_kept same n q = let z : count_by (is_left n q) [] ≡ 0 = refl in let s = same n q in omega (arith, z, s)

  -- nothing is given out
  none_given : filter_map content_in sends ≡ [] → AreGiven old e sends notes new sends
  none_given bare = subst (AllByRecursion (IsGiven old e sends notes new)) (sym bare) tt

  freed_counts : IsStill old new sends notes → (mine : Holder → Bool) → AreFreed old new mine → CountsNone t old new e sends notes
  freed_counts s mine freed = noting [] s.noted s.counted tt (all_kept (λ n q. ap (count_by (has_number n)) (freed q) ∙ freed_count old mine n q)) tt (none_given s.bare)

  given_counts : (g : GivesFirst old new e c sends notes) → (no_ack : Bool) → g.no_ack ≡ no_ack → CountsNone t old new e sends notes
  given_counts g no_ack is = by no_ack (g.noted ∙ ap (λ (v : Bool). delivery_notes v g.entry.message.number g.queue) is) (λ q. g.left.queues q ∙ ap (λ (v : Bool). with_queue old.queue g.queue (after_giving v holder (old.queue g.queue)) q) is) is
    where
      holder : Holder
      holder = record { connection = c; channel = g.h; tag = g.ch.next_tag; by = g.by }

      contents : AreGiven old e sends notes new sends
      contents = subst (AllByRecursion (IsGiven old e sends notes new)) (sym g.carries) ((g.queue, g.entry, g.out, refl), tt)

      by : (v : Bool) → notes ≡ delivery_notes v g.entry.message.number g.queue → ((q : Text) → new.queue q ≡ with_queue old.queue g.queue (after_giving v holder (old.queue g.queue)) q) → g.no_ack ≡ v → CountsNone t old new e sends notes
      by true noted queues is =
          noting _ noted g.left.counted (refl, tt) (λ n q. taken_balances is_ready old.queue g.queue Auto g.entry g.first n q ∙ sym (ap (λ (es : List Entry). count_by (is_left n q) (Left g.entry.message.number g.queue Auto ∷ []) + count_by (has_number n) es) (queues q)))
          (g.caused is, tt) contents
      by false noted queues is =
          noting _ noted g.left.counted tt
          (all_kept (λ n q. ap (count_by (has_number n)) (queues q) ∙ at_queue (λ (r : Text) (es : List Entry). count_by (has_number n) es ≡ count_by (has_number n) (old.queue r)) old.queue g.queue _ (count_change (has_number n) is_ready _ (λ x. refl) (old.queue g.queue)) (λ r other. refl) q)) tt contents

  -- what is outstanding on a channel is outstanding on one that is open
  opened_if : (o : Option Channel) (x : Outstanding) → IsIn x (channel_or_new o).outstanding → o ≡ Some (channel_or_new o)
  opened_if None x i = absurd i
  opened_if (Some ch) x i = refl

  settled_counts : SettlesGiven t old new e c sends notes → CountsNone t old new e sends notes
  settled_counts s = record {
    same = s.is.counted;
    noted = quiet_ones s.how s.plain s.is.queues;
    balances = balances s.how s.plain s.is.queues;
    caused = caused s.how (λ why is. is) s.is.queues;
    rejections = λ distinct. rejections s.how s.plain distinct s.is.queues;
    few = few;
    contents = none_given s.bare;
  }
    where
      gone : List Outstanding
      gone = s.is.gone

      quiet_ones : (how : Settlement) → IsPlain how → AreSettled t how c s.h gone old.queue notes new.queue → AllByRecursion (IsQuiet t old.queue notes) notes
      quiet_ones (Leaves why) plain a = all_each _ _ (leaving_quiet t old.queue notes) notes (are_leaving why plain c s.h gone old.queue notes new.queue a)
      quiet_ones Rejects plain a = rejected_quiet t c s.h old.queue notes gone old.queue notes new.queue (λ q x i idle. i) (λ note i. i) a
      quiet_ones Returns plain a = subst (AllByRecursion (IsQuiet t old.queue notes)) (sym a.0) tt

      balances : (how : Settlement) → IsPlain how → AreSettled t how c s.h gone old.queue notes new.queue → Balances old notes new
      balances (Leaves why) plain a n q = leaving_balances old new notes (are_leaving why plain c s.h gone old.queue notes new.queue a) (left_balances why c s.h gone old.queue notes new.queue a) n q
      balances Rejects plain a n q = rejected_balances t c s.h gone old.queue notes new.queue a n q
      balances Returns plain a n q =
          let left : count_by (is_left n q) notes ≡ 0 = ap (count_by (is_left n q)) a.0 in
          let entered : count_by (is_entered n q) notes ≡ 0 = ap (count_by (is_entered n q)) a.0 in
          let same = returned_counts c s.h gone old.queue new.queue a.1 n q in
          omega (arith, left, entered, same)

      rejections : (how : Settlement) → IsPlain how → AreDistinct (queue_names t.queues) → AreSettled t how c s.h gone old.queue notes new.queue → AreRejections t old.queue [] notes ⊎ AllByRecursion IsOfNoRejection notes
      rejections (Leaves why) plain distinct a = inr (no_rejections notes (are_leaving why plain c s.h gone old.queue notes new.queue a))
      rejections Rejects plain distinct a = inl (are_rejections t distinct c s.h gone old.queue notes new.queue a)
      rejections Returns plain distinct a = inr (subst (AllByRecursion IsOfNoRejection) (sym a.0) tt)

      each : (why : Cause) → IsBy s.how why → (o : Outstanding) (entry : Entry) → IsIn o gone → IsIn entry (old.queue o.queue) → is_held_as (holder_of c s.h o) entry ≡ true → IsCauseAt old e entry.message.number o.queue why
      each why is o entry i stands held =
          let at = settled_are tag_of s.tag s.multiple (channel_at old c s.h).outstanding gone s.is.settled_are o i in
          s.caused why is entry.message.number o.queue (record { channel = channel_at old c s.h; there = opened_if (old.channel c s.h) o at.0; delivery = o; outstanding = at.0; settled = at.1; of_queue = refl; entry = entry; stands = stands; held = held; number = refl })

      caused : (how : Settlement) → ((why : Cause) → IsBy how why → IsBy s.how why) → AreSettled t how c s.h gone old.queue notes new.queue → AllByRecursion (OfLeft (IsCauseAt old e)) notes
      caused (Leaves why) by a = left_causes (IsCauseAt old e) why c s.h gone old.queue notes new.queue a (each why (by why refl))
      caused Rejects by a = rejected_causes (IsCauseAt old e) t c s.h gone old.queue notes new.queue a (each Rejected (by Rejected refl))
      caused Returns by a = subst (AllByRecursion (OfLeft (IsCauseAt old e))) (sym a.0) tt

  purged_counts : PurgesReady old new e sends notes → CountsNone t old new e sends notes
  purged_counts p =
      noting _ p.noted p.left.counted (purge_leaving p.queue _) (λ n q. purge_balances old.queue p.queue n q ∙ sym (ap (λ (es : List Entry). count_by (is_left n q) (purge_notes p.queue (filter is_ready (old.queue p.queue))) + count_by (has_number n) es) (p.left.queues q)))
      (purge_causes (IsCauseAt old e) p.queue (old.queue p.queue) _ (λ x i. i) p.caused) (none_given p.bare)

  -- Each deed counts no publish, or is one.
  counts : Deed t old new e c sends notes → Seen t old new e sends notes
  counts (changes s change) = let f = freed_by change in inl (freed_counts s f.0 f.1)
  counts (enters h now p puts alike serves) = inr p
  counts (gives g) = inl (given_counts g g.no_ack refl)
  counts (settles s) = inl (settled_counts s)
  counts (purges p) = inl (purged_counts p)

-- ---- what the broker sends is commands

commands_returned : (c h : ℕ) (p : Publish) (content : Content) (b : Bool) → AreCommandSends (returned_sends c h p content b)
commands_returned c h p content true = (tt, tt)
commands_returned c h p content false = tt

commands_confirmed : (c h : ℕ) (o : Option ℕ) (a : Answer) → AreCommandSends (confirm_sends c h o a)
commands_confirmed c h None a = tt
commands_confirmed c h (Some n) a = (tt, tt)

pub acted_commands : (t : Topology) (old new : Broker) (e : Event) (sends : List Send) (notes : List Note) → Acted t old new e sends notes → AreCommandSends sends
acted_commands t old new e sends notes a = elim a.few [
  | inl few ↦ reply_commands sends few
  | inr p ↦ subst AreCommandSends (sym p.is.sent) (all-append IsCommandSend _ _ (commands_returned p.c p.h p.publish _ _) (commands_confirmed p.c p.h (next_of p.ch.confirm) _))
]

-- ---- the ways of a whole step

-- its connection's session after an event of the broker
abbrev pub session_after : Session → Event → List Send → Session
session_after s (Open c) sends = new_session
session_after s (First c bytes) sends = to_phase s (after_sends sends)
session_after s (Running c max k) sends = record running_session { channel_max = max }
session_after s (Command c h m content) sends = to_phase s (after_sends sends)
session_after s (TooLarge c h) sends = to_phase s (after_sends sends)
session_after s (Fault c code) sends = to_phase s phase.Over
session_after s (Lose c) sends = no_session
session_after s (Pause c) sends = s
session_after s (Resume c) sends = s
session_after s (Deliver c) sends = s

-- the first eight bytes, a command, or a fault of its stream
abbrev pub is_read : Event → Bool
is_read (First c bytes) = true
is_read (Command c h m content) = true
is_read (TooLarge c h) = true
is_read (Fault c code) = true
is_read e = false

-- a connection is opened that awaits its first eight bytes
abbrev pub is_opening : Event → Bool
is_opening (Open c) = true
is_opening e = false

-- the broker performs it
pub record Performed (f : Config) (old : State) (e : Event) (sends : List Send) (notes : List Note) (new : State) : Type 0 where
  pub runs : is_read e ≡ true → is_running (old.session (event_connection e)).phase ≡ true
  pub free : is_opening e ≡ true → is_running (old.session (event_connection e)).phase ≡ false
  pub acts : Acts f.topology old.broker e sends notes new.broker
  pub sessions : (d : ℕ) → new.session d ≡ with_one old.session (event_connection e) (session_after (old.session (event_connection e)) e sends) d

-- the phase of a connection that doesn't run answers what is read, by one answer at most
pub record Answered (old : State) (e : Event) (sends : List Send) (notes : List Note) (new : State) : Type 0 where
  pub idle : is_running (old.session (event_connection e)).phase ≡ false
  pub read : is_read e ≡ true
  pub move : Move
  pub few : IsAnswerAtMost move.sends
  pub bare : filter_map content_in move.sends ≡ []
  pub header : is_header move.next.phase ≡ true → (is_header (old.session (event_connection e)).phase ≡ true) × (is_first e ≡ false)
  pub spoken : is_ended (old.session (event_connection e)).phase ≡ false → (sent : List Send) → Spoken (event_connection e) (old.session (event_connection e)).phase sent → Spoken (event_connection e) move.next.phase (sent ++ move.sends)
  pub moves : Moves old (event_connection e) move sends notes new

either_move : (P : Move → Type 0) (b : Bool) (x y : Move) → P x → P y → P (if b then x else y)
either_move P true x y p q = p
either_move P false x y p q = q

-- one reply at most is sent, which has no content, and the first eight bytes are awaited afterwards only where they were before and nothing is sent
record Replies (s : Session) (move : Move) : Type 0 where
  few : IsReplyAtMost move.sends
  bare : filter_map content_in move.sends ≡ []
  header : is_header move.next.phase ≡ true → (is_header s.phase ≡ true) × (move.sends ≡ [])

replies : (s : Session) (move : Move) → IsReplyAtMost move.sends → filter_map content_in move.sends ≡ [] → is_header move.next.phase ≡ false → Replies s move
replies s move few bare e = record { few = few; bare = bare; header = λ h. absurd (false≢true (sym e ∙ h)) }

stays_replies : (s : Session) → Replies s (stays_in s)
stays_replies s = record { few = tt; bare = refl; header = λ h. (h, refl) }

closing_replies : (c : ℕ) (s : Session) (h : ℕ) (m : Method) → is_header s.phase ≡ false → Replies s (while_closing c s h m)
closing_replies c s h (ConnectionClose m) e = either_move (Replies s) (h == 0) (record { sends = reply c 0 ConnectionCloseOk ∷ []; next = s }) (stays_in s) (replies s (record { sends = reply c 0 ConnectionCloseOk ∷ []; next = s }) (refl, refl) refl e) (stays_replies s)
closing_replies c s h ConnectionCloseOk e = either_move (Replies s) (h == 0) (record { sends = []; next = to_phase s phase.Over }) (stays_in s) (replies s (record { sends = []; next = to_phase s phase.Over }) tt refl refl) (stays_replies s)
closing_replies c s h _ e = stays_replies s

closes_replies : (c : ℕ) (s : Session) (code : ℕ) (m : Method) → Replies s (closes_with c s code m)
closes_replies c s code m = replies s (closes_with c s code m) (refl, refl) refl refl

start_replies : (c : ℕ) (is_user : Bool) (s : Session) (m : Method) → Replies s (at_start c is_user s m)
start_replies c is_user s (ConnectionStartOk m) =
    either_move (Replies s) is_user (answers_with c s tune phase.Tune) (closes_with c s 403 (ConnectionStartOk m)) (replies s (answers_with c s tune phase.Tune) (refl, refl) refl refl) (closes_replies c s 403 (ConnectionStartOk m))
start_replies c is_user s m = closes_replies c s 503 m

tune_replies : (c : ℕ) (s : Session) (m : Method) → Replies s (at_tune c s m)
tune_replies c s (ConnectionTuneOk m) =
    either_move (Replies s) (is_taken m) (record { sends = []; next = tuned m }) (closes_with c s 530 (ConnectionTuneOk m)) (replies s (record { sends = []; next = tuned m }) tt refl refl) (closes_replies c s 530 (ConnectionTuneOk m))
tune_replies c s m = closes_replies c s 503 m

open_replies : (c : ℕ) (s : Session) (m : Method) → Replies s (at_open c s m)
open_replies c s (ConnectionOpen m) =
    either_move (Replies s) (bytes_eq m.virtual_host (codes "/")) (answers_with c s open_ok phase.Running) (closes_with c s 530 (ConnectionOpen m)) (replies s (answers_with c s open_ok phase.Running) (refl, refl) refl refl) (closes_replies c s 530 (ConnectionOpen m))
open_replies c s m = closes_replies c s 503 m

closed_replies : (c : ℕ) (s : Session) (m : Method) (move : Move) → Replies s move → Replies s (or_closed c s m move)
closed_replies c s (ConnectionClose x) move r = replies s (answers_with c s ConnectionCloseOk phase.Over) (refl, refl) refl refl
closed_replies c s _ move r = r

zero_replies : (c : ℕ) (s : Session) (h : ℕ) (m : Method) (move : Move) → Replies s move → Replies s (on_zero c s h m move)
zero_replies c s h m move r = either_move (Replies s) (h == 0) (or_closed c s m move) (closes_with c s 503 m) (closed_replies c s m move r) (closes_replies c s 503 m)

opening_replies : (c : ℕ) (is_user : Bool) (s : Session) (p : Phase) (h : ℕ) (m : Method) → Replies s (opening_move c is_user s p h m)
opening_replies c is_user s phase.Start h m = zero_replies c s h m (at_start c is_user s m) (start_replies c is_user s m)
opening_replies c is_user s phase.Tune h m = zero_replies c s h m (at_tune c s m) (tune_replies c s m)
opening_replies c is_user s phase.Open h m = zero_replies c s h m (at_open c s m) (open_replies c s m)
opening_replies c is_user s _ h m = stays_replies s

opens_replies : (users : List User) (c : ℕ) (s : Session) (h : ℕ) (m : Method) (move : Move) → MovesInOpening users c s h m move → Replies s move
opens_replies users c s h m move o = subst (Replies s) (sym o.moved) (opening_replies c o.is_user s s.phase h m)

answer_replies : (users : List User) (c : ℕ) (s : Session) (p : Phase) (h : ℕ) (m : Method) (move : Move) → s.phase ≡ p → IsAnswered users c s p h m move → Replies s move
answer_replies users c s phase.Closing h m move here e = subst (Replies s) (sym e) (closing_replies c s h m (ap is_header here))
answer_replies users c s phase.Header h m move here o = opens_replies users c s h m move o
answer_replies users c s phase.Start h m move here o = opens_replies users c s h m move o
answer_replies users c s phase.Tune h m move here o = opens_replies users c s h m move o
answer_replies users c s phase.Open h m move here o = opens_replies users c s h m move o
answer_replies users c s phase.Running h m move here o = opens_replies users c s h m move o
answer_replies users c s phase.Over h m move here o = opens_replies users c s h m move o

fault_replies : (c : ℕ) (s : Session) (p : Phase) (code : ℕ) → Replies s (faulted c s p code)
fault_replies c s phase.Closing code = replies s (faulted c s phase.Closing code) tt refl refl
fault_replies c s phase.Over code = stays_replies s
fault_replies c s p code = replies s (faulted c s p code) (refl, refl) refl refl

-- of a connection that is not over, what was sent so far goes on as its phase says
replies_spoken : (c : ℕ) (s : Session) (move : Move) → Replies s move → is_ended s.phase ≡ false → (sent : List Send) → Spoken c s.phase sent → Spoken c move.next.phase (sent ++ move.sends)
replies_spoken c s move r stands sent was = go (is_header move.next.phase) refl
  where
    go : (v : Bool) → is_header move.next.phase ≡ v → Spoken c move.next.phase (sent ++ move.sends)
    go true e = let before = r.header e in spoken_still c s.phase move.next.phase sent move.sends before.0 e before.1 was
    go false e = spoken_on c move.next.phase (sent ++ move.sends) e (all-append IsCommandSend sent move.sends (spoken_commands c s.phase sent stands was) (reply_commands move.sends r.few))

-- ---- the first eight bytes

-- the protocol header goes back, and all is over
abbrev greets : ℕ → Session → Move
greets c s = record { sends = send.Greeting c ∷ []; next = to_phase s phase.Over }

first_few : (c : ℕ) (s : Session) (p : Phase) (bytes : Text) → IsAnswerAtMost (first_move c s p bytes).sends
first_few c s phase.Header bytes = either_move (λ (m : Move). IsAnswerAtMost m.sends) (bytes_eq bytes eight_bytes) (answers_with c s start phase.Start) (greets c s) (refl, refl) refl
first_few c s _ bytes = tt

first_bare : (c : ℕ) (s : Session) (p : Phase) (bytes : Text) → filter_map content_in (first_move c s p bytes).sends ≡ []
first_bare c s phase.Header bytes = either_move (λ (m : Move). filter_map content_in m.sends ≡ []) (bytes_eq bytes eight_bytes) (answers_with c s start phase.Start) (greets c s) refl refl
first_bare c s _ bytes = refl

-- once they are read they are not awaited any more
first_no_header : (c : ℕ) (s : Session) (p : Phase) (bytes : Text) → s.phase ≡ p → is_header (first_move c s p bytes).next.phase ≡ false
first_no_header c s phase.Header bytes here = either_move (λ (m : Move). is_header m.next.phase ≡ false) (bytes_eq bytes eight_bytes) (answers_with c s start phase.Start) (greets c s) refl refl
first_no_header c s _ bytes here = ap is_header here

first_spoken : (c : ℕ) (s : Session) (p : Phase) (bytes : Text) → s.phase ≡ p → (sent : List Send) → Spoken c s.phase sent → Spoken c (first_move c s p bytes).next.phase (sent ++ (first_move c s p bytes).sends)
first_spoken c s phase.Header bytes here sent was =
    let none : sent ≡ [] = subst (λ (p : Phase). Spoken c p sent) here was in
    let started : AreCommandSends (sent ++ (answers_with c s start phase.Start).sends) = subst (λ (z : List Send). AreCommandSends (z ++ (answers_with c s start phase.Start).sends)) (sym none) (tt, tt) in
    either_move (λ (m : Move). Spoken c m.next.phase (sent ++ m.sends)) (bytes_eq bytes eight_bytes) (answers_with c s start phase.Start) (greets c s) started (inr (ap (λ (z : List Send). z ++ (send.Greeting c ∷ [])) none))
first_spoken c s _ bytes here sent was = subst (Spoken c s.phase) (sym (append-nil sent)) was

module _ (f : Config) (old new : State) (sends : List Send) (notes : List Note) where
  answering : (e : Event) (move : Move) → is_running (old.session (event_connection e)).phase ≡ false → is_read e ≡ true → is_first e ≡ false → Replies (old.session (event_connection e)) move → Moves old (event_connection e) move sends notes new → Answered old e sends notes new
  answering e move idle read frames r moves = record { idle = idle; read = read; move = move; few = reply_answers move.sends r.few; bare = r.bare; header = λ h. ((r.header h).0, frames); spoken = replies_spoken (event_connection e) (old.session (event_connection e)) move r; moves = moves }

  of_command : (p : Phase) (c h : ℕ) (m : Method) (content : Option Content) → (old.session c).phase ≡ p → OfCommand f old p c h m content sends notes new → Performed f old (Command c h m content) sends notes new ⊎ Answered old (Command c h m content) sends notes new
  of_command phase.Running c h m content here s = inl (record { runs = λ r. ap is_running here; free = λ r. absurd (false≢true r); acts = s.acts; sessions = s.session })
  of_command p c h m content here s = inr (answering (Command c h m content) s.move (ap is_running here) refl refl (answer_replies f.users c (old.session c) p h m s.move here s.answered) s.moves)

  of_large : (p : Phase) (c h : ℕ) → (old.session c).phase ≡ p → OfLarge f old p c h sends notes new → Performed f old (TooLarge c h) sends notes new ⊎ Answered old (TooLarge c h) sends notes new
  of_large phase.Running c h here s = inl (record { runs = λ r. ap is_running here; free = λ r. absurd (false≢true r); acts = s.acts; sessions = s.session })
  of_large p c h here s = inr (answering (TooLarge c h) s.move (ap is_running here) refl refl (answer_replies f.users c (old.session c) p h empty_publish s.move here s.answered) s.moves)

  of_fault : (p : Phase) (c code : ℕ) → (old.session c).phase ≡ p → OfFault f old p c code sends notes new → Performed f old (Fault c code) sends notes new ⊎ Answered old (Fault c code) sends notes new
  of_fault phase.Running c code here s = inl (record { runs = λ r. ap is_running here; free = λ r. absurd (false≢true r); acts = s.acts; sessions = s.session })
  of_fault p c code here s = inr (answering (Fault c code) (faulted c (old.session c) p code) (ap is_running here) refl refl (fault_replies c (old.session c) p code) s)

  of_first : (p : Phase) (c : ℕ) (bytes : Text) → (old.session c).phase ≡ p → OfFirst f old p c bytes sends notes new → Performed f old (First c bytes) sends notes new ⊎ Answered old (First c bytes) sends notes new
  of_first phase.Running c bytes here s = inl (record { runs = λ r. ap is_running here; free = λ r. absurd (false≢true r); acts = s.acts; sessions = s.session })
  of_first p c bytes here s =
      inr (record { idle = ap is_running here; read = refl; move = first_move c (old.session c) p bytes; few = first_few c (old.session c) p bytes; bare = first_bare c (old.session c) p bytes; header = λ h. absurd (false≢true (sym (first_no_header c (old.session c) p bytes here) ∙ h)); spoken = λ stands. first_spoken c (old.session c) p bytes here; moves = s })

  -- Each step goes one of these ways.
  pub goes : (e : Event) → Step f old e sends notes new → Performed f old e sends notes new ⊎ Answered old e sends notes new
  goes (Open c) s = inl (record { runs = λ r. absurd (false≢true r); free = λ r. ap is_running s.free; acts = s.steps.acts; sessions = s.steps.session })
  goes (First c bytes) s = of_first (old.session c).phase c bytes refl s
  goes (Running c max k) s = inl (record { runs = λ r. absurd (false≢true r); free = λ r. absurd (false≢true r); acts = s.acts; sessions = s.session })
  goes (Command c h m content) s = of_command (old.session c).phase c h m content refl s
  goes (TooLarge c h) s = of_large (old.session c).phase c h refl s
  goes (Fault c code) s = of_fault (old.session c).phase c code refl s
  goes (Lose c) s = inl (record { runs = λ r. absurd (false≢true r); free = λ r. absurd (false≢true r); acts = s.acts; sessions = s.session })
  goes (Pause c) s = inl (record { runs = λ r. absurd (false≢true r); free = λ r. absurd (false≢true r); acts = s.acts; sessions = λ d. s.session d ∙ sym (with_same old.session c (old.session c) refl d) })
  goes (Resume c) s = inl (record { runs = λ r. absurd (false≢true r); free = λ r. absurd (false≢true r); acts = s.acts; sessions = λ d. s.session d ∙ sym (with_same old.session c (old.session c) refl d) })
  goes (Deliver c) s = inl (record { runs = λ r. absurd (false≢true r); free = λ r. absurd (false≢true r); acts = s.acts; sessions = λ d. s.session d ∙ sym (with_same old.session c (old.session c) refl d) })

  -- Each step does a deed, and sends one answer at most where it is no publish.
  pub step_deed : (e : Event) → Step f old e sends notes new → Deed f.topology old.broker new.broker e (event_connection e) sends notes
  step_deed e s = elim (goes e s) [
    | inl p ↦ (acted f.topology old.broker new.broker sends notes e p.acts).deed
    | inr a ↦ moved f.topology old.broker new.broker sends notes e (event_connection e) a.move.next.channel_max (is_running a.move.next.phase) a.moves.noted (ap (filter_map content_in) a.moves.sent ∙ a.bare) a.moves.broker
  ]

  few_sent : (e : Event) → Step f old e sends notes new → IsAnswerAtMost sends ⊎ Publishes f.topology old.broker new.broker e sends notes
  few_sent e s = elim (goes e s) [
    | inl p ↦ elim (acted f.topology old.broker new.broker sends notes e p.acts).few [ inl few ↦ inl (reply_answers sends few) | inr is ↦ inr is ]
    | inr a ↦ inl (subst IsAnswerAtMost (sym a.moves.sent) a.few)
  ]

  -- Each step adds nothing, or is a publish.
  pub seen : (e : Event) → Step f old e sends notes new → Seen f.topology old.broker new.broker e sends notes
  seen e s = elim (few_sent e s) [ inl few ↦ counts f.topology old.broker new.broker e (event_connection e) sends notes few (step_deed e s) | inr is ↦ inr is ]

-- an event of a run, as it stands in it
pub seen_at : (h : Happening) → Step h.config h.before h.event h.sends h.notes h.after → Seen h.config.topology h.before.broker h.after.broker h.event h.sends h.notes
seen_at h s = seen h.config h.before h.after h.sends h.notes h.event s

pub deed_at : (h : Happening) → Step h.config h.before h.event h.sends h.notes h.after → Deed h.config.topology h.before.broker h.after.broker h.event (event_connection h.event) h.sends h.notes
deed_at h s = step_deed h.config h.before h.after h.sends h.notes h.event s

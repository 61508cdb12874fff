-- Certified delivery: whatever arrives, the headline holds of what is seen.
use Rattle.laws.proofs.Names.{◌≡◌, ◌≤◌, ℕ, List, [], ◌∷◌, ◌++◌, refl, sym, ap, subst, ◌∙◌, ◌⊎◌, inl, inr, append-nil, arith, filter_map, flat_map, ◌==◌, slice_get, slice_index_or, AllByRecursion, cons_option, flat_map-append, filter-append, filter_map-append, same_Some, slice_get_within, Frame, frame_bytes, IsFrame, IsConsistent, Config, State, Step, Happening, sends_of, put_out, empty_state, Occurrence, events_of, AreKept, frames_of, send_bytes, spelling, receiver, sends_to, eight_bytes, World, new_world, Turns, Pumps, Shows, Shown, Seen, shown, ack_in, IsReading, HasAcksOf, acked, ack_for, nack_in, nacks_of, HasNacks, IsSound, KeepsEvents, KeepsPromises, Send, Event, Note, ack_sent, nack_sent, Lasts, KeepsOn}
use Rattle.std.proofs.Common.{◌<◌, ◌+◌}
use Rattle.std.specs.Prelude.{map, drop, Option, Some}
use Rattle.model.specs.declared.events.Send.TheVariants as send
use Rattle.laws.specs.Delivery.{TurnsConfirm, HeadlineHolds}
use Rattle.laws.proofs.Histories.{ToldOver, Lasting, histories_keep, lasting, decided_each, sourced_over, gives_in_order, acks_over, nacks_over, over_plays}
use Rattle.laws.proofs.Counts.{all-append, all_each, filter_all}
use Rattle.laws.proofs.Reading.{frames_each}
use Rattle.laws.proofs.Telling.{IsRead, sends_read, told_to-append}
use Rattle.laws.proofs.Plays.{IsPut, IsTold, Told, said_each, sound_each, told_turns, told_pumps}
use Rattle.laws.proofs.Speaking.{IsCommandSend, AreCommandSends}
use Rattle.laws.proofs.Spoken.{sent_to, is_spoken, own_sends, puts_sends, settled_silent}
use Rattle.laws.proofs.Deeds.{acted}
use Rattle.laws.proofs.Replies.{IsAnswerAtMost}
use Rattle.laws.proofs.View.{goes, acted_commands}
use Rattle.laws.proofs.Keeping.{stay_kept, safe_over, last_in_force}
use Rattle.laws.proofs.Never.{run_keeps}
use Rattle.laws.proofs.Acks.{run_acks, acks_are_read}
use Rattle.laws.proofs.Nacks.{run_nacks, nacks_are_read}

-- ---- the output of one connection, as frames

-- the frames of what one happening sent to a connection
abbrev frames_at : ℕ → Happening → List Frame
frames_at c h = flat_map (frames_of h.frame_max) (sends_to c h.sends)

abbrev frames_put : ℕ → List Happening → List Frame
frames_put c [] = []
frames_put c (h ∷ hs) = frames_at c h ++ frames_put c hs

spelling_is : (max : ℕ) (sends : List Send) → AreCommandSends sends → spelling max sends ≡ flat_map frame_bytes (flat_map (frames_of max) sends)
spelling_is max [] a = refl
spelling_is max (send.Greeting c ∷ sends) a = absurd a.0
spelling_is max (send.Command c h m content ∷ sends) a =
    ap (λ (z : List ℕ). send_bytes max (send.Command c h m content) ++ z) (spelling_is max sends a.1)
    ∙ sym (flat_map-append frame_bytes (frames_of max (send.Command c h m content)) (flat_map (frames_of max) sends))

-- what is true of each of two lists together is true of each of both
all_front : {A : Type 0} (P : A → Type 0) (xs ys : List A) → AllByRecursion P (xs ++ ys) → AllByRecursion P xs
all_front P [] ys a = tt
all_front P (x ∷ xs) ys a = (a.0, all_front P xs ys a.1)

all_back : {A : Type 0} (P : A → Type 0) (xs ys : List A) → AllByRecursion P (xs ++ ys) → AllByRecursion P ys
all_back P [] ys a = a
all_back P (x ∷ xs) ys a = all_back P xs ys a.1

sent_on : (c : ℕ) (h : Happening) (hs : List Happening) → sent_to c (h ∷ hs) ≡ sends_to c h.sends ++ sent_to c hs
sent_on c h hs = filter-append (λ x. receiver x == c) h.sends (sends_of hs)

put_out_is : (c : ℕ) (hs : List Happening) → AreCommandSends (sent_to c hs) → put_out c hs ≡ flat_map frame_bytes (frames_put c hs)
put_out_is c [] a = refl
put_out_is c (h ∷ hs) a =
    let each : AreCommandSends (sends_to c h.sends ++ sent_to c hs) = subst AreCommandSends (sent_on c h hs) a in
    ap (λ (z : List ℕ). z ++ put_out c hs) (spelling_is h.frame_max (sends_to c h.sends) (all_front IsCommandSend _ (sent_to c hs) each))
    ∙ ap (λ (z : List ℕ). flat_map frame_bytes (frames_at c h) ++ z) (put_out_is c hs (all_back IsCommandSend (sends_to c h.sends) _ each))
    ∙ sym (flat_map-append frame_bytes (frames_at c h) (frames_put c hs))

-- ---- an output of the protocol header alone

nothing_put_out : (c : ℕ) (hs : List Happening) → sent_to c hs ≡ [] → put_out c hs ≡ []
nothing_put_out c [] none = refl
nothing_put_out c (h ∷ hs) none = go (sends_to c h.sends) (nothing_put_out c hs) (sym (sent_on c h hs) ∙ none)
  where
    go : (first : List Send) → (sent_to c hs ≡ [] → put_out c hs ≡ []) → first ++ sent_to c hs ≡ [] → spelling h.frame_max first ++ put_out c hs ≡ []
    go [] rest e = rest e
    go (x ∷ first) rest e = absurd (cc)

-- where nothing more is sent, what one happening sent is all that is put out
put_out_once : (c : ℕ) (h : Happening) (rest : List Happening) → sends_to c h.sends ≡ h.sends → sends_of rest ≡ [] → put_out c (h ∷ rest) ≡ spelling h.frame_max h.sends
put_out_once c h rest own none =
    ap (λ (z : List ℕ). spelling h.frame_max (sends_to c h.sends) ++ z) (nothing_put_out c rest (ap (sends_to c) none)) ∙ append-nil _ ∙ ap (spelling h.frame_max) own

greeting_put_out : (c : ℕ) (hs : List Happening) → sent_to c hs ≡ send.Greeting c ∷ [] → put_out c hs ≡ eight_bytes
greeting_put_out c [] one = absurd (cc)
greeting_put_out c (h ∷ hs) one = go (sends_to c h.sends) (greeting_put_out c hs) (sym (sent_on c h hs) ∙ one)
  where
    go : (first : List Send) → (sent_to c hs ≡ send.Greeting c ∷ [] → put_out c hs ≡ eight_bytes) → first ++ sent_to c hs ≡ send.Greeting c ∷ [] → spelling h.frame_max first ++ put_out c hs ≡ eight_bytes
    go [] rest e = rest e
    go (x ∷ first) rest e = more x first (ap (λ (z : List Send). slice_index_or z 0 x) e) (ap (drop 1) e)
      where
        more : (x : Send) (first : List Send) → x ≡ send.Greeting c → first ++ sent_to c hs ≡ [] → spelling h.frame_max (x ∷ first) ++ put_out c hs ≡ eight_bytes
        more x [] is none = ap (λ (z : Send). spelling h.frame_max (z ∷ []) ++ put_out c hs) is ∙ ap (λ (z : List ℕ). eight_bytes ++ z) (nothing_put_out c hs none)
        more x (y ∷ first) is none = absurd (cc)

weaker : (max : ℕ) → max ≤ 131072 → (fs : List Frame) → AllByRecursion (IsFrame max) fs → AllByRecursion (IsFrame 131072) fs
weaker max small [] a = tt
weaker max small (f ∷ fs) a = (record { kind = a.0.kind; channel = a.0.channel; size = let s = a.0.size in omega arith }, weaker max small fs a.1)

frames_fit_at : (c : ℕ) (h : Happening) → IsPut h → AllByRecursion (IsFrame 131072) (frames_at c h)
frames_fit_at c h p = go p.bounded
  where
    go : (h.sends ≡ []) ⊎ (h.frame_max ≤ 131072) → AllByRecursion (IsFrame 131072) (flat_map (frames_of h.frame_max) (sends_to c h.sends))
    go (inl e) = subst (λ (s : List Send). AllByRecursion (IsFrame 131072) (flat_map (frames_of h.frame_max) (sends_to c s))) (sym e) tt
    go (inr small) = weaker h.frame_max small _ (frames_each h.frame_max (sends_to c h.sends) (filter_all _ (λ x. receiver x == c) h.sends p.spelled))

frames_fit : (c : ℕ) (hs : List Happening) → AllByRecursion IsTold hs → AllByRecursion (IsFrame 131072) (frames_put c hs)
frames_fit c [] a = tt
frames_fit c (h ∷ hs) a = all-append (IsFrame 131072) (frames_at c h) (frames_put c hs) (frames_fit_at c h a.0.put) (frames_fit c hs a.1)

-- what an output is read as, and what those of a kind are that are read in it
record HasRead {K : Type 0} (read : Frame → Option K) (due : List K) (output : List ℕ) : Type 0 where
  frames : List Frame
  reading : IsReading output frames
  those : filter_map read frames ≡ due

module _ {K : Type 0} (read : Frame → Option K) (kind : Send → Option K) (is : IsRead read kind) where
  frames_read : (c : ℕ) (hs : List Happening) → AllByRecursion IsTold hs → filter_map read (frames_put c hs) ≡ filter_map kind (sends_to c (sends_of hs))
  frames_read c [] a = refl
  frames_read c (h ∷ hs) a =
      filter_map-append _ (frames_at c h) (frames_put c hs)
      ∙ ap (λ (z : List K). z ++ filter_map read (frames_put c hs)) (sends_read read kind is h.frame_max (sends_to c h.sends) (filter_all _ (λ x. receiver x == c) h.sends a.0.put.spelled))
      ∙ ap (λ (z : List K). filter_map kind (sends_to c h.sends) ++ z) (frames_read c hs a.1)
      ∙ sym (told_to-append kind c h.sends (sends_of hs))

  -- those of a kind that are due are read in what was put out
  has_read : (c : ℕ) (hs : List Happening) (due : List K) → AllByRecursion IsTold hs → filter_map kind (sends_to c (sends_of hs)) ≡ due → AreCommandSends (sent_to c hs) ⊎ (sent_to c hs ≡ send.Greeting c ∷ []) → HasRead read due (put_out c hs)
  has_read c hs due a own (inl commands) = record {
    frames = frames_put c hs;
    reading = inl (record { parts = put_out_is c hs commands; each = frames_fit c hs a });
    those = frames_read c hs a ∙ own;
  }
  has_read c hs due a own (inr greeting) = record {
    frames = [];
    reading = inr (greeting_put_out c hs greeting, refl);
    those = ap (λ (o : Option K). cons_option o []) (sym (is.greeting c)) ∙ sym (ap (λ (z : List Send). filter_map kind z) greeting) ∙ own;
  }

has_acks : (c : ℕ) (hs : List Happening) → AllByRecursion IsTold hs → filter_map ack_sent (sends_to c (sends_of hs)) ≡ map ack_for (acked c hs) → AreCommandSends (sent_to c hs) ⊎ (sent_to c hs ≡ send.Greeting c ∷ []) → HasAcksOf (acked c hs) (put_out c hs)
has_acks c hs a own spoken = let r = has_read ack_in ack_sent acks_are_read c hs _ a own spoken in record { frames = r.frames; reading = r.reading; acks = r.those }

has_nacks : (c : ℕ) (hs : List Happening) → AllByRecursion IsTold hs → filter_map nack_sent (sends_to c (sends_of hs)) ≡ nacks_of c hs → AreCommandSends (sent_to c hs) ⊎ (sent_to c hs ≡ send.Greeting c ∷ []) → HasNacks (nacks_of c hs) (put_out c hs)
has_nacks c hs a own spoken = let r = has_read nack_in nack_sent nacks_are_read c hs _ a own spoken in record { frames = r.frames; reading = r.reading; nacks = r.those }

-- ---- what one turn puts out

-- one answer at most is a command, or the protocol header
answer_spoken : (c : ℕ) (sends : List Send) → IsAnswerAtMost sends → AllByRecursion (λ s. receiver s ≡ c) sends → AreCommandSends sends ⊎ (sends ≡ send.Greeting c ∷ [])
answer_spoken c [] few own = inl tt
answer_spoken c (send.Greeting d ∷ sends) few own = inr (ap (λ (z : List Send). send.Greeting d ∷ z) few ∙ ap (λ (n : ℕ). send.Greeting n ∷ []) own.0)
answer_spoken c (send.Command d h m content ∷ sends) few own = inl (tt, subst AreCommandSends (sym few.1) tt)

-- so is what one step sends
step_answers_so : (f : Config) (old new : State) (c : ℕ) (e : Event) (sends : List Send) (notes : List Note) → Step f old e sends notes new → AllByRecursion (λ s. receiver s ≡ c) sends → AreCommandSends sends ⊎ (sends ≡ send.Greeting c ∷ [])
step_answers_so f old new c e sends notes s own = elim (goes f old new sends notes e s) [
  | inl p ↦ inl (acted_commands f.topology old.broker new.broker e sends notes (acted f.topology old.broker new.broker sends notes e p.acts))
  | inr a ↦ answer_spoken c sends (subst IsAnswerAtMost (sym a.moves.sent) a.few) own
]

pub turn_confirms : TurnsConfirm
turn_confirms old new c hs t =
    let p = t.puts in
    let told = told_turns old new c hs t in
    let own : sent_to c hs ≡ p.h.sends = ap (sends_to c) (puts_sends old new t.event c hs p) ∙ own_sends c p.h.sends p.own in
    let spoken = subst (λ (z : List Send). AreCommandSends z ⊎ (z ≡ send.Greeting c ∷ [])) (sym own) (step_answers_so old.config old.state p.mid c t.event p.h.sends p.h.notes p.happens.stepped p.own) in (
      p.output ∙ ap (λ (z : List ℕ). (old.wire c).output ++ z) (sym (put_out_once c p.h p.rest (own_sends c p.h.sends p.own) (settled_silent old.config p.mid new.state c _ _ p.rest p.pauses)) ∙ ap (put_out c) (sym p.all)),
      record { acks = has_acks c hs told.each (run_acks hs old.state new.state told.run c) spoken; nacks = has_nacks c hs told.each (run_nacks hs old.state new.state told.run c) spoken },
    )

-- ---- the promises

-- what happened in a consistent world
told_keeps : (old new : World) (hs : List Happening) → IsSound old.config → IsConsistent old → Told old hs new → KeepsEvents old.state.broker hs new.state.broker
told_keeps old new hs sound consistent told =
    run_keeps old.config new.config hs old.state new.state (sound_each old.config new.config hs told.in_force sound) told.in_force (said_each hs told.each) (record { counted = consistent.counted; kept = consistent.kept }) told.run

pub turn_keeps : (old new : World) (c : ℕ) (hs : List Happening) → IsSound old.config → IsConsistent old → Turns old c hs new → KeepsEvents old.state.broker hs new.state.broker
turn_keeps old new c hs sound consistent turns = told_keeps old new hs sound consistent (told_turns old new c hs turns)

pub pump_keeps : (old new : World) (hs : List Happening) → IsSound old.config → IsConsistent old → Pumps old hs new → KeepsEvents old.state.broker hs new.state.broker
pump_keeps old new hs sound consistent pumps = told_keeps old new hs sound consistent (told_pumps old new hs pumps)

-- of what is a history, and spoke to each connection as its phase says
pub promises_hold : (f : Config) (os : List Occurrence) (w : World) (seen : Seen)
    → IsSound f → ToldOver (new_world f) os w → ((c : ℕ) → AreCommandSends (sent_to c (events_of os)) ⊎ (sent_to c (events_of os) ≡ send.Greeting c ∷ [])) → Shows os w seen → KeepsPromises f os w.state.broker seen.connections
promises_hold f os w seen sound told spoken shows =
    record {
      events = keeps_on.kept;
      reloads = decided_each f w.config os empty_state w.state told.history;
      safe = safe_over f w.config os w.state told.history keeps_on.begun.kept;
      kept = subst (λ (g : Config). AreKept g w.state.broker) (last_in_force f w.config os empty_state w.state told.history) keeps_on.begun.kept;
      agreed = lasts.agreed;
      present = lasts.present;
      logged_in = all_each Lasts _ (λ h l. l.logged_in) hs lasts.events;
      settled = all_each Lasts _ (λ h l. l.settled) hs lasts.events;
      accounted = all_each Lasts _ (λ h l. l.accounted) hs lasts.events;
      gets = all_each Lasts _ (λ h l. l.gets) hs lasts.events;
      purges = all_each Lasts _ (λ h l. l.purges) hs lasts.events;
      taken = all_each Lasts _ (λ h l. l.taken) hs lasts.events;
      order = gives_in_order f w.config os w.state told.history;
      contents = sourced_over [] f w.config os empty_state w.state told.history (λ q e i. absurd i);
      acks = λ i one e. subst (λ (z : List ℕ). HasAcksOf (acked (i + 1) hs) z) (sym (output i one e)) (has_acks (i + 1) hs told.each (acks_over f w.config os empty_state w.state told.history (i + 1)) (spoken (i + 1)));
      nacks = λ i one e. subst (λ (z : List ℕ). HasNacks (nacks_of (i + 1) hs) z) (sym (output i one e)) (has_nacks (i + 1) hs told.each (nacks_over f w.config os empty_state w.state told.history (i + 1)) (spoken (i + 1)));
    }
  where
    hs : List Happening
    hs = events_of os

    keeps_on : KeepsOn empty_state os w.config w.state
    keeps_on = histories_keep f w.config os empty_state w.state sound told.offered (said_each hs told.each) (record { counted = λ n q lt. refl; kept = stay_kept.empty f }) told.history

    -- what is seen of a connection is all that was put out for it
    output : (i : ℕ) (one : Shown) → slice_get seen.connections i ≡ Some one → one.output ≡ put_out (i + 1) hs
    output i one e =
        let within : i < w.given = subst (λ (n : ℕ). i < n) shows.counted (slice_get_within seen.connections i one e) in
        let is : one ≡ shown hs w (i + 1) = same_Some one (shown hs w (i + 1)) (sym e ∙ shows.each i within) in
        ap (λ (s : Shown). s.output) is

    lasts : Lasting os
    lasts = lasting f w.config os w.state told.history

pub headline_holds : (f : Config) → HeadlineHolds f
headline_holds f arrivals os w seen sound offered plays shows = promises_hold f os w seen sound (over_plays (new_world f) w arrivals os offered plays) (is_spoken f arrivals os w plays) shows

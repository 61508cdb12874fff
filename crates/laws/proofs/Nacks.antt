-- The nacks that a client reads in an output are those that are noted, one by one.
use Rattle.laws.proofs.Names.{◌≡◌, ℕ, ◌%◌, List, [], ◌∷◌, Bool, true, false, refl, sym, ap, ◌∙◌, None, inl, inr, ◌==◌, ◌&&◌, ◌||◌, filter_map, list_any, AllByRecursion, cons_option, eq-eqb, false≢true, from_be_bytes-to_be_bytes_8, Topology, IsMethod, method_bytes, octet, Broker, answer_of, confirm_method, confirm_notes, confirm_sends, reply, State, Step, method_frame, sends_to, Happening, Run, sends_of, first_bit, Nack, nack_in, is_nack_of, nack_as, nacks_at, nacks_of, Method, BasicNack, Event, Send, Note, Published, Confirmed, nack_of, nack_sent}
use Rattle.std.proofs.Common.{Option, Some}
use Rattle.std.specs.Prelude.{if◌then◌else◌}
use Rattle.model.specs.declared.notes.Answer.TheVariants as answer
use Rattle.laws.proofs.Telling.{IsRead, TellPublishes, each_of_run, is_confirmed, nothing_told, one_told, publish_sends, publish_told, told_by_answer, told_over, told_to, told_to_none}
use Rattle.laws.proofs.Deeds.{Publishes}
use Rattle.laws.proofs.Replies.{is_answer, answer_all}
use Rattle.laws.proofs.View.{Seen, seen_at}
use Rattle.laws.proofs.Balance.{number, confirm, some_full}

-- ---- those that are noted

-- the nack of a publish, where it was in confirm mode, was made on the connection and is nacked
abbrev nack_if : {t : Topology} {old new : Broker} {e : Event} {sends : List Send} {notes : List Note} → Publishes t old new e sends notes → Option ℕ → Bool → Bool → Option Nack
nack_if p None mine nack = None
nack_if p (Some m) mine nack = if mine && nack then Some (record { channel = p.h; number = m; multiple = false }) else None

nack_is : {t : Topology} {old new : Broker} {e : Event} {sends : List Send} {notes : List Note} (p : Publishes t old new e sends notes) (c : ℕ) (all : List Note) (o : Option ℕ)
    → nack_as c all (Published (number p) p.c p.h p.publish.exchange p.publish.routing_key o) ≡ nack_if p o (p.c == c) (list_any (is_nack_of (number p)) all)
nack_is p c all None = refl
nack_is p c all (Some m) = refl

-- what an event nacks is its own publish, if it is one
publishes_nacked : (c : ℕ) (all : List Note) → TellPublishes (nack_as c all)
publishes_nacked c all (Published n d h x key o) is = absurd cc
publishes_nacked c all _ is = refl

-- it is nacked where its answer is a nack
nacked_by_answer : {t : Topology} {old new : Broker} {e : Event} {sends : List Send} {notes : List Note} (p : Publishes t old new e sends notes)
    → list_any (is_nack_of (number p)) notes ≡ list_any (is_nack_of (number p)) (confirm_notes (number p) (confirm p) (answer_of (some_full p)))
nacked_by_answer p = told_by_answer p (is_nack_of (number p)) others
  where
    others : (note : Note) → is_confirmed note ≡ false → is_nack_of (number p) note ≡ false
    others (Confirmed n a) is = absurd cc
    others _ is = refl

-- ---- those that are sent

-- an answer is no nack
answer_is_no_nack : (h : ℕ) (m : Method) → is_answer m ≡ true → nack_of h m ≡ None
answer_is_no_nack h (BasicNack m) is = absurd (false≢true is)
answer_is_no_nack h _ is = refl

-- the confirmation that is sent, beside what counts as nacked
one_nack : {t : Topology} {old new : Broker} {e : Event} {sends : List Send} {notes : List Note} (p : Publishes t old new e sends notes) (c : ℕ) (o : Option ℕ) (full nack : Bool)
    → nack ≡ list_any (is_nack_of (number p)) (confirm_notes (number p) o (answer_of full))
    → told_to nack_sent c (confirm_sends p.c p.h o (answer_of full)) ≡ cons_option (nack_if p o (p.c == c) nack) []
one_nack p c None full nack e = refl
one_nack p c (Some m) full nack e = one_told nack_sent (p.c == c) nack _ _ (sent full e)
  where
    sent : (full : Bool) → nack ≡ list_any (is_nack_of (number p)) (confirm_notes (number p) (Some m) (answer_of full))
        → nack_sent (reply p.c p.h (confirm_method (answer_of full) m)) ≡ (if nack then Some (record { channel = p.h; number = m; multiple = false }) else None)
    sent false e = rw e refl
    sent true e = rw (e ∙ ap (λ b. b || false) (eq-eqb (number p) (number p) refl)) refl

step_nacks : (t : Topology) (old new : Broker) (e : Event) (sends : List Send) (notes : List Note) → Seen t old new e sends notes → (c : ℕ) → told_to nack_sent c sends ≡ filter_map (nack_as c notes) notes
step_nacks t old new e sends notes (inl q) c =
    told_to_none nack_sent c sends (answer_all _ (λ d. refl) (λ d h m content is. answer_is_no_nack h m is) sends q.few) ∙ sym (nothing_told (nack_as c notes) (publishes_nacked c notes) q)
step_nacks t old new e sends notes (inr p) c =
    publish_sends nack_sent p c refl
    ∙ one_nack p c (confirm p) (some_full p) _ (nacked_by_answer p)
    ∙ ap (λ (o : Option Nack). cons_option o []) (sym (nack_is p c notes (confirm p)))
    ∙ sym (publish_told p (nack_as c notes) (publishes_nacked c notes))

-- the nacks that an event sends to a connection are those of its publishes
abbrev pub SendsItsNacks : ℕ → Happening → Type 0
SendsItsNacks c h = told_to nack_sent c h.sends ≡ nacks_at c h

pub event_nacks : (c : ℕ) (h : Happening) → Step h.config h.before h.event h.sends h.notes h.after → SendsItsNacks c h
event_nacks c h s = step_nacks h.config.topology h.before.broker h.after.broker h.event h.sends h.notes (seen_at h s) c

-- so are those of them all
pub all_nacks : (c : ℕ) (hs : List Happening) → AllByRecursion (SendsItsNacks c) hs → filter_map nack_sent (sends_to c (sends_of hs)) ≡ nacks_of c hs
all_nacks c hs each = told_over nack_sent c (nacks_at c) hs each

-- In every run the nacks sent to a connection are those of its publishes confirmed by nack, one by one.
pub run_nacks : (hs : List Happening) (old new : State) → Run old hs new → (c : ℕ) → filter_map nack_sent (sends_to c (sends_of hs)) ≡ nacks_of c hs
run_nacks hs old new r c = all_nacks c hs (each_of_run (SendsItsNacks c) (event_nacks c) hs old new r)

-- ---- those that are read

-- the nack that a method frame is
method_nack : (h : ℕ) (m : Method) → IsMethod m → nack_in (method_frame h m) ≡ nack_of h m
method_nack h (BasicNack m) fits =
    ap (λ (n : ℕ). Some (record { channel = h; number = n; multiple = first_bit (method_bytes (BasicNack m)) 12 })) (from_be_bytes-to_be_bytes_8 m.delivery_tag fits.0)
    ∙ ap (λ (b : Bool). Some (record { channel = h; number = m.delivery_tag; multiple = b })) (bit m.multiple m.requeue)
  where
    bit : (b d : Bool) → (octet (b ∷ d ∷ []) % 2 == 1) ≡ b
    bit true true = refl
    bit true false = refl
    bit false true = refl
    bit false false = refl
method_nack h _ fits = refl

pub nacks_are_read : IsRead nack_in nack_sent
nacks_are_read = record { greeting = λ c. refl; method = λ c h m content fits. method_nack h m fits; content = λ f no. rw no refl }

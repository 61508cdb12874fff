-- The acks that a client reads in an output are those that are noted, one by one.
use Rattle.laws.proofs.Names.{◌≡◌, ℕ, ◌%◌, List, [], ◌∷◌, ◌++◌, Bool, true, false, refl, sym, ap, ◌∙◌, None, inl, inr, ◌==◌, ◌&&◌, ◌||◌, filter_map, flat_map, list_any, AllByRecursion, cons_option, map-append, eq-eqb, false≢true, from_be_bytes-to_be_bytes_8, Topology, Guarantee, IsMethod, method_bytes, octet, Broker, answer_of, confirm_method, confirm_notes, confirm_sends, reply, State, Step, method_frame, sends_to, Happening, Run, sends_of, ack_in, first_bit, is_ack_of, acked_as, acked_at, acked, ack_for, Method, BasicAck, Event, Send, Note, ack_of, ack_sent}
use Rattle.std.proofs.Common.{map, Option, Some}
use Rattle.std.specs.Prelude.{if◌then◌else◌}
use Rattle.model.specs.Acks.{Ack}
use Rattle.model.specs.declared.notes.Answer.TheVariants as answer
use Rattle.laws.proofs.Telling.{IsRead, each_of_run, one_told, publish_sends, told_over, told_to, told_to_none}
use Rattle.laws.proofs.Deeds.{Publishes}
use Rattle.laws.proofs.Replies.{is_answer, answer_all}
use Rattle.laws.proofs.View.{Seen, seen_at}
use Rattle.laws.proofs.Balance.{number, confirm, some_full}
use Rattle.laws.proofs.Once.{acked_if, nothing_acked, publish_acked, acked_by_answer}

-- an answer is no ack
answer_is_no_ack : (h : ℕ) (m : Method) → is_answer m ≡ true → ack_of h m ≡ None
answer_is_no_ack h (BasicAck m) is = absurd (false≢true is)
answer_is_no_ack h _ is = refl

-- the confirmation that is sent, beside what counts as acked
one_ack : {t : Topology} {old new : Broker} {e : Event} {sends : List Send} {notes : List Note} (p : Publishes t old new e sends notes) (gs : List Guarantee) (c : ℕ) (o : Option ℕ) (full ack : Bool)
    → ack ≡ list_any (is_ack_of (number p)) (confirm_notes (number p) o (answer_of full))
    → told_to ack_sent c (confirm_sends p.c p.h o (answer_of full)) ≡ map ack_for (cons_option (acked_if p gs o (p.c == c) ack) [])
one_ack p gs c None full ack e = refl
one_ack p gs c (Some m) full ack e = one_told ack_sent (p.c == c) ack _ k (sent full e) ∙ acked_so (p.c == c) ack
  where
    k : Ack
    k = record { channel = p.h; number = m; multiple = false }

    sent : (full : Bool) → ack ≡ list_any (is_ack_of (number p)) (confirm_notes (number p) (Some m) (answer_of full)) → ack_sent (reply p.c p.h (confirm_method (answer_of full) m)) ≡ (if ack then Some k else None)
    sent true e = rw e refl
    sent false e = rw (e ∙ ap (λ b. b || false) (eq-eqb (number p) (number p) refl)) refl

    acked_so : (mine ack : Bool) → cons_option (if mine && ack then Some k else None) [] ≡ map ack_for (cons_option (acked_if p gs (Some m) mine ack) [])
    acked_so true true = refl
    acked_so true false = refl
    acked_so false ack = refl

step_acks : (t : Topology) (old new : Broker) (e : Event) (sends : List Send) (notes : List Note) → Seen t old new e sends notes → (gs : List Guarantee) (c : ℕ)
    → told_to ack_sent c sends ≡ map ack_for (filter_map (acked_as gs c notes) notes)
step_acks t old new e sends notes (inl q) gs c = told_to_none ack_sent c sends (answer_all _ (λ d. refl) (λ d h m content is. answer_is_no_ack h m is) sends q.few) ∙ ap (map ack_for) (sym (nothing_acked gs c notes q))
step_acks t old new e sends notes (inr p) gs c = publish_sends ack_sent p c refl ∙ one_ack p gs c (confirm p) (some_full p) _ (acked_by_answer p) ∙ ap (map ack_for) (sym (publish_acked p gs c notes))

-- the acks that an event sends to a connection are those of its publishes
abbrev pub SendsItsAcks : ℕ → Happening → Type 0
SendsItsAcks c h = told_to ack_sent c h.sends ≡ map ack_for (acked_at c h)

pub event_acks : (c : ℕ) (h : Happening) → Step h.config h.before h.event h.sends h.notes h.after → SendsItsAcks c h
event_acks c h s = step_acks h.config.topology h.before.broker h.after.broker h.event h.sends h.notes (seen_at h s) h.config.guarantees c

-- so are those of them all
pub all_acks : (c : ℕ) (hs : List Happening) → AllByRecursion (SendsItsAcks c) hs → filter_map ack_sent (sends_to c (sends_of hs)) ≡ map ack_for (acked c hs)
all_acks c hs each = told_over ack_sent c (λ (h : Happening). map ack_for (acked_at c h)) hs each ∙ of_all hs
  where
    of_all : (hs : List Happening) → flat_map (λ (h : Happening). map ack_for (acked_at c h)) hs ≡ map ack_for (acked c hs)
    of_all [] = refl
    of_all (h ∷ hs) = ap (λ (xs : List Ack). map ack_for (acked_at c h) ++ xs) (of_all hs) ∙ sym (map-append ack_for (acked_at c h) (acked c hs))

-- In every run the acks sent to a connection are those of its publishes confirmed by ack, one by one.
pub run_acks : (hs : List Happening) (old new : State) → Run old hs new → (c : ℕ) → filter_map ack_sent (sends_to c (sends_of hs)) ≡ map ack_for (acked c hs)
run_acks hs old new r c = all_acks c hs (each_of_run (SendsItsAcks c) (event_acks c) hs old new r)

-- ---- those that are read

-- the ack that a method frame is
method_ack : (h : ℕ) (m : Method) → IsMethod m → ack_in (method_frame h m) ≡ ack_of h m
method_ack h (BasicAck m) fits =
    ap (λ (n : ℕ). Some (record { channel = h; number = n; multiple = first_bit (method_bytes (BasicAck m)) 12 })) (from_be_bytes-to_be_bytes_8 m.delivery_tag fits.0)
    ∙ ap (λ (b : Bool). Some (record { channel = h; number = m.delivery_tag; multiple = b })) (bit m.multiple)
  where
    bit : (b : Bool) → (octet (b ∷ []) % 2 == 1) ≡ b
    bit true = refl
    bit false = refl
method_ack h _ fits = refl

pub acks_are_read : IsRead ack_in ack_sent
acks_are_read = record { greeting = λ c. refl; method = λ c h m content fits. method_ack h m fits; content = λ f no. rw no refl }

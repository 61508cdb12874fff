-- A publish that was confirmed by ack entered each queue of its route exactly once.
use Rattle.laws.proofs.Names.{◌≡◌, ℕ, ◌≤◌, ◌⊎◌, List, [], ◌∷◌, ◌++◌, Bool, true, false, cond, eqb, length, refl, sym, ap, ◌∙◌, subst, arith, append_assoc, None, inl, inr, ◌==◌, count_by, ◌&&◌, filter_map, list_any, AllByRecursion, cons_option, eq-eqb, ne_eqb, or_parts, Text, Topology, queue_names, IsIn, IsThere, IsWellFormed, of_key, Routes, Edge, bound, default, Guarantee, Covers, Keeps, Holds, IsMethod, Broker, is_full, entry_note, confirm_notes, answer_of, State, IsSaid, Happening, Run, notes_of, EnteredOnce, is_ack_of, is_publish_into, acked_as, acked_at, acked, IsSound, DeclaredQueue, Mode, Reaches, Entry, Send, Event, BasicPublish, Note, Published, Entered, Confirmed, AreSound, AreSaid}
use Rattle.std.proofs.Common.{◌+◌, ◌<◌, Option, Some}
use Rattle.std.specs.Prelude.{if◌then◌else◌}
use Rattle.model.specs.Step.{entry_notes}
use Rattle.model.specs.Acks.{Acked}
use Rattle.model.specs.declared.topologies.Destination.TheVariants as destination
use Rattle.model.specs.declared.notes.Way.TheVariants as way
use Rattle.laws.proofs.Counts.{count-append, count-cons, count-cons_no, count_none, all-append, all_each, in_from_contains, in-map}
use Rattle.laws.proofs.Targets.{same_as, count_target}
use Rattle.laws.proofs.Deeds.{Publishes}
use Rattle.laws.proofs.View.{Seen, seen_at, CountsNone, quiet_notes}
use Rattle.laws.proofs.Telling.{TellPublishes, is_confirmed, nothing_told, publish_told, told_by_answer}
use Rattle.laws.proofs.Balance.{number, content, confirm, some_full, first_note, entry_part, answer_part, noted, answers_all, others_all}

-- ---- numbers tell publishes apart

-- the note is one of the publish n itself
abbrev pub is_of_publish : ℕ → Note → Bool
is_of_publish n (Published m c h x k o) = m == n
is_of_publish n (Entered m q way.Publish) = m == n
is_of_publish n note = false

-- none of these notes is of the publish n
abbrev pub AreOfOthers : ℕ → List Note → Type 0
AreOfOthers n notes = AllByRecursion (λ (note : Note). is_of_publish n note ≡ false) notes

-- an event notes only the publish that it counts
pub step_of_others : (t : Topology) (old new : Broker) (e : Event) (sends : List Send) (notes : List Note) → Seen t old new e sends notes → (n : ℕ) → (n ≤ old.published) ⊎ (new.published < n) → AreOfOthers n notes
step_of_others t old new e sends notes (inl q) n out = quiet_notes (λ (note : Note). is_of_publish n note ≡ false) (λ m r cause. refl) (λ m r. refl) (λ m r d. refl) q
step_of_others t old new e sends notes (inr p) n out =
    let made : new.published ≡ old.published + 1 = p.is.left.counted in
    let ne : eqb (old.published + 1) n ≡ false = ne_eqb (old.published + 1) n (λ e. elim out [ inl le ↦ omega arith | inr lt ↦ omega arith ]) in
    subst (AreOfOthers n) (sym (noted p)) (ne, others_all p _ (λ r. refl) (λ r i. ne) refl (λ a. refl))

pub step_grows : (t : Topology) (old new : Broker) (e : Event) (sends : List Send) (notes : List Note) → Seen t old new e sends notes → old.published ≤ new.published
step_grows t old new e sends notes (inl q) = let e = q.same in omega arith
step_grows t old new e sends notes (inr p) = let e = p.is.left.counted in omega arith

pub run_of_others : (hs : List Happening) (old new : State) → Run old hs new → (n : ℕ) → n ≤ old.broker.published → AreOfOthers n (notes_of hs)
run_of_others [] old new r n le = tt
run_of_others (h ∷ hs) old new (e, s, r) n le =
    let v = seen_at h s in
    let t = h.config.topology in
    let from : n ≤ h.before.broker.published = subst (λ (z : State). n ≤ z.broker.published) (sym e) le in
    let grows = step_grows t h.before.broker h.after.broker h.event h.sends h.notes v in
    all-append _ h.notes (notes_of hs) (step_of_others t h.before.broker h.after.broker h.event h.sends h.notes v n (inl from)) (run_of_others hs h.after new r n (omega (arith, from, grows)))

-- where an event stands among the notes of its run: what is noted before and after it is of other publishes
pub record Placed (all : List Note) (h : Happening) : Type 0 where
  pub step : Seen h.config.topology h.before.broker h.after.broker h.event h.sends h.notes
  pub before : List Note
  pub after : List Note
  pub split : all ≡ before ++ (h.notes ++ after)
  pub earlier : (n : ℕ) → h.before.broker.published < n → AreOfOthers n before
  pub later : (n : ℕ) → n ≤ h.after.broker.published → AreOfOthers n after

places_from : (all : List Note) (hs : List Happening) (old new : State) (before : List Note) → Run old hs new → all ≡ before ++ notes_of hs → ((n : ℕ) → old.broker.published < n → AreOfOthers n before) → AllByRecursion (Placed all) hs
places_from all [] old new before r e earlier = tt
places_from all (h ∷ hs) old new before (from, s, r) e earlier =
    let t = h.config.topology in
    let v = seen_at h s in
    let grows = step_grows t h.before.broker h.after.broker h.event h.sends h.notes v in
    let start : h.before.broker.published ≡ old.broker.published = ap (λ (z : State). z.broker.published) from in (
      record { step = v; before = before; after = notes_of hs; split = e; earlier = λ n lt. earlier n (omega (arith, lt, start)); later = run_of_others hs h.after new r },
      places_from all hs h.after new (before ++ h.notes) r (e ∙ sym (append_assoc before h.notes (notes_of hs)))
          (λ n lt. all-append _ before h.notes (earlier n (omega (arith, grows, lt, start))) (step_of_others t h.before.broker h.after.broker h.event h.sends h.notes v n (inr lt))),
    )

pub places : (hs : List Happening) (old new : State) → Run old hs new → AllByRecursion (Placed (notes_of hs)) hs
places hs old new r = places_from (notes_of hs) hs old new [] r refl (λ n lt. tt)

-- ---- a publish and its own notes

-- a key that was said is short
pub key_is_short : {t : Topology} {old new : Broker} {e : Event} {sends : List Send} {notes : List Note} (p : Publishes t old new e sends notes) → IsSaid e → length p.publish.routing_key ≤ 255
key_is_short p said =
    let m : IsMethod (BasicPublish p.publish) = (subst IsSaid p.event said).0 in
    let short : length p.publish.routing_key < 256 = m.1.1.0 in
    omega arith

-- a publish as it is acked, where it was in confirm mode, was made on the connection and is acked
abbrev pub acked_if : {t : Topology} {old new : Broker} {e : Event} {sends : List Send} {notes : List Note} → Publishes t old new e sends notes → List Guarantee → Option ℕ → Bool → Bool → Option Acked
acked_if p gs None mine ack = None
acked_if p gs (Some m) mine ack = if mine && ack then Some (record { number = number p; channel = p.h; exchange = p.publish.exchange; key = p.publish.routing_key; confirm = m; guarantees = gs }) else None

acked_is : {t : Topology} {old new : Broker} {e : Event} {sends : List Send} {notes : List Note} (p : Publishes t old new e sends notes) (gs : List Guarantee) (c : ℕ) (all : List Note) (o : Option ℕ)
    → acked_as gs c all (Published (number p) p.c p.h p.publish.exchange p.publish.routing_key o) ≡ acked_if p gs o (p.c == c) (list_any (is_ack_of (number p)) all)
acked_is p gs c all None = refl
acked_is p gs c all (Some m) = refl

-- what an event counts as acked is its own publish, if it is one
publishes_acked : (gs : List Guarantee) (c : ℕ) (all : List Note) → TellPublishes (acked_as gs c all)
publishes_acked gs c all (Published n d h x key o) is = absurd cc
publishes_acked gs c all _ is = refl

pub nothing_acked : {t : Topology} {old new : Broker} {e : Event} {sends : List Send} {notes : List Note} (gs : List Guarantee) (c : ℕ) (all : List Note) → CountsNone t old new e sends notes → filter_map (acked_as gs c all) notes ≡ []
nothing_acked gs c all a = nothing_told (acked_as gs c all) (publishes_acked gs c all) a

pub publish_acked : {t : Topology} {old new : Broker} {e : Event} {sends : List Send} {notes : List Note} (p : Publishes t old new e sends notes) (gs : List Guarantee) (c : ℕ) (all : List Note)
    → filter_map (acked_as gs c all) notes ≡ cons_option (acked_if p gs (confirm p) (p.c == c) (list_any (is_ack_of (number p)) all)) []
publish_acked p gs c all = publish_told p (acked_as gs c all) (publishes_acked gs c all) ∙ ap (λ (o : Option Acked). cons_option o []) (acked_is p gs c all (confirm p))

-- it is acked where its answer is an ack
pub acked_by_answer : {t : Topology} {old new : Broker} {e : Event} {sends : List Send} {notes : List Note} (p : Publishes t old new e sends notes)
    → list_any (is_ack_of (number p)) notes ≡ list_any (is_ack_of (number p)) (confirm_notes (number p) (confirm p) (answer_of (some_full p)))
acked_by_answer p = told_by_answer p (is_ack_of (number p)) others
  where
    others : (note : Note) → is_confirmed note ≡ false → is_ack_of (number p) note ≡ false
    others (Confirmed n a) is = absurd cc
    others _ is = refl

-- ---- routes

-- the queue of a route is there
pub routed_is_there : (t : Topology) (x key q : Text) → IsWellFormed t → Routes t x key q → IsIn q (queue_names t.queues)
routed_is_there t x key q wf (y, leads, edge) = go y q edge
  where
    go : (y q : Text) → Edge t (of_key key) y (destination.Queue q) → IsIn q (queue_names t.queues)
    go y q (bound ex b c e o p) = subst (IsThere t) o.leads (wf.ends b o.is_binding)
    go y q (default queue c e k) = subst (λ z. IsIn z (queue_names t.queues)) e (in-map (λ (z : DeclaredQueue). z.name) queue t.queues (in_from_contains t.queues queue c.0 c.1 c.2))

-- ---- a publish that was acked entered each queue of its route once

acked_not_full : (n : ℕ) (o : Option ℕ) (full : Bool) → list_any (is_ack_of n) (confirm_notes n o (answer_of full)) ≡ true → full ≡ false
acked_not_full n o false e = refl
acked_not_full n None true e = absurd cc
acked_not_full n (Some m) true e = absurd cc

entered_as_targets : (t : Topology) (entries : Text → List Entry) (size n : ℕ) (q : Text) (rs : List Text) → list_any (λ (r : Text). is_full t entries r size) rs ≡ false
    → count_by (is_publish_into n q) (entry_notes t entries size n way.Publish rs) ≡ count_by (same_as q) rs
entered_as_targets t entries size n q [] e = refl
entered_as_targets t entries size n q (r ∷ rs) e =
    let s = or_parts (is_full t entries r size) (list_any (λ (r : Text). is_full t entries r size) rs) e in
    let yes : is_publish_into n q (entry_note t entries size n way.Publish r) ≡ same_as q r = rw (s.0, eq-eqb n n refl) refl in
    count-cons (is_publish_into n q) (entry_note t entries size n way.Publish r) (entry_notes t entries size n way.Publish rs)
    ∙ ap (λ v. cond v 1 0 + count_by (is_publish_into n q) (entry_notes t entries size n way.Publish rs)) yes
    ∙ ap (λ z. cond (same_as q r) 1 0 + z) (entered_as_targets t entries size n q rs s.1)
    ∙ sym (count-cons (same_as q) r rs)

publish_once : {t : Topology} {old new : Broker} {e : Event} {sends : List Send} {notes : List Note} (p : Publishes t old new e sends notes) (q : Text) → IsWellFormed t → Routes t p.publish.exchange p.publish.routing_key q
    → list_any (is_ack_of (number p)) notes ≡ true → count_by (is_publish_into (number p) q) notes ≡ 1
publish_once {t} {old} p q wf routes ack =
    let n = number p in
    let room : some_full p ≡ false = acked_not_full n (confirm p) (some_full p) (sym (acked_by_answer p) ∙ ack) in
    let there = routed_is_there t p.publish.exchange p.publish.routing_key q wf routes in
    let entered = entered_as_targets t old.queue (length (content p).body) n q p.is.targets room ∙ count_target q p.is.routed wf.queues_distinct there routes in
    let answered = count_none (is_publish_into n q) (answer_part p) (answers_all p _ refl (λ a. refl)) in
    let split = count-append (is_publish_into n q) (entry_part p) (answer_part p) in
    ap (count_by (is_publish_into n q)) (noted p)
    ∙ count-cons_no (is_publish_into n q) (first_note p) (entry_part p ++ answer_part p) refl
    ∙ omega (arith, split, entered, answered)

into_is_of_publish : (n : ℕ) (q : Text) (note : Note) → is_of_publish n note ≡ false → is_publish_into n q note ≡ false
into_is_of_publish n q (Entered m r way.Publish) e = rw e refl
into_is_of_publish n q (Entered m r way.Dead) e = refl
into_is_of_publish n q _ e = refl

-- among all notes too: those of the other events are of other publishes
once_of_all : (all : List Note) (h : Happening) (at : Placed all h) (p : Publishes h.config.topology h.before.broker h.after.broker h.event h.sends h.notes) (q : Text)
    → count_by (is_publish_into (number p) q) h.notes ≡ 1 → count_by (is_publish_into (number p) q) all ≡ 1
once_of_all all h at p q own =
    let n = number p in
    let test = is_publish_into n q in
    let made : h.after.broker.published ≡ h.before.broker.published + 1 = p.is.left.counted in
    let before = count_none test at.before (all_each _ _ (into_is_of_publish n q) at.before (at.earlier n (omega arith))) in
    let after = count_none test at.after (all_each _ _ (into_is_of_publish n q) at.after (at.later n (omega arith))) in
    let split = count-append test at.before (h.notes ++ at.after) in
    let split' = count-append test h.notes at.after in
    ap (count_by test) at.split ∙ omega (arith, split, split', own, before, after)

-- ---- every acked publish

keeps_reaches : (t : Topology) (g : Guarantee) (x key : Text) → Holds t g → g.mode ≡ Reaches → Covers g x key → length key ≤ 255 → Routes t x key g.queue
keeps_reaches t g x key holds m covers short =
    let k : Keeps g.mode t g.exchange key g.queue = holds key short covers.1 in
    let r : Keeps Reaches t g.exchange key g.queue = subst (λ (m : Mode). Keeps m t g.exchange key g.queue) m k in
    subst (λ (z : Text). Routes t z key g.queue) (sym covers.0) r

pub each_entered_once : (all : List Note) (h : Happening) → Placed all h → IsSound h.config → IsSaid h.event → (c : ℕ) → AllByRecursion (EnteredOnce all) (acked_at c h)
each_entered_once all h at sound said c = by at.step
  where
    by : Seen h.config.topology h.before.broker h.after.broker h.event h.sends h.notes → AllByRecursion (EnteredOnce all) (acked_at c h)
    by (inl quiet) = subst (AllByRecursion (EnteredOnce all)) (sym (nothing_acked h.config.guarantees c h.notes quiet)) tt
    by (inr p) = subst (AllByRecursion (EnteredOnce all)) (sym (publish_acked p h.config.guarantees c h.notes)) (one (confirm p) (p.c == c) (list_any (is_ack_of (number p)) h.notes) refl)
      where
        one : (o : Option ℕ) (mine ack : Bool) → list_any (is_ack_of (number p)) h.notes ≡ ack → AllByRecursion (EnteredOnce all) (cons_option (acked_if p h.config.guarantees o mine ack) [])
        one None mine ack e = tt
        one (Some m) true true e =
            (λ g in_gs mode covers. once_of_all all h at p g.queue (publish_once p g.queue sound.wf (keeps_reaches h.config.topology g p.publish.exchange p.publish.routing_key (sound.hold g in_gs) mode covers (key_is_short p said)) e), tt)
        one (Some m) true false e = tt
        one (Some m) false ack e = tt

-- In every run each publish that was confirmed by ack entered each queue that was promised at it exactly once.
pub run_entered_once : (hs : List Happening) (old new : State) → AllByRecursion (λ (h : Happening). IsSound h.config) hs → AllByRecursion (λ (h : Happening). IsSaid h.event) hs → Run old hs new → (c : ℕ)
    → AllByRecursion (EnteredOnce (notes_of hs)) (acked c hs)
run_entered_once hs old new sound said r c = go hs (places hs old new r) sound said
  where
    go : (es : List Happening) → AllByRecursion (Placed (notes_of hs)) es → AreSound es → AreSaid es → AllByRecursion (EnteredOnce (notes_of hs)) (acked c es)
    go [] at sound said = tt
    go (e ∷ es) at sound said = all-append (EnteredOnce (notes_of hs)) (acked_at c e) (acked c es) (each_entered_once (notes_of hs) e at.0 sound.0 said.0 c) (go es at.1 sound.1 said.1)

-- Histories keep the promises: events, and reloads between them.
use Rattle.laws.proofs.Names.{◌≡◌, ℕ, ◌≤◌, List, [], ◌∷◌, ◌++◌, refl, sym, ap, subst, ◌∙◌, append_assoc, append-nil, arith, inl, inr, filter_map, is_some, AllByRecursion, filter_map-append, false≢true, Text, Config, State, Step, Happening, Run, notes_of, sends_of, empty_state, Occurrence, Of_event, Of_reload, Reload, History, IsDecided, StaysOver, LeavesQueues, state_after, events_of, reloads_of, notes_over, acked, acked_at, EnteredOnce, ack_for, nacks_of, World, Reloads, Answers, Plays, with_heard, is_over, is_gone, can_open, AreCarried, IsAgreed, ArePresent, IsNoted, AreAllowed, AreAllowedIn, AreSourced, FirstGiven, ended, given, passed, IsPart, waiting, entered, GivesInOrder, number_in, CountUp, sends_to, DieAsRouted, IsSound, Arrival, Note, Lasts, AreSaid, AreSound, InForce, IsBegun, ack_sent, nack_sent, OfferSound, IsOffered, AreOffered, HistoriesKeep}
use Rattle.std.proofs.Common.{◌<◌, map}
use Rattle.model.specs.declared.events.Event.TheVariants as event
use Rattle.model.specs.declared.events.Arrival.TheVariants as arrival
use Rattle.laws.proofs.Counts.{all-append, from_either}
use Rattle.laws.proofs.Acks.{SendsItsAcks, event_acks, all_acks}
use Rattle.laws.proofs.Agreed.{stay_agreed}
use Rattle.laws.proofs.Aside.{run_aside}
use Rattle.laws.proofs.Balance.{run_stays, stands_counted}
use Rattle.laws.proofs.Carried.{run_carries}
use Rattle.laws.proofs.Fresh.{run_fresh}
use Rattle.laws.proofs.Marked.{run_marks}
use Rattle.laws.proofs.Giving.{held_are_given}
use Rattle.laws.proofs.Kept.{lasts_from}
use Rattle.laws.proofs.Nacks.{SendsItsNacks, event_nacks, all_nacks}
use Rattle.laws.proofs.Never.{Agrees, agrees_on, allowed_where, own_in_all, begun_at, begun_after, run_allowed, run_causes, run_origins, run_letters, letters_come_once, not_of_others}
use Rattle.laws.proofs.Once.{AreOfOthers, Placed, step_grows, step_of_others, each_entered_once}
use Rattle.laws.proofs.Routed.{run_routed, run_numbers, next_on}
use Rattle.laws.proofs.Ordered.{step_ordered, giving_ordered, after_those_ahead, entered-append}
use Rattle.laws.proofs.Parts.{part_same, front, onward}
use Rattle.laws.proofs.Plays.{IsTold, Told, told_same, told_opens, told_heard, told_works_off, told_taken_and_works, told_pumps, told_loses}
use Rattle.laws.proofs.Sources.{AreOfPublishes, sources, of_came}
use Rattle.laws.proofs.Traced.{step_came}
use Rattle.laws.proofs.View.{seen_at}
use Rattle.laws.proofs.Reloading.{state_left, over_reload, begun_reloaded, sound_reloaded, reload_of_others, agrees_marked, carried_marked, agreed_marked, present_marked, sourced_marked, waiting_marked}

-- ---- what is told of each event

-- what holds of each step holds of each event
each_event : (P : Happening → Type 0) → ((h : Happening) → Step h.config h.before h.event h.sends h.notes h.after → P h) → (f last : Config) (os : List Occurrence) (old new : State) → History f old os last new → AllByRecursion P (events_of os)
each_event P steps f last [] old new r = tt
each_event P steps f last (Of_event h ∷ os) old new (is, e, s, r) = (steps h s, each_event P steps h.config last os h.after new r)
each_event P steps f last (Of_reload d ∷ os) old new (is, e, decided, r) = each_event P steps d.in_force last os d.after new r

-- what follows of each
apply_each : {A : Type 0} (P Q : A → Type 0) (xs : List A) → AllByRecursion (λ x. P x → Q x) xs → AllByRecursion P xs → AllByRecursion Q xs
apply_each P Q [] f a = tt
apply_each P Q (x ∷ xs) f a = (f.0 a.0, apply_each P Q xs f.1 a.1)

-- one event as a run
alone_run : (h : Happening) → Step h.config h.before h.event h.sends h.notes h.after → Run h.before (h ∷ []) h.after
alone_run h s = (refl, s, refl)

-- ---- which notes are of which publish

published_left : (d : Reload) → IsDecided d → d.after.broker.published ≡ d.before.broker.published
published_left d decided = elim (state_left d decided) [ inl e ↦ ap (λ (z : State). z.broker.published) e | inr e ↦ ap (λ (z : State). z.broker.published) e ]

others_over : (f last : Config) (os : List Occurrence) (old new : State) → History f old os last new → (n : ℕ) → n ≤ old.broker.published → AreOfOthers n (notes_over os)
others_over f last [] old new r n le = tt
others_over f last (Of_event h ∷ os) old new (is, e, s, r) n le =
    let v = seen_at h s in
    let t = h.config.topology in
    let from : n ≤ h.before.broker.published = subst (λ (z : State). n ≤ z.broker.published) (sym e) le in
    let grows = step_grows t h.before.broker h.after.broker h.event h.sends h.notes v in
    all-append _ h.notes (notes_over os) (step_of_others t h.before.broker h.after.broker h.event h.sends h.notes v n (inl from)) (others_over h.config last os h.after new r n (omega (arith, from, grows)))
others_over f last (Of_reload d ∷ os) old new (is, e, decided, r) n le =
    let from : n ≤ d.before.broker.published = subst (λ (z : State). n ≤ z.broker.published) (sym e) le in
    all-append _ d.notes (notes_over os) (reload_of_others d decided n) (others_over d.in_force last os d.after new r n (subst (λ (m : ℕ). n ≤ m) (sym (published_left d decided)) from))

-- ---- where each event stands

-- what is known at an event: what is in force is sound, messages may stand where they do, as all these notes tell, and what is noted before and after it is of other publishes
record Known (all : List Note) (h : Happening) : Type 0 where
  sound : IsSound h.config
  begun : IsBegun h.config h.before.broker
  agrees : Agrees all h.before.broker
  placed : Placed all h

known_each : (all : List Note) (f last : Config) (os : List Occurrence) (old new : State) (before : List Note) → IsSound f → OfferSound (reloads_of os) → AreSaid (events_of os) → IsBegun f old.broker → Agrees all old.broker → History f old os last new
    → all ≡ before ++ notes_over os → ((n : ℕ) → old.broker.published < n → AreOfOthers n before) → AllByRecursion (Known all) (events_of os)
known_each all f last [] old new before sound offered said begun agrees r e earlier = tt
known_each all f last (Of_event h ∷ os) old new before sound offered said begun agrees (is, start, s, r) e earlier =
    let t = h.config.topology in
    let v = seen_at h s in
    let grows = step_grows t h.before.broker h.after.broker h.event h.sends h.notes v in
    let first : h.before.broker.published ≡ old.broker.published = ap (λ (z : State). z.broker.published) start in
    let here = begun_at f old h start is begun in
    let sound' : IsSound h.config = subst IsSound (sym is) sound in
    let agrees' : Agrees all h.before.broker = subst (λ (z : State). Agrees all z.broker) (sym start) agrees in
    let at : Placed all h = record { step = v; before = before; after = notes_over os; split = e; earlier = λ n lt. earlier n (omega (arith, lt, first)); later = others_over h.config last os h.after new r } in (
      record { sound = sound'; begun = here; agrees = agrees'; placed = at },
      known_each all h.config last os h.after new (before ++ h.notes) sound' offered said.1 (begun_after h sound' said.0 here s) (agrees_on all h at s agrees') r (e ∙ sym (append_assoc before h.notes (notes_over os)))
          (λ n lt. all-append _ before h.notes (earlier n (omega (arith, grows, lt, first))) (step_of_others t h.before.broker h.after.broker h.event h.sends h.notes v n (inr lt))),
    )
known_each all f last (Of_reload d ∷ os) old new before sound offered said begun agrees (is, start, decided, r) e earlier =
    let same = published_left d decided in
    let first : d.before.broker.published ≡ old.broker.published = ap (λ (z : State). z.broker.published) start in
    let here : IsBegun d.config d.before.broker = subst (λ (g : Config). IsBegun g d.before.broker) (sym is) (subst (λ (z : State). IsBegun f z.broker) (sym start) begun) in
    let agrees' : Agrees all d.before.broker = subst (λ (z : State). Agrees all z.broker) (sym start) agrees in
    known_each all d.in_force last os d.after new (before ++ d.notes) (sound_reloaded d decided (subst IsSound (sym is) sound) offered.0) offered.1 said (begun_reloaded d decided here)
    (over_reload (λ (z : State). Agrees all z.broker) (λ z a. agrees_marked all z.broker a) d decided agrees') r (e ∙ sym (append_assoc before d.notes (notes_over os)))
    (λ n lt. all-append _ before d.notes (earlier n (omega (arith, lt, first, same))) (reload_of_others d decided n))

-- what was in force at each event is sound
pub sounds_over : (f last : Config) (os : List Occurrence) (old new : State) → IsSound f → OfferSound (reloads_of os) → History f old os last new → AreSound (events_of os)
sounds_over f last [] old new sound offered r = tt
sounds_over f last (Of_event h ∷ os) old new sound offered (is, e, s, r) = let here = subst IsSound (sym is) sound in (here, sounds_over h.config last os h.after new here offered r)
sounds_over f last (Of_reload d ∷ os) old new sound offered (is, e, decided, r) = sounds_over d.in_force last os d.after new (sound_reloaded d decided (subst IsSound (sym is) sound) offered.0) offered.1 r

-- ---- what holds in the end

record Ending (last : Config) (new : State) : Type 0 where
  begun : IsBegun last new.broker
  sound : IsSound last

ending : (f last : Config) (os : List Occurrence) (old new : State) → IsSound f → OfferSound (reloads_of os) → AreSaid (events_of os) → IsBegun f old.broker → History f old os last new → Ending last new
ending f last [] old new sound offered said begun (e, s) = record {
  begun = subst (λ (z : Config). IsBegun z new.broker) (sym e) (subst (λ (z : State). IsBegun f z.broker) (sym s) begun);
  sound = subst IsSound (sym e) sound;
}
ending f last (Of_event h ∷ os) old new sound offered said begun (is, start, s, r) =
    let sound' : IsSound h.config = subst IsSound (sym is) sound in
    ending h.config last os h.after new sound' offered said.1 (begun_after h sound' said.0 (begun_at f old h start is begun) s) r
ending f last (Of_reload d ∷ os) old new sound offered said begun (is, start, decided, r) =
    let here : IsBegun d.config d.before.broker = subst (λ (g : Config). IsBegun g d.before.broker) (sym is) (subst (λ (z : State). IsBegun f z.broker) (sym start) begun) in
    ending d.in_force last os d.after new (sound_reloaded d decided (subst IsSound (sym is) sound) offered.0) offered.1 said (begun_reloaded d decided here) r

-- ---- publishes and their numbers

no_number : (d : Reload) → IsDecided d → filter_map number_in d.notes ≡ []
no_number d (inl done) = ap (filter_map number_in) done.noted
no_number d (inr refused) = ap (filter_map number_in) refused.noted

counts_up : (f last : Config) (os : List Occurrence) (old new : State) → History f old os last new → CountUp old.broker.published (filter_map number_in (notes_over os)) new.broker.published
counts_up f last [] old new (e, s) = ap (λ (z : State). z.broker.published) s
counts_up f last (Of_event h ∷ os) old new (is, e, s, r) =
    let first : CountUp h.before.broker.published (filter_map number_in (h.notes ++ [])) h.after.broker.published = run_numbers (h ∷ []) h.before h.after (alone_run h s) in
    let here : CountUp old.broker.published (filter_map number_in h.notes) h.after.broker.published =
    subst (λ (ns : List Note). CountUp old.broker.published (filter_map number_in ns) h.after.broker.published) (append-nil h.notes) (subst (λ (z : State). CountUp z.broker.published (filter_map number_in (h.notes ++ [])) h.after.broker.published) e first) in
    subst (λ (ns : List ℕ). CountUp old.broker.published ns new.broker.published) (sym (filter_map-append number_in h.notes (notes_over os)))
    (next_on old.broker.published h.after.broker.published new.broker.published _ _ here (counts_up h.config last os h.after new r))
counts_up f last (Of_reload d ∷ os) old new (is, e, decided, r) =
    subst (λ (ns : List ℕ). CountUp old.broker.published ns new.broker.published) (sym (filter_map-append number_in d.notes (notes_over os) ∙ ap (λ (ns : List ℕ). ns ++ filter_map number_in (notes_over os)) (no_number d decided)))
    (subst (λ (n : ℕ). CountUp n (filter_map number_in (notes_over os)) new.broker.published) (published_left d decided ∙ ap (λ (z : State). z.broker.published) e) (counts_up d.in_force last os d.after new r))

-- ---- queues

left_so : (d : Reload) → IsDecided d → LeavesQueues d.before.broker d.after.broker
left_so d (inl done) = inl done.broker
left_so d (inr refused) = inr (ap (λ (z : State). z.broker) refused.after)

stays_over : (f last : Config) (os : List Occurrence) (old new : State) → History f old os last new → StaysOver old.broker os new.broker
stays_over f last [] old new (e, s) = ap (λ (z : State). z.broker) s
stays_over f last (Of_event h ∷ os) old new (is, e, s, r) = (ap (λ (z : State). z.broker) e, (run_stays (h ∷ []) h.before h.after (alone_run h s)).1, stays_over h.config last os h.after new r)
stays_over f last (Of_reload d ∷ os) old new (is, e, decided, r) = (ap (λ (z : State). z.broker) e, left_so d decided, stays_over d.in_force last os d.after new r)

-- ---- all of it

entered_all : (all : List Note) (hs : List Happening) → AllByRecursion (Known all) hs → AreSaid hs → (c : ℕ) → AllByRecursion (EnteredOnce all) (acked c hs)
entered_all all [] known said c = tt
entered_all all (h ∷ hs) known said c = all-append (EnteredOnce all) (acked_at c h) (acked c hs) (each_entered_once all h known.0.placed known.0.sound said.0 c) (entered_all all hs known.1 said.1 c)

allowed_in : (all : List Note) (hs : List Happening) → AllByRecursion (Known all) hs → AreSaid hs → AllByRecursion (AreAllowedIn all) hs
allowed_in all [] known said = tt
allowed_in all (h ∷ hs) known said =
    let k = known.0 in (
      allowed_where h (IsNoted all) k.placed.step (λ p x key. own_in_all h p all k.placed x key) (λ quiet q y i x key noted. k.agrees q y i x key noted) k.sound said.0 k.begun.kept,
      allowed_in all hs known.1 said.1,
    )

allowed_each : (all : List Note) (f last : Config) (os : List Occurrence) (old new : State) → History f old os last new → AllByRecursion (Known all) (events_of os) → AreSaid (events_of os) → AllByRecursion AreAllowed (events_of os)
allowed_each all f last [] old new r known said = tt
allowed_each all f last (Of_event h ∷ os) old new (is, e, s, r) known said = (
  (run_allowed h.config h.config (h ∷ []) h.before h.after (known.0.sound, tt) (refl, refl) (said.0, tt) known.0.begun (alone_run h s)).0,
  allowed_each all h.config last os h.after new r known.1 said.1,
)
allowed_each all f last (Of_reload d ∷ os) old new (is, e, decided, r) known said = allowed_each all d.in_force last os d.after new r known said

agrees_first : (f last : Config) (os : List Occurrence) (old new : State) → IsBegun f old.broker → History f old os last new → Agrees (notes_over os) old.broker
agrees_first f last os old new begun r q y i x key (c, k, o, j) =
    absurd (not_of_others y.message.number c k x key o (notes_over os) (others_over f last os old new r y.message.number (stands_counted old.broker q y begun.counted i)) j)

pub histories_keep : HistoriesKeep
histories_keep f last os old new sound offered said begun r = record {
  kept = record {
    each = record {
      entered = entered_all all hs known said;
      routed = each_event _ (λ h s. (run_routed (h ∷ []) h.before h.after (alone_run h s)).0) f last os old new r;
      numbered = counts_up f last os old new r;
      never = allowed_each all f last os old new r known said;
      never_in_all = allowed_in all hs known said;
      causes = each_event _ (λ h s. (run_causes (h ∷ []) h.before h.after (alone_run h s)).0) f last os old new r;
      come = each_event _ (λ h s. (run_origins (h ∷ []) h.before h.after (alone_run h s)).0) f last os old new r;
      fresh = each_event _ (λ h s. (run_fresh (h ∷ []) h.before h.after (alone_run h s)).0) f last os old new r;
      marked = each_event _ (λ h s. (run_marks (h ∷ []) h.before h.after (alone_run h s)).0) f last os old new r;
      letters = letters;
      once = letters_come_once hs sounds letters;
      alone = each_event _ (λ h s. (run_aside (h ∷ []) h.before h.after (alone_run h s)).0) f last os old new r;
    };
    stays = stays_over f last os old new r;
  };
  begun = end.begun;
  sound = end.sound;
}
  where
    all : List Note
    all = notes_over os

    hs : List Happening
    hs = events_of os

    end : Ending last new
    end = ending f last os old new sound offered said begun r

    known : AllByRecursion (Known all) hs
    known = known_each all f last os old new [] sound offered said begun (agrees_first f last os old new begun r) r refl (λ n lt. tt)

    sounds : AreSound hs
    sounds = sounds_over f last os old new sound offered r

    letters : AllByRecursion DieAsRouted hs
    letters = apply_each (λ (h : Happening). IsSound h.config) _ hs (each_event _ (λ h s sound. (run_letters (h ∷ []) h.before h.after (sound, tt) (alone_run h s)).0) f last os old new r) sounds

-- ---- contents

pub sourced_over : (before : List Happening) (f last : Config) (os : List Occurrence) (old new : State) → History f old os last new → AreOfPublishes before old.broker.queue → AreSourced before (events_of os)
sourced_over before f last [] old new r all = tt
sourced_over before f last (Of_event h ∷ os) old new (is, e, s, r) all =
    let here : AreOfPublishes before h.before.broker.queue = subst (λ (z : State). AreOfPublishes before z.broker.queue) (sym e) all in (
      sources before h here s,
      sourced_over (before ++ h ∷ []) h.config last os h.after new r (λ q x i. of_came before h here q x (step_came h.config h.before h.after h.event h.sends h.notes s q x i)),
    )
sourced_over before f last (Of_reload d ∷ os) old new (is, e, decided, r) all =
    let here : AreOfPublishes before d.before.broker.queue = subst (λ (z : State). AreOfPublishes before z.broker.queue) (sym e) all in
    sourced_over before d.in_force last os d.after new r (over_reload (λ (z : State). AreOfPublishes before z.broker.queue) (λ z a. sourced_marked before z.broker a) d decided here)

-- ---- order

waiting_left : (d : Reload) → IsDecided d → (q : Text) → waiting (d.after.broker.queue q) ≡ waiting (d.before.broker.queue q)
waiting_left d decided q = elim (state_left d decided) [
  | inl e ↦ ap (λ (z : State). waiting (z.broker.queue q)) e ∙ waiting_marked (d.before.broker.queue q)
  | inr e ↦ ap (λ (z : State). waiting (z.broker.queue q)) e
]

ordered_over : (q : Text) (f last : Config) (os : List Occurrence) (old new : State) (ns : List ℕ) → History f old os last new → FirstGiven q (events_of os) ns
    → IsPart (ns ++ waiting (new.broker.queue q)) (waiting (old.broker.queue q) ++ entered q (notes_of (events_of os)))
ordered_over q f last [] old new ns (is, s) ended = part_same _ _ (ap (λ (z : State). waiting (z.broker.queue q)) s ∙ sym (append-nil (waiting (old.broker.queue q))))
ordered_over q f last (Of_event h ∷ os) old new ns (is, e, s, r) (given {e = x} {ns = rest} g fresh more) =
    subst (λ (es : List ℕ). IsPart (ns ++ waiting (new.broker.queue q)) (waiting (old.broker.queue q) ++ es)) (sym (entered-append q h.notes (notes_of (events_of os))))
    (onward (x.message.number ∷ []) rest (waiting (old.broker.queue q)) (waiting (h.after.broker.queue q)) (waiting (new.broker.queue q)) (entered q h.notes) (entered q (notes_of (events_of os)))
    (subst (λ (z : State). IsPart (x.message.number ∷ waiting (h.after.broker.queue q)) (waiting (z.broker.queue q) ++ entered q h.notes)) e (giving_ordered h q x g fresh))
    (ordered_over q h.config last os h.after new rest r more))
ordered_over q f last (Of_event h ∷ os) old new ns (is, e, s, r) (passed more) =
    subst (λ (es : List ℕ). IsPart (ns ++ waiting (new.broker.queue q)) (waiting (old.broker.queue q) ++ es)) (sym (entered-append q h.notes (notes_of (events_of os))))
    (onward [] ns (waiting (old.broker.queue q)) (waiting (h.after.broker.queue q)) (waiting (new.broker.queue q)) (entered q h.notes) (entered q (notes_of (events_of os)))
    (subst (λ (z : State). IsPart (waiting (h.after.broker.queue q)) (waiting (z.broker.queue q) ++ entered q h.notes)) e (step_ordered h s q))
    (ordered_over q h.config last os h.after new ns r more))
ordered_over q f last (Of_reload d ∷ os) old new ns (is, e, decided, r) g =
    subst (λ (ws : List ℕ). IsPart (ns ++ waiting (new.broker.queue q)) (ws ++ entered q (notes_of (events_of os)))) (waiting_left d decided q ∙ ap (λ (z : State). waiting (z.broker.queue q)) e)
    (ordered_over q d.in_force last os d.after new ns r g)

pub gives_in_order : (f last : Config) (os : List Occurrence) (new : State) → History f empty_state os last new → GivesInOrder (events_of os)
gives_in_order f last os new r = record {
  in_order = λ q ns g. front ns (waiting (new.broker.queue q)) _ (ordered_over q f last os empty_state new ns r g);
  ahead = each_event _ (λ h s. after_those_ahead h) f last os empty_state new r;
  held = each_event _ (λ h s. held_are_given h s) f last os empty_state new r;
}

-- ---- what is held, outstanding and settled

pub record Lasting (os : List Occurrence) : Type 0 where
  pub events : AllByRecursion Lasts (events_of os)
  pub agreed : AllByRecursion (λ (o : Occurrence). IsAgreed (state_after o).broker) os
  pub present : AllByRecursion (λ (o : Occurrence). ArePresent (state_after o)) os

lasting_from : (f last : Config) (os : List Occurrence) (old new : State) → History f old os last new → IsAgreed old.broker → ArePresent old → Lasting os
lasting_from f last [] old new r a p = record { events = tt; agreed = tt; present = tt }
lasting_from f last (Of_event h ∷ os) old new (is, e, s, r) a p =
    let here : Lasts h = (lasts_from (h ∷ []) h.before h.after (alone_run h s) (subst (λ (z : State). IsAgreed z.broker) (sym e) a) (subst ArePresent (sym e) p)).0 in
    let rest = lasting_from h.config last os h.after new r here.agreed here.present in
    record { events = (here, rest.events); agreed = (here.agreed, rest.agreed); present = (here.present, rest.present) }
lasting_from f last (Of_reload d ∷ os) old new (is, e, decided, r) a p =
    let agreed : IsAgreed d.after.broker = over_reload (λ (z : State). IsAgreed z.broker) (λ z b. agreed_marked z.broker b) d decided (subst (λ (z : State). IsAgreed z.broker) (sym e) a) in
    let present : ArePresent d.after = over_reload ArePresent present_marked d decided (subst ArePresent (sym e) p) in
    let rest = lasting_from d.in_force last os d.after new r agreed present in
    record { events = rest.events; agreed = (agreed, rest.agreed); present = (present, rest.present) }

-- In every history from the empty broker events and reloads keep all of these.
pub lasting : (f last : Config) (os : List Occurrence) (new : State) → History f empty_state os last new → Lasting os
lasting f last os new r = lasting_from f last os empty_state new r stay_agreed.empty (record { connections = λ c. refl; channels = λ c k ch e. absurd (false≢true (ap is_some e)) })

-- ---- acks and nacks

pub acks_over : (f last : Config) (os : List Occurrence) (old new : State) → History f old os last new → (c : ℕ) → filter_map ack_sent (sends_to c (sends_of (events_of os))) ≡ map ack_for (acked c (events_of os))
acks_over f last os old new r c = all_acks c (events_of os) (each_event (SendsItsAcks c) (event_acks c) f last os old new r)

pub nacks_over : (f last : Config) (os : List Occurrence) (old new : State) → History f old os last new → (c : ℕ) → filter_map nack_sent (sends_to c (sends_of (events_of os))) ≡ nacks_of c (events_of os)
nacks_over f last os old new r c = all_nacks c (events_of os) (each_event (SendsItsNacks c) (event_nacks c) f last os old new r)

-- ---- reloads

pub decided_each : (f last : Config) (os : List Occurrence) (old new : State) → History f old os last new → AllByRecursion IsDecided (reloads_of os)
decided_each f last [] old new r = tt
decided_each f last (Of_event h ∷ os) old new (is, e, s, r) = decided_each h.config last os h.after new r
decided_each f last (Of_reload d ∷ os) old new (is, e, decided, r) = (decided, decided_each d.in_force last os d.after new r)

-- ---- messages that can be given out

pub carried_over : (f last : Config) (os : List Occurrence) (old new : State) → History f old os last new → AreSound (events_of os) → AreSaid (events_of os) → AreCarried old.broker → AreCarried new.broker
carried_over f last [] old new (is, s) sound said a = subst (λ (z : State). AreCarried z.broker) (sym s) a
carried_over f last (Of_event h ∷ os) old new (is, e, s, r) sound said a =
    carried_over h.config last os h.after new r sound.1 said.1 (run_carries (h ∷ []) h.before h.after (sound.0, tt) (said.0, tt) (alone_run h s) (subst (λ (z : State). AreCarried z.broker) (sym e) a))
carried_over f last (Of_reload d ∷ os) old new (is, e, decided, r) sound said a =
    carried_over d.in_force last os d.after new r sound said (over_reload (λ (z : State). AreCarried z.broker) (λ z b. carried_marked z.broker b) d decided (subst (λ (z : State). AreCarried z.broker) (sym e) a))

-- ---- from runs and reloads

pub events-mapped : (hs : List Happening) → events_of (map Of_event hs) ≡ hs
events-mapped [] = refl
events-mapped (h ∷ hs) = ap (λ (ks : List Happening). h ∷ ks) (events-mapped hs)

reloads-mapped : (hs : List Happening) → reloads_of (map Of_event hs) ≡ []
reloads-mapped [] = refl
reloads-mapped (h ∷ hs) = reloads-mapped hs

pub events-append : (os ps : List Occurrence) → events_of (os ++ ps) ≡ events_of os ++ events_of ps
events-append [] ps = refl
events-append (Of_event h ∷ os) ps = ap (λ (ks : List Happening). h ∷ ks) (events-append os ps)
events-append (Of_reload d ∷ os) ps = events-append os ps

reloads-append : (os ps : List Occurrence) → reloads_of (os ++ ps) ≡ reloads_of os ++ reloads_of ps
reloads-append [] ps = refl
reloads-append (Of_event h ∷ os) ps = reloads-append os ps
reloads-append (Of_reload d ∷ os) ps = ap (λ (ks : List Reload). d ∷ ks) (reloads-append os ps)

history_of_run : (f last : Config) (hs : List Happening) (old new : State) → InForce f hs last → Run old hs new → History f old (map Of_event hs) last new
history_of_run f last [] old new force r = (force, r)
history_of_run f last (h ∷ hs) old new force (e, s, r) = (force.0, e, s, history_of_run h.config last hs h.after new force.1 r)

history-append : (os ps : List Occurrence) (f mid last : Config) (old between new : State) → History f old os mid between → History mid between ps last new → History f old (os ++ ps) last new
history-append [] ps f mid last old between new (is, s) b = subst (λ (g : Config). History g old ps last new) is (subst (λ (z : State). History mid z ps last new) s b)
history-append (Of_event h ∷ os) ps f mid last old between new (is, e, s, r) b = (is, e, s, history-append os ps h.config mid last h.after between new r b)
history-append (Of_reload d ∷ os) ps f mid last old between new (is, e, decided, r) b = (is, e, decided, history-append os ps d.in_force mid last d.after between new r b)

-- what arrivals bring: a history, of events that are told and of reloads that offer what is sound
pub record ToldOver (old : World) (os : List Occurrence) (new : World) : Type 0 where
  pub history : History old.config old.state os new.config new.state
  pub each : AllByRecursion IsTold (events_of os)
  pub offered : OfferSound (reloads_of os)

pub over_told : (old new : World) (hs : List Happening) → Told old hs new → ToldOver old (map Of_event hs) new
over_told old new hs t = record {
  history = history_of_run old.config new.config hs old.state new.state t.in_force t.run;
  each = subst (AllByRecursion IsTold) (sym (events-mapped hs)) t.each;
  offered = subst OfferSound (sym (reloads-mapped hs)) tt;
}

pub over_at : (old new : World) (os ps : List Occurrence) → os ≡ ps → ToldOver old ps new → ToldOver old os new
over_at old new os ps e t = subst (λ (z : List Occurrence). ToldOver old z new) (sym e) t

pub over-append : (old mid new : World) (os ps : List Occurrence) → ToldOver old os mid → ToldOver mid ps new → ToldOver old (os ++ ps) new
over-append old mid new os ps a b = record {
  history = history-append os ps old.config mid.config new.config old.state mid.state new.state a.history b.history;
  each = subst (AllByRecursion IsTold) (sym (events-append os ps)) (all-append IsTold (events_of os) (events_of ps) a.each b.each);
  offered = subst OfferSound (sym (reloads-append os ps)) (all-append (λ (r : Reload). IsSound r.offered) (reloads_of os) (reloads_of ps) a.offered b.offered);
}

pub over_reloads : (old new : World) (offered : Config) (os : List Occurrence) → IsSound offered → Reloads old offered os new → ToldOver old os new
over_reloads old new offered os sound p = over_at old new os (Of_reload p.r ∷ []) p.all (record {
  history = (p.under, p.before, p.decided, (sym p.in_force, sym p.after));
  each = tt;
  offered = (subst IsSound (sym p.offers) sound, tt);
})

-- one arrival
over_answers : (old new : World) (a : Arrival Config) (os : List Occurrence) → IsOffered a → Answers old a os new → ToldOver old os new
over_answers old new arrival.Open os offered (hs, e, p) = over_at old new os (map Of_event hs) e (over_told old new hs (from_either (can_open old) (λ o. told_opens old new (event.Open _) _ hs tt o) (told_same old new hs) p))
over_answers old new (arrival.Ready k) os offered (hs, e, p) = over_at old new os (map Of_event hs) e (over_told old new hs (from_either (can_open old) (λ o. told_opens old new (event.Running _ 255 k) _ hs tt o) (told_same old new hs) p))
over_answers old new (arrival.In c bytes) os offered (hs, e, p) =
    over_at old new os (map Of_event hs) e (over_told old new hs (from_either (is_over old c) (told_same old new hs) (λ w. told_heard old new c bytes hs (told_works_off c (with_heard old c bytes) new hs w)) p))
over_answers old new (arrival.Sent c n) os offered (hs, e, p) = over_at old new os (map Of_event hs) e (over_told old new hs (from_either (is_gone old c) (told_same old new hs) (λ w. told_taken_and_works c n old new hs w) p))
over_answers old new arrival.Pump os offered (hs, e, p) = over_at old new os (map Of_event hs) e (over_told old new hs (told_pumps old new hs p))
over_answers old new (arrival.Lose c) os offered (hs, e, p) = over_at old new os (map Of_event hs) e (over_told old new hs (from_either (is_gone old c) (told_same old new hs) (λ o. told_loses old new c hs o) p))
over_answers old new (arrival.Reload g) os offered p = over_reloads old new g os offered p

-- Whatever arrives, what happens is a history.
pub over_plays : (old new : World) (arrivals : List (Arrival Config)) (os : List Occurrence) → AreOffered arrivals → Plays old arrivals os new → ToldOver old os new
over_plays old new [] os offered p = over_at old new os [] p.0 (over_told old new [] (told_same old new [] (refl, p.1)))
over_plays old new (a ∷ arrivals) os offered (mid, first, rest, e, brings, p) =
    over_at old new os (first ++ rest) e (over-append old mid new first rest (over_answers old mid a first offered.0 brings) (over_plays mid new arrivals rest offered.1 p))

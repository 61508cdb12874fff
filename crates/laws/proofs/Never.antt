-- No message, of a publish or a dead letter, enters a queue that is forbidden to its publish; what leaves a queue has a cause, and what enters one an origin. And so a run keeps the promises.
use Rattle.laws.proofs.Names.{◌≡◌, ℕ, ◌⊎◌, Bool, true, false, eqb, List, [], ◌∷◌, ◌++◌, refl, sym, ap, subst, ◌∙◌, inl, inr, arith, count_by, AllByRecursion, eq-eqb, false≢true, Text, Topology, IsIn, Message, Broker, by_publish, AreKept, Covers, Later, Config, State, Step, IsSaid, Happening, Run, AreCounted, has_number, notes_of, IsNoted, WasSentTo, IsAllowed, AreAllowed, AreAllowedIn, IsCauseAt, HasCause, HaveCauses, IsPublishedAt, HasOrigin, HaveOrigins, IsOfNoRejection, DieAsRouted, DieOnce, IsSound, KeepsEvents, Entry, Note, Published, Entered, Left, Send, Event, AreSound, AreSaid, InForce, IsBegun, config_after}
use Rattle.std.proofs.Common.{◌+◌, Option}
use Rattle.model.specs.declared.notes.Way.TheVariants as way
use Rattle.laws.proofs.Dying.{HasDied}
use Rattle.laws.proofs.Entering.{picked}
use Rattle.laws.proofs.Safe.{come_here}
use Rattle.laws.proofs.Traced.{Rooted, before, now, rooted, exchange_of, key_of, step_came}
use Rattle.laws.proofs.Keeping.{one_death, step_kept}
use Rattle.laws.proofs.Leaving.{OfLeft}
use Rattle.laws.proofs.Aside.{run_aside}
use Rattle.laws.proofs.Routed.{run_routed, run_numbers}
use Rattle.laws.proofs.Letters.{letters_once}
use Rattle.laws.proofs.Fresh.{run_fresh}
use Rattle.laws.proofs.Marked.{run_marks}
use Rattle.laws.proofs.Counts.{all_each, all_in, in-append, count-cons, count-cons_yes}
use Rattle.laws.proofs.Deeds.{Publishes}
use Rattle.laws.proofs.View.{Seen, CountsNone, seen_at, quiet_notes}
use Rattle.laws.proofs.Balance.{number, confirm, first_note, entry_part, answer_part, noted, others_all, run_stays, counted_at, stands_counted}
use Rattle.laws.proofs.Once.{is_of_publish, AreOfOthers, Placed, places, key_is_short, run_of_others, run_entered_once}

-- ---- what the publish of a number was

abbrev is_published : Note → Bool
is_published (Published n c h x key o) = true
is_published note = false

-- notes of other publishes don't tell of this one
pub not_of_others : (n c h : ℕ) (x key : Text) (o : Option ℕ) (notes : List Note) → AreOfOthers n notes → IsIn (Published n c h x key o) notes → ⊥
not_of_others n c h x key o notes a i =
    let no : eqb n n ≡ false = all_in (λ note. is_of_publish n note ≡ false) (Published n c h x key o) notes a i in
    false≢true (sym no ∙ eq-eqb n n refl)

-- no entry has a number that none of the list has
not_among : (n : ℕ) (e : Entry) (es : List Entry) → IsIn e es → e.message.number ≡ n → count_by (has_number n) es ≡ 0 → ⊥
not_among n e [] i is zero_of = i
not_among n e (x ∷ es) (inl same) is zero_of =
    let yes : has_number n x ≡ true = eq-eqb x.message.number n (sym (ap (λ (z : Entry). z.message.number) same) ∙ is) in
    let one = count-cons_yes (has_number n) x es yes in
    omega (arith, one, zero_of)
not_among n e (x ∷ es) (inr i) is zero_of = let more = count-cons (has_number n) x es in not_among n e es i is (omega (arith, more, zero_of))

-- the message was first sent to this exchange under this key
abbrev pub IsSentTo : Message → Text → Text → Type 0
IsSentTo m x key = (x ≡ m.first_exchange) × (key ≡ m.first_key)

-- an event that is a publish
module _ (h : Happening) (p : Publishes h.config.topology h.before.broker h.after.broker h.event h.sends h.notes) where
  -- its own exchange and key
  abbrev pub IsItsOwn : Text → Text → Type 0
  IsItsOwn x key = (x ≡ p.publish.exchange) × (key ≡ p.publish.routing_key)

  made : h.after.broker.published ≡ h.before.broker.published + 1
  made = p.is.left.counted

  own_publish : (c i : ℕ) (x key : Text) (o : Option ℕ) → IsIn (Published (number p) c i x key o) (first_note p ∷ (entry_part p ++ answer_part p)) → IsItsOwn x key
  own_publish c i x key o (inl e) =
      let a : x ≡ p.publish.exchange = cc in
      let b : key ≡ p.publish.routing_key = cc in
      (a, b)
  own_publish c i x key o (inr j) =
      absurd (false≢true (sym (all_in (λ n. is_published n ≡ false) (Published (number p) c i x key o) (entry_part p ++ answer_part p) (others_all p _ (λ r. refl) (λ r i. refl) refl (λ a. refl)) j)))

  -- its own notes tell them
  own_noted : (x key : Text) → IsNoted h.notes (number p) x key → IsItsOwn x key
  own_noted x key (c, i, o, j) = own_publish c i x key o (subst (IsIn (Published (number p) c i x key o)) (noted p) j)

  -- and no message before it has its number
  own_known : AreCounted h.before.broker → (x key : Text) → WasSentTo h (number p) x key → IsItsOwn x key
  own_known counted x key (inl n) = own_noted x key n
  own_known counted x key (inr s) = absurd (not_among (number p) s.entry (h.before.broker.queue s.queue) s.there s.number (counted (number p) s.queue (omega arith)))

  -- nor do other notes of its run tell others
  pub own_in_all : (all : List Note) → Placed all h → (x key : Text) → IsNoted all (number p) x key → IsItsOwn x key
  own_in_all all at x key (c, i, o, j) = anywhere (in-append note at.before (h.notes ++ at.after) (subst (IsIn note) at.split j))
    where
      note : Note
      note = Published (number p) c i x key o

      from_own_on : IsIn note h.notes ⊎ IsIn note at.after → IsItsOwn x key
      from_own_on (inl k) = own_noted x key (c, i, o, k)
      from_own_on (inr k) = absurd (not_of_others (number p) c i x key o at.after (at.later (number p) (omega (arith, made))) k)

      anywhere : IsIn note at.before ⊎ IsIn note (h.notes ++ at.after) → IsItsOwn x key
      anywhere (inl k) = absurd (not_of_others (number p) c i x key o at.before (at.earlier (number p) (omega arith)) k)
      anywhere (inr k) = from_own_on (in-append note h.notes at.after k)

-- ---- what enters

-- a quiet event notes no publish
no_publish : {t : Topology} {old new : Broker} {e : Event} {sends : List Send} {notes : List Note} → CountsNone t old new e sends notes → (n : ℕ) (x key : Text) → IsNoted notes n x key → ⊥
no_publish {notes = notes} quiet n x key (c, i, o, j) =
    false≢true (sym (all_in (λ note. is_published note ≡ false) (Published n c i x key o) notes (quiet_notes (λ (note : Note). is_published note ≡ false) (λ m r cause. refl) (λ m r. refl) (λ m r d. refl) quiet) j))

-- what an event notes is allowed, however it is known where its publish was sent, if this agrees with what the messages that stand in queues say
pub allowed_where : (h : Happening) (Sent : ℕ → Text → Text → Type 0) → Seen h.config.topology h.before.broker h.after.broker h.event h.sends h.notes
    → ((p : Publishes h.config.topology h.before.broker h.after.broker h.event h.sends h.notes) (x key : Text) → Sent (number p) x key → IsItsOwn h p x key)
    → (CountsNone h.config.topology h.before.broker h.after.broker h.event h.sends h.notes → (q : Text) (y : Entry) → IsIn y (h.before.broker.queue q) → (x key : Text) → Sent y.message.number x key → IsSentTo y.message x key)
    → IsSound h.config → IsSaid h.event → AreKept h.config h.before.broker → AllByRecursion (IsAllowed h.config.guarantees Sent) h.notes
allowed_where h Sent (inl quiet) own known sound said kept = quiet_notes (IsAllowed h.config.guarantees Sent) (λ m r cause. tt) (λ m r. tt) died quiet
  where
    died : (n : ℕ) (r : Text) → HasDied h.config.topology h.before.broker.queue h.notes n r → IsAllowed h.config.guarantees Sent (Entered n r way.Dead)
    died n r d x key sent g in_gs m covers e =
        let same = known quiet d.from d.entry d.there x key (subst (λ (k : ℕ). Sent k x key) (sym d.number) sent) in
        let covers' : Covers g d.entry.message.first_exchange d.entry.message.first_key = subst (λ (z : Text). Covers g z d.entry.message.first_key) same.0 (subst (λ (z : Text). Covers g x z) same.1 covers) in
        ((kept.each d.from d.entry d.there).safe g in_gs m covers').0 (subst (λ (z : Text). Later h.config.topology d.from d.entry.message.key z) e (one_death h.config.topology d.from d.exchange r d.entry.message.key d.last d.dies d.routes))
allowed_where h Sent (inr p) own known sound said kept = subst (AllByRecursion (IsAllowed h.config.guarantees Sent)) (sym (noted p)) (tt, others_all p _ (λ r. tt) entered tt (λ a. tt))
  where
    entered : (r : Text) → IsIn r p.is.targets → IsAllowed h.config.guarantees Sent (Entered (number p) r way.Publish)
    entered r i x key sent g in_gs m covers e =
        let same = own p x key sent in
        let covers' : Covers g p.publish.exchange p.publish.routing_key = subst (λ (z : Text). Covers g z p.publish.routing_key) same.0 (subst (λ (z : Text). Covers g x z) same.1 covers) in
        come_here h.config.topology g (sound.hold g in_gs) m covers' (key_is_short p said) (by_publish (picked r p.is.routed i)) e

-- ---- what is known of messages that stand in queues

-- at the event itself
known_here : (h : Happening) → AreKept h.config h.before.broker → CountsNone h.config.topology h.before.broker h.after.broker h.event h.sends h.notes
    → (q : Text) (y : Entry) → IsIn y (h.before.broker.queue q) → (x key : Text) → WasSentTo h y.message.number x key → IsSentTo y.message x key
known_here h kept quiet q y i x key (inl n) = absurd (no_publish quiet y.message.number x key n)
known_here h kept quiet q y i x key (inr s) = let alike = kept.alike s.queue q s.entry y s.there i s.number in (sym s.exchange ∙ alike.exchange, sym s.first_key ∙ alike.key)

-- what these notes say of the publish of a message is what the message says
abbrev pub Agrees : List Note → Broker → Type 0
Agrees all b = (q : Text) (y : Entry) → IsIn y (b.queue q) → (x key : Text) → IsNoted all y.message.number x key → IsSentTo y.message x key

-- the publishes of a run are counted after those of what stood there before it
agrees_at_first : (hs : List Happening) (old new : State) → AreCounted old.broker → Run old hs new → Agrees (notes_of hs) old.broker
agrees_at_first hs old new counted r q y i x key (c, k, o, j) =
    absurd (not_of_others y.message.number c k x key o (notes_of hs) (run_of_others hs old new r y.message.number (stands_counted old.broker q y counted i)) j)

pub agrees_on : (all : List Note) (h : Happening) → Placed all h → Step h.config h.before h.event h.sends h.notes h.after → Agrees all h.before.broker → Agrees all h.after.broker
agrees_on all h at s agrees q y i x key noted = by (rooted h.config.topology h.before.broker h.after.broker h.event h.sends h.notes q y (step_came h.config h.before h.after h.event h.sends h.notes s q y i))
  where
    by : Rooted h.config.topology h.before.broker h.after.broker h.event h.sends h.notes y.message → IsSentTo y.message x key
    by (before r z j n alike) = let was = agrees r z j x key (subst (λ (k : ℕ). IsNoted all k x key) n noted) in (was.0 ∙ sym alike.exchange, was.1 ∙ sym alike.key)
    by (now p n ex k) =
        let own = own_in_all h p all at x key (subst (λ (m : ℕ). IsNoted all m x key) n noted) in
        (own.0 ∙ sym (ap exchange_of p.event) ∙ sym ex, own.1 ∙ sym (ap key_of p.event) ∙ sym k)

-- ---- runs

-- the state before an event, and the one after it
pub begun_at : (f : Config) (old : State) (h : Happening) → h.before ≡ old → h.config ≡ f → IsBegun f old.broker → IsBegun h.config h.before.broker
begun_at f old h start is begun = subst (λ (g : Config). IsBegun g h.before.broker) (sym is) (subst (λ (z : State). IsBegun f z.broker) (sym start) begun)

pub begun_after : (h : Happening) → IsSound h.config → IsSaid h.event → IsBegun h.config h.before.broker → Step h.config h.before h.event h.sends h.notes h.after → IsBegun (config_after h) h.after.broker
begun_after h sound said begun s = record {
  counted = counted_at h s begun.counted;
  kept = step_kept h.config h.before h.after h.event h.sends h.notes sound said begun.counted begun.kept s;
}

-- In every run messages may stand where they do.
pub run_begun : (f last : Config) (hs : List Happening) (old new : State) → AreSound hs → InForce f hs last → AreSaid hs → IsBegun f old.broker → Run old hs new → IsBegun last new.broker
run_begun f last [] old new sound force said begun r = subst (λ (g : Config). IsBegun g new.broker) (sym force) (subst (λ (z : State). IsBegun f z.broker) (sym r) begun)
run_begun f last (h ∷ hs) old new sound force said begun (e, s, r) =
    run_begun (config_after h) last hs h.after new sound.1 force.1 said.1 (begun_after h sound.0 said.0 (begun_at f old h e force.0 begun) s) r

-- In every run no message, of a publish or a dead letter, entered a queue that was forbidden to its publish.
pub run_allowed_in : (f last : Config) (hs : List Happening) (old new : State) → AreSound hs → InForce f hs last → AreSaid hs → IsBegun f old.broker → Run old hs new → AllByRecursion (AreAllowedIn (notes_of hs)) hs
run_allowed_in f last hs old new sound force said begun r = go f hs old new r (places hs old new r) sound force said begun (agrees_at_first hs old new begun.counted r)
  where
    all : List Note
    all = notes_of hs

    go : (g : Config) (es : List Happening) (from to : State) → Run from es to → AllByRecursion (Placed all) es → AreSound es → InForce g es last → AreSaid es → IsBegun g from.broker → Agrees all from.broker → AllByRecursion (AreAllowedIn all) es
    go g [] from to r at sound force said begun agrees = tt
    go g (e ∷ es) from to (start, s, r) at sound force said begun agrees =
        let here = begun_at g from e start force.0 begun in
        let agrees' : Agrees all e.before.broker = subst (λ (z : State). Agrees all z.broker) (sym start) agrees in (
          allowed_where e (IsNoted all) at.0.step (λ p x key. own_in_all e p all at.0 x key) (λ quiet q y i x key noted. agrees' q y i x key noted) sound.0 said.0 here.kept,
          go (config_after e) es e.after to r at.1 sound.1 force.1 said.1 (begun_after e sound.0 said.0 here s) (agrees_on all e at.0 s agrees'),
        )

-- And each event by itself tells so.
pub run_allowed : (f last : Config) (hs : List Happening) (old new : State) → AreSound hs → InForce f hs last → AreSaid hs → IsBegun f old.broker → Run old hs new → AllByRecursion AreAllowed hs
run_allowed f last [] old new sound force said begun r = tt
run_allowed f last (h ∷ hs) old new sound force said begun (e, s, r) =
    let here = begun_at f old h e force.0 begun in (
      allowed_where h (WasSentTo h) (seen_at h s) (λ p x key. own_known h p here.counted x key) (known_here h here.kept) sound.0 said.0 here.kept,
      run_allowed (config_after h) last hs h.after new sound.1 force.1 said.1 (begun_after h sound.0 said.0 here s) r,
    )

-- ---- causes

step_causes : (h : Happening) → Seen h.config.topology h.before.broker h.after.broker h.event h.sends h.notes → HaveCauses h
step_causes h (inl q) = all_each _ (HasCause h) caused h.notes q.caused
  where
    caused : (note : Note) → OfLeft (IsCauseAt h.before.broker h.event) note → HasCause h note
    caused (Left n r cause) is = is
    caused _ is = tt
step_causes h (inr p) = subst (AllByRecursion (HasCause h)) (sym (noted p)) (tt, others_all p _ (λ r. tt) (λ r i. tt) tt (λ a. tt))

-- In every run a message left a queue only by an event that takes it out.
pub run_causes : (hs : List Happening) (old new : State) → Run old hs new → AllByRecursion HaveCauses hs
run_causes [] old new r = tt
run_causes (h ∷ hs) old new (e, s, r) = (step_causes h (seen_at h s), run_causes hs h.after new r)

-- ---- origins

-- a publish is noted before what entered by it, and of a dead letter that its message left the queue where it stood
step_origins : (h : Happening) → Seen h.config.topology h.before.broker h.after.broker h.event h.sends h.notes → HaveOrigins h
step_origins h (inl q) = quiet_notes (HasOrigin h) (λ n r cause. tt) (λ n r. tt) (λ n r d. record { queue = d.from; entry = d.entry; stood = d.there; number = d.number; left = d.left }) q
step_origins h (inr p) = subst (AllByRecursion (HasOrigin h)) (sym (noted p)) (tt, others_all p _ (λ r. tt) (λ r i. published) tt (λ a. tt))
  where
    published : IsPublishedAt h (number p)
    published = (p.publish.exchange, p.publish.routing_key, (p.c, p.h, confirm p, subst (IsIn (first_note p)) (sym (noted p)) (inl refl)))

-- In every run what entered a queue came by its publish, or from a queue where it stood and which it left by a rejection.
pub run_origins : (hs : List Happening) (old new : State) → Run old hs new → AllByRecursion HaveOrigins hs
run_origins [] old new r = tt
run_origins (h ∷ hs) old new (e, s, r) = (step_origins h (seen_at h s), run_origins hs h.after new r)

-- ---- dead letters

-- what a publish enters is no dead letter
step_letters : (h : Happening) → IsSound h.config → Seen h.config.topology h.before.broker h.after.broker h.event h.sends h.notes → DieAsRouted h
step_letters h sound (inl q) = q.rejections sound.wf.queues_distinct
step_letters h sound (inr p) = inr (subst (AllByRecursion IsOfNoRejection) (sym (noted p)) (tt, others_all p IsOfNoRejection (λ s. tt) (λ s i. tt) tt (λ a. tt)))

-- In every run each message that was rejected came, as its dead letter, to each queue to which it goes on, or that was full.
pub run_letters : (hs : List Happening) (old new : State) → AreSound hs → Run old hs new → AllByRecursion DieAsRouted hs
run_letters [] old new sound r = tt
run_letters (h ∷ hs) old new sound (e, s, r) = (step_letters h sound.0 (seen_at h s), run_letters hs h.after new sound.1 r)

-- And so none came to a queue as two dead letters.
pub letters_come_once : (hs : List Happening) → AreSound hs → AllByRecursion DieAsRouted hs → AllByRecursion DieOnce hs
letters_come_once [] sound each = tt
letters_come_once (h ∷ hs) sound each = (letters_once h.config.topology h.before.broker.queue h.notes sound.0.wf.queues_distinct each.0, letters_come_once hs sound.1 each.1)

pub run_letters_once : (hs : List Happening) (old new : State) → AreSound hs → Run old hs new → AllByRecursion DieOnce hs
run_letters_once hs old new sound r = letters_come_once hs sound (run_letters hs old new sound r)

-- ---- all of it

-- What happens in a run keeps the promises.
pub run_keeps : (f last : Config) (hs : List Happening) (old new : State) → AreSound hs → InForce f hs last → AreSaid hs → IsBegun f old.broker → Run old hs new → KeepsEvents old.broker hs new.broker
run_keeps f last hs old new sound force said begun r = record {
  each = record {
    entered = run_entered_once hs old new sound said r;
    routed = run_routed hs old new r;
    numbered = run_numbers hs old new r;
    never = run_allowed f last hs old new sound force said begun r;
    never_in_all = run_allowed_in f last hs old new sound force said begun r;
    causes = run_causes hs old new r;
    come = run_origins hs old new r;
    fresh = run_fresh hs old new r;
    marked = run_marks hs old new r;
    letters = run_letters hs old new sound r;
    once = run_letters_once hs old new sound r;
    alone = run_aside hs old new r;
  };
  stays = run_stays hs old new r;
}

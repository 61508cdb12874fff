-- Each message that stands in a queue can be given out, and what is sent carries contents that are not too large.
use Rattle.laws.proofs.Names.{◌≡◌, ℕ, List, [], ◌∷◌, ◌++◌, Bool, true, false, cond, refl, sym, subst, length, arith, rules, None, filter_map, ◌&&◌, AllByRecursion, bytes_eq, Text, Topology, IsWellFormed, IsMethod, no_properties, Message, Outstanding, Channel, Broker, is_ready, is_full, is_under, is_held_as, freed, held_as, change_first, without_first, Settlement, Leaves, Rejects, Returns, AreSettled, AreLeft, AreRejected, AreReturned, given_in, with_queue, first_ready, holder_of, without_given, with_returned, after_giving, IsWithin, HasWithin, Dies, key_after, AreMarked, with_headers, dead_letter, IsStored, HasStored, IsCarried, AreCarried, IsSaid, Config, State, Step, Happening, Run, Acts, IsPublish, content_or_none, confirm_sends, returned_sends, message, next_of, answer_of, is_none, is_some_full, DeclaredQueue, Content, Entry, Holder, Mark, Ready, Held, Send, Event, BasicPublish, Cause, Note, Answer, event_connection, content_in, MessagesStayCarried, AreSaid, AreSound}
use Rattle.std.proofs.Common.{◌<◌, ◌+◌, map, not, Option, Some}
use Rattle.std.specs.Prelude.{if◌then◌else◌}
use Rattle.model.specs.Step.{comes_to}
use Rattle.model.specs.declared.events.Send.TheVariants as send
use Rattle.model.specs.declared.events.Event.TheVariants.{Command}
use Rattle.model.specs.declared.methods.Publish.{Publish}
use Rattle.laws.proofs.Dying.{Goes, not_found, left_only, died, goes_by}
use Rattle.laws.proofs.Marking.{within_stored, stored_marked}
use Rattle.laws.proofs.Counts.{all-append, all_in, filter_all}
use Rattle.laws.proofs.Leaving.{at_queue, find_in}
use Rattle.laws.proofs.Deeds.{Deed, changes, enters, gives, settles, purges, acted, freed_by}
use Rattle.laws.proofs.View.{step_deed}

-- ---- lists of entries

-- each of these messages can be given out
abbrev AreAll : List Entry → Type 0
AreAll es = AllByRecursion (λ (e : Entry). IsCarried e.message) es

freed_one : (mine : Holder → Bool) (e : Entry) → IsCarried e.message → IsCarried (freed mine e).message
freed_one mine e = go e.message e.mark
  where
    go : (m : Message) (k : Mark) → IsCarried m → IsCarried (freed mine (record { message = m; mark = k })).message
    go m Ready is = is
    go m (Held g) is = by (mine g)
      where
        made : Bool → Entry
        made v = if v then record { message = record m { redelivered = true }; mark = Ready } else record { message = m; mark = Held g }

        by : (v : Bool) → IsCarried (made v).message
        by true = record { exchange = is.exchange; key = is.key; content = is.content }
        by false = is

freed_all : (mine : Holder → Bool) (es : List Entry) → AreAll es → AreAll (map (freed mine) es)
freed_all mine [] a = tt
freed_all mine (e ∷ es) a = (freed_one mine e a.0, freed_all mine es a.1)

held_all : (p : Entry → Bool) (holder : Holder) (es : List Entry) → AreAll es → AreAll (change_first p (held_as holder) es)
held_all p holder [] a = tt
held_all p holder (e ∷ es) a = go (p e) (held_all p holder es a.1)
  where
    go : (v : Bool) → AreAll (change_first p (held_as holder) es) → AreAll (cond v (held_as holder e ∷ es) (e ∷ change_first p (held_as holder) es))
    go true more = a
    go false more = (a.0, more)

without_all : (p : Entry → Bool) (es : List Entry) → AreAll es → AreAll (without_first p es)
without_all p [] a = tt
without_all p (e ∷ es) a = go (p e) (without_all p es a.1)
  where
    go : (v : Bool) → AreAll (without_first p es) → AreAll (cond v es (e ∷ without_first p es))
    go true more = a.1
    go false more = (a.0, more)

given_all : (no_ack : Bool) (holder : Holder) (es : List Entry) → AreAll es → AreAll (after_giving no_ack holder es)
given_all true holder es a = without_all is_ready es a
given_all false holder es a = held_all is_ready holder es a

comes_all : (t : Topology) (entries : Text → List Entry) (m : Message) (q : Text) → IsCarried m → (rs : List Text) → AreAll (comes_to t entries m q rs)
comes_all t entries m q is [] = tt
comes_all t entries m q is (r ∷ rs) = go (bytes_eq r q && not (is_full t entries r (length m.content.body))) (comes_all t entries m q is rs)
  where
    go : (v : Bool) → AreAll (comes_to t entries m q rs) → AreAll (if v then record { message = m; mark = Ready } ∷ comes_to t entries m q rs else comes_to t entries m q rs)
    go true more = (is, more)
    go false more = more

-- ---- queues

abbrev InAll : (Text → List Entry) → Type 0
InAll queues = (q : Text) → AreAll (queues q)

in_same : (old new : Text → List Entry) → ((q : Text) → new q ≡ old q) → InAll old → InAll new
in_same old new is a q = subst AreAll (sym (is q)) (a q)

in_one : (queues : Text → List Entry) (name : Text) (entries : List Entry) → AreAll entries → InAll queues → InAll (with_queue queues name entries)
in_one queues name entries here a = at_queue (λ (q : Text) (es : List Entry). AreAll es) queues name entries here (λ q other. a q)

left_in : (cause : Cause) (c h : ℕ) (os : List Outstanding) (old : Text → List Entry) (notes : List Note) (new : Text → List Entry) → AreLeft cause c h os old notes new → InAll old → InAll new
left_in cause c h [] old notes new l a = in_same old new l.1 a
left_in cause c h (o ∷ os) old notes new (mid, rest, is, all, more) a =
    left_in cause c h os mid rest new more (in_same (without_given c h old o) mid is (in_one old o.queue _ (without_all (is_held_as (holder_of c h o)) (old o.queue) (a o.queue)) a))

returned_in : (c h : ℕ) (os : List Outstanding) (old new : Text → List Entry) → AreReturned c h os old new → InAll old → InAll new
returned_in c h [] old new r a = in_same old new r a
returned_in c h (o ∷ os) old new (mid, is, more) a =
    returned_in c h os mid new more (in_same (with_returned c h old o) mid is (in_one old o.queue _ (freed_all (is_under (holder_of c h o)) (old o.queue) (a o.queue)) a))

-- a dead letter may be given out as its message may
letter_carried : (t : Topology) (p : DeclaredQueue) (name exchange : Text) (m : Message) (headers : Option Text) → IsWellFormed t → Dies t name exchange p → AreMarked p.name m.exchange m.content.properties.headers headers → IsCarried m
    → IsCarried (dead_letter m exchange (key_after p.dead_letter_key m.key) (with_headers m.content headers))
letter_carried t p name exchange m headers wf dies marked is = record {
  exchange = let le = wf.short_exchanges p exchange dies.is_queue dies.dead in omega (arith, le);
  key = short_key p.dead_letter_key refl;
  content = stored_marked p.name m.exchange (wf.short_queues p dies.is_queue) is.exchange m.content is.content m.content.properties.headers headers refl marked;
}
  where
    short_key : (fixed : Option Text) → p.dead_letter_key ≡ fixed → length (key_after fixed m.key) < 256
    short_key None e = is.key
    short_key (Some key) e = let le = wf.short_keys p key dies.is_queue e in omega (arith, le)

one_in : (t : Topology) (name : Text) (gone : Text → List Entry) (notes : List Note) (new : Text → List Entry) (found : Option Entry) → IsWellFormed t → ((e : Entry) → found ≡ Some e → IsCarried e.message) → Goes t name gone notes new found → InAll gone → InAll new
one_in t name gone notes new None wf each (not_found none same) a = in_same gone new same a
one_in t name gone notes new (Some e) wf each (left_only is same) a = in_same gone new same a
one_in t name gone notes new (Some e) wf each (died p exchange rest dies is d) a = λ q.
    let carried = letter_carried t p name exchange e.message d.headers wf dies d.marked (each e refl) in
    subst AreAll (sym (d.left q)) (all-append _ (gone q) _ (a q) (comes_all t gone (dead_letter e.message exchange (key_after p.dead_letter_key e.message.key) (with_headers e.message.content d.headers)) q carried d.targets))

rejected_in : (t : Topology) (c h : ℕ) (os : List Outstanding) (old : Text → List Entry) (notes : List Note) (new : Text → List Entry) → IsWellFormed t → AreRejected t c h os old notes new → InAll old → InAll new
rejected_in t c h [] old notes new wf r a = in_same old new r.1 a
rejected_in t c h (o ∷ os) old notes new wf (mid, first, rest, dies, all, more) a =
    let gone = without_given c h old o in
    let found_carried : (e : Entry) → given_in c h old o ≡ Some e → IsCarried e.message = λ e f. all_in (λ (x : Entry). IsCarried x.message) e (old o.queue) (a o.queue) (find_in (is_held_as (holder_of c h o)) e (old o.queue) f).0 in
    rejected_in t c h os mid rest new wf more (one_in t o.queue gone first mid (given_in c h old o) wf found_carried (goes_by t o.queue gone first mid (given_in c h old o) dies)
    (in_one old o.queue _ (without_all (is_held_as (holder_of c h o)) (old o.queue) (a o.queue)) a))

settled_in : (t : Topology) (how : Settlement) (c h : ℕ) (os : List Outstanding) (old : Text → List Entry) (notes : List Note) (new : Text → List Entry) → IsWellFormed t → AreSettled t how c h os old notes new → InAll old → InAll new
settled_in t (Leaves cause) c h os old notes new wf s a = left_in cause c h os old notes new s a
settled_in t Rejects c h os old notes new wf s a = rejected_in t c h os old notes new wf s a
settled_in t Returns c h os old notes new wf s a = returned_in c h os old new s.1 a

-- ---- contents

none_within : IsWithin (record { properties = no_properties; body = [] })
none_within = record { properties = search rules; body = omega arith; header = omega arith }

given_within : (content : Option Content) → HasWithin content → IsWithin (content_or_none content)
given_within None is = none_within
given_within (Some content) is = is

-- the content of a send, where it has one, is no larger than what is stored
abbrev pub IsLight : Send → Type 0
IsLight (send.Greeting c) = Unit {0}
IsLight (send.Command c h m content) = HasStored content

abbrev pub AreLight : List Send → Type 0
AreLight sends = AllByRecursion IsLight sends

returned_light : (c h : ℕ) (p : Publish) (content : Content) (b : Bool) → IsStored content → AreLight (returned_sends c h p content b)
returned_light c h p content true is = (is, tt)
returned_light c h p content false is = tt

confirm_light : (c h : ℕ) (o : Option ℕ) (answer : Answer) → AreLight (confirm_sends c h o answer)
confirm_light c h None answer = tt
confirm_light c h (Some n) answer = (tt, tt)

published_light : (c h : ℕ) (p : Publish) (content : Content) (b : Bool) (o : Option ℕ) (answer : Answer) → IsStored content → AreLight (returned_sends c h p content b ++ confirm_sends c h o answer)
published_light c h p content b o answer is = all-append IsLight (returned_sends c h p content b) (confirm_sends c h o answer) (returned_light c h p content b is) (confirm_light c h o answer)

-- what carries such contents alone is light
light_if : (sends : List Send) → AllByRecursion IsStored (filter_map content_in sends) → AreLight sends
light_if [] a = tt
light_if (send.Greeting c ∷ sends) a = (tt, light_if sends a)
light_if (send.Command c h m None ∷ sends) a = (tt, light_if sends a)
light_if (send.Command c h m (Some content) ∷ sends) a = (a.0, light_if sends a.1)

bare_light : (sends : List Send) → filter_map content_in sends ≡ [] → AreLight sends
bare_light sends bare = light_if sends (subst (AllByRecursion IsStored) (sym bare) tt)

-- ---- all cases

-- after an event each message can be given out, where the topology is well formed, and what was sent carries no content that is larger than what is stored
pub record Carries (t : Topology) (new : Broker) (sends : List Send) : Type 0 where
  pub queues : IsWellFormed t → AreCarried new
  pub light : AreLight sends

module _ (t : Topology) (old new : Broker) (sends : List Send) (notes : List Note) (a : AreCarried old) where
  publishes : (c h : ℕ) (ch : Channel) (p : Publish) (content : Content) → IsMethod (BasicPublish p) → IsWithin content → IsPublish t old c h ch p content sends notes new → Carries t new sends
  publishes c h ch p content said within is = record {
    queues = λ wf q. subst AreAll (sym (is.left.queues q)) (all-append _ (old.queue q) _ (a q) (comes_all t old.queue (message (old.published + 1) p content) q (record { exchange = said.1.0; key = said.1.1.0; content = within_stored content within }) is.targets));
    light = subst AreLight (sym is.sent) (published_light c h p content (p.mandatory && is_none is.targets) (next_of ch.confirm) (answer_of (is_some_full t old.queue content is.targets)) (within_stored content within));
  }

  carried_at : (name : Text) (e : Entry) → first_ready (old.queue name) ≡ Some e → IsCarried e.message
  carried_at name e found = all_in (λ (x : Entry). IsCarried x.message) e (old.queue name) (a name) (find_in is_ready e (old.queue name) found).0

  carry : (e : Event) (c : ℕ) → IsSaid e → Deed t old new e c sends notes → Carries t new sends
  carry e c said (changes s change) = let f = freed_by change in record { queues = λ wf q. subst AreAll (sym (f.1 q)) (freed_all f.0 (old.queue q) (a q)); light = bare_light sends s.bare }
  carry e c said (enters h now p puts alike serves) = let its = subst IsSaid p.event said in publishes p.c p.h p.ch p.publish (content_or_none p.given) its.0 (given_within p.given its.1) p.is
  carry e c said (gives g) = record {
    queues = λ wf. in_same _ new.queue g.left.queues (in_one old.queue g.queue _ (given_all g.no_ack _ (old.queue g.queue) (a g.queue)) a);
    light = light_if sends (subst (AllByRecursion IsStored) (sym g.carries) ((carried_at g.queue g.entry g.first).content, tt));
  }
  carry e c said (settles s) = record { queues = λ wf. settled_in t s.how c s.h s.is.gone old.queue notes new.queue wf s.is.queues a; light = bare_light sends s.bare }
  carry e c said (purges p) = record { queues = λ wf. in_same _ new.queue p.left.queues (in_one old.queue p.queue _ (filter_all _ (λ e. not (is_ready e)) (old.queue p.queue) (a p.queue)) a); light = bare_light sends p.bare }

  -- Each event of the broker keeps that.
  pub carries : (e : Event) → IsSaid e → Acts t old e sends notes new → Carries t new sends
  carries e said p = carry e (event_connection e) said (acted t old new sends notes e p).deed

pub stay_carried : MessagesStayCarried
stay_carried = record { empty = λ q. tt; acts = λ t old new e sends notes wf said a p. (carries t old new sends notes a e said p).queues wf }

-- ---- runs

step_carries : (f : Config) (old new : State) (e : Event) (sends : List Send) (notes : List Note) → IsWellFormed f.topology → IsSaid e → AreCarried old.broker → Step f old e sends notes new → AreCarried new.broker
step_carries f old new e sends notes wf said a s = (carry f.topology old.broker new.broker sends notes a e (event_connection e) said (step_deed f old new sends notes e s)).queues wf

pub run_carries : (hs : List Happening) (old new : State) → AreSound hs → AreSaid hs → Run old hs new → AreCarried old.broker → AreCarried new.broker
run_carries [] old new sound said r a = subst (λ (z : State). AreCarried z.broker) (sym r) a
run_carries (h ∷ hs) old new sound said (e, s, r) a =
    run_carries hs h.after new sound.1 said.1 r (step_carries h.config h.before h.after h.event h.sends h.notes sound.0.wf said.0 (subst (λ (z : State). AreCarried z.broker) (sym e) a) s)

-- Where each message that stands in a queue came from, and so by which routes and deaths.
use Rattle.laws.proofs.Names.{◌≡◌, ◌≤◌, arith, ℕ, List, [], ◌∷◌, Bool, true, false, refl, sym, ap, subst, ◌∙◌, length, inl, inr, ◌&&◌, Text, Topology, IsIn, IsSaid, HasCome, by_publish, by_death, HasComeTo, AreSentAlike, AreTraced, Outstanding, Broker, is_ready, is_under, freed, Settlement, Leaves, Rejects, Returns, AreSettled, AreLeft, AreReturned, with_queue, first_ready, holder_of, after_giving, Message, is_fresh, Acts, message, Config, State, Step, AreCounted, Entry, Holder, Mark, Ready, Held, BasicPublish, Send, Event, Cause, Note, event_connection, MessagesStayTraced}
use Rattle.std.proofs.Common.{◌+◌, map, not, Some}
use Rattle.std.specs.Prelude.{if◌then◌else◌}
use Rattle.model.specs.declared.events.Event.TheVariants.{Command}
use Rattle.laws.proofs.Dying.{IsLetter, rejected_stood}
use Rattle.laws.proofs.Leaving.{at_queue, find_in, in_filter, in_rest}
use Rattle.laws.proofs.Deeds.{Deed, changes, enters, gives, settles, purges, Publishes, acted, freed_by}
use Rattle.laws.proofs.View.{step_deed}
use Rattle.laws.proofs.Balance.{number, content as content_of, stands_counted}
use Rattle.laws.proofs.Once.{key_is_short}
use Rattle.laws.proofs.Entering.{picked, in_comes}
use Rattle.laws.proofs.Giving.{in_given}
use Rattle.laws.proofs.Counts.{in-append}

-- ---- one message under another mark

-- two messages are of one publish, first sent and last sent to the same places, and have one content
pub record AreSame (m o : Message) : Type 0 where
  pub number : m.number ≡ o.number
  pub first_exchange : m.first_exchange ≡ o.first_exchange
  pub first_key : m.first_key ≡ o.first_key
  pub exchange : m.exchange ≡ o.exchange
  pub key : m.key ≡ o.key
  pub content : m.content ≡ o.content
  pub survived : m.survived ≡ o.survived

-- the entry is one of these, but for its mark and whether it was redelivered, which it is only where that one was given out
pub record IsOneOf (es : List Entry) (x : Entry) : Type 0 where
  pub entry : Entry
  pub there : IsIn entry es
  pub same : AreSame x.message entry.message
  pub marked : x.message.redelivered ≡ true → is_fresh entry ≡ false

-- the entry is one of these, which was given out where this one is not as it entered
record IsKeptOf (es : List Entry) (x : Entry) : Type 0 where
  entry : Entry
  there : IsIn entry es
  same : AreSame x.message entry.message
  given : is_fresh x ≡ false → is_fresh entry ≡ false

-- one that is marked is not as it entered
marked_given : (e : Entry) → e.message.redelivered ≡ true → is_fresh e ≡ false
marked_given e is = ap (λ (b : Bool). is_ready e && not b) is ∙ go (is_ready e)
  where
    go : (v : Bool) → (v && false) ≡ false
    go true = refl
    go false = refl

kept_is_one : (es : List Entry) (x : Entry) → IsKeptOf es x → IsOneOf es x
kept_is_one es x k = record { entry = k.entry; there = k.there; same = k.same; marked = λ is. k.given (marked_given x is) }

abbrev same_self : (m : Message) → AreSame m m
same_self m = record { number = refl; first_exchange = refl; first_key = refl; exchange = refl; key = refl; content = refl; survived = refl }

itself_kept : (es : List Entry) (x : Entry) → IsIn x es → IsKeptOf es x
itself_kept es x i = record { entry = x; there = i; same = same_self x.message; given = λ g. g }

itself_one : (es : List Entry) (x : Entry) → IsIn x es → IsOneOf es x
itself_one es x i = kept_is_one es x (itself_kept es x i)

freed_same : (mine : Holder → Bool) (e : Entry) → AreSame (freed mine e).message e.message
freed_same mine e = go e.message e.mark
  where
    go : (m : Message) (k : Mark) → AreSame (freed mine (record { message = m; mark = k })).message m
    go m Ready = same_self m
    go m (Held g) = by (mine g)
      where
        made : Bool → Entry
        made v = if v then record { message = record m { redelivered = true }; mark = Ready } else record { message = m; mark = Held g }

        by : (v : Bool) → AreSame (made v).message m
        by true = record { number = refl; first_exchange = refl; first_key = refl; exchange = refl; key = refl; content = refl; survived = refl }
        by false = same_self m

-- what is freed was held
freed_given : (mine : Holder → Bool) (e : Entry) → is_fresh (freed mine e) ≡ false → is_fresh e ≡ false
freed_given mine e g = go e.message e.mark g
  where
    go : (m : Message) (k : Mark) → is_fresh (freed mine (record { message = m; mark = k })) ≡ false → is_fresh (record { message = m; mark = k }) ≡ false
    go m Ready g = g
    go m (Held holder) g = refl

in_freed : (mine : Holder → Bool) (es : List Entry) (x : Entry) → IsIn x (map (freed mine) es) → IsKeptOf es x
in_freed mine [] x i = absurd i
in_freed mine (e ∷ es) x (inl is) = record {
  entry = e;
  there = inl refl;
  same = subst (λ (z : Entry). AreSame z.message e.message) (sym is) (freed_same mine e);
  given = λ g. freed_given mine e (ap is_fresh (sym is) ∙ g);
}
in_freed mine (e ∷ es) x (inr i) = let r = in_freed mine es x i in record { entry = r.entry; there = inr r.there; same = r.same; given = r.given }

given_one : (no_ack : Bool) (g : Holder) (e : Entry) (es : List Entry) → first_ready es ≡ Some e → (x : Entry) → IsIn x (after_giving no_ack g es) → IsOneOf es x
given_one no_ack g e es found x i = elim (in_given no_ack g e es found x i) [
  | inl j ↦ itself_one es x j
  | inr is ↦ record { entry = e; there = (find_in is_ready e es found).0; same = subst (λ (z : Entry). AreSame z.message e.message) (sym is) (same_self e.message); marked = λ m. marked_given e (ap (λ (z : Entry). z.message.redelivered) (sym is) ∙ m) }
]

-- ---- settled deliveries

-- what stands in each new queue stood there before
abbrev Stays : (Text → List Entry) → (Text → List Entry) → Type 0
Stays old new = (q : Text) (x : Entry) → IsIn x (new q) → IsKeptOf (old q) x

kept_of_kept : (old mid : List Entry) (x : Entry) → ((y : Entry) → IsIn y mid → IsKeptOf old y) → IsKeptOf mid x → IsKeptOf old x
kept_of_kept old mid x before r =
    let b = before r.entry r.there in
    record {
      entry = b.entry;
      there = b.there;
      same = record {
        number = r.same.number ∙ b.same.number;
        first_exchange = r.same.first_exchange ∙ b.same.first_exchange;
        first_key = r.same.first_key ∙ b.same.first_key;
        exchange = r.same.exchange ∙ b.same.exchange;
        key = r.same.key ∙ b.same.key;
        content = r.same.content ∙ b.same.content;
        survived = r.same.survived ∙ b.same.survived;
      };
      given = λ g. b.given (r.given g);
    }

stays_same : (old new : Text → List Entry) → ((q : Text) → new q ≡ old q) → Stays old new
stays_same old new is q x i = itself_kept (old q) x (subst (IsIn x) (is q) i)

left_stays : (cause : Cause) (c h : ℕ) (os : List Outstanding) (old : Text → List Entry) (notes : List Note) (new : Text → List Entry) → AreLeft cause c h os old notes new → Stays old new
left_stays cause c h [] old notes new a q x i = stays_same old new a.1 q x i
left_stays cause c h (o ∷ os) old notes new (mid, rest, is, all, more) q x i =
    kept_of_kept (old q) (mid q) x (λ y j. itself_kept (old q) y (in_rest c h old o y q (subst (IsIn y) (is q) j))) (left_stays cause c h os mid rest new more q x i)

returned_stays : (c h : ℕ) (os : List Outstanding) (old new : Text → List Entry) → AreReturned c h os old new → Stays old new
returned_stays c h [] old new same q x i = stays_same old new same q x i
returned_stays c h (o ∷ os) old new (mid, is, more) q x i =
    kept_of_kept (old q) (mid q) x
    (λ y j. at_queue (λ (r : Text) (es : List Entry). IsIn y es → IsKeptOf (old r) y) old o.queue _ (in_freed (is_under (holder_of c h o)) (old o.queue) y) (λ r other. itself_kept (old r) y) q (subst (IsIn y) (is q) j))
    (returned_stays c h os mid new more q x i)

-- ---- where each entry came from

-- An entry in the queue q after an event: it stood there, it is a dead letter of one that was held, or it is the message of the publish that the event is.
pub data Came (t : Topology) (old new : Broker) (e : Event) (sends : List Send) (notes : List Note) (q : Text) (x : Entry) : Type 0 where
  stood : IsOneOf (old.queue q) x → Came t old new e sends notes q x
  by_letter : IsLetter t old.queue q x → Came t old new e sends notes q x
  published : (p : Publishes t old new e sends notes) → IsIn q p.is.targets → x ≡ record { message = message (number p) p.publish (content_of p); mark = Ready } → Came t old new e sends notes q x

module _ (t : Topology) (old new : Broker) (sends : List Send) (notes : List Note) where
  abbrev pub AllCame : Event → Type 0
  AllCame e = (q : Text) (x : Entry) → IsIn x (new.queue q) → Came t old new e sends notes q x

  stays : (e : Event) → Stays old.queue new.queue → AllCame e
  stays e s q x i = stood (kept_is_one (old.queue q) x (s q x i))

  free : (e : Event) (mine : Holder → Bool) → ((q : Text) → new.queue q ≡ map (freed mine) (old.queue q)) → AllCame e
  free e mine is q x i = stood (kept_is_one (old.queue q) x (in_freed mine (old.queue q) x (subst (IsIn x) (is q) i)))

  -- one queue is another
  other : (e : Event) (name : Text) (entries : List Entry) → ((q : Text) → new.queue q ≡ with_queue old.queue name entries q) → ((x : Entry) → IsIn x entries → IsOneOf (old.queue name) x) → AllCame e
  other e name entries is here q x i = stood (at_queue (λ (r : Text) (es : List Entry). IsIn x es → IsOneOf (old.queue r) x) old.queue name entries (here x) (λ r distinct. itself_one (old.queue r) x) q (subst (IsIn x) (is q) i))

  settled_came : (e : Event) (how : Settlement) (c h : ℕ) (os : List Outstanding) → AreSettled t how c h os old.queue notes new.queue → AllCame e
  settled_came e (Leaves cause) c h os s = stays e (left_stays cause c h os old.queue notes new.queue s)
  settled_came e Rejects c h os s = λ q x i. elim (rejected_stood t c h os old.queue notes new.queue s q x i) [ inl j ↦ stood (itself_one (old.queue q) x j) | inr l ↦ by_letter l ]
  settled_came e Returns c h os s = stays e (returned_stays c h os old.queue new.queue s.1)

  publishes : (e : Event) → Publishes t old new e sends notes → AllCame e
  publishes e p q x i = elim (in-append x (old.queue q) _ (subst (IsIn x) (p.is.left.queues q) i)) [
    | inl j ↦ stood (itself_one (old.queue q) x j)
    | inr j ↦ let came = in_comes t old.queue (message (number p) p.publish (content_of p)) q p.is.targets x j in published p came.routed came.is
  ]

  -- After each deed it is known where each entry came from.
  pub came : (e : Event) (c : ℕ) → Deed t old new e c sends notes → AllCame e
  came e c (changes s change) = let f = freed_by change in free e f.0 f.1
  came e c (enters h now p puts alike serves) = publishes e p
  came e c (gives g) = other e g.queue _ g.left.queues (given_one g.no_ack _ g.entry (old.queue g.queue) g.first)
  came e c (settles s) = settled_came e s.how c s.h s.is.gone s.is.queues
  came e c (purges p) = other e p.queue _ p.left.queues (λ x i. itself_one (old.queue p.queue) x (in_filter (λ y. not (is_ready y)) x (old.queue p.queue) i).0)

  pub acts_came : (e : Event) → Acts t old e sends notes new → AllCame e
  acts_came e p = came e (event_connection e) (acted t old new sends notes e p).deed

-- and after each step
pub step_came : (f : Config) (old new : State) (e : Event) (sends : List Send) (notes : List Note) → Step f old e sends notes new → AllCame f.topology old.broker new.broker sends notes e
step_came f old new e sends notes s = came f.topology old.broker new.broker sends notes e (event_connection e) (step_deed f old new sends notes e s)

-- messages of one publish were first sent to the same place
abbrev pub Alike : Broker → Type 0
Alike b = (q r : Text) (e d : Entry) → IsIn e (b.queue q) → IsIn d (b.queue r) → e.message.number ≡ d.message.number → AreSentAlike e.message d.message

-- ---- each is traced

-- the exchange and the key of a publish
abbrev pub exchange_of : Event → Text
exchange_of (Command c h (BasicPublish p) content) = p.exchange
exchange_of e = []

abbrev pub key_of : Event → Text
key_of (Command c h (BasicPublish p) content) = p.routing_key
key_of e = []

come_same : (t : Topology) (q : Text) (m o : Message) → AreSame m o → HasComeTo t q o → HasComeTo t q m
come_same t q m o s at = record {
  short = subst (λ (z : Text). length z ≤ 255) (sym s.first_key) at.short;
  come =
      subst (λ (z : Text). HasCome t z m.first_key m.exchange m.key q) (sym s.first_exchange) (
      subst (λ (z : Text). HasCome t o.first_exchange z m.exchange m.key q) (sym s.first_key) (
      subst (λ (z : Text). HasCome t o.first_exchange o.first_key z m.key q) (sym s.exchange) (
      subst (λ (z : Text). HasCome t o.first_exchange o.first_key o.exchange z q) (sym s.key) at.come)));
}

module _ (t : Topology) (old new : Broker) (e : Event) (sends : List Send) (notes : List Note) where
  each_come : IsSaid e → AreTraced t old → (q : Text) (x : Entry) → Came t old new e sends notes q x → HasComeTo t q x.message
  each_come said traced q x (stood o) = come_same t q x.message o.entry.message o.same (traced.each q o.entry o.there)
  each_come said traced q x (by_letter l) =
      let at = traced.each l.from l.entry l.there in
      subst (λ (z : Entry). HasComeTo t q z.message) (sym l.is) (record { short = at.short; come = by_death l.last at.come l.dies l.routes })
  each_come said traced q x (published p i is) =
      subst (λ (z : Entry). HasComeTo t q z.message) (sym is) (record { short = key_is_short p said; come = by_publish (picked q p.is.routed i) })

  -- its publish was counted before, and a message of it stood in a queue; or the event is its publish
  pub data Rooted (m : Message) : Type 0 where
    before : (q : Text) (y : Entry) → IsIn y (old.queue q) → m.number ≡ y.message.number → AreSentAlike m y.message → Rooted m
    now : Publishes t old new e sends notes → m.number ≡ old.published + 1 → m.first_exchange ≡ exchange_of e → m.first_key ≡ key_of e → Rooted m

  pub rooted : (q : Text) (x : Entry) → Came t old new e sends notes q x → Rooted x.message
  rooted q x (stood o) = before q o.entry o.there o.same.number (record { exchange = o.same.first_exchange; key = o.same.first_key })
  rooted q x (by_letter l) =
      before l.from l.entry l.there (ap (λ (z : Entry). z.message.number) l.is) (record { exchange = ap (λ (z : Entry). z.message.first_exchange) l.is; key = ap (λ (z : Entry). z.message.first_key) l.is })
  rooted q x (published p i is) =
      now p (ap (λ (z : Entry). z.message.number) is) (ap (λ (z : Entry). z.message.first_exchange) is ∙ sym (ap exchange_of p.event)) (ap (λ (z : Entry). z.message.first_key) is ∙ sym (ap key_of p.event))

  -- no message has the number of a publish before it
  distinct : AreCounted old → (q : Text) (y : Entry) → IsIn y (old.queue q) → (n : ℕ) → n ≡ y.message.number → n ≡ old.published + 1 → ⊥
  distinct counted q y i n is one = let le = stands_counted old q y counted i in omega (arith, le, is, one)

  pub both_alike : AreCounted old → Alike old → (m o : Message) → m.number ≡ o.number → Rooted m → Rooted o → AreSentAlike m o
  both_alike counted alike m o e (before q y i n a) (before r z j k b) =
      let s = alike q r y z i j (sym n ∙ e ∙ k) in
      record { exchange = a.exchange ∙ s.exchange ∙ sym b.exchange; key = a.key ∙ s.key ∙ sym b.key }
  both_alike counted alike m o e (before q y i n a) (now p one x k) = absurd (distinct counted q y i m.number n (e ∙ one))
  both_alike counted alike m o e (now p one x k) (before r z j n b) = absurd (distinct counted r z j o.number n (sym e ∙ one))
  both_alike counted alike m o e (now p one x k) (now p' one' x' k') = record { exchange = x ∙ sym x'; key = k ∙ sym k' }

  pub traced_on : IsSaid e → AreCounted old → AreTraced t old → AllCame t old new sends notes e → AreTraced t new
  traced_on said counted traced all = record {
    each = λ q x i. each_come said traced q x (all q x i);
    alike = λ q r x z i j same. both_alike counted traced.alike x.message z.message same (rooted q x (all q x i)) (rooted r z (all r z j));
  }

pub stay_traced : MessagesStayTraced
stay_traced = record {
  empty = λ t. record { each = λ q e i. absurd i; alike = λ q r e d i j same. absurd i };
  acts = λ t old new e sends notes said counted traced a. traced_on t old new e sends notes said counted traced (acts_came t old new sends notes e a);
}

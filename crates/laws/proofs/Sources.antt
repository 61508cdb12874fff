-- What is given out is what was published: by every event each message keeps the content of its publish, but for headers that tell of its deaths.
use Rattle.laws.proofs.Names.{◌≡◌, ℕ, List, [], ◌∷◌, ◌++◌, Bool, true, false, refl, sym, ap, subst, None, inl, inr, filter_map, ◌&&◌, AllByRecursion, Text, IsIn, is_ready, Message, AreMarked, with_headers, returned_sends, confirm_sends, next_of, answer_of, is_none, is_some_full, State, Step, Happening, Run, GivesOut, to_get, to_consumer, IsContentOf, as_published, after_death, WasPublished, IsOfPublish, content_in, HasSource, given_out, sent_back, HaveSources, AreSourced, Content, Entry, Send, Answer}
use Rattle.std.proofs.Common.{Option, Some}
use Rattle.model.specs.declared.methods.Publish.{Publish}
use Rattle.model.specs.declared.notes.Answer.TheVariants as answered
use Rattle.laws.proofs.Counts.{all_each, in_front, in_back}
use Rattle.laws.proofs.Leaving.{find_in}
use Rattle.laws.proofs.Balance.{number, content, confirm, first_note, noted}
use Rattle.laws.proofs.Traced.{AreSame, Came, stood, by_letter, published, step_came}
use Rattle.laws.proofs.Deeds.{Publishes}
use Rattle.laws.proofs.View.{IsGiven, seen_at}

-- ---- messages of publishes

-- each message in these queues is of a publish among these events
abbrev pub AreOfPublishes : List Happening → (Text → List Entry) → Type 0
AreOfPublishes before queues = (q : Text) (e : Entry) → IsIn e (queues q) → IsOfPublish before e.message

-- of more events too
was_before : (before more : List Happening) (n : ℕ) (x k : Text) (came : Content) → WasPublished before n x k came → WasPublished (before ++ more) n x k came
was_before before more n x k came w = record {
  happening = w.happening;
  among = in_front w.happening before more w.among;
  connection = w.connection;
  channel = w.channel;
  publish = w.publish;
  given = w.given;
  event = w.event;
  exchange = w.exchange;
  key = w.key;
  content = w.content;
  noted = w.noted;
}

of_before : (before more : List Happening) (m : Message) → IsOfPublish before m → IsOfPublish (before ++ more) m
of_before before more m r = record { published = r.published; was = was_before before more m.number m.first_exchange m.first_key r.published r.was; content = r.content }

-- so is another message of the publish, with the same content
of_same : (hs : List Happening) (m o : Message) → AreSame m o → IsOfPublish hs o → IsOfPublish hs m
of_same hs m o s r = record {
  published = r.published;
  was =
      subst (λ (n : ℕ). WasPublished hs n m.first_exchange m.first_key r.published) (sym s.number) (
      subst (λ (x : Text). WasPublished hs o.number x m.first_key r.published) (sym s.first_exchange) (
      subst (λ (k : Text). WasPublished hs o.number o.first_exchange k r.published) (sym s.first_key) r.was));
  content = subst (IsContentOf r.published) (sym s.content) r.content;
}

-- a death changes the headers alone
content_after : (came now : Content) (queue exchange : Text) (headers : Option Text) → IsContentOf came now → AreMarked queue exchange now.properties.headers headers → IsContentOf came (with_headers now headers)
content_after came now queue exchange headers is marked = record {
  same = ap (λ (z : Content). with_headers z headers) is.same;
  headers = after_death queue exchange is.headers marked;
}

module _ (before : List Happening) (h : Happening) where
  -- the event's own publish
  of_own : (p : Publishes h.config.topology h.before.broker h.after.broker h.event h.sends h.notes) → WasPublished (before ++ h ∷ []) (number p) p.publish.exchange p.publish.routing_key (content p)
  of_own p = record {
    happening = h;
    among = in_back h before (h ∷ []) (inl refl);
    connection = p.c;
    channel = p.h;
    publish = p.publish;
    given = p.given;
    event = p.event;
    exchange = refl;
    key = refl;
    content = refl;
    noted = (p.c, p.h, confirm p, subst (IsIn (first_note p)) (sym (noted p)) (inl refl));
  }

  pub of_came : AreOfPublishes before h.before.broker.queue → (q : Text) (x : Entry) → Came h.config.topology h.before.broker h.after.broker h.event h.sends h.notes q x → IsOfPublish (before ++ h ∷ []) x.message
  of_came all q x (stood o) = of_same (before ++ h ∷ []) x.message o.entry.message o.same (of_before before (h ∷ []) o.entry.message (all q o.entry o.there))
  of_came all q x (by_letter l) =
      let r = of_before before (h ∷ []) l.entry.message (all l.from l.entry l.there) in
      subst (λ (z : Entry). IsOfPublish (before ++ h ∷ []) z.message) (sym l.is) (record { published = r.published; was = r.was; content = content_after r.published l.entry.message.content l.last.name l.entry.message.exchange l.headers r.content l.marked })
  of_came all q x (published p i is) =
      subst (λ (z : Entry). IsOfPublish (before ++ h ∷ []) z.message) (sym is) (record { published = content p; was = of_own p; content = record { same = refl; headers = as_published } })

  -- ---- what is sent

  -- what is given out stood in its queue
  stood_there : (queue : Text) (entry : Entry) → GivesOut h queue entry → IsIn entry (h.before.broker.queue queue)
  stood_there queue entry (to_get ch is there found p) = (find_in is_ready entry (h.before.broker.queue queue) found).0
  stood_there queue entry (to_consumer is d) = (find_in is_ready entry (h.before.broker.queue queue) d.made.first).0

  of_given : AreOfPublishes before h.before.broker.queue → (k : Content) → IsGiven h.before.broker h.event h.sends h.notes h.after.broker k → HasSource before h k
  of_given all k (queue, entry, out, is) = given_out queue entry out is (all queue entry (stood_there queue entry out))

  -- a publish sends its own content, where it goes back
  of_publish : (c k : ℕ) (publish : Publish) (came : Content) → HasSource before h came → (b : Bool) (o : Option ℕ) (a : Answer) → AllByRecursion (HasSource before h) (filter_map content_in (returned_sends c k publish came b ++ confirm_sends c k o a))
  of_publish c k publish came own true None a = (own, tt)
  of_publish c k publish came own true (Some n) answered.Ack = (own, tt)
  of_publish c k publish came own true (Some n) answered.Nack = (own, tt)
  of_publish c k publish came own false None a = tt
  of_publish c k publish came own false (Some n) answered.Ack = tt
  of_publish c k publish came own false (Some n) answered.Nack = tt

  pub sources : AreOfPublishes before h.before.broker.queue → Step h.config h.before h.event h.sends h.notes h.after → HaveSources before h
  sources all s = elim (seen_at h s) [
    | inl q ↦ all_each (IsGiven h.before.broker h.event h.sends h.notes h.after.broker) (HasSource before h) (of_given all) (filter_map content_in h.sends) q.contents
    | inr p ↦
        subst (λ (sends : List Send). AllByRecursion (HasSource before h) (filter_map content_in sends)) (sym p.is.sent)
        (of_publish p.c p.h p.publish (content p) (sent_back p.c p.h p.publish p.given p.event refl) (p.publish.mandatory && is_none p.is.targets) (next_of p.ch.confirm) (answer_of (is_some_full h.config.topology h.before.broker.queue (content p) p.is.targets)))
  ]

-- ---- runs

sources_from : (before hs : List Happening) (old new : State) → Run old hs new → AreOfPublishes before old.broker.queue → AreSourced before hs
sources_from before [] old new r all = tt
sources_from before (h ∷ hs) old new (e, s, r) all =
    let here : AreOfPublishes before h.before.broker.queue = subst (λ (z : State). AreOfPublishes before z.broker.queue) (sym e) all in (
      sources before h here s,
      sources_from (before ++ h ∷ []) hs h.after new r (λ q x i. of_came before h here q x (step_came h.config h.before h.after h.event h.sends h.notes s q x i)),
    )

-- Where no message stands in a queue at the beginning, each that is given out has the content of its publish, but for headers that tell of its deaths.
pub given_as_published : (hs : List Happening) (old new : State) → ((q : Text) → old.broker.queue q ≡ []) → Run old hs new → AreSourced [] hs
given_as_published hs old new empty r = sources_from [] hs old new r (λ q e i. absurd (subst (IsIn e) (empty q) i))

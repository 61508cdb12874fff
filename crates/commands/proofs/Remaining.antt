-- Consumers that are there still, and those that leave.
use Rattle.commands.proofs.Names.{◌≡◌, ◌∙◌, ℕ, List, [], ◌∷◌, ◌++◌, filter, not, cond, Bool, true, false, Option, None, inl, inr, refl, sym, ap, subst, Ok, ◌||◌, eqb-true, eq-eqb, false≢true, same_Some, is_some, map, option_map, IfSome, IfNone, Text, Topology, IsIn, Channel, Broker, new_channel, with_pair, with_row, consumer_of, is_tagged, is_in_use, without_consumer, first_ready, Is, Does, Gets, Performs, channel_or_new, channels_up_to, with_gone, Content, Send, Entry, Get, Qos, Method, ConnectionClose, ChannelOpen, ChannelFlow, ChannelClose, ChannelCloseOk, ExchangeDeclare, QueuePurge, BasicQos, BasicConsume, BasicCancel, BasicPublish, BasicGet, BasicAck, BasicReject, BasicNack, BasicRecover, ConfirmSelect, Note, Step, Performed, AnswersOn, AllConsumersStay, CancelsAt, EmptiesChannel, EmptiesConnection, LosesConsumer, ReportsEnds, cancels_one, ends_of, opens_or_closes, channel_of, consumer_in, open_in, Kept, broker_of, channel_on, names_of, topology_kept}
use Rattle.std.proofs.Common.{Some}
use Rattle.std.specs.Prelude.{◌==◌, ◌&&◌, if◌then◌else◌}
use Rattle.channels.specs.Open.{Open}
use Rattle.channels.specs.Seats.{IsTagged}
use Rattle.channels.specs.declared.consumers.Seat.{Seat}
use Rattle.laws.proofs.Made.{row_new}
use Rattle.laws.specs.Consumers.{WasConsumer}
use Rattle.model.specs.Broker.{Consumer}
use Rattle.model.specs.Step.{opened, with_channel}
use Rattle.model.specs.declared.methods.Method.TheVariants.{QueueDeclare}

-- ---- lists of consumers

in_front : (k : Consumer) (ks more : List Consumer) → IsIn k ks → IsIn k (ks ++ more)
in_front k [] more i = absurd i
in_front k (x ∷ ks) more (inl e) = inl e
in_front k (x ∷ ks) more (inr i) = inr (in_front k ks more i)

abbrev untagged : Text → List Consumer → List Consumer
untagged tag ks = filter (λ k. not (is_tagged tag k)) ks

-- those that are left have another tag
untagged_parts : (tag : Text) (ks : List Consumer) (k : Consumer) → IsIn k (untagged tag ks) → IsIn k ks × (is_tagged tag k ≡ false)
untagged_parts tag [] k i = absurd i
untagged_parts tag (x ∷ ks) k i = go (is_tagged tag x) refl (untagged_parts tag ks k) i
  where
    go : (b : Bool) → is_tagged tag x ≡ b → (IsIn k (untagged tag ks) → IsIn k ks × (is_tagged tag k ≡ false)) → IsIn k (cond (not b) (x ∷ untagged tag ks) (untagged tag ks))
        → IsIn k (x ∷ ks) × (is_tagged tag k ≡ false)
    go true is more i = let parts = more i in (inr parts.0, parts.1)
    go false is more (inl e) = (inl e, ap (is_tagged tag) e ∙ is)
    go false is more (inr i) = let parts = more i in (inr parts.0, parts.1)

-- and each of them is left
in_untagged : (tag : Text) (ks : List Consumer) (k : Consumer) → is_tagged tag k ≡ false → IsIn k ks → IsIn k (untagged tag ks)
in_untagged tag [] k other i = i
in_untagged tag (x ∷ ks) k other (inl e) = subst (λ (b : Bool). IsIn k (cond (not b) (x ∷ untagged tag ks) (untagged tag ks))) (sym (ap (is_tagged tag) (sym e) ∙ other)) (inl e)
in_untagged tag (x ∷ ks) k other (inr i) = go (is_tagged tag x) (in_untagged tag ks k other i)
  where
    go : (b : Bool) → IsIn k (untagged tag ks) → IsIn k (cond (not b) (x ∷ untagged tag ks) (untagged tag ks))
    go true more = more
    go false more = inr more

-- where none has the tag each is left
untagged_left : (tag : Text) (ks : List Consumer) (k : Consumer) → is_in_use tag ks ≡ false → IsIn k ks → IsIn k (untagged tag ks)
untagged_left tag [] k none i = i
untagged_left tag (x ∷ ks) k none i = go (is_tagged tag x) (untagged_left tag ks k) none i
  where
    go : (b : Bool) → (is_in_use tag ks ≡ false → IsIn k ks → IsIn k (untagged tag ks)) → (b || is_in_use tag ks) ≡ false → IsIn k (x ∷ ks) → IsIn k (cond (not b) (x ∷ untagged tag ks) (untagged tag ks))
    go true more none i = absurd (false≢true (sym none))
    go false more none (inl e) = inl e
    go false more none (inr i) = inr (more none i)

-- ---- channels

both : (p q : Bool) → (p && q) ≡ true → (p ≡ true) × (q ≡ true)
both true true e = (refl, refl)
both true false e = absurd (false≢true e)
both false q e = absurd (false≢true e)

module _ (old new : Broker) where
  -- no channel changed
  pub same_stay : ((c h : ℕ) → new.channel c h ≡ old.channel c h) → AllConsumersStay old new
  same_stay is c h k (ch, at, i) = (ch, is c h ∙ at, i)

  -- the channels of one connection changed: none of the new ones has a consumer
  row_empties : (c : ℕ) (row : ℕ → Option Channel) → ((d l : ℕ) → new.channel d l ≡ with_row old.channel c row d l) → ((l : ℕ) (ch : Channel) → row l ≡ Some ch → ch.consumers ≡ [])
      → EmptiesConnection c old new
  row_empties c row is none = record {
    gone = λ l k was. subst (λ (ks : List Consumer). IsIn k ks) (none l was.0 (sym (is c l ∙ ap (λ (v : Bool). if v then row l else old.channel c l) (eq-eqb c c refl)) ∙ was.1)) was.2;
    others = λ d l k distinct was. (was.0, is d l ∙ ap (λ (v : Bool). if v then row l else old.channel d l) distinct ∙ was.1, was.2);
  }

  -- a connection is gone
  pub gone_empties : (c : ℕ) → Is (with_gone old c) new → EmptiesConnection c old new
  gone_empties c is = row_empties c (λ h. None) is.channels (λ l ch e. absurd (false≢true (ap is_some e)))

  -- or begins anew
  pub opened_empties : (c max n : ℕ) → Is (opened old c max n) new → EmptiesConnection c old new
  opened_empties c max n is = row_empties c (channels_up_to n) is.channels (row_new n)

  -- one channel changed
  module _ (c h : ℕ) (x : Option Channel) (is : (d l : ℕ) → new.channel d l ≡ with_pair old.channel c h x d l) where
    others_stay : (d l : ℕ) (k : Consumer) → (d == c && l == h) ≡ false → WasConsumer old d l k → WasConsumer new d l k
    others_stay d l k distinct (ch, at, i) = (ch, is d l ∙ ap (λ (v : Bool). if v then x else old.channel d l) distinct ∙ at, i)

    is_now : new.channel c h ≡ x
    is_now = is c h ∙ ap (λ (v : Bool). if v && h == h then x else old.channel c h) (eq-eqb c c refl) ∙ ap (λ (v : Bool). if v then x else old.channel c h) (eq-eqb h h refl)

    -- so all stay where its own do
    own_stay : ((k : Consumer) → WasConsumer old c h k → WasConsumer new c h k) → AllConsumersStay old new
    own_stay own d l k was = go (d == c && l == h) refl
      where
        go : (v : Bool) → (d == c && l == h) ≡ v → WasConsumer new d l k
        go true at =
            let same = both (d == c) (l == h) at in
            let d_is = eqb-true d c same.0 in
            let l_is = eqb-true l h same.1 in
            subst (λ (n : ℕ). WasConsumer new n l k) (sym d_is) (subst (λ (n : ℕ). WasConsumer new c n k) (sym l_is) (own k (subst (λ (n : ℕ). WasConsumer old c n k) l_is (subst (λ (n : ℕ). WasConsumer old n l k) d_is was))))
        go false distinct = others_stay d l k distinct was

    -- it has no consumer now
    pub emptied : (channel_or_new x).consumers ≡ [] → EmptiesChannel c h old new
    emptied none = record {
      gone = λ k was. subst (λ (ks : List Consumer). IsIn k ks) none (subst (λ (o : Option Channel). IsIn k (channel_or_new o).consumers) (sym was.1 ∙ is_now) was.2);
      others = others_stay;
    }

  -- one is this now, which has those that it had
  pub one_stays : (c h : ℕ) (x : Channel) → ((d l : ℕ) → new.channel d l ≡ with_pair old.channel c h (Some x) d l) → ((k : Consumer) → IsIn k (channel_or_new (old.channel c h)).consumers → IsIn k x.consumers)
      → AllConsumersStay old new
  one_stays c h x is has = own_stay c h (Some x) is (λ k was. (x, is_now c h (Some x) is, has k (subst (λ (o : Option Channel). IsIn k (channel_or_new o).consumers) (sym was.1) was.2)))

  -- one that was not there is there
  pub opened_stay : (c h : ℕ) → old.channel c h ≡ None → Is (with_channel old c h (Some new_channel)) new → AllConsumersStay old new
  opened_stay c h none is = one_stays c h new_channel is.channels (λ k i. absurd (subst (λ (o : Option Channel). IsIn k (channel_or_new o).consumers) none i))

-- a channel that has no consumer has none as the model sees it
pub none_seen : (names : List Text) (o : Option Open) → ((k : Open) → o ≡ Some k → k.given.consumers ≡ []) → (channel_or_new (option_map (open_in names) o)).consumers ≡ []
none_seen names None free = refl
none_seen names (Some k) free = ap (map (consumer_in names)) (free k refl)

-- ---- commands

module _ (t : Topology) (old new : Broker) (c h : ℕ) (content : Option Content) (sends : List Send) (notes : List Note) where
  abbrev mine : Channel
  mine = channel_or_new (old.channel c h)

  gets : (m : Get) (o : Option Entry) → Gets old c h mine m o sends notes new → AllConsumersStay old new
  gets m None p = same_stay old new p.left.channels
  gets m (Some e) p = one_stays old new c h _ p.left.channels (λ k i. i)

  limits : (wanted : List Send) (m : Qos) (v : Bool) → Does sends notes new wanted (with_channel old c h (Some (if v then record mine { limit = m.prefetch_count } else record mine { each_limit = m.prefetch_count }))) → AllConsumersStay old new
  limits wanted m true p = one_stays old new c h _ p.left.channels (λ k i. i)
  limits wanted m false p = one_stays old new c h _ p.left.channels (λ k i. i)

  -- a command that cancels no consumer is performed
  performed_stay : (m : Method) → opens_or_closes m ≡ false → cancels_one mine m ≡ false → Performs t old c h mine m content sends notes new → AllConsumersStay old new
  performed_stay (ConfirmSelect no_wait) here none p = one_stays old new c h _ p.left.channels (λ k i. i)
  performed_stay (BasicPublish m) here none p = one_stays old new c h _ p.left.channels (λ k i. i)
  performed_stay (ChannelOpen reserved) here none p = absurd (false≢true (sym here))
  performed_stay (ChannelFlow active) here none p = same_stay old new p.left.channels
  performed_stay (ChannelClose m) here none p = absurd (false≢true (sym here))
  performed_stay ChannelCloseOk here none p = absurd (false≢true (sym here))
  performed_stay (ConnectionClose m) here none p = absurd (false≢true (sym here))
  performed_stay (ExchangeDeclare m) here none p = same_stay old new p.left.channels
  performed_stay (QueueDeclare m) here none p = same_stay old new p.does.left.channels
  performed_stay (BasicQos m) here none p = limits _ m m.global p
  performed_stay (BasicConsume m) here none p = one_stays old new c h _ p.left.channels (λ k i. in_front k mine.consumers (consumer_of mine m ∷ []) i)
  performed_stay (BasicCancel m) here none p = one_stays old new c h (without_consumer mine m.consumer_tag) p.left.channels (λ k i. untagged_left m.consumer_tag mine.consumers k none i)
  performed_stay (BasicGet m) here none p = gets m (first_ready (old.queue m.queue)) p
  performed_stay (BasicAck m) here none p = one_stays old new c h _ p.channels (λ k i. i)
  performed_stay (BasicReject m) here none p = one_stays old new c h _ p.channels (λ k i. i)
  performed_stay (BasicNack m) here none p = one_stays old new c h _ p.channels (λ k i. i)
  performed_stay (BasicRecover requeue) here none p = one_stays old new c h _ p.channels (λ k i. i)
  performed_stay (QueuePurge m) here none p = same_stay old new p.left.channels
  performed_stay _ here none p = absurd p

-- The consumer with this tag is cancelled, which waits at `s`.
module _ (old new : Kept) (c h : ℕ) (tag : Text) (s : Seat) (ch : Open) (there : channel_of old.connections c h ≡ Some ch) (tagged : IsTagged ch tag s)
    (is : (d l : ℕ) → (broker_of new).channel d l ≡ with_pair (broker_of old).channel c h (Some (without_consumer (channel_on old c h) tag)) d l) where
  abbrev left : Channel
  left = without_consumer (channel_on old c h) tag

  -- exactly one of the channel has the tag
  alone : (k : Consumer) → IsIn k (channel_on old c h).consumers → is_tagged tag k ≡ (k.number == s.number)
  alone k i = tagged.alone (names_of old) k (subst (λ (x : Channel). IsIn k x.consumers) (ap (λ (o : Option Open). channel_or_new (option_map (open_in (names_of old)) o)) there) i)

  now_there : (broker_of new).channel c h ≡ Some left
  now_there = is_now (broker_of old) (broker_of new) c h (Some left) is

  own : (k : Consumer) → (k.number == s.number) ≡ false → WasConsumer (broker_of old) c h k → WasConsumer (broker_of new) c h k
  own k apart was =
      let i = subst (λ (o : Option Channel). IsIn k (channel_or_new o).consumers) (sym was.1) was.2 in
      (left, now_there, in_untagged tag (channel_on old c h).consumers k (alone k i ∙ apart) i)

  others : (d l : ℕ) (k : Consumer) → (d == c && (l == h && k.number == s.number)) ≡ false → WasConsumer (broker_of old) d l k → WasConsumer (broker_of new) d l k
  others d l k far was = go (d == c && l == h) refl
    where
      go : (v : Bool) → (d == c && l == h) ≡ v → WasConsumer (broker_of new) d l k
      go false distinct = others_stay (broker_of old) (broker_of new) c h (Some left) is d l k distinct was
      go true at =
          let same = both (d == c) (l == h) at in
          let d_is = eqb-true d c same.0 in
          let l_is = eqb-true l h same.1 in
          let apart : (k.number == s.number) ≡ false = sym (ap (λ (v : Bool). v && (l == h && k.number == s.number)) same.0 ∙ ap (λ (v : Bool). v && k.number == s.number) same.1) ∙ far in
          subst (λ (n : ℕ). WasConsumer (broker_of new) n l k) (sym d_is)
          (subst (λ (n : ℕ). WasConsumer (broker_of new) c n k) (sym l_is)
          (own k apart (subst (λ (n : ℕ). WasConsumer (broker_of old) c n k) l_is (subst (λ (n : ℕ). WasConsumer (broker_of old) n l k) d_is was))))

  cancelled_loses : LosesConsumer c h s old new
  cancelled_loses = record {
    queue = λ x k at i same. tagged.queue k (subst (λ (z : Open). IsIn k z.given.consumers) (same_Some x ch (sym at ∙ there)) i) same;
    gone = λ k was same.
        let i = subst (λ (o : Option Channel). IsIn k (channel_or_new o).consumers) (sym was.1 ∙ now_there) was.2 in
        let parts = untagged_parts tag (channel_on old c h).consumers k i in
        false≢true (sym parts.1 ∙ alone k parts.0 ∙ eq-eqb k.number s.number same);
    others = others;
  }

-- what is told of a command that is performed on its channel alone
pub performed_reports : (old new : Kept) (c h : ℕ) (m : Method) (content : Option Content) (s : Step) (seat : Option Seat) → (opens_or_closes m ≡ true → ⊥)
    → IfSome seat (CancelsAt (channel_of old.connections c h) m) → IfNone seat (cancels_one (channel_on old c h) m ≡ false)
    → AnswersOn old c h m content (Some (Ok (Performed s))) new → ReportsEnds c h (ends_of seat) old new
performed_reports old new c h m content s None distinct some none (conn, at, judged) =
    performed_stay (topology_kept old) (broker_of old) (broker_of new) c h content s.sends.items s.notes.items m (here (opens_or_closes m) refl) none judged.1
  where
    here : (b : Bool) → opens_or_closes m ≡ b → opens_or_closes m ≡ false
    here true t = absurd (distinct t)
    here false f = f
performed_reports old new c h m content s (Some seat) distinct some none (conn, at, judged) =
    let p = subst (λ (n : Method). Performs (topology_kept old) (broker_of old) c h (channel_on old c h) n content s.sends.items s.notes.items (broker_of new)) some.is judged.1 in
    cancelled_loses old new c h some.cancel.consumer_tag seat some.channel some.there some.tagged p.left.channels

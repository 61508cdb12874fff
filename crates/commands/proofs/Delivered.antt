-- Who may take a message, and what a delivery leaves.
use Rattle.commands.proofs.Names.{◌≡◌, ◌∙◌, ◌<◌, ℕ, List, [], ◌∷◌, false, Option, None, refl, sym, ap, subst, option_map, is_some, false≢true, same_Some, Text, IsIn, AreDistinct, queue_names, Broker, Channel, Connection, AreNamed, MayTake, CanDeliver, may_take, first_ready, delivery_notes, after_delivery, Is, deliver, Entry, Send, Note, queue_name, IsTaker, HasNoTaker, open_in, consumer_in, Store, entries_named, running_in, limits_of, connection_at, channel_in, channel_at, ArePlaced, Side, DeliversHere, GivesHere, seen, state_of, IsPick, IsPickFrom, IsKeptAs, TakesAs, ReturnsConsumer, ReturnsTaking, CannotTake, From, Kept, broker_of, topology_kept, names_of, Pick}
use Rattle.std.proofs.Common.{Some, length}
use Rattle.std.specs.Prelude.{IsSome}
use Rattle.model.specs.Broker as view
use Rattle.model.specs.declared.messages.Taker.TheVariants as taker
use Rattle.channels.specs.Open.{Open}
use Rattle.channels.specs.declared.consumers.Consumer.{Consumer}
use Rattle.channels.specs.RunningConnections.{Running}
use Rattle.channels.specs.Consumers.{ReturnsConsumerOn, IsOneOn, consumer_numbered}
use Rattle.commands.proofs.GivenOut.{all_in}
use Rattle.commands.proofs.Stepping.{seen_there}
use Rattle.commands.proofs.Picking.{same_place}
use Rattle.commands.proofs.Placing.{takes_within}

-- ---- who may take a message

-- a consumer of the connection that may take one may take one, as the model has it
pub tells_is : (kept : Kept) (p : Pick) (l : Running) (r : Option Consumer) → running_in kept.connections p.connection ≡ Some l → ArePlaced kept → ReturnsConsumerOn l p.channel p.number r → ReturnsConsumer kept p r
tells_is kept p l (Some k) e placed t = record {
  channel = open_in (names_of kept) t.channel;
  taker = record {
    connection = limits_of l;
    runs = ap connection_at e;
    awake = t.awake;
    there = ap (λ (o : Option Running). option_map (open_in (names_of kept)) (channel_at o p.channel)) e ∙ ap (option_map (open_in (names_of kept))) t.there;
    open_still = t.open_still;
    its = t.taker.its (names_of kept);
    may = t.taker.may (names_of kept);
  };
  numbered = t.taker.numbered;
  only = t.taker.only (names_of kept);
  within = takes_within (topology_kept kept) k t.channel.given.consumers (placed p.connection p.channel t.channel (ap (λ (o : Option Running). channel_at o p.channel) e ∙ t.there)).consumers t.taker.listed;
}
tells_is kept p l None e placed t = λ ch k taker numbered.
    let names = names_of kept in
    let connection : limits_of l ≡ taker.connection = same_Some (limits_of l) taker.connection (sym (ap connection_at e) ∙ taker.runs) in
    let channel = seen_there names (channel_at (Some l) p.channel) ch (sym (ap (λ (o : Option Running). option_map (open_in names) (channel_at o p.channel)) e) ∙ taker.there) in
    let none : may_take (open_in names channel.kept) k ≡ false =
    t channel.kept (ap (λ (x : Connection). x.is_paused) connection ∙ taker.awake) channel.there (ap (λ (x : Channel). x.is_closing) channel.same ∙ taker.open_still) names k
    (subst (λ (x : Channel). IsIn k x.consumers) (sym channel.same) taker.its) numbered in
    false≢true (sym none ∙ ap (λ (x : Channel). may_take x k) channel.same ∙ taker.may)

-- where none is told none may take
pub none_told : {B : Type 0} (f : B → Consumer) (kept : Kept) (p : Pick) (r : Option B) → is_some r ≡ false → ReturnsConsumer kept p (option_map f r) → CannotTake (broker_of kept) p
none_told f kept p None e t = t
none_told f kept p (Some k) e t = absurd (false≢true (sym e))

-- a consumer of the connection that may take one takes it from its queue
pub takes_from : (kept : Kept) (p : Pick) (l : Running) (k : Consumer) → running_in kept.connections p.connection ≡ Some l → ArePlaced kept → ReturnsConsumerOn l p.channel p.number (Some k) → ReturnsTaking kept p (From k.queue)
takes_from kept p l k e placed t = (k, tells_is kept p l (Some k) e placed t, refl)

-- and one that is there is kept, of its queue
pub keeps_one : (kept : Kept) (p : Pick) (l : Running) (k : Consumer) → running_in kept.connections p.connection ≡ Some l → ArePlaced kept → consumer_numbered (channel_in l p.channel) p.number ≡ Some k → IsOneOn l p.channel p.number k → IsKeptAs kept p k
keeps_one kept p l k e placed found t = record {
  found = ap (λ (o : Option Running). consumer_numbered (channel_at o p.channel) p.number) e ∙ found;
  channel = open_in (names_of kept) t.channel;
  there = ap (λ (o : Option Running). option_map (open_in (names_of kept)) (channel_at o p.channel)) e ∙ ap (option_map (open_in (names_of kept))) t.there;
  its = t.one.its (names_of kept);
  numbered = t.one.numbered;
  only = t.one.only (names_of kept);
  within = takes_within (topology_kept kept) k t.channel.given.consumers (placed p.connection p.channel t.channel (ap (λ (o : Option Running). channel_at o p.channel) e ∙ t.there)).consumers t.one.listed;
}

-- ---- which delivery can be made

-- the one that can be made to it where its queue has a message
abbrev the_pick : (kept : Kept) (p : Pick) (k : Consumer) (e : Entry) → TakesAs kept p k → first_ready ((broker_of kept).queue (queue_name (topology_kept kept) k.queue)) ≡ Some e → CanDeliver (broker_of kept) p.connection
the_pick kept p k e t found = record { number = p.channel; channel = t.channel; consumer = consumer_in (names_of kept) k; taker = t.taker; entry = e; first = found }

-- and it is made from its queue
pub picked_from : (kept : Kept) (place : ℕ) (p : Pick) (k : Consumer) (e : Entry) → TakesAs kept p k → first_ready ((broker_of kept).queue (queue_name (topology_kept kept) k.queue)) ≡ Some e → k.queue ≡ place → IsPickFrom kept place p
picked_from kept place p k e t found here = record {
  pick = (the_pick kept p k e t found, refl, t.numbered);
  within = subst (λ (n : ℕ). n < length (topology_kept kept).queues) here t.within;
  named = ap (queue_name (topology_kept kept)) (sym here);
}

-- it is a consumer of the queue from which it is made
pub same_queue : (kept : Kept) (place : ℕ) (p : Pick) (k : Consumer) → AreDistinct (queue_names (topology_kept kept).queues) → TakesAs kept p k → IsPickFrom kept place p → k.queue ≡ place
same_queue kept place p k distinct t from =
    let made = from.pick.0 in
    let same : made.channel ≡ t.channel = same_Some made.channel t.channel (sym made.taker.there ∙ ap (λ (h : ℕ). (broker_of kept).channel p.connection h) from.pick.1 ∙ t.taker.there) in
    let one : made.consumer ≡ consumer_in (names_of kept) k = t.only made.consumer (subst (λ (x : Channel). IsIn made.consumer x.consumers) same made.taker.its) from.pick.2 in
    same_place (topology_kept kept) k.queue place distinct t.within from.within (sym (from.named ∙ ap (λ (x : view.Consumer). x.queue) one))

-- none can be made where none may take a message
pub none_picked : (kept : Kept) (p : Pick) → ReturnsConsumer kept p None → IsPick (broker_of kept) p → ⊥
none_picked kept p none (made, at, numbered) = none made.channel made.consumer (subst (λ (h : ℕ). MayTake (broker_of kept) p.connection h made.channel made.consumer) at made.taker) numbered

-- ---- what a delivery leaves

-- the channel of a delivery that can be made to a consumer is there
pub picked_there : (b : Broker) (p : Pick) → IsPick b p → IsSome (b.channel p.connection p.channel)
picked_there b p (made, at, numbered) = ap is_some (ap (λ (h : ℕ). b.channel p.connection h) (sym at) ∙ made.taker.there)

-- and it is this one, if this is the channel with its number
its_channel : (b : Broker) (p : Pick) (ch : Channel) → b.channel p.connection p.channel ≡ Some ch → (pick : IsPick b p) → pick.0.channel ≡ ch
its_channel b p ch there (made, at, numbered) = same_Some made.channel ch (sym made.taker.there ∙ ap (λ (h : ℕ). b.channel p.connection h) at ∙ there)

-- it may take one there
pub takes_there : (s : Store) (side : Side) (p : Pick) (ch : Open) → side.channel p.connection p.channel ≡ Some (seen s ch) → HasNoTaker ch p.number → IsPick (state_of s side) p → ⊥
takes_there s side p ch there none (made, at, numbered) =
    let own : made.channel ≡ seen s ch = its_channel (state_of s side) p (seen s ch) there (made, at, numbered) in
    false≢true (sym (none (queue_names s.topology.queues) made.consumer (subst (λ (x : Channel). IsIn made.consumer x.consumers) own made.taker.its) numbered) ∙ ap (λ (x : Channel). may_take x made.consumer) (sym own) ∙ made.taker.may)

-- its queue has the message that is to be given out
pub ready_on : (s : Store) (side : Side) (p : Pick) (ch : Open) (k : Consumer) → side.channel p.connection p.channel ≡ Some (seen s ch) → IsTaker ch p.number k → (pick : IsPick (state_of s side) p)
    → first_ready (entries_named s (queue_name s.topology k.queue)) ≡ Some pick.0.entry
ready_on s side p ch k there t (made, at, numbered) =
    let own : made.channel ≡ seen s ch = its_channel (state_of s side) p (seen s ch) there (made, at, numbered) in
    let one : made.consumer ≡ consumer_in (queue_names s.topology.queues) k =
    t.only (queue_names s.topology.queues) made.consumer (subst (λ (x : Channel). IsIn made.consumer x.consumers) own made.taker.its) numbered in
    ap (λ (x : view.Consumer). first_ready (entries_named s x.queue)) (sym one) ∙ made.first

-- what was sent, noted and left is the delivery of this message to this consumer
pub delivered : (s s' : Store) (ch ch' : Open) (p : Pick) (k : Consumer) (e : Entry) (tag : ℕ) (name : Text) (sends : List Send) (notes : List Note) → IsTaker ch p.number k
    → first_ready (entries_named s (queue_name s.topology k.queue)) ≡ Some e → tag ≡ ch.given.next_tag → name ≡ queue_name s.topology k.queue
    → sends ≡ deliver p.connection p.channel tag k.tag e ∷ [] → notes ≡ delivery_notes k.no_ack e.message.number name
    → GivesHere p.connection p.channel s ch k.no_ack k.queue (taker.Consumer p.number) s' ch' → DeliversHere p s ch sends notes s' ch'
delivered s s' ch ch' p k e tag name sends notes t found tagged named sent noted gives old new turns (made, at, numbered) =
    let names = queue_names s.topology.queues in
    let own : made.channel ≡ seen s ch = its_channel (state_of s old) p (seen s ch) turns.was (made, at, numbered) in
    record {
      delivery = record {
        made = record {
          number = p.channel;
          channel = seen s ch;
          consumer = consumer_in names k;
          taker = record {
            connection = made.taker.connection;
            runs = made.taker.runs;
            awake = made.taker.awake;
            there = turns.was;
            open_still = ap (λ (x : Channel). x.is_closing) (sym own) ∙ made.taker.open_still;
            its = t.its names;
            may = t.may names;
          };
          entry = e;
          first = found;
        };
        makes = record {
          sent = sent ∙ ap (λ (n : ℕ). deliver p.connection p.channel n k.tag e ∷ []) tagged;
          noted = noted ∙ ap (delivery_notes k.no_ack e.message.number) named;
          left = subst (λ (n : ℕ). Is (after_delivery (state_of s old) p.connection p.channel (seen s ch) k.no_ack (queue_name s.topology k.queue) (taker.Consumer n)) (state_of s' new)) (sym t.numbered)
              (gives old new turns);
        };
      };
      channel = refl;
      consumer = t.numbered;
    }

-- its tag is short where consumers are named
pub takes_short : (s : Store) (side : Side) (p : Pick) (ch : Open) (k : Consumer) → side.channel p.connection p.channel ≡ Some (seen s ch) → IsTaker ch p.number k
    → AreNamed s.topology (state_of s side) → length k.tag < 256
takes_short s side p ch k there t named =
    all_in (λ (x : view.Consumer). length x.tag < 256) (consumer_in (queue_names s.topology.queues) k) (seen s ch).consumers (named p.connection p.channel (seen s ch) there).spelled (t.its (queue_names s.topology.queues))

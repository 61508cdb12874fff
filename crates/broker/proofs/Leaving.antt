-- Whose consumers leave, and that all others stay.
use Rattle.broker.proofs.Names.{◌∙◌, ℕ, Bool, true, false, Option, Some, None, refl, sym, ap, subst, not, is_some, ◌==◌, ◌&&◌, eqb-true, false≢true, IsIn, Channel, WasConsumer, IsStoreWhole, ArePlaced, Kept, names_of, channel_of, running_in, channel_in, channel_at, consumer_in, same_place, seen_there, Pick, Ends, HasConsumer, is_consumer, consumer_at, leavers_of, remains, IsNamed, ReportsEnds}
use Rattle.std.proofs.Common.{◌≡◌}
use Rattle.model.specs.Broker as seen
use Rattle.channels.specs.Open.{Open}
use Rattle.channels.specs.RunningConnections.{Running}
use Rattle.channels.specs.declared.consumers.Consumer.{Consumer}
use Rattle.commands.specs.State.{broker_of, topology_kept}
use Rattle.commands.specs.declared.acted.Ends.TheVariants as ended
use Rattle.commands.proofs.Placing.{takes_within}
use Rattle.commands.proofs.Reloading.{seen_of}
use Rattle.broker.proofs.Members.{same_consumer}
use Rattle.broker.proofs.Waking.{both}

-- ---- a consumer, and the index of its queue

-- The consumer that a queue has is kept on its channel, with the index of the queue.
pub record HasIndex (kept : Kept) (place : ℕ) (p : Pick) : Type 0 where
  pub channel : Open
  pub there : channel_of kept.connections p.connection p.channel ≡ Some channel
  pub one : Consumer
  pub among : IsIn one channel.given.consumers
  pub numbered : one.number ≡ p.number
  pub queue : one.queue ≡ place

pub has_index : (kept : Kept) → IsStoreWhole kept.store → ArePlaced kept → (place : ℕ) (p : Pick) → HasConsumer (topology_kept kept) (broker_of kept) place p → HasIndex kept place p
has_index kept whole placed place p has =
    let its = seen_there (names_of kept) (channel_of kept.connections p.connection p.channel) has.was.0 has.was.1 in
    let one = seen_of (consumer_in (names_of kept)) has.consumer its.kept.given.consumers (subst (λ (ch : seen.Channel). IsIn has.consumer ch.consumers) (sym its.same) has.was.2) in
    let lt = takes_within (topology_kept kept) one.one its.kept.given.consumers (placed p.connection p.channel its.kept its.there).consumers one.among in
    record {
      channel = its.kept;
      there = its.there;
      one = one.one;
      among = one.among;
      numbered = ap (λ (k : seen.Consumer). k.number) one.is ∙ has.numbered;
      queue = same_place (topology_kept kept) one.one.queue place whole.formed.queues_distinct lt has.within (ap (λ (k : seen.Consumer). k.queue) one.is ∙ sym has.named);
    }

-- ---- who is gone

unless : (v : Bool) → not v ≡ false → v ≡ true
unless true e = refl
unless false e = absurd (false≢true (sym e))

only : (v : Bool) → not v ≡ true → v ≡ false
only true e = absurd (false≢true e)
only false e = refl

tested : (v : Bool) → (v ≡ true → ⊥) → not v ≡ true
tested true none = absurd (none refl)
tested false none = refl

module _ (c h : ℕ) (x : Ends) (old new : Kept) (reports : ReportsEnds c h x old new) where
  -- whoever is there is none of those who leave
  pub there_remains : (p : Pick) (k : seen.Consumer) → WasConsumer (broker_of new) p.connection p.channel k → k.number ≡ p.number → remains (leavers_of c h x) p ≡ true
  there_remains p k was numbered = go x reports
    where
      go : (y : Ends) → ReportsEnds c h y old new → remains (leavers_of c h y) p ≡ true
      go ended.Nothing r = refl
      go (ended.Consumer s) r = tested (is_consumer p (consumer_at c h s.number)) (λ e.
          let same = same_consumer p (consumer_at c h s.number) e in
          r.gone k (subst (λ (n : ℕ). WasConsumer (broker_of new) c n k) (ap (λ (q : Pick). q.channel) same) (subst (λ (n : ℕ). WasConsumer (broker_of new) n p.channel k) (ap (λ (q : Pick). q.connection) same) was))
          (numbered ∙ ap (λ (q : Pick). q.number) same))
      go (ended.Channel o) r = tested (p.connection == c && p.channel == h) (λ e.
          let same = both (p.connection == c) (p.channel == h) e in
          r.1.gone k (subst (λ (n : ℕ). WasConsumer (broker_of new) c n k) (eqb-true p.channel h same.1) (subst (λ (n : ℕ). WasConsumer (broker_of new) n p.channel k) (eqb-true p.connection c same.0) was)))
      go (ended.Connection o) r = tested (p.connection == c) (λ e. r.1.gone p.channel k (subst (λ (n : ℕ). WasConsumer (broker_of new) n p.channel k) (eqb-true p.connection c e) was))

  -- and whoever was there, and is none of them, is there still
  pub remains_there : (p : Pick) (k : seen.Consumer) → remains (leavers_of c h x) p ≡ true → k.number ≡ p.number → WasConsumer (broker_of old) p.connection p.channel k → WasConsumer (broker_of new) p.connection p.channel k
  remains_there p k stays numbered was = go x reports stays
    where
      go : (y : Ends) → ReportsEnds c h y old new → remains (leavers_of c h y) p ≡ true → WasConsumer (broker_of new) p.connection p.channel k
      go ended.Nothing r e = r p.connection p.channel k was
      go (ended.Consumer s) r e =
          r.others p.connection p.channel k (ap (λ (n : ℕ). (p.connection == c) && ((p.channel == h) && (n == s.number))) numbered ∙ only (is_consumer p (consumer_at c h s.number)) e) was
      go (ended.Channel o) r e = r.1.others p.connection p.channel k (only (p.connection == c && p.channel == h) e) was
      go (ended.Connection o) r e = r.1.others p.connection p.channel k (only (p.connection == c) e) was

  -- those who leave are named
  pub leaver_named : (place : ℕ) (p : Pick) → HasIndex old place p → remains (leavers_of c h x) p ≡ false → IsNamed c h x place p
  leaver_named place p i leaves = go x reports leaves
    where
      at : (d l : ℕ) → p.connection ≡ d → p.channel ≡ l → channel_of old.connections d l ≡ Some i.channel
      at d l a b = sym (ap (λ (n : ℕ). channel_of old.connections n p.channel) a ∙ ap (channel_of old.connections d) b) ∙ i.there

      named : (d l : ℕ) → p.connection ≡ d → p.channel ≡ l → p ≡ consumer_at d l i.one.number
      named d l a b = ap (λ (n : ℕ). consumer_at n p.channel p.number) a ∙ ap (λ (n : ℕ). consumer_at d n p.number) b ∙ ap (consumer_at d l) (sym i.numbered)

      on : (o : Option Running) → running_in old.connections p.connection ≡ o → channel_at o p.channel ≡ Some i.channel → (l : Running) × (o ≡ Some l) × (channel_in l p.channel ≡ Some i.channel)
      on None is e = absurd (false≢true (ap is_some e))
      on (Some l) is e = (l, refl, e)

      go : (y : Ends) → ReportsEnds c h y old new → remains (leavers_of c h y) p ≡ false → IsNamed c h y place p
      go ended.Nothing r e = absurd (false≢true (sym e))
      go (ended.Consumer s) r e =
          let same = same_consumer p (consumer_at c h s.number) (unless (is_consumer p (consumer_at c h s.number)) e) in
          let number = ap (λ (q : Pick). q.number) same in
          (sym i.queue ∙ r.queue i.channel i.one (at c h (ap (λ (q : Pick). q.connection) same) (ap (λ (q : Pick). q.channel) same)) i.among (i.numbered ∙ number), same)
      go (ended.Channel o) r e =
          let same = both (p.connection == c) (p.channel == h) (unless (p.connection == c && p.channel == h) e) in
          let one = eqb-true p.connection c same.0 in
          let two = eqb-true p.channel h same.1 in
          (i.one, (i.channel, r.0 ∙ at c h one two, i.among), i.queue, named c h one two)
      go (ended.Connection o) r e =
          let one = eqb-true p.connection c (unless (p.connection == c) e) in
          let (l, is, there) = on (running_in old.connections p.connection) refl i.there in
          (l, r.0 ∙ ap (running_in old.connections) (sym one) ∙ is, p.channel, i.one, (i.channel, there, i.among), i.queue, named c p.channel one refl)

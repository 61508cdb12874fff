-- What a reload looks at is what the broker has.
use Rattle.commands.proofs.Names.{◌≡◌, ◌∙◌, ◌<◌, ℕ, List, [], get_or, Option, Result, sym, ap, subst, arith, IfOk, OnErr, option_map, slice_get, slice_get_within, get_or_from_slice_get, IfOk-weaker, Text, Topology, IsIn, AreDistinct, open_in, consumer_in, Store, entries_named, queue_at, IsStoreWhole, IsQueueNamed, names-length, channel_of, is_consumed, HasTaker, ShowsQueues, Kept, ArePlaced, broker_of, topology_kept, names_of}
use Rattle.std.proofs.Common.{length, Some}
use Rattle.std.specs.Prelude.{Decides}
use Rattle.model.specs.Guarantee.{Guarantee}
use Rattle.model.specs.Broker as seen
use Rattle.model.specs.declared.obstacles.Obstacle.{Obstacle}
use Rattle.reloading.specs.Obstacles.{JudgesReload}
use Rattle.reloading.specs.LiveQueues.{IsConsumed}
use Rattle.reloading.specs.Allocating.{JudgingMayAllocate, JudgingQueuesMayAllocate}
use Rattle.reloading.proofs.Allocating.{on_err_too}
use Rattle.commands.specs.Obstacles.{ReportsObstacle}
use Rattle.commands.proofs.Placing.{takes_within}
use Rattle.commands.proofs.Reloading.{in_mapped, seen_of, one_place}
use Rattle.commands.proofs.Stepping.{seen_there}

module _ (kept : Kept) (place : ℕ) (q : Text) (at : slice_get (names_of kept) place ≡ Some q) where
  abbrev names : List Text
  names = names_of kept

  is_named : get_or names place [] ≡ q
  is_named = get_or_from_slice_get names place q [] at

  -- a consumer that is counted is one of the broker's
  consumed_by : HasTaker kept.connections place → IsConsumed (broker_of kept) q
  consumed_by t = record {
    connection = t.connection;
    number = t.number;
    channel = open_in names t.channel;
    there = ap (option_map (open_in names)) t.there;
    consumer = consumer_in names t.consumer;
    among = in_mapped (consumer_in names) t.consumer t.channel.given.consumers t.among;
    takes = ap (λ (p : ℕ). get_or names p []) t.takes ∙ is_named;
  }

  -- and the other way round
  taken_by : ArePlaced kept → AreDistinct names → IsConsumed (broker_of kept) q → HasTaker kept.connections place
  taken_by placed distinct c =
      let its = seen_there names (channel_of kept.connections c.connection c.number) c.channel c.there in
      let one = seen_of (consumer_in names) c.consumer its.kept.given.consumers (subst (λ (ch : seen.Channel). IsIn c.consumer ch.consumers) (sym its.same) c.among) in
      let long = names-length (topology_kept kept).queues in
      let within = takes_within (topology_kept kept) one.one its.kept.given.consumers (placed c.connection c.number its.kept its.there).consumers one.among in
      record {
        connection = c.connection;
        number = c.number;
        channel = its.kept;
        there = its.there;
        consumer = one.one;
        among = one.among;
        takes = one_place names one.one.queue place distinct (omega (arith, within, long)) (slice_get_within names place q at) (ap (λ (k : seen.Consumer). k.queue) one.is ∙ c.takes ∙ sym is_named);
      }

-- the queue at an index is the one with its name
abbrev pub AreNamed : Type 0
AreNamed = (s : Store) (place : ℕ) → IsStoreWhole s → place < length s.topology.queues → IsQueueNamed s place

pub standing : AreNamed → (kept : Kept) → IsStoreWhole kept.store → ArePlaced kept → ((place : ℕ) → Decides (is_consumed kept.connections place) (HasTaker kept.connections place))
    → ShowsQueues (topology_kept kept) (λ place. queue_at kept.store place) (λ place. is_consumed kept.connections place) (broker_of kept)
standing are kept whole placed found = record {
  queue = λ place q at.
      let long = names-length (topology_kept kept).queues in
      let lt = slice_get_within (names_of kept) place q at in
      ap (entries_named kept.store) (sym (is_named kept place q at)) ∙ (are kept.store place whole (omega (arith, lt, long))).entries_are;
  consumers = λ place q at. (λ e. consumed_by kept place q at ((found place).0 e), λ c. (found place).1 (taken_by kept place q at placed whole.formed.queues_distinct c));
}

-- what is told of it is told of the broker
pub judged : {E : Type 0} (r : Result (Option Obstacle) E) (kept : Kept) (t new : Topology) (gs : List Guarantee) → t ≡ topology_kept kept
    → ShowsQueues (topology_kept kept) (λ place. queue_at kept.store place) (λ place. is_consumed kept.connections place) (broker_of kept)
    → IfOk r (JudgesReload t (λ place. queue_at kept.store place) (λ place. is_consumed kept.connections place) new gs)
    → IfOk r (ReportsObstacle (topology_kept kept) (broker_of kept) new gs)
judged r kept t new gs e stands reported =
    IfOk-weaker r (JudgesReload (topology_kept kept) (λ place. queue_at kept.store place) (λ place. is_consumed kept.connections place) new gs) (ReportsObstacle (topology_kept kept) (broker_of kept) new gs)
    (λ o judges users. judges (broker_of kept) users stands)
    (subst (λ (x : Topology). IfOk r (JudgesReload x (λ place. queue_at kept.store place) (λ place. is_consumed kept.connections place) new gs)) e reported)

-- if judging may fail to allocate for every broker with these queues, it may for this one
pub may_allocate : {E : Type 0} (r : Result (Option Obstacle) E) (kept : Kept) (t new : Topology) (gs : List Guarantee) → t ≡ topology_kept kept
    → ShowsQueues (topology_kept kept) (λ place. queue_at kept.store place) (λ place. is_consumed kept.connections place) (broker_of kept)
    → OnErr r (JudgingQueuesMayAllocate t (λ place. queue_at kept.store place) (λ place. is_consumed kept.connections place) new gs)
    → OnErr r (JudgingMayAllocate (topology_kept kept) new gs (broker_of kept))
may_allocate r kept t new gs e stands wants =
    on_err_too r (JudgingQueuesMayAllocate (topology_kept kept) (λ place. queue_at kept.store place) (λ place. is_consumed kept.connections place) new gs) (JudgingMayAllocate (topology_kept kept) new gs (broker_of kept))
    (λ may. may (broker_of kept) stands)
    (subst (λ (x : Topology). OnErr r (JudgingQueuesMayAllocate x (λ place. queue_at kept.store place) (λ place. is_consumed kept.connections place) new gs)) e wants)

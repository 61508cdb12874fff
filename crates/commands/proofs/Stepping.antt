-- What the parts of a step leave, as the model's state.
use Rattle.commands.proofs.Names.{◌≡◌, ◌∷◌, [], ℕ, zero, suc, List, Bool, true, false, Option, None, map, replicate, refl, sym, ap, subst, ◌∙◌, option_map, bytes_eq, Text, Topology, queue_names, Broker, Channel, Connection, listed, with_one, with_row, with_pair, OnConnection, Is, limited, with_gone, with_freed, refusal, refusal_of_large, channels_up_to, freed, by_channel, by_connection, Entry, Holder, Content, Method, Qos, Send, Note, Store, entries_named, open_in, with_limit, running_in, channel_seen, limits_of, connection_at, channel_at, connection_of, channel_of, seen_in, HoldsConnections, PutsChannel, OpensConnection, Kept, broker_of, names_of, refusal_seen, HasChannel, JudgesLarge}
use Rattle.std.proofs.Common.{◌&&◌, ◌==◌, IsSome, Some, if◌then◌else◌}
use Rattle.model.specs.Step as step
use Rattle.model.specs.Step.{Decides, Refusal, with_channel}
use Rattle.channels.specs.Open as opened
use Rattle.channels.specs.Open.{Open}
use Rattle.channels.specs.RunningConnections.{Running}
use Rattle.commands.specs.declared.refusals.Refusal as declared

-- queues with no entry have none by any name
pub listed_none : (names : List Text) (n : ℕ) (q : Text) → listed names (replicate n []) q ≡ []
listed_none [] n q = refl
listed_none (name ∷ names) zero q = refl
listed_none (name ∷ names) (suc n) q = chosen (bytes_eq name q) (listed names (replicate n []) q) (listed_none names n q)
  where
    chosen : (b : Bool) (x : List Entry) → x ≡ [] → (if b then [] else x) ≡ []
    chosen true x e = refl
    chosen false x e = e

-- a channel that is seen through names is seen so in each case
seen_if : (names : List Text) (b : Bool) (x y : Option Open) → option_map (open_in names) (if b then x else y) ≡ (if b then option_map (open_in names) x else option_map (open_in names) y)
seen_if names true x y = refl
seen_if names false x y = refl

-- the same names, in another list that equals it
seen_by : (names others : List Text) (o : Option Open) → others ≡ names → option_map (open_in others) o ≡ option_map (open_in names) o
seen_by names others o e = ap (λ (z : List Text). option_map (open_in z) o) e

-- one channel is another
pub seen_put : (names others : List Text) (old new : List (ℕ × Running)) (c h : ℕ) (ch : Option Open) → others ≡ names → PutsChannel old c h ch new
    → (d k : ℕ) → seen_in others new d k ≡ with_pair (seen_in names old) c h (option_map (open_in names) ch) d k
seen_put names others old new c h ch e l d k =
    seen_by names others (channel_of new d k) e ∙ ap (option_map (open_in names)) (l.channels d k) ∙ seen_if names (d == c && k == h) ch (channel_of old d k)

-- the channels of one connection are gone
pub seen_gone : (names others : List Text) (old new : List (ℕ × Running)) (c : ℕ) → others ≡ names → ((d k : ℕ) → channel_of new d k ≡ with_row (channel_of old) c (λ h. None) d k)
    → (d k : ℕ) → seen_in others new d k ≡ with_row (seen_in names old) c (λ h. None) d k
seen_gone names others old new c e l d k =
    seen_by names others (channel_of new d k) e ∙ ap (option_map (open_in names)) (l d k) ∙ seen_if names (d == c) None (channel_of old d k)

-- What these held is ready again, and nothing else changes.
pub record IsFreed (mine : Holder → Bool) (old new : Store) : Type 0 where
  pub topology : new.topology ≡ old.topology
  pub published : new.published ≡ old.published
  pub queues : (q : Text) → entries_named new q ≡ map (freed mine) (entries_named old q)

-- a connection is gone, and what it held is requeued
pub gone_is : (old new : Kept) (c : ℕ) → IsFreed (by_connection c) old.store new.store
    → HoldsConnections new.connections (with_one (connection_of old.connections) c None) (with_row (channel_of old.connections) c (λ h. None))
    → Is (with_gone (broker_of old) c) (broker_of new)
gone_is old new c f l = record {
  counted = f.published;
  queues = f.queues;
  connections = l.connections_are;
  channels = seen_gone (names_of old) (names_of new) old.connections new.connections c (ap (λ (t : Topology). queue_names t.queues) f.topology) l.channels_are;
}

-- a connection runs, and what one of its number held is requeued
pub opened_is : (old new : Kept) (c max k : ℕ) → IsFreed (by_connection c) old.store new.store → OpensConnection old.connections c max k new.connections → Is (step.opened (broker_of old) c max k) (broker_of new)
opened_is old new c max k f l = record {
  counted = f.published;
  queues = f.queues;
  connections = l.connections_are;
  channels = λ d h. l.channels_are (names_of new) d h
      ∙ ap (λ (names : List Text). with_row (seen_in names old.connections) c (channels_up_to k) d h) (ap (λ (t : Topology). queue_names t.queues) f.topology);
}

-- a channel is another, and what it held is requeued
pub cleared_is : (old new : Kept) (c h : ℕ) (ch : Option Open) → IsFreed (by_channel c h) old.store new.store → PutsChannel old.connections c h ch new.connections
    → Is (with_freed (with_channel (broker_of old) c h (option_map (open_in (names_of old)) ch)) (by_channel c h)) (broker_of new)
cleared_is old new c h ch f l = record {
  counted = f.published;
  queues = f.queues;
  connections = l.connections;
  channels = seen_put (names_of old) (names_of new) old.connections new.connections c h ch (ap (λ (t : Topology). queue_names t.queues) f.topology) l;
}

-- a channel is another, and nothing else changes
pub put_is : (old new : Kept) (c h : ℕ) (ch : Option Open) → new.store ≡ old.store → PutsChannel old.connections c h ch new.connections
    → Is (with_channel (broker_of old) c h (option_map (open_in (names_of old)) ch)) (broker_of new)
put_is old new c h ch e l = record {
  counted = ap (λ (s : Store). s.published) e;
  queues = λ q. ap (λ (s : Store). entries_named s q) e;
  connections = l.connections;
  channels = seen_put (names_of old) (names_of new) old.connections new.connections c h ch (ap (λ (s : Store). queue_names s.topology.queues) e) l;
}

-- what is decided of a content that is too large by the kept connection is what the broker's state decides
pub large_judged : (kept : Kept) (c h : ℕ) (r : declared.Refusal) (l : Running) → running_in kept.connections c ≡ Some l
    → refusal_seen r ≡ refusal_of_large (limits_of l) h (channel_seen (names_of kept) l h) → HasChannel r (channel_seen (names_of kept) l h)
    → JudgesLarge (broker_of kept) c h (Some r)
large_judged kept c h r l e is has = (
  limits_of l,
  ap connection_at e,
  subst (λ (x : Option Running). refusal_seen r ≡ refusal_of_large (limits_of l) h (option_map (open_in (names_of kept)) (channel_at x h))) (sym e) is,
  subst (λ (x : Option Running). HasChannel r (option_map (open_in (names_of kept)) (channel_at x h))) (sym e) has,
)

pub some_same : {A : Type 0} (x y : A) → Some x ≡ Some y → x ≡ y
some_same x y e = cc

-- a channel that is seen is kept
pub is_there : (names : List Text) (o : Option Open) → IsSome (option_map (open_in names) o) → IsSome o
is_there names None h = h
is_there names (Some ch) h = refl

pub kept_there : (old kept : Kept) (c h : ℕ) → old ≡ kept → IsSome ((broker_of kept).channel c h) → IsSome (channel_of old.connections c h)
kept_there old kept c h e some = is_there (names_of old) (channel_of old.connections c h) (subst (λ (k : Kept). IsSome ((broker_of k).channel c h)) (sym e) some)

-- a channel that is seen is one that is kept
pub record IsSeen (names : List Text) (o : Option Open) (ch : Channel) : Type 0 where
  pub kept : Open
  pub there : o ≡ Some kept
  pub same : open_in names kept ≡ ch

pub seen_there : (names : List Text) (o : Option Open) (ch : Channel) → option_map (open_in names) o ≡ Some ch → IsSeen names o ch
seen_there names None ch e = absurd (let none : None ≡ Some ch = e in cc)
seen_there names (Some k) ch e = record { kept = k; there = refl; same = some_same (open_in names k) ch e }

-- what is decided of a command is what it does
pub decides_on : (t : Topology) (b : Broker) (c h : ℕ) (m : Method) (content : Option Content) (left : Option Refusal) (sends : List Send) (notes : List Note) (new : Broker) (conn : Connection)
    → b.connection c ≡ Some conn → refusal t b conn h m (b.channel c h) ≡ left
    → Decides t b c h m content left sends notes new
    → OnConnection t b c h m content sends notes new (b.connection c)
decides_on t b c h m content left sends notes new conn e r p =
    subst (λ (o : Option Connection). OnConnection t b c h m content sends notes new o) (sym e)
    (subst (λ (x : Option Refusal). Decides t b c h m content x sends notes new) (sym r) p)

-- a qos sets the same limit of what is kept and of what is seen of it
pub limited_is : (names : List Text) (ch : Open) (m : Qos) → open_in names (opened.with_qos ch m) ≡ limited (open_in names ch) m
limited_is names ch m = chosen m.global
  where
    chosen : (b : Bool) → open_in names (record ch { given = with_limit ch.given m.prefetch_count b }) ≡ (if b then record (open_in names ch) { limit = m.prefetch_count } else record (open_in names ch) { each_limit = m.prefetch_count })
    chosen true = refl
    chosen false = refl

-- a connection that runs is kept
kept_connection : (o : Option Running) → IsSome (connection_at o) → IsSome o
kept_connection None h = h
kept_connection (Some l) h = refl

pub running_there : (old kept : Kept) (c : ℕ) → old ≡ kept → IsSome ((broker_of kept).connection c) → IsSome (running_in old.connections c)
running_there old kept c e some = kept_connection (running_in old.connections c) (subst (λ (k : Kept). IsSome ((broker_of k).connection c)) (sym e) some)

-- Where a key leads: bindings, RabbitMQ's exchange-to-exchange bindings and alternate exchanges, and dead letters. Start with `Routes` and `Comes`.
use Rattle.std.specs.Prelude.{◌≡◌, List, [], ◌∷◌, Option, Some, None, Contains, unwrap_or}
use Rattle.model.specs.Words.{Text, words, tokens, Matches}
use Rattle.model.specs.Topology.{Topology}
use Rattle.model.specs.declared.topologies.Exchange.{Exchange}
use Rattle.model.specs.declared.topologies.DeclaredQueue.{DeclaredQueue}
use Rattle.model.specs.declared.topologies.Binding.{Binding}
use Rattle.model.specs.declared.topologies.Destination.{Destination}
use Rattle.model.specs.declared.topologies.Destination.TheVariants as destination
use Rattle.model.specs.declared.topologies.ExchangeKind.{ExchangeKind}
use Rattle.model.specs.declared.topologies.ExchangeKind.TheVariants.{Direct, Fanout, Topic}

-- The binding key `binding` of an exchange of this type lets the routing key `key` pass (AMQP 0-9-1, section 3.1.3, "Exchange Types").
abbrev pub Passes : ExchangeKind → Text → Text → Type 0
Passes Direct binding key = binding ≡ key
Passes Fanout binding key = Unit {0}
Passes Topic binding key = Matches (tokens (words binding)) (words key)

-- What is known of a routing key: which binding keys let it pass (`opens`) and which don't (`shuts`), by the exchange's type, and which queues it names.
pub record Reading : Type 1 where
  pub opens : ExchangeKind → Text → Type 0
  pub shuts : ExchangeKind → Text → Type 0
  pub names : Text → Type 0

-- The reading of a key that is known: each binding key lets it pass or doesn't, and it names the queue of the same name.
abbrev pub of_key : Text → Reading
of_key key = record {
  opens = λ kind binding. Passes kind binding key;
  shuts = λ kind binding. Passes kind binding key → ⊥;
  names = λ queue. queue ≡ key;
}

-- `b` is a binding of the topology from the exchange `x` to `to`.
pub record Binds (t : Topology) (x : Exchange) (to : Destination) (b : Binding) : Type 0 where
  pub is_binding : Contains t.bindings b
  pub source : b.source ≡ x.name
  pub leads : b.to ≡ to

-- `Edge t r name to`: one step of a route, from the exchange called `name` to `to`, an exchange or a queue.
pub data Edge (t : Topology) (r : Reading) : Text → Destination → Type 0 where
  -- By a binding that lets the key pass.
  bound : {name : Text} {to : Destination} (x : Exchange) (b : Binding) → Contains t.exchanges x → x.name ≡ name → Binds t x to b → r.opens x.kind b.key
      → Edge t r name to
  -- To the alternate exchange, if no binding of the exchange lets the key pass (RabbitMQ,
  -- "Alternate Exchanges"; that it is so at every point of a route is own).
  alternate : {name other : Text} (x : Exchange) → Contains t.exchanges x → x.name ≡ name → x.alternate ≡ Some other
      → ((to : Destination) (b : Binding) → Binds t x to b → r.shuts x.kind b.key) → Edge t r name (destination.Exchange other)
  -- From the default exchange to the queue that the key names (AMQP 0-9-1, section 3.1.3.1).
  default : {queue : Text} (q : DeclaredQueue) → Contains t.queues q → q.name ≡ queue → r.names queue → Edge t r [] (destination.Queue queue)

-- `Leads t r x y`: a chain of steps, none or more, leads from the exchange `x` to the exchange `y` (RabbitMQ, "Exchange to Exchange Bindings").
pub data Leads (t : Topology) (r : Reading) : Text → Text → Type 0 where
  here : {x : Text} → Leads t r x x
  on : {x y z : Text} → Edge t r x (destination.Exchange y) → Leads t r y z → Leads t r x z

-- Under the reading `r`, a chain of steps leads from the exchange `x` to the queue `q`.
abbrev pub RoutesBy : Topology → Reading → Text → Text → Type 0
RoutesBy t r x q = (y : Text) × Leads t r x y × Edge t r y (destination.Queue q)

-- A message that is sent to the exchange `x` under `key` is routed to the queue `q`.
abbrev pub Routes : Topology → Text → Text → Text → Type 0
Routes t x key q = RoutesBy t (of_key key) x q

-- What is known of a message's key after deaths: the key that a queue fixed last, if one did, and otherwise what `r` says.
abbrev pub reading_after : Option Text → Reading → Reading
reading_after None r = r
reading_after (Some key) r = of_key key

-- The key of a dead letter: the dead-letter key `fixed` of its queue, or its own `key` if the queue has none.
abbrev pub key_after : Option Text → Text → Text
key_after fixed key = unwrap_or fixed key

-- `q` is the queue `name` of the topology, and it dead-letters to `exchange` (RabbitMQ, "Dead Letter Exchanges").
pub record Dies (t : Topology) (name exchange : Text) (q : DeclaredQueue) : Type 0 where
  pub is_queue : Contains t.queues q
  pub is_named : q.name ≡ name
  pub dead : q.dead_letter_exchange ≡ Some exchange

-- The key that was fixed last: that of the first argument if it has one, and otherwise `fixed`.
abbrev pub fixed_after : Option Text → Option Text → Option Text
fixed_after None fixed = fixed
fixed_after (Some key) fixed = Some key

-- `Comes t r fixed x q`: a message that is sent to the exchange `x` may come to the queue `q`, dead
-- letters included. Its key is as `r` says, unless a queue fixed it: `fixed` is the last such key, if any.
pub data Comes (t : Topology) (r : Reading) : Option Text → Text → Text → Type 0 where
  routed : {fixed : Option Text} {x q : Text} → RoutesBy t (reading_after fixed r) x q → Comes t r fixed x q
  dead : {fixed : Option Text} {x p exchange q : Text} (last : DeclaredQueue) → RoutesBy t (reading_after fixed r) x p → Dies t p exchange last
      → Comes t r (fixed_after last.dead_letter_key fixed) exchange q → Comes t r fixed x q

-- A message with this `key` in the queue `q` may reach the queue `r` by one or more deaths.
pub record Later (t : Topology) (q key r : Text) : Type 0 where
  pub last : DeclaredQueue
  pub exchange : Text
  pub dies : Dies t q exchange last
  pub comes : Comes t (of_key key) last.dead_letter_key exchange r

-- `Picks P xs ys`: `ys` are the names of `xs` for which `P` holds, in the same order.
pub data Picks (P : Text → Type 0) : List Text → List Text → Type 0 where
  none : Picks P [] []
  take : {x : Text} {xs ys : List Text} → P x → Picks P xs ys → Picks P (x ∷ xs) (x ∷ ys)
  pass : {x : Text} {xs ys : List Text} → (P x → ⊥) → Picks P xs ys → Picks P (x ∷ xs) ys

-- Routes that are kept, and whether clients may publish to an exchange. Source: AMQP 0-9-1, exchange.declare, "internal"; that a publish to
-- no exchange is refused: basic.publish, "exchange".
use Rattle.std.specs.Prelude.{◌≡◌, ◌≤◌, ◌+◌, ◌*◌, ℕ, [], ◌∷◌, Option, Some, None, All, find, length, sum_by, if◌then◌else◌}
use Rattle.std.specs.Str.{bytes_eq}
use Rattle.std.specs.declared.sync.Arc.{Arc}
use Rattle.model.specs.Words.{Text}
use Rattle.model.specs.Topology.{Topology}
use Rattle.model.specs.declared.topologies.Exchange.{Exchange}
use Rattle.exchange_graph.specs.declared.kept.Kept.{Kept}
use Rattle.exchange_graph.specs.declared.routes.Access.{Access}
use Rattle.exchange_graph.specs.declared.routes.Access.TheVariants.{Open, Internal, Absent}
use Rattle.exchange_graph.specs.declared.routes.Route.{Route}
use Rattle.exchange_graph.specs.Targets.{AreTargets}

-- Whether clients may publish to an exchange: it is open if it exists and is not internal.
abbrev pub access_at : Option Exchange → Access
access_at None = Absent
access_at (Some x) = if x.internal then Internal else Open

-- Whether clients may publish to the exchange with this name; the default exchange is always open.
abbrev pub access_to : Topology → Text → Access
access_to t [] = Open
access_to t (b ∷ bs) = access_at (find (λ (x : Exchange). bytes_eq x.name (b ∷ bs)) t.exchanges)

-- A route is right for an exchange and a key if it has exactly the queues to which such a message is routed, and the access of the exchange.
pub record IsRoute (t : Topology) (exchange key : Text) (r : Route) : Type 0 where
  pub same_exchange : r.exchange ≡ exchange
  pub same_key : r.key ≡ key
  pub access : r.access ≡ access_to t exchange
  pub targets : AreTargets t exchange key r.targets.items

-- A slot is empty, or its route is right for the exchange and the key that the route names.
abbrev pub IsRight : {Z : Type 0} → Topology → Option (Arc Route Z) → Type 0
IsRight t None = Unit {0}
IsRight t (Some a) = IsRoute t a.value.exchange a.value.key a.value

-- The bytes of a route: its names, and 16 for each queue that it leads to, since a list may have room for twice as many indices of 8 bytes.
abbrev pub route_bytes : Route → ℕ
route_bytes r = length r.exchange + length r.key + 16 * length r.targets.items

-- The bytes of the route in a slot, if it has one.
abbrev pub slot_bytes : {Z : Type 0} → Option (Arc Route Z) → ℕ
slot_bytes None = 0
slot_bytes (Some a) = route_bytes a.value

-- There are 1,024 slots, and their routes have at most 1 MiB together, which is counted.
abbrev pub IsBounded : Kept → Type 0
IsBounded kept = (length kept.slots.items ≡ 1024) × (sum_by slot_bytes kept.slots.items ≡ kept.bytes) × (kept.bytes ≤ 1048576)

-- At most 1,024 routes are kept, of at most 1 MiB together, and each is right.
abbrev pub KeepsRoutes : Topology → Kept → Type 0
KeepsRoutes t kept = IsBounded kept × All (IsRight t) kept.slots.items

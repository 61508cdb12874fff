-- Two certificates that are accepted: one over some of the patterns, and one of a guarantee with excepts.
use Rattle.std.specs.Prelude.{codes, [], ◌∷◌, false, None}
use Rattle.model.specs.Words.{Text}
use Rattle.model.specs.Topology.{Topology}
use Rattle.model.specs.Guarantee.{Guarantee}
use Rattle.model.specs.Certificates.{Certificate, Sliced, Excepting, Accepts}
use Rattle.model.specs.declared.topologies.Mode.TheVariants.{Reaches, Never}
use Rattle.model.specs.declared.topologies.Exchange.{Exchange}
use Rattle.model.specs.declared.topologies.DeclaredQueue.{DeclaredQueue}
use Rattle.model.specs.declared.topologies.Binding.{Binding}
use Rattle.model.specs.declared.topologies.Destination.TheVariants as destination
use Rattle.model.specs.declared.topologies.ExchangeKind.TheVariants.{Topic}

-- The topic exchange `X`.
abbrev pub topic_x : Exchange
topic_x = record { name = codes "X"; kind = Topic; internal = false; alternate = None }

-- A queue without limits and without a dead-letter exchange.
abbrev pub plain_queue : Text → DeclaredQueue
plain_queue name = record { name = name; limit = None; byte_limit = None; dead_letter_exchange = None; dead_letter_key = None }

-- A binding from `X` to this queue under `key`.
abbrev pub from_x : Text → Text → Binding
from_x key queue = record { source = codes "X"; to = destination.Queue queue; key = key }

-- `X` leads to `audit` under `orders.#`, and to `q` under `a1`.
abbrev pub two_keys : Topology
two_keys = record {
  exchanges = topic_x ∷ [];
  queues = plain_queue (codes "audit") ∷ plain_queue (codes "q") ∷ [];
  bindings = from_x (codes "orders.#") (codes "audit") ∷ from_x (codes "a1") (codes "q") ∷ [];
}

-- What is sent to `X` under a key with the first word `orders` reaches `audit`.
abbrev pub orders_reach : Guarantee
orders_reach = record { mode = Reaches; exchange = codes "X"; pattern = codes "orders.#"; queue = codes "audit"; excepts = [] }

-- A certificate of `orders_reach` whose states have no numbers for `a1`.
abbrev pub without_a1 : Certificate
without_a1 = record {
  form = Sliced (0 ∷ []);
  exchange = codes "X";
  mode = codes "reaches";
  pattern = codes "orders.#";
  queue = codes "audit";
  states = (1 ∷ []) ∷ (4 ∷ []) ∷ (6 ∷ []) ∷ [];
}

-- `X` leads to `q` under `a`.
abbrev pub one_key : Topology
one_key = record { exchanges = topic_x ∷ []; queues = plain_queue (codes "q") ∷ []; bindings = from_x (codes "a") (codes "q") ∷ [] }

-- What is sent to `X` never comes to `q`, except under `a`.
abbrev pub never_but_a : Guarantee
never_but_a = record { mode = Never; exchange = codes "X"; pattern = codes "#"; queue = codes "q"; excepts = codes "a" ∷ [] }

-- A certificate of `never_but_a`.
abbrev pub but_a : Certificate
but_a = record {
  form = Excepting (codes "a" ∷ []) (0 ∷ 1 ∷ []);
  exchange = codes "X";
  mode = codes "never";
  pattern = codes "#";
  queue = codes "q";
  states = (2 ∷ 0 ∷ []) ∷ (2 ∷ 2 ∷ []) ∷ (3 ∷ 1 ∷ []) ∷ [];
}

-- The certificate over some of the patterns is accepted, as the others don't matter.
abbrev pub SlicedIsAccepted : Type 0
SlicedIsAccepted = Accepts two_keys orders_reach without_a1

-- The certificate with an except is accepted: a state whose keys are not covered need not keep the promise.
abbrev pub ExceptingIsAccepted : Type 0
ExceptingIsAccepted = Accepts one_key never_but_a but_a

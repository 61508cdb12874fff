-- Bindings as gates between nodes: each has a link, and a test of whether a tracked pattern accepts the key (own).
use Rattle.std.specs.Prelude.{ℕ, zero, suc, List, [], ◌∷◌, ◌++◌, Bool, true, false, not, ◌&&◌, ◌||◌, ◌==◌}
use Rattle.std.specs.Prelude.{Option, Some, None, slice_get, unwrap_or, option_map, if◌then◌else◌, find}
use Rattle.std.specs.List.{list_any}
use Rattle.std.specs.Str.{bytes_eq}
use Rattle.model.specs.Words.{Text}
use Rattle.model.specs.Topology.{Topology}
use Rattle.model.specs.Tracking.{Tracked, same_tracked}
use Rattle.model.specs.Positions.{is_accepted}
use Rattle.model.specs.declared.topologies.Mode.{Mode}
use Rattle.model.specs.declared.topologies.Mode.TheVariants.{Reaches, Never}
use Rattle.model.specs.declared.topologies.Exchange.{Exchange}
use Rattle.model.specs.declared.topologies.DeclaredQueue.{DeclaredQueue}
use Rattle.model.specs.declared.topologies.Binding.{Binding}
use Rattle.model.specs.declared.topologies.ExchangeKind.{ExchangeKind}
use Rattle.model.specs.declared.topologies.ExchangeKind.TheVariants.{Direct, Fanout, Topic}
use Rattle.paths.specs.declared.reach.Hop.{Hop}
use Rattle.state_routes.specs.declared.gates.Test.{Test}
use Rattle.state_routes.specs.declared.gates.Test.TheVariants.{Always, Pattern}
use Rattle.state_routes.specs.declared.gates.Gate.{Gate}
use Rattle.state_routes.specs.Nodes.{link_of}

-- the index of the first tracked pattern with this kind and text, or the number of patterns if there is none
abbrev pub tracked_index : List Tracked → ExchangeKind → Text → ℕ
tracked_index [] kind text = zero
tracked_index (p ∷ ps) kind text = if same_tracked (record { kind = kind; text = text }) p then zero else suc (tracked_index ps kind text)

-- the test of a binding with this key from an exchange of this kind
abbrev pub test_by : List Tracked → ExchangeKind → Text → Test
test_by ps Fanout key = Always
test_by ps Direct key = Pattern (tracked_index ps Direct key)
test_by ps Topic key = Pattern (tracked_index ps Topic key)

-- the kind of an exchange, or `Direct` if there is none, for which any kind would do
abbrev pub kind_or_direct : Option Exchange → ExchangeKind
kind_or_direct None = Direct
kind_or_direct (Some x) = x.kind

-- the kind of the first exchange of this name
abbrev pub kind_at : List Exchange → Text → ExchangeKind
kind_at exchanges name = kind_or_direct (find (λ (x : Exchange). bytes_eq x.name name) exchanges)

-- a binding as a gate: its link, and what its exchange tests of a key
abbrev pub gate_of : List Exchange → Text → List Tracked → Binding → Gate
gate_of exchanges queue ps b = record { link = link_of exchanges queue b; test = test_by ps (kind_at exchanges b.source) b.key }

-- the bindings as gates, in order
abbrev pub binding_gates : List Exchange → Text → List Tracked → List Binding → List Gate
binding_gates exchanges queue ps [] = []
binding_gates exchanges queue ps (b ∷ bs) = gate_of exchanges queue ps b ∷ binding_gates exchanges queue ps bs

-- a queue of this name exists
abbrev pub has_queue : List DeclaredQueue → Text → Bool
has_queue queues name = list_any (λ (q : DeclaredQueue). bytes_eq q.name name) queues

-- the gate from the default exchange to the queue
abbrev pub default_gate : List Tracked → Text → Gate
default_gate ps queue = record { link = record { from = 2; to = 0 }; test = Pattern (tracked_index ps Direct queue) }

-- the gates of a topology: those of its bindings, and that of the default exchange to the queue, if the queue exists
abbrev pub gates_of : Topology → Text → List Tracked → List Gate
gates_of t queue ps =
    if has_queue t.queues queue then binding_gates t.exchanges queue ps t.bindings ++ default_gate ps queue ∷ []
    else binding_gates t.exchanges queue ps t.bindings

-- ---- by what the tracked patterns accept

-- for each pattern, whether it accepts the words of a state
abbrev pub accepted : List Tracked → List ℕ → List Bool
accepted [] ms = []
accepted (p ∷ ps) [] = []
accepted (p ∷ ps) (m ∷ ms) = is_accepted p m ∷ accepted ps ms

-- the test is known to pass
abbrev pub is_open : Test → List Bool → Bool
is_open Always acc = true
is_open (Pattern i) acc = unwrap_or (slice_get acc i) false

-- the test is known to fail
abbrev pub is_shut : Test → List Bool → Bool
is_shut Always acc = false
is_shut (Pattern i) acc = unwrap_or (option_map not (slice_get acc i)) false

-- The test lets a key pass, as a promise of this mode counts it: for a `reaches` if it is known to pass, for a `never` unless it is known
-- to fail.
abbrev pub passes : Mode → Test → List Bool → Bool
passes Reaches test acc = is_open test acc
passes Never test acc = not (is_shut test acc)

-- the test stops a key, as a promise of this mode counts it: for a `reaches` if it is known to fail, for a `never` unless it is known to pass
abbrev pub blocks : Mode → Test → List Bool → Bool
blocks Reaches test acc = is_shut test acc
blocks Never test acc = not (is_open test acc)

-- each gate from node `from` stops a key (`blocks`)
abbrev pub all_block : Mode → List Gate → ℕ → List Bool → Bool
all_block m [] from acc = true
all_block m (g ∷ gs) from acc = (not (g.link.from == from) || blocks m g.test acc) && all_block m gs from acc

-- the links of the gates that let a key pass
abbrev pub open_links : Mode → List Gate → List Bool → List Hop
open_links m [] acc = []
open_links m (g ∷ gs) acc = if passes m g.test acc then g.link ∷ open_links m gs acc else open_links m gs acc

-- the links to alternate exchanges from the nodes whose gates all stop a key
abbrev pub open_alternates : Mode → List Gate → List Hop → List Bool → List Hop
open_alternates m gs [] acc = []
open_alternates m gs (l ∷ ls) acc = if all_block m gs l.from acc then l ∷ open_alternates m gs ls acc else open_alternates m gs ls acc

-- all links by which a key may go on in this mode, if it is only known which patterns accept it
abbrev pub open_ways : Mode → List Gate → List Hop → List Bool → List Hop
open_ways m gs alternates acc = open_links m gs acc ++ open_alternates m gs alternates acc

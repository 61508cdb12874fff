-- What leads on from each node (own).
use Rattle.std.specs.Prelude.{◌≡◌, ◌<◌, ◌==◌, ℕ, List, [], ◌∷◌, ◌++◌, Bool, length, slice_index_or, slice_set}
use Rattle.std.specs.List.{filter}
use Rattle.model.specs.Topology.{IsIn}
use Rattle.model.specs.declared.topologies.Mode.{Mode}
use Rattle.paths.specs.declared.reach.Hop.{Hop}
use Rattle.state_routes.specs.declared.gates.Gate.{Gate}
use Rattle.state_routes.specs.Gates.{open_ways}

-- what leads on from one node: gates, and links to alternate exchanges
pub record Exit : Type 0 where
  pub gates : List Gate
  pub alternates : List Hop

-- the exit of a node from which nothing leads on
abbrev pub no_exit : Exit
no_exit = record { gates = []; alternates = [] }

-- the exit of node `p`
abbrev pub exit_at : List Exit → ℕ → Exit
exit_at exits p = slice_index_or exits p no_exit

-- the gates that start at node `p`
abbrev pub gates_from : ℕ → List Gate → List Gate
gates_from p gs = filter (λ (g : Gate). g.link.from == p) gs

-- the links that start at node `p`
abbrev pub links_from : ℕ → List Hop → List Hop
links_from p ls = filter (λ (l : Hop). l.from == p) ls

-- `exits` has an entry for each of `n` nodes, with the gates of `gs` and the links of `ls` that start at the node
pub record AreExits (gs : List Gate) (ls : List Hop) (n : ℕ) (exits : List Exit) : Type 0 where
  pub size : length exits ≡ n
  pub gates : (p : ℕ) → (exit_at exits p).gates ≡ gates_from p gs
  pub alternates : (p : ℕ) → (exit_at exits p).alternates ≡ links_from p ls

-- the links that are open from node `p`; `acc` says which patterns accept the key
abbrev pub open_from : Mode → List Exit → ℕ → List Bool → List Hop
open_from m exits p acc = open_ways m (exit_at exits p).gates (exit_at exits p).alternates acc

-- the links that are open from any node; `acc` says which patterns accept the key
abbrev pub open_through : Mode → List Exit → List Bool → List Hop
open_through m [] acc = []
open_through m (e ∷ es) acc = open_ways m e.gates e.alternates acc ++ open_through m es acc

-- the link starts at node `p` and ends at one of `n` nodes
abbrev pub LeadsFrom : ℕ → ℕ → Hop → Type 0
LeadsFrom n p l = (l.from ≡ p) × (l.to < n)

-- each gate and each link of the exit starts at node `p` and ends at one of `n` nodes
pub record LeadFrom (n p : ℕ) (e : Exit) : Type 0 where
  pub gates : (g : Gate) → IsIn g e.gates → LeadsFrom n p g.link
  pub alternates : (l : Hop) → IsIn l e.alternates → LeadsFrom n p l

-- `start` is one of the nodes, and each exit leads from its node to one of them
pub record IsBounded (exits : List Exit) (start : ℕ) : Type 0 where
  pub begins : start < length exits
  pub leads : (p : ℕ) → LeadFrom (length exits) p (exit_at exits p)

-- ---- while exits are built

-- there are `n` exits, and nothing leads on by any of them
pub record AreEmpty (n : ℕ) (exits : List Exit) : Type 0 where
  pub size : length exits ≡ n
  pub none : (p : ℕ) → exit_at exits p ≡ no_exit

-- the exits with the gate added to that of the node where it starts
abbrev pub with_gate : Gate → List Exit → List Exit
with_gate g exits = slice_set exits g.link.from (record (exit_at exits g.link.from) { gates = (exit_at exits g.link.from).gates ++ g ∷ [] })

-- the exits with the link to an alternate exchange added to that of the node where it starts
abbrev pub with_alternate : Hop → List Exit → List Exit
with_alternate l exits = slice_set exits l.from (record (exit_at exits l.from) { alternates = (exit_at exits l.from).alternates ++ l ∷ [] })

-- `new` is `old` with the gates `gs` added, each to the exit of the node where it starts
pub record AddsGates (gs : List Gate) (old new : List Exit) : Type 0 where
  pub size : length new ≡ length old
  pub gates : (p : ℕ) → (exit_at new p).gates ≡ (exit_at old p).gates ++ gates_from p gs
  pub alternates : (p : ℕ) → (exit_at new p).alternates ≡ (exit_at old p).alternates

-- `new` is `old` with the links `ls` to alternate exchanges added, each to the exit of the node where it starts
pub record AddsAlternates (ls : List Hop) (old new : List Exit) : Type 0 where
  pub size : length new ≡ length old
  pub gates : (p : ℕ) → (exit_at new p).gates ≡ (exit_at old p).gates
  pub alternates : (p : ℕ) → (exit_at new p).alternates ≡ (exit_at old p).alternates ++ links_from p ls

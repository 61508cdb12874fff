-- What was offered, as a reload between two worlds: it was put in force, or there was an obstacle.
use Rattle.runs.proofs.Names.{◌≡◌, ℕ, List, [], ◌∷◌, refl, inl, inr, Config, Of_reload, Reload, IsDecided, IsObstacle, World, Same, Reloads, Note, Reloaded, ReloadRefused, Obstacle, IsPutInForce}

-- a reload between these worlds, of which this is noted
abbrev pub reload_of : World → Config → World → List Note → Reload
reload_of a offered b notes = record { config = a.config; offered = offered; before = a.state; notes = notes; after = b.state; in_force = b.config }

-- what was decided on it is a reload, where nothing was given and no wire has changed
decided_reloads : (a b : World) (offered : Config) (notes : List Note) → IsDecided (reload_of a offered b notes) → b.given ≡ a.given → ((c : ℕ) → b.wire c ≡ a.wire c) → Reloads a offered (Of_reload (reload_of a offered b notes) ∷ []) b
decided_reloads a b offered notes decided given wires = record {
  r = reload_of a offered b notes;
  all = refl;
  under = refl;
  offers = refl;
  before = refl;
  after = refl;
  in_force = refl;
  decided = decided;
  given = given;
  wires = wires;
}

pub put_reloads : (a b : World) (offered : Config) → IsPutInForce a offered b → Reloads a offered (Of_reload (reload_of a offered b (Reloaded ∷ [])) ∷ []) b
put_reloads a b offered p = decided_reloads a b offered _ (inl (record { nothing = p.nothing; noted = refl; in_force = p.config; broker = p.broker; session = p.session })) p.given p.wires

pub refused_reloads : (a b : World) (offered : Config) (o : Obstacle) → IsObstacle a.config.topology offered a.state.broker o → Same a b → Reloads a offered (Of_reload (reload_of a offered b (ReloadRefused o ∷ [])) ∷ []) b
refused_reloads a b offered o stands same = decided_reloads a b offered _ (inr (record { obstacle = o; stands = stands; noted = refl; in_force = same.config; after = same.state })) same.given same.wires

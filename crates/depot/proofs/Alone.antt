-- The turn of a publish that is routed to one queue.
use Rattle.depot.proofs.Names.{◌≡◌, ℕ, List, [], ◌∷◌, ◌++◌, Bool, true, false, refl, ap, sym, subst, ◌∙◌, append_assoc, length, get_or, arith, ◌||◌, Text, Topology, Message, Entry, Publish, DeclaredQueue, Note, AreTargets, PlannedTurn, TurnOutcome, turn_at, outcome, is_refusal, entered_one, Enters}
use Rattle.model.specs.declared.notes.Way.TheVariants as way
use Rattle.exchange_graph.specs.Routers.{IsRoute}
use Rattle.exchange_graph.specs.declared.routes.Route.{Route}

or_none : (b : Bool) → b ≡ (b || false)
or_none true = refl
or_none false = refl

-- a list of one place
pub one_target : (places : List ℕ) → length places ≡ 1 → places ≡ get_or places 0 0 ∷ []
one_target [] one = absurd (omega (arith, one))
one_target (place ∷ []) one = refl
one_target (place ∷ other ∷ more) one = absurd (omega (arith, one))

-- the places that a route tells
pub targets_here : (t here : Topology) (exchange key : Text) (places : List ℕ) (r : Route) → here ≡ t → places ≡ r.targets.items → IsRoute t exchange key r → AreTargets here exchange key places
targets_here t here exchange key places r same reported route =
    subst (λ (u : Topology). AreTargets u exchange key places) (sym same) (subst (AreTargets t exchange key) (sym reported) route.targets)

-- the one turn of a publish is taken
pub one_enters : (t : Topology) (p : Publish) (m : Message) (place : ℕ) (first : Note) (before pushed after : List Note) (declared : List DeclaredQueue) (old mid new : List (List Entry)) (turn : PlannedTurn) (full : Bool)
    → AreTargets t p.exchange p.routing_key (place ∷ []) → declared ≡ t.queues → turn ≡ turn_at t.queues m place → mid ≡ old
    → new ≡ entered_one (outcome way.Publish declared mid turn) mid → pushed ≡ before ++ first ∷ [] → after ≡ pushed ++ (outcome way.Publish declared mid turn).note ∷ []
    → full ≡ is_refusal (outcome way.Publish declared mid turn) → Enters t old new p m first before after (record { is_none = false; is_some_full = full })
one_enters t p m place first before pushed after declared old mid new turn full routed qs turned same entries noted notes refused =
    let o : outcome way.Publish declared mid turn ≡ outcome way.Publish t.queues old (turn_at t.queues m place) =
    ap (λ (ds : List DeclaredQueue). outcome way.Publish ds mid turn) qs
    ∙ ap (λ (u : PlannedTurn). outcome way.Publish t.queues mid u) turned
    ∙ ap (λ (es : List (List Entry)). outcome way.Publish t.queues es (turn_at t.queues m place)) same in
    record {
      turns = turn_at t.queues m place ∷ [];
      plan = record { targets = place ∷ []; routed = routed; turned = refl };
      entries = entries ∙ ap (λ (x : TurnOutcome). entered_one x mid) o ∙ ap (entered_one (outcome way.Publish t.queues old (turn_at t.queues m place))) same;
      notes =
          notes ∙ ap (λ (x : TurnOutcome). pushed ++ x.note ∷ []) o
          ∙ ap (λ (ns : List Note). ns ++ (outcome way.Publish t.queues old (turn_at t.queues m place)).note ∷ []) noted
          ∙ append_assoc before (first ∷ []) ((outcome way.Publish t.queues old (turn_at t.queues m place)).note ∷ []);
      none = refl;
      full = refused ∙ ap is_refusal o ∙ or_none (is_refusal (outcome way.Publish t.queues old (turn_at t.queues m place)));
    }

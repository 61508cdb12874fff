-- A queue's dead letters go on as its declaration says.
use Rattle.exchange_graph.proofs.Names.{◌≡◌, ℕ, ◌<◌, ◌∙◌, length, get_or, sym, ap, subst, Text, Topology, IsIn, IsWellFormed, queue_names, Dies, DeclaredQueue, in_map, in_contains, queue_name}
use Rattle.std.proofs.Common.{Some, None}
use Rattle.exchange_graph.proofs.Naming.{same_queue, get_any}

-- no queue of this name is there
pub none_dies : (t : Topology) (queue : Text) → (IsIn queue (queue_names t.queues) → ⊥) → (exchange : Text) (last : DeclaredQueue) → Dies t queue exchange last → ⊥
none_dies t queue absent exchange last d = absent (subst (λ (x : Text). IsIn x (queue_names t.queues)) d.is_named (in_map (λ (q : DeclaredQueue). q.name) t.queues last (in_contains t.queues last d.is_queue)))

-- the queue of this name has no dead-letter exchange
pub none_leads : (t : Topology) (queue : Text) (at : ℕ) (q : DeclaredQueue) → IsWellFormed t → at < length t.queues → queue_name t at ≡ queue → q ≡ get_or t.queues at q → q.dead_letter_exchange ≡ None
    → (exchange : Text) (last : DeclaredQueue) → Dies t queue exchange last → ⊥
none_leads t queue at q w h n e none exchange last d =
    let same : q ≡ last = e ∙ get_any t.queues at q last h ∙ same_queue t last at w d.is_queue h (n ∙ sym d.is_named) in
    let f : None ≡ Some exchange = sym none ∙ ap (λ (z : DeclaredQueue). z.dead_letter_exchange) same ∙ d.dead in
    absurd (cc)

-- All that is marked is reached, and all that is reached is marked.
use Rattle.exchange_graph.proofs.Names.{◌≡◌, ℕ, ◌<◌, List, Bool, true, sym, ap, ◌∙◌, subst, length, inl, inr, arith, length-map, length-set, Text, Topology, IsWellFormed, exchange_names, queue_names, Edge, Leads, here, on, Routes, of_key, Exchange, DeclaredQueue, Destination, End, Onward, Into, destination_of, MarksEnds, IsMet, IsSet, MarksAreClosed, IsPending, Arrives, Reaching, Expands, AreMet, exchange_name, queue_name}
use Rattle.std.proofs.Common.{None}
use Rattle.model.specs.declared.topologies.Destination.TheVariants as destination
use Rattle.exchange_graph.proofs.Marking.{set_only, set_within}
use Rattle.exchange_graph.proofs.Naming.{apart_same}

-- one step more at the end
leads_on : {t : Topology} {key x y : Text} (z : Text) → Leads t (of_key key) x y → Edge t (of_key key) y (destination.Exchange z) → Leads t (of_key key) x z
leads_on z here s = on s here
leads_on z (on f l) s = on f (leads_on z l s)

arrives : (t : Topology) (key x y : Text) (to : Destination) → Leads t (of_key key) x y → Edge t (of_key key) y to → Arrives t x key to
arrives t key x y (destination.Exchange z) l s = leads_on z l s
arrives t key x y (destination.Queue q) l s = (y, l, s)

still_closed : (t : Topology) (key name : Text) (ends : List End) (seen found seen' found' : List Bool) → MarksEnds ends seen found seen' found' → MarksAreClosed t key name seen found → MarksAreClosed t key name seen' found'
still_closed t key name ends seen found seen' found' m c to s = let p = c to s in (p.0, m.kept p.0 p.1, p.2)

-- one exchange more is done
pub expanded : (t : Topology) (start key : Text) (at : ℕ) (seen found done seen' found' done' : List Bool) → IsSet seen at
    → Reaching t start key seen found done → Expands t key at seen found done seen' found' done' → Reaching t start key seen' found' done'
expanded t start key at seen found done seen' found' done' met r x = record {
  room = record { exchanges = x.marks.seen_length ∙ r.room.exchanges; queues = x.marks.found_length ∙ r.room.queues };
  done_room = ap (λ (bs : List Bool). length bs) x.ticked ∙ length-set done at true ∙ r.done_room;
  begun = (r.begun.0, x.marks.kept (Onward r.begun.0) r.begun.1, r.begun.2);
  sound = λ e m. (elim (x.marks.only e m) [
    | inl p ↦ r.sound e p
    | inr q ↦ arrives t key start (exchange_name t at) (destination_of t e) (r.sound (Onward at) met) (x.steps.only e q)
  ]);
  closed = λ i h. (elim (set_only done at i (subst (λ (bs : List Bool). IsSet bs i) x.ticked h)) [
    | inl p ↦ still_closed t key (exchange_name t i) x.ends seen found seen' found' x.marks (r.closed i p)
    | inr q ↦ (λ to s. (
        let s' : Edge t (of_key key) (exchange_name t at) to = subst (λ (n : ℕ). Edge t (of_key key) (exchange_name t n) to) q s in
        let m = x.steps.all to s' in (m.0, x.marks.all m.0 m.1, m.2)))
  ]);
}

-- the end of a chain is marked
met_exchange : (t : Topology) (start key : Text) (seen found done : List Bool) → Reaching t start key seen found done → IsPending seen done None
    → {x y : Text} → Leads t (of_key key) x y → (i : ℕ) × IsSet seen i × (exchange_name t i ≡ x) → (k : ℕ) × IsSet seen k × (exchange_name t k ≡ y)
met_exchange t start key seen found done r p here m = m
met_exchange t start key seen found done r p (on {y = z} s l) m =
    let c = r.closed m.0 (p m.0 m.1) (destination.Exchange z) (subst (λ (n : Text). Edge t (of_key key) n (destination.Exchange z)) (sym m.2) s) in
    met_exchange t start key seen found done r p l (exchange_end t seen found z c.0 c.1 c.2)
  where
    exchange_end : (t : Topology) (seen found : List Bool) (z : Text) (e : End) → IsMet seen found e → destination_of t e ≡ destination.Exchange z → (k : ℕ) × IsSet seen k × (exchange_name t k ≡ z)
    exchange_end t seen found z (Onward k) m e = (k, m, (let q : exchange_name t k ≡ z = cc in q))
    exchange_end t seen found z (Into k) m e = absurd (cc)

queue_end : (t : Topology) (seen found : List Bool) (z : Text) (e : End) → IsMet seen found e → destination_of t e ≡ destination.Queue z → (k : ℕ) × IsSet found k × (queue_name t k ≡ z)
queue_end t seen found z (Onward k) m e = absurd (cc)
queue_end t seen found z (Into k) m e = (k, m, (let q : queue_name t k ≡ z = cc in q))

found_all : (t : Topology) (start key : Text) (seen found done : List Bool) → IsWellFormed t → Reaching t start key seen found done → IsPending seen done None
    → (i : ℕ) → i < length t.queues → Routes t start key (queue_name t i) → IsSet found i
found_all t start key seen found done w r p i h s =
    let m = met_exchange t start key seen found done r p s.1 r.begun in
    let c = r.closed m.0 (p m.0 m.1) (destination.Queue (queue_name t i)) (subst (λ (n : Text). Edge t (of_key key) n (destination.Queue (queue_name t i))) (sym m.2) s.2) in
    let q = queue_end t seen found (queue_name t i) c.0 c.1 c.2 in
    let n : length (queue_names t.queues) ≡ length t.queues = length-map t.queues (λ (z : DeclaredQueue). z.name) in
    let k : q.0 < length found = set_within found q.0 q.1 in
    let same : q.0 ≡ i = apart_same (queue_names t.queues) q.0 i w.queues_distinct (omega (arith, n, k, r.room.queues)) (omega (arith, n, h)) q.2 in
    subst (λ (j : ℕ). IsSet found j) same q.1

seen_all : (t : Topology) (start key : Text) (seen found done : List Bool) → IsWellFormed t → Reaching t start key seen found done → IsPending seen done None
    → (i : ℕ) → i < length t.exchanges → Leads t (of_key key) start (exchange_name t i) → IsSet seen i
seen_all t start key seen found done w r p i h l =
    let m = met_exchange t start key seen found done r p l r.begun in
    let n : length (exchange_names t.exchanges) ≡ length t.exchanges = length-map t.exchanges (λ (z : Exchange). z.name) in
    let k : m.0 < length seen = set_within seen m.0 m.1 in
    let same : m.0 ≡ i = apart_same (exchange_names t.exchanges) m.0 i w.exchanges_distinct (omega (arith, n, k, r.room.exchanges)) (omega (arith, n, h)) m.2 in
    subst (λ (j : ℕ). IsSet seen j) same m.1

-- nothing is left to be done
pub all_met : (t : Topology) (start key : Text) (seen found done : List Bool) → IsWellFormed t → Reaching t start key seen found done → IsPending seen done None → AreMet t start key seen found
all_met t start key seen found done w r p = record {
  exchanges = record {
    room = r.room.exchanges;
    sound = λ i h m. r.sound (Onward i) m;
    all = seen_all t start key seen found done w r p;
  };
  queues = record {
    room = r.room.queues;
    sound = λ i h m. r.sound (Into i) m;
    all = found_all t start key seen found done w r p;
  };
}

-- In every story a connection has one socket, and a socket one connection.
use Rattle.serving.proofs.Names.{◌≡◌, ◌≢◌, ◌≤◌, true, ℕ, ◌+◌, List, [], ◌∷◌, ◌++◌, Option, Some, None, refl, sym, ap, subst, ◌∙◌, ◌⊎◌, inl, inr, slice_set, arith, eq-eqb, ne_eqb, false≢true, ◌==◌, AllByRecursion, IsIn, Occurrence, in_back, Call, Accepted, AddsCalls, IsFresh, Served, At, Filled, Deed, Met, Turned_away, Met_no_one, Heard, Heard_partly, Heard_nothing, Heard_end, Gave, Gave_partly, Gave_nothing, Gave_up, Pumped_nothing, Pump_refused, Closed_gone, Paused, Reload_decided, Reload_undecided, attempts, Table, DoesDeed, Story, met_by, all_met, Peer, Lacks}
use Rattle.serving.specs.Story.{Pumped}
use Rattle.serving.proofs.Fits.{freed_at, filled_at, attempts_le, met_given}

-- whose deed it is
abbrev pub peer_of : Deed → Option Peer
peer_of (Met i p) = Some p
peer_of (Turned_away s o) = None
peer_of (Met_no_one x) = None
peer_of (Heard i p room bytes passage) = Some p
peer_of (Heard_partly i p room bytes) = Some p
peer_of (Heard_nothing i p room) = Some p
peer_of (Heard_end i p room x) = Some p
peer_of (Gave i p offered taken passage) = Some p
peer_of (Gave_partly i p offered taken) = Some p
peer_of (Gave_nothing i p offered) = Some p
peer_of (Gave_up i p offered) = Some p
peer_of Pumped = None
peer_of Pumped_nothing = None
peer_of Pump_refused = None
peer_of (Closed_gone i p) = Some p
peer_of Paused = None
peer_of (Reload_decided g) = None
peer_of (Reload_undecided g) = None

abbrev pub SamePair : Peer → Peer → Type 0
SamePair p q = (q.connection == p.connection) ≡ (q.socket == p.socket)

-- the sockets met so far: each has its own connection
pub record Knows (known : List Peer) (v : Served) : Type 0 where
  pub slots : (i : ℕ) (p : Peer) → At v.peers i p → IsIn p known
  pub given : (p : Peer) → IsIn p known → p.connection ≤ v.world.given
  pub named : (p : Peer) → IsIn p known → v.traffic.is_given p.socket ≡ true
  pub pairs : (p q : Peer) → IsIn p known → IsIn q known → SamePair p q

knows_on : (known : List Peer) (v w : Served) (more : List Call) → ((i : ℕ) (p : Peer) → At w.peers i p → At v.peers i p) → v.world.given ≤ w.world.given → AddsCalls v.traffic more w.traffic → Knows known v → Knows known w
knows_on known v w more sub le t k = record {
  slots = λ i p at. k.slots i p (sub i p at);
  given = λ p i. let g = k.given p i in omega (arith, g, le);
  named = λ p i. t.kept p.socket (k.named p i);
  pairs = k.pairs;
}

knows_same : (known : List Peer) (v w : Served) (more : List Call) → w.peers ≡ v.peers → v.world.given ≤ w.world.given → AddsCalls v.traffic more w.traffic → Knows known v → Knows known w
knows_same known v w more same le e k = knows_on known v w more (λ i p at. subst (λ (z : List (Option Peer)). At z i p) same at) le e k

knows_freed : (known : List Peer) (v w : Served) (j : ℕ) (more : List Call) → w.peers ≡ slice_set v.peers j None → v.world.given ≤ w.world.given → AddsCalls v.traffic more w.traffic → Knows known v → Knows known w
knows_freed known v w j more freed le e k = knows_on known v w more (λ i p at. freed_at v.peers j i p (subst (λ (z : List (Option Peer)). At z i p) freed at)) le e k

-- one whose connection and socket both are new is paired with none before it
new_pair : (p q : Peer) → q.connection ≢ p.connection → q.socket ≢ p.socket → SamePair p q
new_pair p q c s = ne_eqb q.connection p.connection c ∙ sym (ne_eqb q.socket p.socket s)

knows_met : (known : List Peer) (v w : Served) (i : ℕ) (p : Peer) → p.connection ≡ v.world.given + 1 → w.world.given ≡ v.world.given + 1 → IsFresh p.socket v.traffic → Filled v.peers i p w.peers → AddsCalls v.traffic (Accepted p.socket ∷ []) w.traffic → Knows known v
    → Knows (p ∷ known) w
knows_met known v w i p number more fresh filled t k = record {
  slots = λ j q at. slot j q (filled_at v.peers w.peers i p filled j q at);
  given = λ q x. given q x;
  named = λ q x. named q x;
  pairs = λ q r x y. pairs q r x y;
}
  where
    slot : (j : ℕ) (q : Peer) → ((j ≡ i) × (q ≡ p)) ⊎ At v.peers j q → IsIn q (p ∷ known)
    slot j q (inl is) = inl is.1
    slot j q (inr at) = inr (k.slots j q at)

    given : (q : Peer) → IsIn q (p ∷ known) → q.connection ≤ w.world.given
    given q (inl is) = let n = ap (λ (z : Peer). z.connection) is in omega (arith, n, number, more)
    given q (inr x) = let g = k.given q x in omega (arith, g, more)

    named : (q : Peer) → IsIn q (p ∷ known) → w.traffic.is_given q.socket ≡ true
    named q (inl is) = t.given q.socket (inl (ap (λ (z : Peer). Accepted z.socket) is))
    named q (inr x) = t.kept q.socket (k.named q x)

    other : (q : Peer) → IsIn q known → (q.connection ≢ p.connection) × (q.socket ≢ p.socket)
    other q x = (λ same. let g = k.given q x in omega (arith, g, number, same), λ same. false≢true (sym fresh ∙ subst (λ (s : ℕ). v.traffic.is_given s ≡ true) same (k.named q x)))

    pairs : (q r : Peer) → IsIn q (p ∷ known) → IsIn r (p ∷ known) → SamePair q r
    pairs q r (inl x) (inl y) =
        let same : r ≡ q = y ∙ sym x in
        eq-eqb r.connection q.connection (ap (λ (z : Peer). z.connection) same) ∙ sym (eq-eqb r.socket q.socket (ap (λ (z : Peer). z.socket) same))
    pairs q r (inl x) (inr y) = subst (λ (z : Peer). SamePair z r) (sym x) (new_pair p r (other r y).0 (other r y).1)
    pairs q r (inr x) (inl y) = subst (λ (z : Peer). SamePair q z) (sym y) (new_pair q p (λ f. (other q x).0 (sym f)) (λ f. (other q x).1 (sym f)))
    pairs q r (inr x) (inr y) = k.pairs q r x y

-- ---- one deed

-- it is the deed of one that is known
abbrev pub IsKnownIn : List Peer → Option Peer → Type 0
IsKnownIn known None = Unit {0}
IsKnownIn known (Some p) = IsIn p known

pub record Goes (known : List Peer) (d : Deed) (w : Served) : Type 0 where
  pub knows : Knows (met_by d ++ known) w
  pub mine : IsKnownIn (met_by d ++ known) (peer_of d)

pub goes : {L : Lacks} (known : List Peer) (v w : Served) (d : Deed) (os : List Occurrence) → DoesDeed L v d os w → Knows known v → Goes known d w
goes {L = L} known v w d os does k = go d does.table (attempts_le L (attempts d) v.world w.world os does.brings) does
  where
    go : (d : Deed) → Table L v d w.peers → v.world.given ≤ w.world.given → DoesDeed L v d os w → Goes known d w
    go (Met i p) t le does = record { knows = knows_met known v w i p t.1 (met_given L v.world w.world os t.0 does.brings) t.2 t.3 does.traffic k; mine = inl refl }
    go (Turned_away s o) t le does = record { knows = knows_same known v w _ t.3 le does.traffic k; mine = tt }
    go (Met_no_one x) t le does = record { knows = knows_same known v w _ t le does.traffic k; mine = tt }
    go (Heard i p room bytes passage) t le does = record { knows = knows_same known v w _ t.1.1 le does.traffic k; mine = k.slots i p t.1.0 }
    go (Heard_partly i p room bytes) t le does = record { knows = knows_freed known v w i _ t.1.1 le does.traffic k; mine = k.slots i p t.1.0 }
    go (Heard_nothing i p room) t le does = record { knows = knows_same known v w _ t.1.1 le does.traffic k; mine = k.slots i p t.1.0 }
    go (Heard_end i p room x) t le does = record { knows = knows_freed known v w i _ t.1.1 le does.traffic k; mine = k.slots i p t.1.0 }
    go (Gave i p offered taken passage) t le does = record { knows = knows_same known v w _ t.2.1 le does.traffic k; mine = k.slots i p t.2.0 }
    go (Gave_partly i p offered taken) t le does = record { knows = knows_freed known v w i _ t.2.1 le does.traffic k; mine = k.slots i p t.2.0 }
    go (Gave_nothing i p offered) t le does = record { knows = knows_same known v w _ t.1.1 le does.traffic k; mine = k.slots i p t.1.0 }
    go (Gave_up i p offered) t le does = record { knows = knows_freed known v w i _ t.1.1 le does.traffic k; mine = k.slots i p t.1.0 }
    go Pumped t le does = record { knows = knows_same known v w _ t.1 le does.traffic k; mine = tt }
    go Pumped_nothing t le does = record { knows = knows_same known v w _ t.1 le does.traffic k; mine = tt }
    go Pump_refused t le does = record { knows = knows_same known v w _ t le does.traffic k; mine = tt }
    go (Closed_gone i p) t le does = record { knows = knows_freed known v w i _ t.1.1 le does.traffic k; mine = k.slots i p t.1.0 }
    go Paused t le does = record { knows = knows_same known v w _ t le does.traffic k; mine = tt }
    go (Reload_decided g) t le does = record { knows = knows_same known v w _ t.1 le does.traffic k; mine = tt }
    go (Reload_undecided g) t le does = record { knows = knows_same known v w _ t.1 le does.traffic k; mine = tt }

-- ---- whole stories

-- all that are known in the end
abbrev pub known_after : List Peer → List Deed → List Peer
known_after known [] = known
known_after known (d ∷ ds) = known_after (met_by d ++ known) ds

pub stays_known : (ds : List Deed) (known : List Peer) (p : Peer) → IsIn p known → IsIn p (known_after known ds)
stays_known [] known p i = i
stays_known (d ∷ ds) known p i = stays_known ds (met_by d ++ known) p (in_back p (met_by d) known i)

pub met_known : (ds : List Deed) (known : List Peer) (p : Peer) → IsIn p (all_met ds) → IsIn p (known_after known ds)
met_known [] known p i = absurd i
met_known (d ∷ ds) known p i = go (met_by d) i (stays_known ds (met_by d ++ known) p) (met_known ds (met_by d ++ known) p)
  where
    go : (ps : List Peer) → IsIn p (ps ++ all_met ds) → (IsIn p (ps ++ known) → IsIn p (known_after (met_by d ++ known) ds)) → (IsIn p (all_met ds) → IsIn p (known_after (met_by d ++ known) ds)) → IsIn p (known_after (met_by d ++ known) ds)
    go [] i front back = back i
    go (q ∷ ps) (inl e) front back = front (inl e)
    go (q ∷ ps) (inr i) front back = go ps i (λ x. front (inr x)) back

option_known : (a b : List Peer) (o : Option Peer) → ((p : Peer) → IsIn p a → IsIn p b) → IsKnownIn a o → IsKnownIn b o
option_known a b None f k = tt
option_known a b (Some p) f k = f p k

pub record AllGo (known : List Peer) (ds : List Deed) (w : Served) : Type 0 where
  pub knows : Knows (known_after known ds) w
  pub mine : AllByRecursion (λ d. IsKnownIn (known_after known ds) (peer_of d)) ds

pub all_go : (L : Lacks) (ds : List Deed) (known : List Peer) (v w : Served) (os : List Occurrence) → Story L v ds os w → Knows known v → AllGo known ds w
all_go L [] known v w os s k = record { knows = subst (Knows known) (sym s.1) k; mine = tt }
all_go L (d ∷ ds) known v w os (mid, first, rest, e, does, s) k =
    let one = goes known v mid d first does k in
    let more = all_go L ds (met_by d ++ known) mid w rest s one.knows in
    record { knows = more.knows; mine = (option_known (met_by d ++ known) (known_after known (d ∷ ds)) (peer_of d) (stays_known ds (met_by d ++ known)) one.mine, more.mine) }

-- the deed is of a connection exactly where it is of its socket
abbrev pub PairsWith : Peer → Option Peer → Type 0
PairsWith p None = Unit {0}
PairsWith p (Some q) = SamePair p q

pub pairs_each : (known : List Peer) (p : Peer) → ((q : Peer) → IsIn q known → SamePair p q) → (ds : List Deed) → AllByRecursion (λ d. IsKnownIn known (peer_of d)) ds → AllByRecursion (λ d. PairsWith p (peer_of d)) ds
pairs_each known p f [] a = tt
pairs_each known p f (d ∷ ds) a = (go (peer_of d) a.0, pairs_each known p f ds a.1)
  where
    go : (o : Option Peer) → IsKnownIn known o → PairsWith p o
    go None k = tt
    go (Some q) k = f q k

-- with no socket none is known
pub knows_none : (v : Served) → v.peers ≡ [] → Knows [] v
knows_none v none = record { slots = λ j q at. absurd (cc (none, at)); given = λ q x. absurd x; named = λ q x. absurd x; pairs = λ q r x y. absurd x }

-- from a server with no socket
pub pairs_in : (L : Lacks) (ds : List Deed) (v w : Served) (os : List Occurrence) → v.peers ≡ [] → Story L v ds os w → (p : Peer) → IsIn p (all_met ds) → AllByRecursion (λ d. PairsWith p (peer_of d)) ds
pairs_in L ds v w os none s p i =
    let all = all_go L ds [] v w os s (knows_none v none) in
    pairs_each (known_after [] ds) p (λ q x. all.knows.pairs p q (met_known ds [] p i) x) ds all.mine

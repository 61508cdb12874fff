-- Dead letters as gates: which they are, and what comes of a key that a queue fixed.
use Rattle.state_routes.proofs.Names.{◌≡◌, ◌⊎◌, ℕ, zero, suc, ◌+◌, ◌<◌, ◌≤◌, Bool, true, false, cond, List, [], ◌∷◌, ◌++◌, length, refl, sym, ap, subst, ◌∙◌, inl, inr, Option, Some, None, arith, add-one, append-nil, append_assoc, drop, get_or, Decides, false≢true, bytes_eq-Decides, Text, Topology, IsIn, Reading, of_key, RoutesBy, reading_after, fixed_after, Comes, routed, dead, Tracked, Mode, Reaches, Never, Exchange, DeclaredQueue, Binding, Destination, Direct, Hop, Gate, Pattern, node, tracked_index, test_by, kind_at, is_into_queue, entry, default_entry, entries, entries_through, AreEntered, none, next, AreMore, dying, unfixed_end, GoOn, links_in, in_front, in_back, in-append}
use Rattle.model.specs.declared.topologies.Destination.TheVariants as destination

-- ---- keys that a queue fixed

module _ (t : Topology) (r s : Reading) where
  -- once a key is fixed, what was known of the key before has no say
  pub still_comes : (k : Text) {fixed : Option Text} {x q : Text} → Comes t r fixed x q → fixed ≡ Some k → Comes t s (Some k) x q
  still_comes k {x = x} {q = q} (routed ro) e = routed (subst (λ (f : Option Text). RoutesBy t (reading_after f r) x q) e ro)
  still_comes k {fixed = fixed} {x = x} (dead {p = p} {exchange = exchange} {q = q} last ro d c) e =
      dead last (subst (λ (f : Option Text). RoutesBy t (reading_after f r) x p) e ro) d (at last.dead_letter_key (λ j f. still_comes j c f))
    where
      at : (o : Option Text) → ((j : Text) → fixed_after o fixed ≡ Some j → Comes t s (Some j) exchange q) → Comes t s (fixed_after o (Some k)) exchange q
      at None f = f k e
      at (Some j) f = f j refl

-- what comes under a fixed key comes under it as under one that was sent
pub fixed_sent : (t : Topology) (r : Reading) (k : Text) {fixed : Option Text} {x q : Text} → Comes t r fixed x q → fixed ≡ Some k → Comes t (of_key k) None x q
fixed_sent t r k {x = x} {q = q} (routed ro) e = routed (subst (λ (f : Option Text). RoutesBy t (reading_after f r) x q) e ro)
fixed_sent t r k {fixed = fixed} {x = x} (dead {p = p} {exchange = exchange} {q = q} last ro d c) e =
    dead last (subst (λ (f : Option Text). RoutesBy t (reading_after f r) x p) e ro) d (at last.dead_letter_key (λ f. fixed_sent t r k c f) (λ j f. still_comes t r (of_key k) j c f))
  where
    at : (o : Option Text) → (fixed_after o fixed ≡ Some k → Comes t (of_key k) None exchange q) → ((j : Text) → fixed_after o fixed ≡ Some j → Comes t (of_key k) (Some j) exchange q) → Comes t (of_key k) (fixed_after o None) exchange q
    at None f g = f e
    at (Some j) f g = g j refl

-- and the other way round
pub sent_fixed : (t : Topology) (r : Reading) (k : Text) {fixed : Option Text} {x q : Text} → Comes t (of_key k) fixed x q → fixed ≡ None → Comes t r (Some k) x q
sent_fixed t r k {x = x} {q = q} (routed ro) e = routed (subst (λ (f : Option Text). RoutesBy t (reading_after f (of_key k)) x q) e ro)
sent_fixed t r k {fixed = fixed} {x = x} (dead {p = p} {exchange = exchange} {q = q} last ro d c) e =
    dead last (subst (λ (f : Option Text). RoutesBy t (reading_after f (of_key k)) x p) e ro) d (at last.dead_letter_key (λ f. sent_fixed t r k c f) (λ j f. still_comes t (of_key k) r j c f))
  where
    at : (o : Option Text) → (fixed_after o fixed ≡ None → Comes t r (Some k) exchange q) → ((j : Text) → fixed_after o fixed ≡ Some j → Comes t r (Some j) exchange q) → Comes t r (fixed_after o (Some k)) exchange q
    at None f g = f e
    at (Some j) f g = g j refl

-- ---- where dead letters lead on

pub dying_tells : (m : Mode) (queues : List DeclaredQueue) (p : DeclaredQueue) → IsIn p (dying m queues) → (m ≡ Never) × IsIn p queues
dying_tells Reaches queues p i = absurd i
dying_tells Never queues p i = (refl, i)

pub dying_has : (m : Mode) (queues : List DeclaredQueue) (p : DeclaredQueue) → m ≡ Never → IsIn p queues → IsIn p (dying m queues)
dying_has m queues p e i = subst (λ (z : Mode). IsIn p (dying z queues)) (sym e) i

pub unfixed_tells : (xs : List Exchange) (o key : Option Text) (n : ℕ) → Some n ≡ unfixed_end xs o key → (y : Text) × (o ≡ Some y) × (key ≡ None) × (n ≡ node xs y)
unfixed_tells xs None key n e = absurd (let h : Some n ≡ None = e in cc)
unfixed_tells xs (Some y) None n e = (y, refl, refl, (let h : Some n ≡ Some (node xs y) = e in cc))
unfixed_tells xs (Some y) (Some k) n e = absurd (let h : Some n ≡ None = e in cc)

-- dead letters of a queue with a key of its own lead straight to the guarantee's queue where they come there
pub fixed_goes : (t : Topology) (q y k : Text) (end : Option ℕ) → GoOn t q (Some y) (Some k) end → Comes t (of_key k) None y q → end ≡ Some 0
fixed_goes t q y k None g c = absurd (g c)
fixed_goes t q y k (Some n) g c = ap (λ (z : ℕ). Some z) g.0

-- ---- the ways into a queue

is_queue_tells : (to : Destination) (name : Text) → Decides (is_into_queue to name) (to ≡ destination.Queue name)
is_queue_tells (destination.Exchange x) name = ((λ e. absurd (false≢true e)), (λ e. absurd (let h : destination.Exchange x ≡ destination.Queue name = e in cc)))
is_queue_tells (destination.Queue p) name = let d = bytes_eq-Decides p name in ((λ e. ap (λ (z : Text). destination.Queue z) (d.0 e)), (λ e. d.1 (let h : destination.Queue p ≡ destination.Queue name = e in cc)))

module _ (xs : List Exchange) (ps : List Tracked) (name : Text) (to : ℕ) where
  default_in : (bs : List Binding) → IsIn (default_entry ps name to) (entries xs ps name to bs)
  default_in [] = inl refl
  default_in (b ∷ bs) = elim (is_into_queue b.to name) as (λ v. IsIn (default_entry ps name to) (cond v (entry xs ps to b ∷ entries xs ps name to bs) (entries xs ps name to bs))) [
    | true ↦ inr (default_in bs)
    | false ↦ default_in bs
  ]

  entry_in : (b : Binding) (bs : List Binding) → IsIn b bs → b.to ≡ destination.Queue name → IsIn (entry xs ps to b) (entries xs ps name to bs)
  entry_in b [] i e = absurd i
  entry_in b (c ∷ cs) i e = go (is_into_queue c.to name) (is_queue_tells c.to name) i (λ j. entry_in b cs j e)
    where
      go : (v : Bool) → Decides v (c.to ≡ destination.Queue name) → (b ≡ c) ⊎ IsIn b cs → (IsIn b cs → IsIn (entry xs ps to b) (entries xs ps name to cs)) → IsIn (entry xs ps to b) (cond v (entry xs ps to c ∷ entries xs ps name to cs) (entries xs ps name to cs))
      go true d (inl s) f = inl (ap (entry xs ps to) s)
      go true d (inr j) f = inr (f j)
      go false d (inl s) f = absurd (false≢true (d.1 (ap (λ (z : Binding). z.to) (sym s) ∙ e)))
      go false d (inr j) f = f j

  abbrev FromEntry : Gate → List Binding → Type 0
  FromEntry g bs = ((b : Binding) × IsIn b bs × (b.to ≡ destination.Queue name) × (g ≡ entry xs ps to b)) ⊎ (g ≡ default_entry ps name to)

  from_entries : (g : Gate) (bs : List Binding) → IsIn g (entries xs ps name to bs) → FromEntry g bs
  from_entries g [] (inl e) = inr e
  from_entries g [] (inr i) = absurd i
  from_entries g (b ∷ bs) i = go (is_into_queue b.to name) (is_queue_tells b.to name) i (λ j. from_entries g bs j)
    where
      more : FromEntry g bs → FromEntry g (b ∷ bs)
      more (inl h) = inl (h.0, inr h.1, h.2, h.3)
      more (inr e) = inr e

      go : (v : Bool) → Decides v (b.to ≡ destination.Queue name) → IsIn g (cond v (entry xs ps to b ∷ entries xs ps name to bs) (entries xs ps name to bs)) → (IsIn g (entries xs ps name to bs) → FromEntry g bs) → FromEntry g (b ∷ bs)
      go true d (inl e) f = inl (b, inl refl, d.0 refl, e)
      go true d (inr j) f = more (f j)
      go false d j f = more (f j)

-- ---- the ways into queues

-- a way into one of these queues, ending where its dead letters lead on
pub record FromDeath (t : Topology) (ps : List Tracked) (Ends : DeclaredQueue → Option ℕ → Type 0) (queues : List DeclaredQueue) (g : Gate) : Type 0 where
  pub last : DeclaredQueue
  pub is_in : IsIn last queues
  pub ends : Ends last (Some g.link.to)
  pub way : ((b : Binding) × IsIn b t.bindings × (b.to ≡ destination.Queue last.name) × (g.link.from ≡ node t.exchanges b.source) × (g.test ≡ test_by ps (kind_at t.exchanges b.source) b.key)) ⊎ ((g.link.from ≡ 2) × (g.test ≡ Pattern (tracked_index ps Direct last.name)))

-- where the queue's dead letters lead on, and that its ways end there
pub record ToDeath (t : Topology) (ps : List Tracked) (Ends : DeclaredQueue → Option ℕ → Type 0) (last : DeclaredQueue) (gates : List Gate) : Type 0 where
  pub end : Option ℕ
  pub ends : Ends last end
  pub bound : (to : ℕ) → end ≡ Some to → (b : Binding) → IsIn b t.bindings → b.to ≡ destination.Queue last.name → IsIn (entry t.exchanges ps to b) gates
  pub default : (to : ℕ) → end ≡ Some to → IsIn (default_entry ps last.name to) gates

module _ (t : Topology) (ps : List Tracked) (Ends : DeclaredQueue → Option ℕ → Type 0) where
  pub from_entered : {queues : List DeclaredQueue} {gates : List Gate} (g : Gate) → AreEntered t ps Ends queues gates → IsIn g gates → FromDeath t ps Ends queues g
  from_entered g none i = absurd i
  from_entered g (next {last = last} {queues = queues} {gates = gates} end ends rest) i = elim (in-append g (entries_through t.exchanges ps last.name t.bindings end) gates i) [
    | inl j ↦ first end ends j
    | inr j ↦ let r = from_entered g rest j in record { last = r.last; is_in = inr r.is_in; ends = r.ends; way = r.way }
  ]
    where
      first : (end : Option ℕ) → Ends last end → IsIn g (entries_through t.exchanges ps last.name t.bindings end) → FromDeath t ps Ends (last ∷ queues) g
      first None ends j = absurd j
      first (Some to) ends j = elim (from_entries t.exchanges ps last.name to g t.bindings j) [
        | inl r ↦ record {
          last = last;
          is_in = inl refl;
          ends = subst (λ (z : ℕ). Ends last (Some z)) (ap (λ (z : Gate). z.link.to) (sym r.3)) ends;
          way = inl (r.0, r.1, r.2, ap (λ (z : Gate). z.link.from) r.3, ap (λ (z : Gate). z.test) r.3);
        }
        | inr e ↦ record {
          last = last;
          is_in = inl refl;
          ends = subst (λ (z : ℕ). Ends last (Some z)) (ap (λ (z : Gate). z.link.to) (sym e)) ends;
          way = inr (ap (λ (z : Gate). z.link.from) e, ap (λ (z : Gate). z.test) e);
        }
      ]

  pub to_entered : {queues : List DeclaredQueue} {gates : List Gate} (p : DeclaredQueue) → AreEntered t ps Ends queues gates → IsIn p queues → ToDeath t ps Ends p gates
  to_entered p none i = absurd i
  to_entered p (next {last = last} {gates = gates} end ends rest) (inl e) = subst (λ (z : DeclaredQueue). ToDeath t ps Ends z (entries_through t.exchanges ps last.name t.bindings end ++ gates)) (sym e) (record {
    end = end;
    ends = ends;
    bound = λ to s b i h. in_front (entry t.exchanges ps to b) (entries_through t.exchanges ps last.name t.bindings end) gates
        (subst (λ (z : Option ℕ). IsIn (entry t.exchanges ps to b) (entries_through t.exchanges ps last.name t.bindings z)) (sym s) (entry_in t.exchanges ps last.name to b t.bindings i h));
    default = λ to s. in_front (default_entry ps last.name to) (entries_through t.exchanges ps last.name t.bindings end) gates
        (subst (λ (z : Option ℕ). IsIn (default_entry ps last.name to) (entries_through t.exchanges ps last.name t.bindings z)) (sym s) (default_in t.exchanges ps last.name to t.bindings));
  })
  to_entered p (next {last = last} {gates = gates} end ends rest) (inr i) =
      let r = to_entered p rest i in
      record {
        end = r.end;
        ends = r.ends;
        bound = λ to s b j h. in_back (entry t.exchanges ps to b) (entries_through t.exchanges ps last.name t.bindings end) gates (r.bound to s b j h);
        default = λ to s. in_back (default_entry ps p.name to) (entries_through t.exchanges ps last.name t.bindings end) gates (r.default to s);
      }

  -- with the ways into the queues from this place on they are the ways into all
  abbrev pub AreEnteredFrom : List DeclaredQueue → ℕ → List Gate → Type 0
  AreEnteredFrom queues i gates = (rest : List Gate) → AreEntered t ps Ends (drop i queues) rest → AreEntered t ps Ends queues (gates ++ rest)

  pub entered_more : (queues : List DeclaredQueue) (i : ℕ) (last : DeclaredQueue) (old new : List Gate) → i < length queues → last ≡ get_or queues i last → AreMore t ps Ends last old new → AreEnteredFrom queues i old → AreEnteredFrom queues (i + 1) new
  entered_more queues i last old new h g more f rest e =
      let w = entries_through t.exchanges ps last.name t.bindings more.0 in
      subst (λ (z : List Gate). AreEntered t ps Ends queues (z ++ rest)) (sym more.2)
      (subst (λ (z : List Gate). AreEntered t ps Ends queues z) (sym (append_assoc old w rest))
      (f (w ++ rest) (at queues i h g (subst (λ (n : ℕ). AreEntered t ps Ends (drop n queues) rest) (add-one i) e))))
    where
      at : (queues : List DeclaredQueue) (i : ℕ) → i < length queues → last ≡ get_or queues i last → AreEntered t ps Ends (drop (suc i) queues) rest → AreEntered t ps Ends (drop i queues) (entries_through t.exchanges ps last.name t.bindings more.0 ++ rest)
      at [] i h g e = absurd (omega (arith, h))
      at (p ∷ qs) zero h g e = subst (λ (z : DeclaredQueue). AreEntered t ps Ends (z ∷ qs) (entries_through t.exchanges ps last.name t.bindings more.0 ++ rest)) g (next more.0 more.1 e)
      at (p ∷ qs) (suc i) h g e = at qs i (let k : suc i < suc (length qs) = h in omega (arith, k)) g e

  pub entered_all : (queues : List DeclaredQueue) (i : ℕ) (gates : List Gate) → length queues ≤ i → AreEnteredFrom queues i gates → AreEntered t ps Ends queues gates
  entered_all queues i gates h f = subst (λ (z : List Gate). AreEntered t ps Ends queues z) (append-nil gates) (f [] (at queues i h))
    where
      at : (queues : List DeclaredQueue) (i : ℕ) → length queues ≤ i → AreEntered t ps Ends (drop i queues) []
      at [] zero h = none
      at [] (suc i) h = none
      at (p ∷ qs) zero h = absurd (omega (arith, h))
      at (p ∷ qs) (suc i) h = at qs i (let k : suc (length qs) ≤ suc i = h in omega (arith, k))

-- ---- their links

pub link_of_gate : (g : Gate) (gs : List Gate) → IsIn g gs → IsIn g.link (links_in gs)
link_of_gate g [] i = absurd i
link_of_gate g (h ∷ hs) (inl e) = inl (ap (λ (z : Gate). z.link) e)
link_of_gate g (h ∷ hs) (inr i) = inr (link_of_gate g hs i)

pub gate_of_link : (l : Hop) (gs : List Gate) → IsIn l (links_in gs) → (g : Gate) × IsIn g gs × (l ≡ g.link)
gate_of_link l [] i = absurd i
gate_of_link l (h ∷ hs) (inl e) = (h, inl refl, e)
gate_of_link l (h ∷ hs) (inr i) = let r = gate_of_link l hs i in (r.0, inr r.1, r.2)

-- What a message comes to as long as it keeps its key.
use Rattle.paths.proofs.Names.{◌≡◌, ℕ, zero, suc, ◌+◌, ◌<◌, ◌≤◌, ◌-◌, List, [], ◌∷◌, Bool, true, refl, sym, ap, ◌∙◌, subst, length, inl, inr, Option, Some, None, arith, length-append, is_some, slice_get, slice_index_or, false≢true, slice_get_within, Text, Topology, IsIn, exchange_names, Reading, RoutesBy, Leads, here, of_key, reading_after, fixed_after, key_after, Comes, routed, dead, Dies, DeclaredQueue, Destination, comes_fixed, in_append, Spot, Visit, IsSpotThere, fixed_keys, fixed_of, spot_place, IsRefixed, Next, Refixes, left_all, AddsVisit, AreVisits, IsAdded, IsVisitedAt, width, AreExplored, Exploring, GoesOn, IsLeft, KeptOrFixed, Onto, there, comes, after, ExpandsVisit}
use Rattle.std.proofs.Common.{false}
use Rattle.model.specs.Routing.{on}
use Rattle.model.specs.declared.topologies.Destination.TheVariants as destination
use Rattle.certificate_laws.proofs.Refutations.{comes_on}
use Rattle.paths.specs.Onward.{edge, dies}
use Rattle.paths.proofs.Traced.{below_or, comes_nowhere, get_after, get_is_in, get_left, in_at, met_then, now_visited, searching_first, some_same, traced_then}

-- ---- from where a message is

onto_comes : {t : Topology} {key q : Text} {fixed : Option Text} {to : Destination} (x : Text) → Onto t key q fixed to → to ≡ destination.Exchange x → Comes t (of_key key) fixed x q
onto_comes {q = q} x there e = absurd (let h : destination.Queue q ≡ destination.Exchange x = e in cc)
onto_comes {t} {key} {q} {fixed} x (comes {x = y} c) e = let h : destination.Exchange y ≡ destination.Exchange x = e in let same : y ≡ x = cc in subst (λ (z : Text). Comes t (of_key key) fixed z q) same c
onto_comes x (after {p = p} last d c) e = absurd (let h : destination.Queue p ≡ destination.Exchange x = e in cc)

-- one step back
onto_back : {t : Topology} {key q : Text} {fixed fixed' : Option Text} {from to : Destination} → Next t key fixed from fixed' to → Onto t key q fixed' to → Onto t key q fixed from
onto_back (edge {x = x} to e) there = comes (routed (x, here, e))
onto_back {t} {key} {q} (edge {fixed = fixed} {x = x} to e) (comes {x = z} c) = comes (comes_on t (of_key key) fixed x z q e c)
onto_back (edge {x = x} to e) (after last d c) = comes (dead last (x, here, e) d c)
onto_back (dies {exchange = exchange} last d) o = after last d (onto_comes exchange o refl)

-- back to where it was sent
onto_first : (t : Topology) (key x q : Text) (visits : List Visit) → AreVisits t key x visits → (n i : ℕ) (v : Visit) → i < n → slice_get visits i ≡ Some v → Onto t key q (fixed_of t v.location.fixed) (spot_place t v.location.spot) → Comes t (of_key key) None x q
onto_first t key x q visits r zero i v h g o = absurd (omega (arith, h))
onto_first t key x q visits r (suc n) zero v h g o =
    let f = r.first in
    let same : v ≡ f.0 = some_same (slice_get visits 0) v f.0 g f.1 in
    let a = subst (λ (z : Visit). Onto t key q (fixed_of t z.location.fixed) (spot_place t z.location.spot)) same o in
    let b : Comes t (of_key key) (fixed_of t f.0.location.fixed) x q = onto_comes x a f.2 in
    subst (λ (z : Option Text). Comes t (of_key key) z x q) f.3 b
onto_first t key x q visits r (suc n) (suc i) v h g o =
    let l = r.linked (suc i) v (omega arith) g in
    onto_first t key x q visits r n v.from l.0 (let k = l.1 in omega (arith, k, h)) l.2 (onto_back l.3 o)

-- ---- a queue that fixes the key

key_at : (qs : List DeclaredQueue) (i : ℕ) (q : DeclaredQueue) → slice_get qs i ≡ Some q → slice_index_or (fixed_keys qs) i None ≡ q.dead_letter_key
key_at [] i q e = absurd (cc)
key_at (x ∷ xs) zero q e = let h : Some x ≡ Some q = e in let same : x ≡ q = cc in ap (λ (z : DeclaredQueue). z.dead_letter_key) same
key_at (x ∷ xs) (suc i) q e = key_at xs i q e

pub refixed_key : (t : Topology) (i : ℕ) (exchange key : Text) → Refixes t i exchange key → fixed_of t (Some i) ≡ Some key
refixed_key t i exchange key r = key_at t.queues i r.queue r.is_there ∙ r.own

pub refixed_within : (t : Topology) (i : ℕ) (exchange key : Text) → Refixes t i exchange key → i < length t.queues
refixed_within t i exchange key r = slice_get_within t.queues i r.queue r.is_there

-- it sends them to one exchange, under one key
pub refixed_once : (t : Topology) (i : ℕ) (exchange key exchange' key' : Text) → Refixes t i exchange key → Refixes t i exchange' key' → (exchange ≡ exchange') × (key ≡ key')
refixed_once t i exchange key exchange' key' r s =
    let same : r.queue ≡ s.queue = some_same (slice_get t.queues i) r.queue s.queue r.is_there s.is_there in
    let a : Some exchange ≡ Some exchange' = sym r.dead ∙ ap (λ (z : DeclaredQueue). z.dead_letter_exchange) same ∙ s.dead in
    let b : Some key ≡ Some key' = sym r.own ∙ ap (λ (z : DeclaredQueue). z.dead_letter_key) same ∙ s.own in
    ((cc), (cc))

-- ---- visit by visit

pub not_some : (o : Option ℕ) → is_some o ≡ false → o ≡ None
not_some None e = refl
not_some (Some n) e = absurd (false≢true (sym e))

pub exploring_first : (t : Topology) (x key : Text) (spot : Spot) (rows rows' : List (List Bool)) (new : List Visit) → IsSpotThere t spot → spot_place t spot ≡ destination.Exchange x
    → AddsVisit t (record { spot = spot; fixed = None }) 0 rows [] rows' new → Exploring t x key rows' new 0
exploring_first t x key spot rows rows' new h p a =
    let s = searching_first t key x [] spot rows rows' new h p a in
    record { kept = s.kept; traced = s.traced; heads = heads a.is; within = omega arith; left = λ i v k g. absurd (omega (arith, k)) }
  where
    heads : IsAdded (record { spot = spot; fixed = None }) 0 [] new → (v : Visit) → IsIn v new → KeptOrFixed t v
    heads (inl k) v i = absurd (k.1.1)
    heads (inr e) v i = elim (subst (λ (z : List Visit). IsIn v z) e i) [ inl s ↦ inl (ap (λ (z : Visit). z.location.fixed) s) | inr z ↦ absurd z ]

-- a queue fixed the key, so it is not left
pub goes_past : (t : Topology) (x key : Text) (at : ℕ) (rows : List (List Bool)) (visits : List Visit) (v : Visit) → at < length visits → slice_get visits at ≡ Some v → is_some v.location.fixed ≡ true → Exploring t x key rows visits at
    → GoesOn t x key at rows visits rows visits
goes_past t x key at rows visits v h g f s = record {
  so_far = record {
    kept = s.kept;
    traced = s.traced;
    heads = s.heads;
    within = omega (arith, h);
    left = λ i w k e. (elim (below_or i at k) [
      | inl b ↦ s.left i w b e
      | inr b ↦ λ n. absurd (
          let same : w ≡ v = some_same (slice_get visits at) w v (subst (λ (j : ℕ). slice_get visits j ≡ Some w) b e) g in
          let no : is_some v.location.fixed ≡ false = ap (λ (z : Visit). is_some z.location.fixed) (sym same) ∙ ap (λ (z : Option ℕ). is_some z) n in
          false≢true (sym no ∙ f))
    ]);
  };
  count = refl;
}

now_left : (t : Topology) (key : Text) (at : ℕ) (rows rows' : List (List Bool)) (old new : List Visit) → (e : ExpandsVisit t key at rows old rows' new) → IsLeft t key new e.visit
now_left t key at rows rows' old new e n = now_visited t key at rows rows' old new e

heads_then : (t : Topology) (key : Text) (at : ℕ) (rows rows' : List (List Bool)) (old new : List Visit) → (e : ExpandsVisit t key at rows old rows' new) → e.visit.location.fixed ≡ None → ((v : Visit) → IsIn v old → KeptOrFixed t v)
    → (v : Visit) → IsIn v new → KeptOrFixed t v
heads_then t key at rows rows' old new e n f v i = elim (in_append old e.grows.more v (subst (λ (z : List Visit). IsIn v z) e.grows.is i)) [
  | inl k ↦ f v k
  | inr k ↦ (elim (e.next.heads v.location (e.grows.only v k).1) [ inl s ↦ inl (s ∙ n) | inr r ↦ inr r ])
]

pub goes_then : (t : Topology) (x key : Text) (at : ℕ) (rows rows' : List (List Bool)) (old new : List Visit) → at < length old → Exploring t x key rows old at → (e : ExpandsVisit t key at rows old rows' new) → e.visit.location.fixed ≡ None
    → GoesOn t x key at rows old rows' new
goes_then t x key at rows rows' old new h s e f = record {
  so_far = record {
    kept = e.grows.kept;
    traced = traced_then t key x at rows rows' old new s.traced e;
    heads = heads_then t key at rows rows' old new e f s.heads;
    within = (let n : length new ≡ length old + length e.grows.more = ap (λ (z : List Visit). length z) e.grows.is ∙ length-append old e.grows.more in omega (arith, n, h));
    left = λ i v k g. (elim (below_or i at k) [
      | inl b ↦ (elim (get_after old e.grows.more i v (subst (λ (z : List Visit). slice_get z i ≡ Some v) e.grows.is g)) [
        | inl o ↦ λ n fixed to w. subst (λ (z : List Visit). IsVisitedAt t z fixed to) (sym e.grows.is) (met_then t old e.grows.more fixed to (s.left i v b o n fixed to w))
        | inr o ↦ absurd (let c = o.0 in omega (arith, c, b, h))
      ])
      | inr b ↦ (
          let there' : slice_get new at ≡ Some e.visit = subst (λ (z : List Visit). slice_get z at ≡ Some e.visit) (sym e.grows.is) (get_left old e.grows.more at e.visit e.is_there) in
          let here' : slice_get new at ≡ Some v = subst (λ (j : ℕ). slice_get new j ≡ Some v) b g in
          let same : e.visit ≡ v = some_same (slice_get new at) e.visit v there' here' in
          subst (λ (z : Visit). IsLeft t key new z) same (now_left t key at rows rows' old new e))
    ]);
  };
  count = e.grows.count;
}

pub goes_fewer : (t : Topology) (x key : Text) (at : ℕ) (rows rows' : List (List Bool)) (old new : List Visit) → at < length old → GoesOn t x key at rows old rows' new
    → left_all (width t) rows' + (length new - (at + 1)) < left_all (width t) rows + (length old - at)
goes_fewer t x key at rows rows' old new h g =
    let w = g.so_far.within in
    let k : left_all (width t) rows' + length new ≡ left_all (width t) rows + length old = g.count in
    omega (arith, w, k, h)

-- each was left
pub all_explored : (t : Topology) (x key : Text) (rows : List (List Bool)) (visits : List Visit) (count : ℕ) → Exploring t x key rows visits count → length visits ≤ count → AreExplored t x key visits
all_explored t x key rows visits count s h = record {
  there = s.traced.there;
  steps = inr s.traced;
  begun = (let f = s.traced.first in inl (record { visit = f.0; is_in = get_is_in visits 0 f.0 f.1; place = f.2; fixed = f.3 }));
  heads = s.heads;
  left = λ v m. (let i = in_at visits v m in s.left i.0 v (let k = i.1 in omega (arith, k, h)) i.2);
  sound = λ q v m o. (let i = in_at visits v m in onto_first t key x q visits s.traced (i.0 + 1) i.0 v (omega arith) i.2 o);
}

-- the exchange is not there
pub nothing_explored : (t : Topology) (x key : Text) → (x ≡ [] → ⊥) → (IsIn x (exchange_names t.exchanges) → ⊥) → AreExplored t x key []
nothing_explored t x key some absent = record {
  there = λ v m. absurd m;
  steps = inl refl;
  begun = inr (λ q c. comes_nowhere some absent c);
  heads = λ v m. absurd m;
  left = λ v m. absurd m;
  sound = λ q v m. absurd m;
}

-- ---- ways to a queue, by how many queues fix the key on them

pub data Trail (t : Topology) (q : Text) : ℕ → Text → Text → Type 0 where
  ends : {n : ℕ} {key x : Text} → RoutesBy t (of_key key) x q → Trail t q n key x
  goes : {n : ℕ} {key x p exchange : Text} (last : DeclaredQueue) → RoutesBy t (of_key key) x p → Dies t p exchange last → Trail t q n (key_after last.dead_letter_key key) exchange → Trail t q (suc n) key x

pub as_read : (f : Option Text) (key : Text) → reading_after f (of_key key) ≡ of_key (key_after f key)
as_read None key = refl
as_read (Some k) key = refl

rekeyed : (o f : Option Text) (key : Text) → key_after (fixed_after o f) key ≡ key_after o (key_after f key)
rekeyed None f key = refl
rekeyed (Some k) f key = refl

fixed_first : (o : Option Text) → fixed_after o None ≡ o
fixed_first None = refl
fixed_first (Some k) = refl

pub trail_of : (t : Topology) (key : Text) {f : Option Text} {x q : Text} → Comes t (of_key key) f x q → (n : ℕ) × Trail t q n (key_after f key) x
trail_of t key (routed {fixed = f} {x = x} {q = q} ro) = (0, ends (subst (λ (r : Reading). RoutesBy t r x q) (as_read f key) ro))
trail_of t key (dead {fixed = f} {x = x} {p = p} {exchange = exchange} {q = q} last ro d c) =
    let r = trail_of t key c in
    (suc r.0, goes last (subst (λ (r : Reading). RoutesBy t r x p) (as_read f key) ro) d (subst (λ (k : Text). Trail t q r.0 k exchange) (rekeyed last.dead_letter_key f key) r.1))

pub trail_comes : (t : Topology) {q : Text} {n : ℕ} {key x : Text} → Trail t q n key x → Comes t (of_key key) None x q
trail_comes t (ends ro) = routed ro
trail_comes t {q = q} (goes {key = key} {exchange = exchange} last ro d w) =
    dead last ro d (subst (λ (o : Option Text). Comes t (of_key key) o exchange q) (sym (fixed_first last.dead_letter_key)) (comes_fixed t last.dead_letter_key key {h = None} (trail_comes t w)))

-- a way to the queue leads out of what was explored where the key is fixed, or ends in it
module _ (t : Topology) (x key q : Text) (visits : List Visit) (e : AreExplored t x key visits) (G : Type 0) (limit : ℕ)
    (hit : (v : Visit) → IsIn v visits → v.location.fixed ≡ None → spot_place t v.location.spot ≡ destination.Queue q → G)
    (out : (m : ℕ) (v : Visit) → m < limit → IsIn v visits → (r : IsRefixed t v.location) → Trail t q m r.key r.exchange → G) where
  kept_key : (v : Visit) → IsIn v visits → fixed_of t v.location.fixed ≡ None → v.location.fixed ≡ None
  kept_key v i n = elim (e.heads v i) [
    | inl s ↦ s
    | inr r ↦ absurd (let h : Some r.key ≡ None = sym (refixed_key t r.queue r.exchange r.key r.fixes) ∙ ap (fixed_of t) (sym r.fixed) ∙ n in cc)
  ]

  next_met : {fixed' : Option Text} {from to : Destination} → IsVisitedAt t visits None from → Next t key None from fixed' to → IsVisitedAt t visits fixed' to
  next_met {fixed'} {from} {to} m n =
      e.left m.visit m.is_in (kept_key m.visit m.is_in m.fixed) fixed' to (subst (λ (z : Option Text). Next t key z (spot_place t m.visit.location.spot) fixed' to) (sym m.fixed) (subst (λ (z : Destination). Next t key None z fixed' to) (sym m.place) n))

  leads_met : {y z : Text} → Leads t (of_key key) y z → IsVisitedAt t visits None (destination.Exchange y) → IsVisitedAt t visits None (destination.Exchange z)
  leads_met here m = m
  leads_met (on {y = y} f l) m = leads_met l (next_met m (edge (destination.Exchange y) f))

  queue_met : {y p : Text} → RoutesBy t (of_key key) y p → IsVisitedAt t visits None (destination.Exchange y) → IsVisitedAt t visits None (destination.Queue p)
  queue_met {p = p} ro m = next_met (leads_met ro.1 m) (edge (destination.Queue p) ro.2)

  pub walk : {n : ℕ} {k y : Text} → Trail t q n k y → k ≡ key → n ≤ limit → IsVisitedAt t visits None (destination.Exchange y) → G
  walk {y = y} (ends ro) s h m =
      let a = queue_met (subst (λ (z : Text). RoutesBy t (of_key z) y q) s ro) m in
      hit a.visit a.is_in (kept_key a.visit a.is_in a.fixed) a.place
  walk {y = y} (goes {n = n} {key = k} {p = p} {exchange = exchange} last ro d w) s h m =
      let a = queue_met (subst (λ (z : Text). RoutesBy t (of_key z) y p) s ro) m in
      let b : IsVisitedAt t visits (fixed_after last.dead_letter_key None) (destination.Exchange exchange) = next_met a (dies last d) in
      at last.dead_letter_key b w (λ f g. walk w (f ∙ s) (omega (arith, h)) g)
    where
      at : (o : Option Text) → IsVisitedAt t visits (fixed_after o None) (destination.Exchange exchange) → Trail t q n (key_after o k) exchange
          → (key_after o k ≡ k → IsVisitedAt t visits None (destination.Exchange exchange) → G) → G
      at None b w f = f refl b
      at (Some j) b w f = elim (e.heads b.visit b.is_in) [
        | inl z ↦ absurd (let g : None ≡ Some j = sym (ap (fixed_of t) z) ∙ b.fixed in cc)
        | inr r ↦ (
            let g : Some r.key ≡ Some j = sym (refixed_key t r.queue r.exchange r.key r.fixes) ∙ ap (fixed_of t) (sym r.fixed) ∙ b.fixed in
            let same : j ≡ r.key = cc in
            let p : destination.Exchange exchange ≡ destination.Exchange r.exchange = sym b.place ∙ r.place in
            let to : exchange ≡ r.exchange = cc in
            out n b.visit (omega (arith, h)) b.is_in r (subst (λ (z : Text). Trail t q n z r.exchange) same (subst (λ (z : Text). Trail t q n j z) to w)))
      ]

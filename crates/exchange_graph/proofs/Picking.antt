-- The places of marks are those of the names that are picked.
use Rattle.exchange_graph.proofs.Names.{◌≡◌, ℕ, zero, suc, ◌+◌, ◌<◌, ◌≤◌, List, [], ◌∷◌, Bool, true, false, cond, refl, sym, subst, length, drop, get_or, inl, inr, arith, AllPairs, drop_more, length-map, at_drop_all, Text, Topology, IsIn, exchange_names, queue_names, Picks, none, pass, Leads, Routes, of_key, Exchange, DeclaredQueue, IsSet, AreFound, AreSeen, set_indices, exchange_name, queue_name, AreTargets, names_at, in_get}
use Rattle.model.specs.Routing.{take}

-- a place of a mark
record IsBetween (low high i : ℕ) : Type 0 where
  above : low ≤ i
  below : i < high

between_more : (b : Bool) (k n i : ℕ) (bs : List Bool) → (IsIn i (set_indices (k + 1) bs) → IsBetween (k + 1) (k + 1 + n) i) → IsIn i (cond b (k ∷ set_indices (k + 1) bs) (set_indices (k + 1) bs)) → IsBetween k (k + suc n) i
between_more true k n i bs ih h = elim h [
  | inl e ↦ record { above = omega (arith, e); below = omega (arith, e) }
  | inr r ↦ (let p = ih r in record { above = omega (arith, p.above); below = omega (arith, p.below) })
]
between_more false k n i bs ih h = let p = ih h in record { above = omega (arith, p.above); below = omega (arith, p.below) }

between : (k : ℕ) (bs : List Bool) (i : ℕ) → IsIn i (set_indices k bs) → IsBetween k (k + length bs) i
between k [] i h = absurd h
between k (b ∷ bs) i h = between_more b k (length bs) i bs (between (k + 1) bs i) h

pairs_cons : (x : ℕ) (xs : List ℕ) → ((y : ℕ) → IsIn y xs → x < y) → AllPairs (λ (i j : ℕ). i < j) xs → AllPairs (λ (i j : ℕ). i < j) (x ∷ xs)
pairs_cons x xs first rest i zero d h k = absurd (omega (arith, h))
pairs_cons x xs first rest zero (suc j) d h k = first (get_or xs j d) (in_get xs j d (omega (arith, k)))
pairs_cons x xs first rest (suc i) (suc j) d h k = rest i j d (omega (arith, h)) (omega (arith, k))

rising_more : (b : Bool) (k : ℕ) (bs : List Bool) → AllPairs (λ (i j : ℕ). i < j) (set_indices (k + 1) bs) → AllPairs (λ (i j : ℕ). i < j) (cond b (k ∷ set_indices (k + 1) bs) (set_indices (k + 1) bs))
rising_more true k bs ih = pairs_cons k (set_indices (k + 1) bs) (λ y h. (let p = between (k + 1) bs y h in omega (arith, p.above))) ih
rising_more false k bs ih = ih

rising : (k : ℕ) (bs : List Bool) → AllPairs (λ (i j : ℕ). i < j) (set_indices k bs)
rising k [] = λ i j d h q. absurd (omega (arith, q))
rising k (b ∷ bs) = rising_more b k bs (rising (k + 1) bs)

-- a mark stands exactly at the names with P, from k on
record Tells (P : Text → Type 0) (names : List Text) (k : ℕ) (bs : List Bool) : Type 0 where
  fits : k + length bs ≡ length names
  sound : (i : ℕ) → i < length bs → IsSet bs i → P (get_or names (k + i) [])
  all : (i : ℕ) → i < length bs → P (get_or names (k + i) []) → IsSet bs i

later : (P : Text → Type 0) (names : List Text) (k : ℕ) (b : Bool) (bs : List Bool) → Tells P names k (b ∷ bs) → Tells P names (k + 1) bs
later P names k b bs t =
    let at : (i : ℕ) → k + suc i ≡ k + 1 + i = λ (i : ℕ). omega arith in
    record {
      fits = omega (arith, t.fits);
      sound = λ i h s. subst (λ (n : ℕ). P (get_or names n [])) (at i) (t.sound (suc i) (omega (arith, h)) s);
      all = λ i h p. t.all (suc i) (omega (arith, h)) (subst (λ (n : ℕ). P (get_or names n [])) (sym (at i)) p);
    }

picks_more : (P : Text → Type 0) (names : List Text) (k : ℕ) (b : Bool) (bs : List Bool) → (b ≡ true → P (get_or names k [])) → (P (get_or names k []) → b ≡ true)
    → Picks P (drop (k + 1) names) (names_at names (set_indices (k + 1) bs)) → Picks P (get_or names k [] ∷ drop (k + 1) names) (names_at names (cond b (k ∷ set_indices (k + 1) bs) (set_indices (k + 1) bs)))
picks_more P names k true bs s a ih = take (s refl) ih
picks_more P names k false bs s a ih = pass (λ p. (let e = a p in cc)) ih

picks : (P : Text → Type 0) (names : List Text) (k : ℕ) (bs : List Bool) → Tells P names k bs → Picks P (drop k names) (names_at names (set_indices k bs))
picks P names k [] t =
    let e : drop k names ≡ [] = at_drop_all (λ (xs : List Text). xs) names k (omega (arith, t.fits)) in
    rw e none
picks P names k (b ∷ bs) t =
    let e : k + 0 ≡ k = omega arith in
    let f = t.fits in
    rw (drop_more names k [] (omega (arith, f)))
    (picks_more P names k b bs (λ q. subst (λ (n : ℕ). P (get_or names n [])) e (t.sound 0 (omega arith) q)) (λ p. t.all 0 (omega arith) (subst (λ (n : ℕ). P (get_or names n [])) (sym e) p))
    (picks P names (k + 1) bs (later P names k b bs t)))

pub targets_of : (t : Topology) (start key : Text) (found : List Bool) → AreFound t start key found → AreTargets t start key (set_indices 0 found)
targets_of t start key found f =
    let n : length (queue_names t.queues) ≡ length t.queues = length-map t.queues (λ (y : DeclaredQueue). y.name) in
    let at : (i : ℕ) → 0 + i ≡ i = λ (i : ℕ). omega arith in
    record {
      within = λ k d h. (let p = between 0 found (get_or (set_indices 0 found) k d) (in_get (set_indices 0 found) k d h) in omega (arith, p.below, f.room));
      rising = rising 0 found;
      picked = picks (Routes t start key) (queue_names t.queues) 0 found (record {
        fits = omega (arith, n, f.room);
        sound = λ i h s. subst (λ (m : ℕ). Routes t start key (queue_name t m)) (sym (at i)) (f.sound i (omega (arith, h, f.room)) s);
        all = λ i h p. f.all i (omega (arith, h, f.room)) (subst (λ (m : ℕ). Routes t start key (queue_name t m)) (at i) p);
      });
    }

pub seen_within : (t : Topology) (start key : Text) (seen : List Bool) → AreSeen t start key seen → (i d : ℕ) → i < length (set_indices 0 seen) → get_or (set_indices 0 seen) i d < length t.exchanges
seen_within t start key seen f i d h = let p = between 0 seen (get_or (set_indices 0 seen) i d) (in_get (set_indices 0 seen) i d h) in omega (arith, p.below, f.room)

pub seen_picked : (t : Topology) (start key : Text) (seen : List Bool) → AreSeen t start key seen → Picks (Leads t (of_key key) start) (exchange_names t.exchanges) (names_at (exchange_names t.exchanges) (set_indices 0 seen))
seen_picked t start key seen f =
    let n : length (exchange_names t.exchanges) ≡ length t.exchanges = length-map t.exchanges (λ (y : Exchange). y.name) in
    let at : (i : ℕ) → 0 + i ≡ i = λ (i : ℕ). omega arith in
    picks (Leads t (of_key key) start) (exchange_names t.exchanges) 0 seen (record {
      fits = omega (arith, n, f.room);
      sound = λ i h s. subst (λ (m : ℕ). Leads t (of_key key) start (exchange_name t m)) (sym (at i)) (f.sound i (omega (arith, h, f.room)) s);
      all = λ i h p. f.all i (omega (arith, h, f.room)) (subst (λ (m : ℕ). Leads t (of_key key) start (exchange_name t m)) (at i) p);
    })

-- Names, and where they stand.
use Rattle.exchange_graph.proofs.Names.{◌≡◌, ℕ, zero, suc, ◌+◌, ◌<◌, List, [], ◌∷◌, Bool, true, false, cond, refl, sym, ap, ◌∙◌, subst, length, map, get_or, inl, inr, arith, Contains, IfNone, bytes_eq, position_or_len, bytes_eq-Decides, length-map, Text, Topology, IsIn, AreDistinct, IsThere, IsWellFormed, exchange_names, queue_names, Exchange, DeclaredQueue, Destination, queue_name, exchange_index, queue_index, end_of, destination_of, EndsWithin, in_get, in_contains, contains_in}
use Rattle.std.specs.Prelude.{not, Option, Some, None, position, IfSome}
use Rattle.exchange_graph.proofs.Indices.{place_if_some, place_if_none}
use Rattle.model.specs.declared.topologies.Destination.TheVariants as destination

-- names that are apart stand in different places
pub apart_same : (names : List Text) (i j : ℕ) → AreDistinct names → i < length names → j < length names → get_or names i [] ≡ get_or names j [] → i ≡ j
apart_same [] i j a h k e = absurd (omega (arith, h))
apart_same (x ∷ xs) zero zero a h k e = refl
apart_same (x ∷ xs) zero (suc j) a h k e = absurd (a.0 (subst (λ (y : Text). IsIn y xs) (sym e) (in_get xs j [] (omega (arith, k)))))
apart_same (x ∷ xs) (suc i) zero a h k e = absurd (a.0 (subst (λ (y : Text). IsIn y xs) e (in_get xs i [] (omega (arith, h)))))
apart_same (x ∷ xs) (suc i) (suc j) a h k e = ap (λ (n : ℕ). suc n) (apart_same xs i j a.1 (omega (arith, h)) (omega (arith, k)) e)

pub get_map : {A B : Type 0} (f : A → B) (xs : List A) (i : ℕ) (d : A) (b : B) → i < length xs → get_or (map f xs) i b ≡ f (get_or xs i d)
get_map f [] i d b h = absurd (omega (arith, h))
get_map f (x ∷ xs) zero d b h = refl
get_map f (x ∷ xs) (suc i) d b h = get_map f xs i d b (omega (arith, h))

-- where a name that is there stands
pub record IsPlaceOf {A : Type 0} (name_of : A → Text) (xs : List A) (name : Text) (i : ℕ) : Type 0 where
  pub within : i < length xs
  pub named : get_or (map name_of xs) i [] ≡ name

place_at : {A : Type 0} (name_of : A → Text) (x : A) (xs : List A) (name : Text) (n : ℕ) (v : Bool) → (v ≡ true → name_of x ≡ name) → (v ≡ false → IsPlaceOf name_of xs name n)
    → IsPlaceOf name_of (x ∷ xs) name (cond (not v) (1 + n) 0)
place_at name_of x xs name n true d ih = record { within = omega arith; named = d refl }
place_at name_of x xs name n false d ih =
    let s : 1 + n ≡ suc n = omega arith in
    rw s (let p = ih refl in record { within = omega (arith, p.within); named = p.named })

pub named_place : {A : Type 0} (name_of : A → Text) (xs : List A) (name : Text) → IsIn name (map name_of xs) → IsPlaceOf name_of xs name (position_or_len (λ (x : A). bytes_eq (name_of x) name) xs)
named_place name_of [] name h = absurd h
named_place {A} name_of (x ∷ xs) name h =
    place_at name_of x xs name (position_or_len (λ (y : A). bytes_eq (name_of y) name) xs) (bytes_eq (name_of x) name) (bytes_eq-Decides (name_of x) name).0
    (λ no'. (elim h [
      | inl e ↦ (let yes' : bytes_eq (name_of x) name ≡ true = (bytes_eq-Decides (name_of x) name).1 (sym e) in absurd (cc))
      | inr r ↦ named_place name_of xs name r
    ]))

pub exchange_stands : (xs : List Exchange) (name : Text) → IsIn name (exchange_names xs) → (exchange_index xs name < length xs) × (get_or (exchange_names xs) (exchange_index xs name) [] ≡ name)
exchange_stands xs name h = let p = named_place (λ (x : Exchange). x.name) xs name h in (p.within, p.named)

pub queue_stands : (qs : List DeclaredQueue) (name : Text) → IsIn name (queue_names qs) → (queue_index qs name < length qs) × (get_or (queue_names qs) (queue_index qs name) [] ≡ name)
queue_stands qs name h = let p = named_place (λ (q : DeclaredQueue). q.name) qs name h in (p.within, p.named)

-- a place that is there is found again
pub place_again : (t : Topology) (to : Destination) → IsThere t to → destination_of t (end_of t.exchanges t.queues to) ≡ to
place_again t (destination.Exchange name) h = ap (λ (x : Text). destination.Exchange x) (exchange_stands t.exchanges name h).1
place_again t (destination.Queue name) h = ap (λ (x : Text). destination.Queue x) (queue_stands t.queues name h).1

pub ends_within : (t : Topology) (to : Destination) → IsThere t to → EndsWithin (length t.exchanges) (length t.queues) (end_of t.exchanges t.queues to)
ends_within t (destination.Exchange name) h = (exchange_stands t.exchanges name h).0
ends_within t (destination.Queue name) h = (queue_stands t.queues name h).0

-- an exchange is known by its name
pub same_exchange : (t : Topology) (x y : Exchange) → IsWellFormed t → Contains t.exchanges x → Contains t.exchanges y → x.name ≡ y.name → x ≡ y
same_exchange t x y w c d e =
    let n : length (exchange_names t.exchanges) ≡ length t.exchanges = length-map t.exchanges (λ (z : Exchange). z.name) in
    let a : get_or (exchange_names t.exchanges) c.0 [] ≡ x.name = get_map (λ (z : Exchange). z.name) t.exchanges c.0 x [] c.1 ∙ ap (λ (z : Exchange). z.name) c.2 in
    let b : get_or (exchange_names t.exchanges) d.0 [] ≡ y.name = get_map (λ (z : Exchange). z.name) t.exchanges d.0 y [] d.1 ∙ ap (λ (z : Exchange). z.name) d.2 in
    let s : c.0 ≡ d.0 = apart_same (exchange_names t.exchanges) c.0 d.0 w.exchanges_distinct (omega (arith, n, c.1)) (omega (arith, n, d.1)) (a ∙ e ∙ sym b) in
    same_at t.exchanges c.0 x y c.1 c.2 (subst (λ (i : ℕ). get_or t.exchanges i y ≡ y) (sym s) d.2)
  where
    same_at : (xs : List Exchange) (i : ℕ) (x y : Exchange) → i < length xs → get_or xs i x ≡ x → get_or xs i y ≡ y → x ≡ y
    same_at [] i x y h p q = absurd (omega (arith, h))
    same_at (z ∷ zs) zero x y h p q = sym p ∙ q
    same_at (z ∷ zs) (suc i) x y h p q = same_at zs i x y (omega (arith, h)) p q

-- the first place at which the test passes has the name
named_at : {A : Type 0} (name_of : A → Text) (x : A) (xs : List A) (name : Text) (n : ℕ) (v : Bool) → (v ≡ true → name_of x ≡ name) → (n < length xs → get_or (map name_of xs) n [] ≡ name)
    → cond (not v) (1 + n) 0 < suc (length xs) → get_or (map name_of (x ∷ xs)) (cond (not v) (1 + n) 0) [] ≡ name
named_at name_of x xs name n true d ih h = d refl
named_at name_of x xs name n false d ih h =
    let s : 1 + n ≡ suc n = omega arith in
    rw s (ih (omega (arith, h)))

pub first_named : {A : Type 0} (name_of : A → Text) (xs : List A) (name : Text) → position_or_len (λ (x : A). bytes_eq (name_of x) name) xs < length xs
    → get_or (map name_of xs) (position_or_len (λ (x : A). bytes_eq (name_of x) name) xs) [] ≡ name
first_named name_of [] name h = absurd (omega (arith, h))
first_named {A} name_of (x ∷ xs) name h =
    named_at name_of x xs name (position_or_len (λ (y : A). bytes_eq (name_of y) name) xs) (bytes_eq (name_of x) name) (bytes_eq-Decides (name_of x) name).0 (first_named name_of xs name) h

-- the one at a place
pub record IsAt {A : Type 0} (name_of : A → Text) (xs : List A) (i : ℕ) (x : A) : Type 0 where
  pub is_one : Contains xs x
  pub named : name_of x ≡ get_or (map name_of xs) i []

pub one_at : {A : Type 0} (name_of : A → Text) (xs : List A) (i : ℕ) → i < length xs → (x : A) × IsAt name_of xs i x
one_at name_of [] i h = absurd (omega (arith, h))
one_at name_of (x ∷ xs) zero h = (x, record { is_one = contains_in (x ∷ xs) x (inl refl); named = refl })
one_at name_of (x ∷ xs) (suc i) h =
    let m = one_at name_of xs i (omega (arith, h)) in
    (m.0, record { is_one = contains_in (x ∷ xs) m.0 (inr (in_contains xs m.0 m.1.is_one)); named = m.1.named })

pub named_if_some : {A : Type 0} (name_of : A → Text) (xs : List A) (name : Text) (o : Option ℕ) → o ≡ position (λ (x : A). bytes_eq (name_of x) name) xs → IfSome o (λ i. i < length xs)
    → IfSome o (λ i. get_or (map name_of xs) i [] ≡ name)
named_if_some name_of xs name None e w = tt
named_if_some {A} name_of xs name (Some i) e w =
    let s : i ≡ position_or_len (λ (x : A). bytes_eq (name_of x) name) xs = place_if_some (λ (x : A). bytes_eq (name_of x) name) xs i (sym e) in
    let w' : position_or_len (λ (x : A). bytes_eq (name_of x) name) xs < length xs = subst (λ (n : ℕ). n < length xs) s w in
    subst (λ (n : ℕ). get_or (map name_of xs) n [] ≡ name) (sym s) (first_named name_of xs name w')

pub absent_if_none : {A : Type 0} (name_of : A → Text) (xs : List A) (name : Text) (o : Option ℕ) → o ≡ position (λ (x : A). bytes_eq (name_of x) name) xs
    → IfNone o (IsIn name (map name_of xs) → ⊥)
absent_if_none {A} name_of xs name None e = λ h. (
    let s : length xs ≡ position_or_len (λ (x : A). bytes_eq (name_of x) name) xs = place_if_none (λ (x : A). bytes_eq (name_of x) name) xs (sym e) in
    let p = named_place name_of xs name h in
    absurd (omega (arith, s, p.within)))
absent_if_none name_of xs name (Some i) e = tt

-- a queue is known by its name
pub same_queue : (t : Topology) (q : DeclaredQueue) (at : ℕ) → IsWellFormed t → Contains t.queues q → at < length t.queues → queue_name t at ≡ q.name → get_or t.queues at q ≡ q
same_queue t q at w c h e =
    let n : length (queue_names t.queues) ≡ length t.queues = length-map t.queues (λ (z : DeclaredQueue). z.name) in
    let a : get_or (queue_names t.queues) c.0 [] ≡ q.name = get_map (λ (z : DeclaredQueue). z.name) t.queues c.0 q [] c.1 ∙ ap (λ (z : DeclaredQueue). z.name) c.2 in
    let s : c.0 ≡ at = apart_same (queue_names t.queues) c.0 at w.queues_distinct (omega (arith, n, c.1)) (omega (arith, n, h)) (a ∙ sym e) in
    subst (λ (i : ℕ). get_or t.queues i q ≡ q) s c.2

pub get_any : {A : Type 0} (xs : List A) (i : ℕ) (d e : A) → i < length xs → get_or xs i d ≡ get_or xs i e
get_any [] i d e h = absurd (omega (arith, h))
get_any (x ∷ xs) zero d e h = refl
get_any (x ∷ xs) (suc i) d e h = get_any xs i d e (omega (arith, h))

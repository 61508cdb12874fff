-- Deaths, planned and counted one after another.
use Rattle.depot.proofs.Names.{◌≡◌, ℕ, zero, suc, ◌<◌, List, [], ◌∷◌, ◌++◌, length, get_or, refl, sym, ap, ◌∙◌, arith, append_assoc, append-nil, Topology, queue_names, Entry, DeclaredQueue, Delivery, Death, Plans, given_at, ArePlanned}

-- ---- one more is planned

pub planned_more : (t : Topology) (c h : ℕ) (entries : List (List Entry)) (gs : List Delivery) (g : Delivery) (ds first all : List Death) → ArePlanned t c h entries gs ds → Plans t c h g (given_at c h entries g) first
    → all ≡ ds ++ first → ArePlanned t c h entries (gs ++ g ∷ []) all
planned_more t c h entries [] g ds first all are one e = (first, [], one, e ∙ ap (λ (xs : List Death). xs ++ first) are ∙ sym (append-nil first), refl)
planned_more t c h entries (x ∷ xs) g ds first all are one e =
    (are.0, are.1 ++ first, are.2, e ∙ ap (λ (ys : List Death). ys ++ first) are.3 ∙ append_assoc are.0 are.1 first, planned_more t c h entries xs g are.1 first (are.1 ++ first) are.4 one refl)

-- the queue at a place
pub queue_there : (qs : List DeclaredQueue) (i : ℕ) → i < length qs → (q : DeclaredQueue) × (q ≡ get_or qs i q)
queue_there [] i lt = absurd (omega arith)
queue_there (q ∷ qs) zero lt = (q, refl)
queue_there (q ∷ qs) (suc i) lt = queue_there qs i (omega arith)

-- ---- names

pub name_there : (qs : List DeclaredQueue) (i : ℕ) (q : DeclaredQueue) → i < length qs → q ≡ get_or qs i q → q.name ≡ get_or (queue_names qs) i []
name_there [] i q lt is = absurd (omega arith)
name_there (x ∷ xs) zero q lt is = ap (λ (y : DeclaredQueue). y.name) is
name_there (x ∷ xs) (suc i) q lt is = name_there xs i q (omega arith) is

-- Queues taken over, place by place and by their names.
use Rattle.depot.proofs.Names.{◌≡◌, ℕ, zero, suc, ◌+◌, ◌<◌, ◌≤◌, List, [], ◌∷◌, ◌++◌, length, get_or, set, map, drop, refl, sym, ap, subst, ◌∙◌, arith, Bool, true, false, cond, inl, inr, bytes_eq, bytes_eq-Decides, false≢true, leb_tells, length-append, length-set, length-replicate, Text, IsIn, AreDistinct, queue_names, listed, survived_now, Entry, IsMoved, stays, goes, AreMoved, GoneAreEmpty, taken, Line, Store, entries_named, entries_of}
use Rattle.std.specs.Prelude.{replicate}
use Rattle.depot.proofs.Changes.{entries_of-set}
use Rattle.depot.proofs.Naming.{names-length, same_name, other_name, is_in, listed_at}
use Rattle.depot.proofs.Named.{listed-put}

-- ---- one exchange

set_behind : {X : Type 0} (xs : List X) (i : ℕ) (x : X) → length xs ≤ i → set xs i x ≡ xs
set_behind [] i x h = refl
set_behind (y ∷ xs) zero x h = absurd (omega arith)
set_behind {X = X} (y ∷ xs) (suc i) x h = ap (λ (ys : List X). y ∷ ys) (set_behind xs i x (omega arith))

drop_suc_set : {X : Type 0} (xs : List X) (i : ℕ) (x : X) → drop (suc i) (set xs i x) ≡ drop (suc i) xs
drop_suc_set [] i x = refl
drop_suc_set (y ∷ xs) zero x = refl
drop_suc_set (y ∷ xs) (suc i) x = drop_suc_set xs i x

drop_set : {X : Type 0} (xs : List X) (i : ℕ) (x : X) → drop (i + 1) (set xs i x) ≡ drop (i + 1) xs
drop_set {X = X} xs i x = let e : i + 1 ≡ suc i = omega arith in ap (λ (n : ℕ). drop n (set xs i x)) e ∙ drop_suc_set xs i x ∙ ap (λ (n : ℕ). drop n xs) (sym e)

-- a queue is written twice, and those behind it stay
pub drop_twice : (ls : List Line) (i : ℕ) (a b : Line) → drop (i + 1) (entries_of (set (set ls i a) i b)) ≡ drop (i + 1) (entries_of ls)
drop_twice ls i a b =
    ap (drop (i + 1)) (entries_of-set (set ls i a) i b b.entries refl ∙ ap (λ (ess : List (List Entry)). set ess i b.entries) (entries_of-set ls i a a.entries refl))
    ∙ drop_set (set (entries_of ls) i a.entries) i b.entries
    ∙ drop_set (entries_of ls) i a.entries

-- ---- lists by names

is_name : (a b : Text) → bytes_eq a b ≡ true → a ≡ b
is_name a b e = (bytes_eq-Decides a b).0 e

-- a name that is not there has none
unlisted : (names : List Text) (lists : List (List Entry)) (q : Text) → (IsIn q names → ⊥) → listed names lists q ≡ []
unlisted [] lists q not = refl
unlisted (n ∷ ns) [] q not = refl
unlisted (n ∷ ns) (es ∷ lists) q not = rw (other_name n q (λ e. not (inl (sym e)))) (unlisted ns lists q (λ i. not (inr i)))

all_empty : (names : List Text) (n : ℕ) (q : Text) → listed names (replicate n []) q ≡ []
all_empty [] n q = refl
all_empty (x ∷ ns) zero q = refl
all_empty (x ∷ ns) (suc n) q = go (bytes_eq x q) (all_empty ns n q)
  where
    go : (v : Bool) → listed ns (replicate n []) q ≡ [] → cond v [] (listed ns (replicate n []) q) ≡ []
    go true e = refl
    go false e = e

-- ---- all that is taken over

-- one more is taken over
pub taken_next : (places : List ℕ) (olds news : List (List Entry)) (i : ℕ) → i < length places → length places ≡ length olds
    → taken (drop i places) (drop i olds) news ≡ taken (drop (i + 1) places) (drop (i + 1) olds) (set news (get_or places i 0) (map survived_now (get_or olds i [])))
taken_next [] olds news i lt len = absurd (omega (arith, lt))
taken_next (p ∷ ps) [] news i lt len = absurd (omega (arith, len))
taken_next (p ∷ ps) (es ∷ olds) news zero lt len = refl
taken_next (p ∷ ps) (es ∷ olds) news (suc i) lt len =
    let step : suc (i + 1) ≡ suc i + 1 = omega arith in
    taken_next ps olds news i (omega (arith, lt)) (omega (arith, len))
    ∙ ap (λ (n : ℕ). taken (drop n (p ∷ ps)) (drop n (es ∷ olds)) (set news (get_or ps i 0) (map survived_now (get_or olds i [])))) step

-- The queue is at the index of its name, or is gone and has no entry.
data IsTaken (names : List Text) (q : Text) (p : ℕ) (entries : List Entry) : Type 0 where
  kept : p < length names → get_or names p [] ≡ q → IsTaken names q p entries
  gone : (IsIn q names → ⊥) → length names ≤ p → entries ≡ [] → IsTaken names q p entries

abbrev AreTaken : List Text → List Text → List ℕ → List (List Entry) → Type 0
AreTaken names [] [] [] = Unit {0}
AreTaken names (n ∷ ns) (p ∷ ps) (es ∷ olds) = IsTaken names n p es × AreTaken names ns ps olds
AreTaken names ns ps olds = ⊥

-- what a name has among the lists, or else what is given
abbrev listed_or : List Text → List (List Entry) → Text → List Entry → List Entry
listed_or [] lists q d = d
listed_or (n ∷ ns) [] q d = d
listed_or (n ∷ ns) (es ∷ lists) q d = cond (bytes_eq n q) (map survived_now es) (listed_or ns lists q d)

or_nothing : (names : List Text) (lists : List (List Entry)) (q : Text) → listed_or names lists q [] ≡ map survived_now (listed names lists q)
or_nothing [] lists q = refl
or_nothing (n ∷ ns) [] q = refl
or_nothing (n ∷ ns) (es ∷ lists) q = go (bytes_eq n q) (or_nothing ns lists q)
  where
    go : (v : Bool) → listed_or ns lists q [] ≡ map survived_now (listed ns lists q) → cond v (map survived_now es) (listed_or ns lists q []) ≡ map survived_now (cond v es (listed ns lists q))
    go true e = refl
    go false e = e

or_unlisted : (names : List Text) (lists : List (List Entry)) (q : Text) (d : List Entry) → (IsIn q names → ⊥) → listed_or names lists q d ≡ d
or_unlisted [] lists q d not = refl
or_unlisted (n ∷ ns) [] q d not = refl
or_unlisted (n ∷ ns) (es ∷ lists) q d not = rw (other_name n q (λ e. not (inl (sym e)))) (or_unlisted ns lists q d (λ i. not (inr i)))

-- the queue that is moved has its entries, each marked as one that the reload found
here_taken : (names : List Text) (n : Text) (p : ℕ) (es : List Entry) (news : List (List Entry)) → AreDistinct names → length news ≡ length names → IsTaken names n p es → listed names (set news p (map survived_now es)) n ≡ map survived_now es
here_taken names n p es news distinct len (kept lt is) =
    let now : List Entry = map survived_now es in
    listed-put names news p now n distinct (sym len) lt ∙ ap (λ (b : Bool). cond b now (listed names news n)) (subst (λ (z : Text). bytes_eq (get_or names p []) z ≡ true) is (same_name (get_or names p [])))
here_taken names n p es news distinct len (gone not behind none) = unlisted names (set news p (map survived_now es)) n not ∙ ap (λ (xs : List Entry). map survived_now xs) (sym none)

-- and the others theirs
others_taken : (names : List Text) (n : Text) (p : ℕ) (es : List Entry) (news : List (List Entry)) (q : Text) → AreDistinct names → (n ≡ q → ⊥) → length news ≡ length names → IsTaken names n p es
    → listed names (set news p (map survived_now es)) q ≡ listed names news q
others_taken names n p es news q distinct ne len (kept lt is) =
    let now : List Entry = map survived_now es in
    listed-put names news p now q distinct (sym len) lt ∙ ap (λ (b : Bool). cond b now (listed names news q)) (other_name (get_or names p []) q (λ e. ne (sym is ∙ e)))
others_taken names n p es news q distinct ne len (gone not behind none) = ap (λ (ls : List (List Entry)). listed names ls q) (set_behind news p (map survived_now es) (omega arith))

all_taken : (names ns : List Text) (ps : List ℕ) (olds news : List (List Entry)) (q : Text) → AreDistinct names → AreDistinct ns → length news ≡ length names → AreTaken names ns ps olds
    → listed names (taken ps olds news) q ≡ listed_or ns olds q (listed names news q)
all_taken names [] [] [] news q distinct distinct' len t = refl
all_taken names (n ∷ ns) (p ∷ ps) (es ∷ olds) news q distinct distinct' len (t, ts) =
    all_taken names ns ps olds (set news p (map survived_now es)) q distinct distinct'.1 (length-set news p (map survived_now es) ∙ len) ts ∙ go (bytes_eq n q) refl
  where
    go : (v : Bool) → bytes_eq n q ≡ v → listed_or ns olds q (listed names (set news p (map survived_now es)) q) ≡ cond v (map survived_now es) (listed_or ns olds q (listed names news q))
    go true e =
        let is = is_name n q e in
        or_unlisted ns olds q (listed names (set news p (map survived_now es)) q) (λ i. distinct'.0 (subst (λ (z : Text). IsIn z ns) (sym is) i))
        ∙ subst (λ (z : Text). listed names (set news p (map survived_now es)) z ≡ map survived_now es) is (here_taken names n p es news distinct len t)
    go false e =
        ap (λ (z : List Entry). listed_or ns olds q z) (others_taken names n p es news q distinct (λ is. false≢true (sym e ∙ subst (λ (z : Text). bytes_eq n z ≡ true) is (same_name n))) len t)
all_taken names [] [] (es ∷ olds) news q distinct distinct' len t = absurd t
all_taken names [] (p ∷ ps) olds news q distinct distinct' len t = absurd t
all_taken names (n ∷ ns) [] olds news q distinct distinct' len t = absurd t
all_taken names (n ∷ ns) (p ∷ ps) [] news q distinct distinct' len t = absurd t

-- ---- from the table

-- the queues behind the first one are moved too
rest_moved : (n : Text) (ns new : List Text) (p : ℕ) (ps : List ℕ) → AreMoved (n ∷ ns) new (p ∷ ps) → AreMoved ns new ps
rest_moved n ns new p ps m = record {
  len = (let e : suc (length ps) ≡ suc (length ns) = m.len in omega (arith, e));
  each = λ k lt. m.each (suc k) (omega (arith, lt));
}

-- a list that has no index in the new topology is empty, by the name that it has
record GoneHere (old new : List Text) (olds : List (List Entry)) : Type 0 where
  none : (k : ℕ) → k < length old → (IsIn (get_or old k []) new → ⊥) → get_or olds k [] ≡ []

one_taken : (n : Text) (new : List Text) (p : ℕ) (es : List Entry) → ((IsIn n new → ⊥) → es ≡ []) → IsMoved new n p → IsTaken new n p es
one_taken n new p es none (stays lt is) = kept lt is
one_taken n new p es none (goes not behind) = gone not behind (none not)

tabled : (old new : List Text) (places : List ℕ) (olds : List (List Entry)) → length olds ≡ length old → AreMoved old new places → GoneHere old new olds → AreTaken new old places olds
tabled [] new [] [] len m g = tt
tabled [] new (p ∷ ps) olds len m g = absurd (let e : suc (length ps) ≡ 0 = m.len in omega (arith, e))
tabled [] new [] (es ∷ olds) len m g = absurd (omega (arith, len))
tabled (n ∷ ns) new [] olds len m g = absurd (let e : 0 ≡ suc (length ns) = m.len in omega (arith, e))
tabled (n ∷ ns) new (p ∷ ps) [] len m g = absurd (omega (arith, len))
tabled (n ∷ ns) new (p ∷ ps) (es ∷ olds) len m g = (
  one_taken n new p es (g.none 0 (omega arith)) (m.each 0 (omega arith)),
  tabled ns new ps olds (omega (arith, len)) (rest_moved n ns new p ps m) (record { none = λ k lt. g.none (suc k) (omega (arith, lt)) }),
)

-- each name has the entries that it had, each marked as one that the reload found
names_taken : (old new : List Text) (places : List ℕ) (olds : List (List Entry)) (n : ℕ) → AreDistinct old → AreDistinct new → length olds ≡ length old → n ≡ length new → AreMoved old new places
    → ((q : Text) → IsIn q old → (IsIn q new → ⊥) → listed old olds q ≡ []) → (q : Text)
    → listed new (taken places olds (replicate n [])) q ≡ map survived_now (listed old olds q)
names_taken old new places olds n distinct distinct' len is m none_left q =
    let none : List Entry = [] in
    let here : GoneHere old new olds = record { none = λ k lt not. sym (listed_at old olds k distinct (sym len) lt) ∙ none_left (get_or old k []) (is_in old k lt) not } in
    all_taken new old places olds (replicate n []) q distinct' distinct (length-replicate n none ∙ is) (tabled old new places olds len m here)
    ∙ ap (λ (z : List Entry). listed_or old olds q z) (all_empty new n q)
    ∙ or_nothing old olds q

-- .. and the same of a whole store, whose queues are empty before
pub store_taken : (old self : Store) (places : List ℕ) (now : List (List Entry)) → AreDistinct (queue_names old.topology.queues) → AreDistinct (queue_names self.topology.queues)
    → length old.queues ≡ length old.topology.queues → AreMoved (queue_names old.topology.queues) (queue_names self.topology.queues) places
    → self.queues ≡ replicate (length self.topology.queues) [] → GoneAreEmpty old (queue_names self.topology.queues) → now ≡ taken places old.queues self.queues → (q : Text)
    → listed (queue_names self.topology.queues) now q ≡ map survived_now (entries_named old q)
store_taken old self places now distinct distinct' len m empty none_left is q =
    let names = queue_names self.topology.queues in
    let n = names-length old.topology.queues in
    ap (λ (ls : List (List Entry)). listed names ls q) (is ∙ ap (taken places old.queues) empty)
    ∙ names_taken (queue_names old.topology.queues) names places old.queues (length self.topology.queues) distinct distinct' (len ∙ sym n) (sym (names-length self.topology.queues)) m none_left q

-- ---- the table

-- so much of it is made
pub record AreMovedBelow (old new : List Text) (places : List ℕ) (n : ℕ) : Type 0 where
  pub len : length places ≡ n
  pub each : (k : ℕ) → k < n → IsMoved new (get_or old k []) (get_or places k 0)

-- the next name gets its place
pub one_moved : (old new : List Text) (places now : List ℕ) (n m place : ℕ) (q : Text) → m ≡ n + 1 → get_or old n [] ≡ q → now ≡ places ++ place ∷ [] → IsMoved new q place → AreMovedBelow old new places n
    → AreMovedBelow old new now m
one_moved old new places now n m place q next at is moved b = subst (λ (ps : List ℕ). AreMovedBelow old new ps m) (sym is) (record {
  len = (let l = b.len in let k = length-append places (place ∷ []) in omega (arith, l, k));
  each = λ k lt. elim (leb_tells n k) [
    | inl e ↦
        let le = e.1 in
        let same : k ≡ n = omega (arith, lt, next, le) in
        let here : get_or (places ++ place ∷ []) k 0 ≡ place = ap (λ (i : ℕ). get_or (places ++ place ∷ []) i 0) (same ∙ sym b.len) ∙ at_end places place in
        subst (λ (p : ℕ). IsMoved new (get_or old k []) p) (sym here) (subst (λ (t : Text). IsMoved new t place) (sym (ap (λ (i : ℕ). get_or old i []) same ∙ at)) moved)
    | inr e ↦
        let less = e.1 in
        let l = b.len in
        subst (λ (p : ℕ). IsMoved new (get_or old k []) p) (sym (before_end places place k (omega (arith, less, l)))) (b.each k (omega (arith, less)))
  ];
})
  where
    at_end : (ps : List ℕ) (p : ℕ) → get_or (ps ++ p ∷ []) (length ps) 0 ≡ p
    at_end [] p = refl
    at_end (x ∷ ps) p = at_end ps p

    before_end : (ps : List ℕ) (p k : ℕ) → k < length ps → get_or (ps ++ p ∷ []) k 0 ≡ get_or ps k 0
    before_end [] p k lt = absurd (omega arith)
    before_end (x ∷ ps) p zero lt = refl
    before_end (x ∷ ps) p (suc k) lt = before_end ps p k (omega arith)

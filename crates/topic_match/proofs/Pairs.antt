-- The pairs of a beginning and a number of words that it matches.
use Rattle.topic_match.proofs.Names.{◌≡◌, ℕ, zero, suc, ◌+◌, ◌≤◌, ◌<◌, List, [], ◌∷◌, ◌++◌, Bool, true, false, refl, sym, ap, ◌∙◌, subst, length, take, drop, get_or, inl, inr, arith, length-append, false≢true, take-append-drop, Text, words, Matches, IsIn, Token, Node, Met, AllDistinct, Begins, Pair, IsPair, IsCounted, trues, AreLinked, node_at, beginning_at, IsTrie, nodes_of, AreMet, trues_in}
use Rattle.topic_match.proofs.Lists.{in_front, in_back, in_two, apart_two, in_at}
use Rattle.topic_match.proofs.Grown.{same_default}
use Rattle.topic_match.proofs.Ending.{met_node}
use Rattle.topic_match.proofs.Walking.{node_in, root_is, up}

-- ---- the pairs of one beginning

abbrev pair_of : List Token → ℕ → Pair
pair_of b i = record { start = b; taken = i }

abbrev pairs_from : List Token → ℕ → List Bool → List Pair
pairs_from b i [] = []
pairs_from b i (true ∷ cs) = pair_of b i ∷ pairs_from b (suc i) cs
pairs_from b i (false ∷ cs) = pairs_from b (suc i) cs

size_from : (b : List Token) (i : ℕ) (cs : List Bool) → length (pairs_from b i cs) ≡ trues cs
size_from b i [] = refl
size_from b i (true ∷ cs) = let h = size_from b (suc i) cs in omega (arith, h)
size_from b i (false ∷ cs) = let h = size_from b (suc i) cs in omega (arith, h)

-- which pair it is
record IsOne (b : List Token) (i : ℕ) (cs : List Bool) (p : Pair) : Type 0 where
  start : p.start ≡ b
  at : ℕ
  taken : p.taken ≡ i + at
  told : get_or cs at false ≡ true

later : (b : List Token) (i : ℕ) (c : Bool) (cs : List Bool) (p : Pair) → IsOne b (suc i) cs p → IsOne b i (c ∷ cs) p
later b i c cs p o = record { start = o.start; at = suc o.at; taken = (let h = o.taken in omega (arith, h)); told = o.told }

one_from : (b : List Token) (i : ℕ) (cs : List Bool) (p : Pair) → IsIn p (pairs_from b i cs) → IsOne b i cs p
one_from b i [] p h = absurd h
one_from b i (true ∷ cs) p h = elim h [
  | inl e ↦ record { start = ap (λ (z : Pair). z.start) e; at = 0; taken = (let f : p.taken ≡ i = ap (λ (z : Pair). z.taken) e in omega (arith, f)); told = refl }
  | inr r ↦ later b i true cs p (one_from b (suc i) cs p r)
]
one_from b i (false ∷ cs) p h = later b i false cs p (one_from b (suc i) cs p h)

in_from : (b : List Token) (i : ℕ) (cs : List Bool) (j n : ℕ) → n ≡ i + j → get_or cs j false ≡ true → IsIn (pair_of b n) (pairs_from b i cs)
in_from b i [] j n e h = absurd (false≢true h)
in_from b i (true ∷ cs) zero n e h = inl (ap (λ (z : ℕ). pair_of b z) (let f : n ≡ i = omega (arith, e) in f))
in_from b i (false ∷ cs) zero n e h = absurd (false≢true h)
in_from b i (true ∷ cs) (suc j) n e h = inr (in_from b (suc i) cs j n (omega (arith, e)) h)
in_from b i (false ∷ cs) (suc j) n e h = in_from b (suc i) cs j n (omega (arith, e)) h

apart_from : (b : List Token) (i : ℕ) (cs : List Bool) → AllDistinct (pairs_from b i cs)
apart_from b i [] = tt
apart_from b i (true ∷ cs) = ((λ h. let o = (one_from b (suc i) cs (pair_of b i) h) in let f = o.taken in omega (arith, f)), apart_from b (suc i) cs)
apart_from b i (false ∷ cs) = apart_from b (suc i) cs

-- ---- the pairs of all that are met

abbrev pairs_of : List (List Token) → List Node → List Met → List Pair
pairs_of patterns nodes [] = []
pairs_of patterns nodes (m ∷ ms) = pairs_from (beginning_at patterns nodes m.node) 0 m.counts.items ++ pairs_of patterns nodes ms

size_of : (patterns : List (List Token)) (nodes : List Node) (met : List Met) → trues_in met ≡ length (pairs_of patterns nodes met)
size_of patterns nodes [] = refl
size_of patterns nodes (m ∷ ms) =
    let b = beginning_at patterns nodes m.node in
    let f = length-append (pairs_from b 0 m.counts.items) (pairs_of patterns nodes ms) in
    let g = size_from b 0 m.counts.items in
    let h = size_of patterns nodes ms in
    omega (arith, f, g, h)

of_in : (patterns : List (List Token)) (nodes : List Node) (met : List Met) (p : Pair) → IsIn p (pairs_of patterns nodes met)
    → (m : Met) × IsIn m met × IsIn p (pairs_from (beginning_at patterns nodes m.node) 0 m.counts.items)
of_in patterns nodes [] p h = absurd h
of_in patterns nodes (m ∷ ms) p h = elim (in_two (pairs_from (beginning_at patterns nodes m.node) 0 m.counts.items) (pairs_of patterns nodes ms) p h) [
  | inl i ↦ (m, inl refl, i)
  | inr i ↦ (let r = of_in patterns nodes ms p i in (r.0, inr r.1, r.2))
]

in_of : (patterns : List (List Token)) (nodes : List Node) (met : List Met) (m : Met) (p : Pair) → IsIn m met → IsIn p (pairs_from (beginning_at patterns nodes m.node) 0 m.counts.items)
    → IsIn p (pairs_of patterns nodes met)
in_of patterns nodes [] m p h i = absurd h
in_of patterns nodes (x ∷ ms) m p h i = elim h [
  | inl e ↦ in_front (pairs_from (beginning_at patterns nodes x.node) 0 x.counts.items) (pairs_of patterns nodes ms) p
      (subst (λ (z : Met). IsIn p (pairs_from (beginning_at patterns nodes z.node) 0 z.counts.items)) e i)
  | inr r ↦ in_back (pairs_from (beginning_at patterns nodes x.node) 0 x.counts.items) (pairs_of patterns nodes ms) p (in_of patterns nodes ms m p r i)
]

apart_of : (patterns : List (List Token)) (nodes : List Node) (slots : List ℕ) (met : List Met) → AreLinked patterns nodes slots → AllDistinct (nodes_of met)
    → ((m : Met) → IsIn m met → m.node < length nodes) → AllDistinct (pairs_of patterns nodes met)
apart_of patterns nodes slots [] l a w = tt
apart_of patterns nodes slots (m ∷ ms) l a w =
    apart_two (pairs_from (beginning_at patterns nodes m.node) 0 m.counts.items) (pairs_of patterns nodes ms) (apart_from (beginning_at patterns nodes m.node) 0 m.counts.items)
    (apart_of patterns nodes slots ms l a.1 (λ x i. w x (inr i)))
    (λ p i j.
    let x = of_in patterns nodes ms p j in
    let e = (one_from (beginning_at patterns nodes m.node) 0 m.counts.items p i).start in
    let f = (one_from (beginning_at patterns nodes x.0.node) 0 x.0.counts.items p x.2).start in
    let same : m.node ≡ x.0.node = l.distinct m.node x.0.node (w m (inl refl)) (w x.0 (inr x.1)) (sym e ∙ f) in
    a.0 (subst (λ (z : ℕ). IsIn z (nodes_of ms)) (sym same) (met_node ms x.0 x.1)))

-- ---- they are counted

-- a pattern that stands in the list has a place
place_in : (xs : List (List Token)) (x : List Token) → IsIn x xs → (p : ℕ) × (p < length xs) × (get_or xs p [] ≡ x)
place_in [] x h = absurd h
place_in (y ∷ xs) x h = elim h [
  | inl e ↦ (0, omega arith, sym e)
  | inr r ↦ (let p = place_in xs x r in let q = p.1 in (suc p.0, omega (arith, q), p.2))
]

in_place : (xs : List (List Token)) (p : ℕ) → p < length xs → IsIn (get_or xs p []) xs
in_place xs p h = in_at xs p (get_or xs p []) h (same_default xs p [] (get_or xs p []) h)

-- a node is a beginning of a pattern
begun : (patterns : List (List Token)) (nodes : List Node) (slots : List ℕ) (c : ℕ) → AreLinked patterns nodes slots → c < length nodes → 0 < length patterns
    → (pattern : List Token) × IsIn pattern patterns × Begins (beginning_at patterns nodes c) pattern
begun patterns nodes slots zero l h s = (get_or patterns 0 [], in_place patterns 0 s, (get_or patterns 0 [], ap (λ (z : List Token). z ++ get_or patterns 0 []) (sym (root_is patterns nodes slots l))))
begun patterns nodes slots (suc c) l h s =
    let n = l.each (suc c) (omega arith) h in
    let p = get_or patterns (node_at nodes (suc c)).pattern [] in
    (p, in_place patterns (node_at nodes (suc c)).pattern n.deep.pattern, (drop (node_at nodes (suc c)).depth p, sym (take-append-drop (node_at nodes (suc c)).depth p)))

taken_in : (n i : ℕ) (cs : List Bool) → get_or cs i false ≡ true → length cs ≡ n + 1 → i ≤ n
taken_in n i [] h e = absurd (false≢true h)
taken_in n zero (c ∷ cs) h e = omega arith
taken_in zero (suc i) (c ∷ []) h e = absurd (false≢true h)
taken_in zero (suc i) (c ∷ d ∷ cs) h e = absurd (omega (arith, e))
taken_in (suc n) (suc i) (c ∷ cs) h e = let r = taken_in n i cs h (omega (arith, e)) in omega (arith, r)

only_pairs : (patterns : List (List Token)) (nodes : List Node) (slots : List ℕ) (key : Text) (met : List Met) (p : Pair) → AreLinked patterns nodes slots → 0 < length patterns
    → AreMet patterns nodes (words key) (Begins []) met → IsIn p (pairs_of patterns nodes met) → IsPair patterns key p
only_pairs patterns nodes slots key met p l s a h =
    let x = of_in patterns nodes met p h in
    let o = one_from (beginning_at patterns nodes x.0.node) 0 x.0.counts.items p x.2 in
    let c = a.counts x.0 x.1 in
    let b = begun patterns nodes slots x.0.node l (a.within x.0 x.1) s in
    let t : p.taken ≡ o.at = (let e = o.taken in omega (arith, e)) in
    let k : o.at ≤ length (words key) = taken_in (length (words key)) o.at x.0.counts.items o.told c.size in
    record {
      pattern = b.0;
      is_in = b.1;
      begins = subst (λ (z : List Token). Begins z b.0) (sym o.start) b.2;
      within = omega (arith, t, k);
      matches = subst (λ (z : List Token). Matches z (take p.taken (words key))) (sym o.start)
          (subst (λ (z : ℕ). Matches (beginning_at patterns nodes x.0.node) (take z (words key))) (sym t) ((c.each o.at k).0 o.told));
    }

begins_same : (patterns : List (List Token)) (nodes : List Node) (a c : ℕ) (b : List Token) → a ≡ c → beginning_at patterns nodes a ≡ b → beginning_at patterns nodes c ≡ b
begins_same patterns nodes a c b e h = subst (λ (z : ℕ). beginning_at patterns nodes z ≡ b) e h

all_pairs : (patterns : List (List Token)) (nodes : List Node) (slots ends : List ℕ) (indices : List (List ℕ)) (key : Text) (met : List Met) (p : Pair) → IsTrie patterns nodes slots ends indices
    → AreMet patterns nodes (words key) (Begins []) met → IsPair patterns key p → IsIn p (pairs_of patterns nodes met)
all_pairs patterns nodes slots ends indices key met p t a h =
    let q = place_in patterns h.pattern h.is_in in
    let e : beginning_at patterns nodes (get_or ends q.0 0) ≡ p.start ++ h.begins.0 = t.ended.are q.0 q.1 ∙ q.2 ∙ h.begins.1 in
    let u = up patterns nodes slots (suc (get_or ends q.0 0)) (get_or ends q.0 0) p.start h.begins.0 t.linked (omega arith) (t.ended.within q.0 q.1) e in
    let m : Matches (beginning_at patterns nodes u.0) (take p.taken (words key)) = subst (λ (z : List Token). Matches z (take p.taken (words key))) (sym u.2) h.matches in
    let x = node_in met u.0 (a.all u.0 p.taken u.1 h.within m (beginning_at patterns nodes u.0, refl)) in
    let b = begins_same patterns nodes u.0 x.0.node p.start x.2 u.2 in
    let told = ((a.counts x.0 x.1).each p.taken h.within).1 (subst (λ (z : ℕ). Matches (beginning_at patterns nodes z) (take p.taken (words key))) x.2 m) in
    in_of patterns nodes met x.0 p x.1
    (subst (λ (z : List Token). IsIn (pair_of z p.taken) (pairs_from (beginning_at patterns nodes x.0.node) 0 x.0.counts.items)) b
    (in_from (beginning_at patterns nodes x.0.node) 0 x.0.counts.items p.taken p.taken (omega arith) told))

pub counted : (patterns : List (List Token)) (nodes : List Node) (slots ends : List ℕ) (indices : List (List ℕ)) (key : Text) (met : List Met) (count : ℕ) → IsTrie patterns nodes slots ends indices
    → 0 < length patterns → AreMet patterns nodes (words key) (Begins []) met → count ≡ trues_in met → IsCounted patterns key count
counted patterns nodes slots ends indices key met count t s a e = record {
  pairs = pairs_of patterns nodes met;
  distinct = apart_of patterns nodes slots met t.linked a.distinct a.within;
  only = λ p i. only_pairs patterns nodes slots key met p t.linked s a i;
  all = λ p h. all_pairs patterns nodes slots ends indices key met p t a h;
  size = e ∙ size_of patterns nodes met;
}

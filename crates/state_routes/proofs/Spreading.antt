-- Marks that spread from place to place come to all that chains lead to.
use Rattle.state_routes.proofs.Names.{◌≡◌, ◌⊎◌, ℕ, zero, suc, ◌+◌, ◌<◌, ◌≤◌, add-one, cond, Bool, true, false, List, [], ◌∷◌, ◌++◌, length, refl, sym, ap, subst, ◌∙◌, inl, inr, arith, get_or, set, take, replicate, length-append, length-replicate, length-set, take_all, IsIn, Mode, IsSet, unset, Hop, AreReached, Chain, MarksBegin, Gate, all_block, open_alternates, open_links, open_ways, passes, Exit, IsBounded, LeadFrom, exit_at, open_through, Enters, Spreads, all_marked, begun_at, chain_on, none_set, set_keeps, in_front, in_back, in-append}
use Rattle.exchange_graph.proofs.Marking.{set_here, set_only, set_within, unset_fewer}
use Rattle.state_routes.proofs.Leaving.{in_through, open_at, open_leads}

-- ---- links one after another

pub enters_none : (marks : List Bool) (rest : List ℕ) → Enters [] marks rest marks rest
enters_none marks rest = record {
  size = refl;
  kept = λ i s. s;
  all = λ l i. absurd i;
  only = λ i s. inl s;
  waiting = λ i w. w;
  marked = λ i w. inl w;
  fewer = omega arith;
}

-- the end is marked
pub enters_marked : (l : Hop) (marks : List Bool) (rest : List ℕ) → IsSet marks l.to → Enters (l ∷ []) marks rest marks rest
enters_marked l marks rest s = record {
  size = refl;
  kept = λ i s. s;
  all = λ k i. (elim i [ inl e ↦ subst (λ (z : Hop). IsSet marks z.to) (sym e) s | inr n ↦ absurd n ]);
  only = λ i s. inl s;
  waiting = λ i w. w;
  marked = λ i w. inl w;
  fewer = omega arith;
}

-- it is not
pub enters_new : (l : Hop) (marks new : List Bool) (rest more : List ℕ) → l.to < length marks → get_or marks l.to false ≡ false → new ≡ set marks l.to true → more ≡ rest ++ l.to ∷ [] → Enters (l ∷ []) marks rest new more
enters_new l marks new rest more h f e r = subst (λ (z : List Bool). Enters (l ∷ []) marks rest z more) (sym e) (subst (λ (z : List ℕ). Enters (l ∷ []) marks rest (set marks l.to true) z) (sym r) entered)
  where
    entered : Enters (l ∷ []) marks rest (set marks l.to true) (rest ++ l.to ∷ [])
    entered = record {
      size = length-set marks l.to true;
      kept = λ i s. set_keeps marks l.to i s;
      all = λ k i. (elim i [ inl e ↦ subst (λ (z : Hop). IsSet (set marks l.to true) z.to) (sym e) (set_here marks l.to h) | inr n ↦ absurd n ]);
      only = λ i s. (elim (set_only marks l.to i s) [ inl p ↦ inl p | inr q ↦ inr (l, inl refl, sym q, in_back i rest (l.to ∷ []) (inl q)) ]);
      waiting = λ i w. in_front i rest (l.to ∷ []) w;
      marked = λ i w. (elim (in-append i rest (l.to ∷ []) w) [
        | inl p ↦ inl p
        | inr q ↦ elim q [ inl e ↦ inr (subst (λ (z : ℕ). IsSet (set marks l.to true) z) (sym e) (set_here marks l.to h)) | inr n ↦ absurd n ]
      ]);
      fewer = (let u = unset_fewer marks l.to h f in let k = length-append rest (l.to ∷ []) in omega (arith, u, k));
    }

pub enters_then : (xs ys : List Hop) (a b c : List Bool) (r s t : List ℕ) → Enters xs a r b s → Enters ys b s c t → Enters (xs ++ ys) a r c t
enters_then xs ys a b c r s t m n = record {
  size = n.size ∙ m.size;
  kept = λ i k. n.kept i (m.kept i k);
  all = λ l i. (elim (in-append l xs ys i) [ inl j ↦ n.kept l.to (m.all l j) | inr j ↦ n.all l j ]);
  only = λ i k. (elim (n.only i k) [
    | inl p ↦ (elim (m.only i p) [ inl q ↦ inl q | inr q ↦ inr (q.0, in_front q.0 xs ys q.1, q.2, n.waiting i q.3) ])
    | inr q ↦ inr (q.0, in_back q.0 xs ys q.1, q.2, q.3)
  ]);
  waiting = λ i w. n.waiting i (m.waiting i w);
  marked = λ i w. (elim (n.marked i w) [
    | inl p ↦ (elim (m.marked i p) [ inl q ↦ inl q | inr q ↦ inr (n.kept i q) ])
    | inr q ↦ inr q
  ]);
  fewer = (let u = m.fewer in let v = n.fewer in omega (arith, u, v));
}

-- the gates one after another
open_more : (m : Mode) (acc : List Bool) (gs : List Gate) (i : ℕ) (g : Gate) → i < length gs → g ≡ get_or gs i g → open_links m (take (suc i) gs) acc ≡ open_links m (take i gs) acc ++ open_links m (g ∷ []) acc
open_more m acc [] i g h e = absurd (omega (arith, h))
open_more m acc (x ∷ gs) zero g h e = ap (λ (z : Gate). open_links m (z ∷ []) acc) (sym e)
open_more m acc (x ∷ gs) (suc i) g h e = elim (passes m x.test acc) as (λ v. cond v (x.link ∷ open_links m (take (suc i) gs) acc) (open_links m (take (suc i) gs) acc) ≡ cond v (x.link ∷ open_links m (take i gs) acc) (open_links m (take i gs) acc) ++ open_links m (g ∷ []) acc) [
  | true ↦ ap (λ (z : List Hop). x.link ∷ z) (open_more m acc gs i g (let k : suc i < suc (length gs) = h in omega (arith, k)) e)
  | false ↦ open_more m acc gs i g (let k : suc i < suc (length gs) = h in omega (arith, k)) e
]

pub gates_more : (m : Mode) (acc : List Bool) (gs : List Gate) (i : ℕ) (g : Gate) (a b c : List Bool) (r s t : List ℕ) → i < length gs → g ≡ get_or gs i g → Enters (open_links m (take i gs) acc) a r b s → Enters (open_links m (g ∷ []) acc) b s c t
    → Enters (open_links m (take (i + 1) gs) acc) a r c t
gates_more m acc gs i g a b c r s t h e k n =
    subst (λ (z : ℕ). Enters (open_links m (take z gs) acc) a r c t) (sym (add-one i))
    (subst (λ (z : List Hop). Enters z a r c t) (sym (open_more m acc gs i g h e)) (enters_then (open_links m (take i gs) acc) (open_links m (g ∷ []) acc) a b c r s t k n))

pub gates_all : (m : Mode) (acc : List Bool) (gs : List Gate) (i : ℕ) (a b : List Bool) (r s : List ℕ) → length gs ≤ i → Enters (open_links m (take i gs) acc) a r b s → Enters (open_links m gs acc) a r b s
gates_all m acc gs i a b r s h n = subst (λ (z : List Gate). Enters (open_links m z acc) a r b s) (take_all i gs h) n

-- a gate that is not followed: it ends at a marked node, or it stops the key
pub gate_marked : (m : Mode) (acc : List Bool) (g : Gate) (marks : List Bool) (rest : List ℕ) → IsSet marks g.link.to → Enters (open_links m (g ∷ []) acc) marks rest marks rest
gate_marked m acc g marks rest s = elim (passes m g.test acc) as (λ v. Enters (cond v (g.link ∷ []) []) marks rest marks rest) [
  | true ↦ enters_marked g.link marks rest s
  | false ↦ enters_none marks rest
]

pub gate_shut : (m : Mode) (acc : List Bool) (g : Gate) (marks : List Bool) (rest : List ℕ) → passes m g.test acc ≡ false → Enters (open_links m (g ∷ []) acc) marks rest marks rest
gate_shut m acc g marks rest e = subst (λ (v : Bool). Enters (cond v (g.link ∷ []) []) marks rest marks rest) (sym e) (enters_none marks rest)

pub gate_open : (m : Mode) (acc : List Bool) (g : Gate) (a b : List Bool) (r s : List ℕ) → passes m g.test acc ≡ true → Enters (g.link ∷ []) a r b s → Enters (open_links m (g ∷ []) acc) a r b s
gate_open m acc g a b r s e n = subst (λ (v : Bool). Enters (cond v (g.link ∷ []) []) a r b s) (sym e) n

-- the links to alternate exchanges one after another
alternate_more : (m : Mode) (gs : List Gate) (acc : List Bool) (ls : List Hop) (i : ℕ) (l : Hop) → i < length ls → l ≡ get_or ls i l → open_alternates m gs (take (suc i) ls) acc ≡ open_alternates m gs (take i ls) acc ++ open_alternates m gs (l ∷ []) acc
alternate_more m gs acc [] i l h e = absurd (omega (arith, h))
alternate_more m gs acc (x ∷ ls) zero l h e = ap (λ (z : Hop). open_alternates m gs (z ∷ []) acc) (sym e)
alternate_more m gs acc (x ∷ ls) (suc i) l h e = elim (all_block m gs x.from acc) as (λ v. cond v (x ∷ open_alternates m gs (take (suc i) ls) acc) (open_alternates m gs (take (suc i) ls) acc) ≡ cond v (x ∷ open_alternates m gs (take i ls) acc) (open_alternates m gs (take i ls) acc) ++ open_alternates m gs (l ∷ []) acc) [
  | true ↦ ap (λ (z : List Hop). x ∷ z) (alternate_more m gs acc ls i l (let k : suc i < suc (length ls) = h in omega (arith, k)) e)
  | false ↦ alternate_more m gs acc ls i l (let k : suc i < suc (length ls) = h in omega (arith, k)) e
]

pub alternates_more : (m : Mode) (gs : List Gate) (acc : List Bool) (ls : List Hop) (i : ℕ) (l : Hop) (a b c : List Bool) (r s t : List ℕ) → i < length ls → l ≡ get_or ls i l → Enters (open_alternates m gs (take i ls) acc) a r b s
    → Enters (open_alternates m gs (l ∷ []) acc) b s c t → Enters (open_alternates m gs (take (i + 1) ls) acc) a r c t
alternates_more m gs acc ls i l a b c r s t h e k n =
    subst (λ (z : ℕ). Enters (open_alternates m gs (take z ls) acc) a r c t) (sym (add-one i))
    (subst (λ (z : List Hop). Enters z a r c t) (sym (alternate_more m gs acc ls i l h e)) (enters_then (open_alternates m gs (take i ls) acc) (open_alternates m gs (l ∷ []) acc) a b c r s t k n))

pub alternates_all : (m : Mode) (gs : List Gate) (acc : List Bool) (ls : List Hop) (i : ℕ) (a b : List Bool) (r s : List ℕ) → length ls ≤ i → Enters (open_alternates m gs (take i ls) acc) a r b s → Enters (open_alternates m gs ls acc) a r b s
alternates_all m gs acc ls i a b r s h n = subst (λ (z : List Hop). Enters (open_alternates m gs z acc) a r b s) (take_all i ls h) n

pub alternate_marked : (m : Mode) (gs : List Gate) (acc : List Bool) (l : Hop) (marks : List Bool) (rest : List ℕ) → IsSet marks l.to → Enters (open_alternates m gs (l ∷ []) acc) marks rest marks rest
alternate_marked m gs acc l marks rest s = elim (all_block m gs l.from acc) as (λ v. Enters (cond v (l ∷ []) []) marks rest marks rest) [
  | true ↦ enters_marked l marks rest s
  | false ↦ enters_none marks rest
]

pub alternate_shut : (m : Mode) (gs : List Gate) (acc : List Bool) (l : Hop) (marks : List Bool) (rest : List ℕ) → all_block m gs l.from acc ≡ false → Enters (open_alternates m gs (l ∷ []) acc) marks rest marks rest
alternate_shut m gs acc l marks rest e = subst (λ (v : Bool). Enters (cond v (l ∷ []) []) marks rest marks rest) (sym e) (enters_none marks rest)

pub alternate_open : (m : Mode) (gs : List Gate) (acc : List Bool) (l : Hop) (a b : List Bool) (r s : List ℕ) → all_block m gs l.from acc ≡ true → Enters (l ∷ []) a r b s → Enters (open_alternates m gs (l ∷ []) acc) a r b s
alternate_open m gs acc l a b r s e n = subst (λ (v : Bool). Enters (cond v (l ∷ []) []) a r b s) (sym e) n

-- ---- place after place

pub place_within : (links : List Hop) (start n place : ℕ) (marks : List Bool) (rest left : List ℕ) → Spreads links start marks rest → rest ≡ left ++ place ∷ [] → length marks ≡ n → place < n
place_within links start n place marks rest left k e s = subst (λ (z : ℕ). place < z) s (set_within marks place (k.waiting place (subst (λ (z : List ℕ). IsIn place z) (sym e) (in_back place left (place ∷ []) (inl refl)))))

-- the place was left, and waits no longer
pub spreads_on : (m : Mode) (es : List Exit) (acc : List Bool) (start place : ℕ) (marks new : List Bool) (rest left more : List ℕ) → IsBounded es start → place < length es → Spreads (open_through m es acc) start marks rest → rest ≡ left ++ place ∷ []
    → Enters (open_ways m (exit_at es place).gates (exit_at es place).alternates acc) marks left new more → Spreads (open_through m es acc) start new more
spreads_on m es acc start place marks new rest left more b h k e n = record {
  begun = n.kept start k.begun;
  sound = λ i s. (elim (n.only i s) [ inl p ↦ k.sound i p | inr q ↦ come i q ]);
  waiting = λ i w. (elim (n.marked i w) [ inl p ↦ n.kept i (k.waiting i (waited i p)) | inr q ↦ q ]);
  closed = λ l i s. (elim (n.only l.from s) [ inl p ↦ shut l i p | inr q ↦ inr q.3 ]);
}
  where
    waited : (i : ℕ) → IsIn i left → IsIn i rest
    waited i w = subst (λ (z : List ℕ). IsIn i z) (sym e) (in_front i left (place ∷ []) w)

    here : IsSet marks place
    here = k.waiting place (subst (λ (z : List ℕ). IsIn place z) (sym e) (in_back place left (place ∷ []) (inl refl)))

    come : (i : ℕ) → ((l : Hop) × IsIn l (open_ways m (exit_at es place).gates (exit_at es place).alternates acc) × (l.to ≡ i) × IsIn i more) → Chain (open_through m es acc) start i
    come i (l, j, t, w) = chain_on (open_through m es acc) (k.sound place here) l i (in_through m es acc l place h j) (open_leads m (length es) place (exit_at es place) acc l (b.leads place) j).0 t

    shut : (l : Hop) → IsIn l (open_through m es acc) → IsSet marks l.from → IsSet new l.to ⊎ IsIn l.from more
    shut l i p = elim (k.closed l i p) [
      | inl q ↦ inl (n.kept l.to q)
      | inr w ↦ elim (in-append l.from left (place ∷ []) (subst (λ (z : List ℕ). IsIn l.from z) e w)) [
        | inl v ↦ inr (n.waiting l.from v)
        | inr v ↦ elim v [ inl s ↦ inl (n.all l (open_at m es start acc b place l i s)) | inr z ↦ absurd z ]
      ]
    ]

pub fewer_left : (links : List Hop) (place : ℕ) (marks new : List Bool) (rest left more : List ℕ) → rest ≡ left ++ place ∷ [] → Enters links marks left new more → unset new + unset new + length more < unset marks + unset marks + length rest
fewer_left links place marks new rest left more e n = let u = n.fewer in let k = ap (λ (z : List ℕ). length z) e ∙ length-append left (place ∷ []) in omega (arith, u, k)

-- the exit of a place, whatever stands for a missing one
pub exit_there : (xs : List Exit) (i : ℕ) (d : Exit) → i < length xs → get_or xs i d ≡ exit_at xs i
exit_there [] i d h = absurd (omega (arith, h))
exit_there (x ∷ xs) zero d h = refl
exit_there (x ∷ xs) (suc i) d h = exit_there xs i d (omega (arith, h))

-- all that is open from a place was followed
module _ (m : Mode) (es : List Exit) (p : ℕ) (e : Exit) (acc : List Bool) (gs : List Gate) (ls : List Hop) (within : p < length es) (is : e ≡ get_or es p e) (gates : gs ≡ e.gates) (alternates : ls ≡ e.alternates) where
  same_exit : e ≡ exit_at es p
  same_exit = is ∙ exit_there es p e within

  pub left_all : (a b c : List Bool) (r s t : List ℕ) → Enters (open_links m gs acc) a r b s → Enters (open_alternates m gs ls acc) b s c t → Enters (open_ways m (exit_at es p).gates (exit_at es p).alternates acc) a r c t
  left_all a b c r s t n k =
      subst (λ (z : Exit). Enters (open_ways m z.gates z.alternates acc) a r c t) same_exit
      (subst (λ (z : List Gate). Enters (open_ways m z e.alternates acc) a r c t) gates
      (subst (λ (z : List Hop). Enters (open_ways m gs z acc) a r c t) alternates (enters_then (open_links m gs acc) (open_alternates m gs ls acc) a b c r s t n k)))

  pub gates_within : (n size : ℕ) → LeadFrom n p (exit_at es p) → size ≡ n → (g : Gate) → IsIn g gs → g.link.to < size
  gates_within n size k s g i = subst (λ (z : ℕ). g.link.to < z) (sym s) (k.gates g (subst (λ (z : List Gate). IsIn g z) (gates ∙ ap (λ (z : Exit). z.gates) same_exit) i)).1

  pub alternates_within : (n size : ℕ) → LeadFrom n p (exit_at es p) → size ≡ n → (l : Hop) → IsIn l ls → l.to < size
  alternates_within n size k s l i = subst (λ (z : ℕ). l.to < z) (sym s) (k.alternates l (subst (λ (z : List Hop). IsIn l z) (alternates ∙ ap (λ (z : Exit). z.alternates) same_exit) i)).1

pub none_left : (rest : List ℕ) → length rest ≡ 0 → rest ≡ []
none_left [] e = refl
none_left (i ∷ rest) e = absurd (omega (arith, e))

-- nothing waits any longer
pub all_reached : (links : List Hop) (start n : ℕ) (marks : List Bool) (rest : List ℕ) → length marks ≡ n → rest ≡ [] → Spreads links start marks rest → AreReached links n start marks
all_reached links start n marks rest s e k = record {
  size = s;
  sound = k.sound;
  all = λ i c. all_marked links marks closed c k.begun;
}
  where
    closed : (l : Hop) → IsIn l links → IsSet marks l.from → IsSet marks l.to
    closed l i p = elim (k.closed l i p) [ inl q ↦ q | inr w ↦ absurd (subst (λ (z : List ℕ). IsIn l.from z) e w) ]

-- the start alone is marked, and waits
pub spreads_first : (links : List Hop) (n start : ℕ) (marks : List Bool) (rest : List ℕ) → start < n → marks ≡ set (replicate n false) start true → rest ≡ start ∷ [] → Spreads links start marks rest
spreads_first links n start marks rest h e r = subst (λ (z : List Bool). Spreads links start z rest) (sym e) (subst (λ (z : List ℕ). Spreads links start (set (replicate n false) start true) z) (sym r) (record {
  begun = first.begun;
  sound = first.sound;
  waiting = λ i w. (elim w [ inl s ↦ subst (λ (z : ℕ). IsSet (set (replicate n false) start true) z) (sym s) first.begun | inr z ↦ absurd z ]);
  closed = λ l i s. (elim (set_only (replicate n false) start l.from s) [ inl p ↦ absurd (none_set n l.from p) | inr q ↦ inr (inl q) ]);
}))
  where
    first : MarksBegin links start (set (replicate n false) start true)
    first = begun_at links n start h

pub first_size : (n start : ℕ) (marks : List Bool) → marks ≡ set (replicate n false) start true → length marks ≡ n
first_size n start marks e = ap (λ (z : List Bool). length z) e ∙ length-set (replicate n false) start true ∙ length-replicate n false

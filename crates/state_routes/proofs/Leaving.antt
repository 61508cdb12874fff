-- Gates and links are put where they start, and lead on as before.
use Rattle.state_routes.proofs.Names.{◌≡◌, ◌⊎◌, ℕ, zero, suc, ◌+◌, ◌<◌, ◌≤◌, Bool, true, false, cond, eqb, List, [], ◌∷◌, ◌++◌, length, refl, sym, ap, subst, ◌∙◌, inl, inr, arith, get_or, set, drop, append_assoc, append-nil, filter, false≢true, eqb-true, drop_more, at_drop_all, length-set, length-append, IsIn, Mode, Hop, Gate, Chain, still, along, open_alternates, open_links, open_ways, Exit, no_exit, exit_at, gates_from, links_from, AreExits, open_through, LeadsFrom, LeadFrom, IsBounded, AreEmpty, AddsGates, AddsAlternates, in_front, in_back, in-append}
use Rattle.state_routes.proofs.Known.{all_block_at, blocked_in, blocks_all, eqb_same, from_blocked, from_open, open_in}

pub itself : {A : Type 0} (xs : List A) (i : ℕ) (d : A) → i < length xs → get_or xs i d ≡ get_or xs i (get_or xs i d)
itself [] i d h = absurd (omega (arith, h))
itself (x ∷ xs) zero d h = refl
itself (x ∷ xs) (suc i) d h = itself xs i d (omega (arith, h))

-- ---- one place of several

at_same : (es : List Exit) (i : ℕ) (x : Exit) → i < length es → exit_at (set es i x) i ≡ x
at_same [] i x h = absurd (omega (arith, h))
at_same (e ∷ es) zero x h = refl
at_same (e ∷ es) (suc i) x h = at_same es i x (omega (arith, h))

at_other : (es : List Exit) (i p : ℕ) (x : Exit) → (i ≡ p → ⊥) → exit_at (set es i x) p ≡ exit_at es p
at_other [] i p x n = refl
at_other (e ∷ es) zero zero x n = absurd (n refl)
at_other (e ∷ es) zero (suc p) x n = refl
at_other (e ∷ es) (suc i) zero x n = refl
at_other (e ∷ es) (suc i) (suc p) x n = at_other es i p x (λ s. n (ap suc s))

at_end : (es : List Exit) → ((p : ℕ) → exit_at es p ≡ no_exit) → (p : ℕ) → exit_at (es ++ no_exit ∷ []) p ≡ no_exit
at_end [] f zero = refl
at_end [] f (suc p) = refl
at_end (e ∷ es) f zero = f zero
at_end (e ∷ es) f (suc p) = at_end es (λ q. f (suc q)) p

pub none_yet : (es : List Exit) → es ≡ [] → AreEmpty 0 es
none_yet es e = record {
  size = ap (λ (z : List Exit). length z) e;
  none = λ p. ap (λ (z : List Exit). exit_at z p) e;
}

pub one_empty : (es new : List Exit) (n : ℕ) (x : Exit) → AreEmpty n es → x ≡ no_exit → new ≡ es ++ x ∷ [] → AreEmpty (n + 1) new
one_empty es new n x a e f = subst (λ (z : List Exit). AreEmpty (n + 1) z) (sym (f ∙ ap (λ (z : Exit). es ++ z ∷ []) e)) (record {
  size = (let h = length-append es (no_exit ∷ []) in let k = a.size in omega (arith, h, k));
  none = at_end es a.none;
})

-- ---- those that start at a place

-- one more of a list
filter_next : {A : Type 0} (test : A → Bool) (x : A) (xs : List A) → filter test (x ∷ xs) ≡ filter test (x ∷ []) ++ filter test xs
filter_next test x xs = go (test x)
  where
    go : (v : Bool) → cond v (x ∷ filter test xs) (filter test xs) ≡ cond v (x ∷ []) [] ++ filter test xs
    go true = refl
    go false = refl

pub from_filter : {A : Type 0} (test : A → Bool) (x : A) (xs : List A) → IsIn x (filter test xs) → IsIn x xs × (test x ≡ true)
from_filter test x [] i = absurd i
from_filter test x (y ∷ ys) i = go (test y) refl i (λ j. from_filter test x ys j)
  where
    go : (v : Bool) → test y ≡ v → IsIn x (cond v (y ∷ filter test ys) (filter test ys)) → (IsIn x (filter test ys) → IsIn x ys × (test x ≡ true)) → ((x ≡ y) ⊎ IsIn x ys) × (test x ≡ true)
    go true e (inl s) f = (inl s, ap test s ∙ e)
    go true e (inr j) f = let r = f j in (inr r.0, r.1)
    go false e j f = let r = f j in (inr r.0, r.1)

pub in_filter : {A : Type 0} (test : A → Bool) (x : A) (xs : List A) → IsIn x xs → test x ≡ true → IsIn x (filter test xs)
in_filter test x [] i t = absurd i
in_filter test x (y ∷ ys) i t = go (test y) refl i (λ j. in_filter test x ys j t)
  where
    go : (v : Bool) → test y ≡ v → (x ≡ y) ⊎ IsIn x ys → (IsIn x ys → IsIn x (filter test ys)) → IsIn x (cond v (y ∷ filter test ys) (filter test ys))
    go true e (inl s) f = inl s
    go true e (inr j) f = inr (f j)
    go false e (inl s) f = absurd (false≢true (sym e ∙ sym (ap test s) ∙ t))
    go false e (inr j) f = f j

-- one more was put where it starts: what is put and what is left are still the whole
more_put : {A : Type 0} (test : A → Bool) (xs : List A) (i : ℕ) (x : A) (old new whole : List A) → i < length xs → x ≡ get_or xs i x → new ≡ old ++ filter test (x ∷ []) → old ++ filter test (drop i xs) ≡ whole
    → new ++ filter test (drop (i + 1) xs) ≡ whole
more_put test xs i x old new whole h e n k =
    ap (λ (z : List _). z ++ filter test (drop (i + 1) xs)) n
    ∙ append_assoc old (filter test (x ∷ [])) (filter test (drop (i + 1) xs))
    ∙ ap (λ (z : List _). old ++ z) (sym (filter_next test x (drop (i + 1) xs)))
    ∙ ap (λ (z : List _). old ++ filter test z) (ap (λ (y : _). y ∷ drop (i + 1) xs) e ∙ sym (drop_more xs i x h))
    ∙ k

all_put : {A : Type 0} (test : A → Bool) (xs : List A) (i : ℕ) (new whole : List A) → length xs ≤ i → new ++ filter test (drop i xs) ≡ whole → new ≡ whole
all_put test xs i new whole h k = sym (append-nil new) ∙ ap (λ (z : List _). new ++ filter test z) (sym (at_drop_all (λ (z : List _). z) xs i h)) ∙ k

-- ---- gates

-- a gate stands where it starts, and nowhere else
gate_put : (g : Gate) (es : List Exit) (p : ℕ) → g.link.from < length es
    → (exit_at (set es g.link.from (record (exit_at es g.link.from) { gates = (exit_at es g.link.from).gates ++ g ∷ [] })) p).gates ≡ (exit_at es p).gates ++ gates_from p (g ∷ [])
gate_put g es p h = go (eqb g.link.from p) refl
  where
    put : Exit
    put = record (exit_at es g.link.from) { gates = (exit_at es g.link.from).gates ++ g ∷ [] }

    go : (v : Bool) → eqb g.link.from p ≡ v → (exit_at (set es g.link.from put) p).gates ≡ (exit_at es p).gates ++ cond v (g ∷ []) []
    go true e =
        let s : g.link.from ≡ p = eqb-true g.link.from p e in
        subst (λ (z : ℕ). (exit_at (set es g.link.from put) z).gates ≡ (exit_at es z).gates ++ g ∷ []) s (ap (λ (z : Exit). z.gates) (at_same es g.link.from put h))
    go false e =
        ap (λ (z : Exit). z.gates) (at_other es g.link.from p put (λ s. false≢true (sym e ∙ ap (eqb g.link.from) (sym s) ∙ eqb_same g.link.from)))
        ∙ sym (append-nil (exit_at es p).gates)

gate_beside : (g : Gate) (es : List Exit) (p : ℕ) → g.link.from < length es
    → (exit_at (set es g.link.from (record (exit_at es g.link.from) { gates = (exit_at es g.link.from).gates ++ g ∷ [] })) p).alternates ≡ (exit_at es p).alternates
gate_beside g es p h = go (eqb g.link.from p) refl
  where
    put : Exit
    put = record (exit_at es g.link.from) { gates = (exit_at es g.link.from).gates ++ g ∷ [] }

    go : (v : Bool) → eqb g.link.from p ≡ v → (exit_at (set es g.link.from put) p).alternates ≡ (exit_at es p).alternates
    go true e =
        subst (λ (z : ℕ). (exit_at (set es g.link.from put) z).alternates ≡ (exit_at es z).alternates) (eqb-true g.link.from p e)
        (ap (λ (z : Exit). z.alternates) (at_same es g.link.from put h))
    go false e = ap (λ (z : Exit). z.alternates) (at_other es g.link.from p put (λ s. false≢true (sym e ∙ ap (eqb g.link.from) (sym s) ∙ eqb_same g.link.from)))

-- some of the gates are put, and the others are left
pub record PutsGates (gs : List Gate) (i : ℕ) (old new : List Exit) : Type 0 where
  pub size : length new ≡ length old
  pub gates : (p : ℕ) → (exit_at new p).gates ++ gates_from p (drop i gs) ≡ (exit_at old p).gates ++ gates_from p gs
  pub alternates : (p : ℕ) → (exit_at new p).alternates ≡ (exit_at old p).alternates

pub gates_more : (gs : List Gate) (i : ℕ) (g : Gate) (old mid new : List Exit) → i < length gs → g ≡ get_or gs i g → g.link.from < length mid
    → new ≡ set mid g.link.from (record (exit_at mid g.link.from) { gates = (exit_at mid g.link.from).gates ++ g ∷ [] }) → PutsGates gs i old mid → PutsGates gs (i + 1) old new
gates_more gs i g old mid new h e w n k = record {
  size = ap (λ (z : List Exit). length z) n ∙ length-set mid g.link.from (record (exit_at mid g.link.from) { gates = (exit_at mid g.link.from).gates ++ g ∷ [] }) ∙ k.size;
  gates = λ p. more_put (λ (z : Gate). eqb z.link.from p) gs i g (exit_at mid p).gates (exit_at new p).gates ((exit_at old p).gates ++ gates_from p gs) h e (ap (λ (z : List Exit). (exit_at z p).gates) n ∙ gate_put g mid p w) (k.gates p);
  alternates = λ p. ap (λ (z : List Exit). (exit_at z p).alternates) n ∙ gate_beside g mid p w ∙ k.alternates p;
}

pub gates_done : (gs : List Gate) (i : ℕ) (old new : List Exit) → length gs ≤ i → PutsGates gs i old new → AddsGates gs old new
gates_done gs i old new h k = record {
  size = k.size;
  gates = λ p. all_put (λ (z : Gate). eqb z.link.from p) gs i (exit_at new p).gates ((exit_at old p).gates ++ gates_from p gs) h (k.gates p);
  alternates = k.alternates;
}

-- ---- links to alternate exchanges

link_put : (l : Hop) (es : List Exit) (p : ℕ) → l.from < length es
    → (exit_at (set es l.from (record (exit_at es l.from) { alternates = (exit_at es l.from).alternates ++ l ∷ [] })) p).alternates ≡ (exit_at es p).alternates ++ links_from p (l ∷ [])
link_put l es p h = go (eqb l.from p) refl
  where
    put : Exit
    put = record (exit_at es l.from) { alternates = (exit_at es l.from).alternates ++ l ∷ [] }

    go : (v : Bool) → eqb l.from p ≡ v → (exit_at (set es l.from put) p).alternates ≡ (exit_at es p).alternates ++ cond v (l ∷ []) []
    go true e =
        let s : l.from ≡ p = eqb-true l.from p e in
        subst (λ (z : ℕ). (exit_at (set es l.from put) z).alternates ≡ (exit_at es z).alternates ++ l ∷ []) s (ap (λ (z : Exit). z.alternates) (at_same es l.from put h))
    go false e =
        ap (λ (z : Exit). z.alternates) (at_other es l.from p put (λ s. false≢true (sym e ∙ ap (eqb l.from) (sym s) ∙ eqb_same l.from)))
        ∙ sym (append-nil (exit_at es p).alternates)

link_beside : (l : Hop) (es : List Exit) (p : ℕ) → l.from < length es
    → (exit_at (set es l.from (record (exit_at es l.from) { alternates = (exit_at es l.from).alternates ++ l ∷ [] })) p).gates ≡ (exit_at es p).gates
link_beside l es p h = go (eqb l.from p) refl
  where
    put : Exit
    put = record (exit_at es l.from) { alternates = (exit_at es l.from).alternates ++ l ∷ [] }

    go : (v : Bool) → eqb l.from p ≡ v → (exit_at (set es l.from put) p).gates ≡ (exit_at es p).gates
    go true e = subst (λ (z : ℕ). (exit_at (set es l.from put) z).gates ≡ (exit_at es z).gates) (eqb-true l.from p e) (ap (λ (z : Exit). z.gates) (at_same es l.from put h))
    go false e = ap (λ (z : Exit). z.gates) (at_other es l.from p put (λ s. false≢true (sym e ∙ ap (eqb l.from) (sym s) ∙ eqb_same l.from)))

-- some of the links are put, and the others are left
pub record PutsAlternates (ls : List Hop) (i : ℕ) (old new : List Exit) : Type 0 where
  pub size : length new ≡ length old
  pub gates : (p : ℕ) → (exit_at new p).gates ≡ (exit_at old p).gates
  pub alternates : (p : ℕ) → (exit_at new p).alternates ++ links_from p (drop i ls) ≡ (exit_at old p).alternates ++ links_from p ls

pub links_more : (ls : List Hop) (i : ℕ) (l : Hop) (old mid new : List Exit) → i < length ls → l ≡ get_or ls i l → l.from < length mid
    → new ≡ set mid l.from (record (exit_at mid l.from) { alternates = (exit_at mid l.from).alternates ++ l ∷ [] }) → PutsAlternates ls i old mid → PutsAlternates ls (i + 1) old new
links_more ls i l old mid new h e w n k = record {
  size = ap (λ (z : List Exit). length z) n ∙ length-set mid l.from (record (exit_at mid l.from) { alternates = (exit_at mid l.from).alternates ++ l ∷ [] }) ∙ k.size;
  gates = λ p. ap (λ (z : List Exit). (exit_at z p).gates) n ∙ link_beside l mid p w ∙ k.gates p;
  alternates = λ p. more_put (λ (z : Hop). eqb z.from p) ls i l (exit_at mid p).alternates (exit_at new p).alternates ((exit_at old p).alternates ++ links_from p ls) h e (ap (λ (z : List Exit). (exit_at z p).alternates) n ∙ link_put l mid p w) (k.alternates p);
}

pub links_done : (ls : List Hop) (i : ℕ) (old new : List Exit) → length ls ≤ i → PutsAlternates ls i old new → AddsAlternates ls old new
links_done ls i old new h k = record {
  size = k.size;
  gates = k.gates;
  alternates = λ p. all_put (λ (z : Hop). eqb z.from p) ls i (exit_at new p).alternates ((exit_at old p).alternates ++ links_from p ls) h (k.alternates p);
}

-- all are put
pub exits_put : (gs : List Gate) (ls : List Hop) (n : ℕ) (none mid new : List Exit) → AreEmpty n none → AddsGates gs none mid → AddsAlternates ls mid new → AreExits gs ls n new
exits_put gs ls n none mid new e a b = record {
  size = b.size ∙ a.size ∙ e.size;
  gates = λ p. b.gates p ∙ a.gates p ∙ ap (λ (z : Exit). z.gates ++ gates_from p gs) (e.none p);
  alternates = λ p. b.alternates p ∙ ap (λ (z : List Hop). z ++ links_from p ls) (a.alternates p ∙ ap (λ (z : Exit). z.alternates) (e.none p));
}

-- ---- what is open from any place, and from one

pub from_through : (m : Mode) (es : List Exit) (acc : List Bool) (l : Hop) → IsIn l (open_through m es acc) → (p : ℕ) × (p < length es) × IsIn l (open_ways m (exit_at es p).gates (exit_at es p).alternates acc)
from_through m [] acc l i = absurd i
from_through m (e ∷ es) acc l i = elim (in-append l (open_ways m e.gates e.alternates acc) (open_through m es acc) i) [
  | inl j ↦ (zero, omega arith, j)
  | inr j ↦ let r = from_through m es acc l j in (suc r.0, (let h = r.1 in omega (arith, h)), r.2)
]

pub in_through : (m : Mode) (es : List Exit) (acc : List Bool) (l : Hop) (p : ℕ) → p < length es → IsIn l (open_ways m (exit_at es p).gates (exit_at es p).alternates acc) → IsIn l (open_through m es acc)
in_through m [] acc l p h i = absurd (omega (arith, h))
in_through m (e ∷ es) acc l zero h i = in_front l (open_ways m e.gates e.alternates acc) (open_through m es acc) i
in_through m (e ∷ es) acc l (suc p) h i = in_back l (open_ways m e.gates e.alternates acc) (open_through m es acc) (in_through m es acc l p (omega (arith, h)) i)

-- an open link starts where what leads on from the place does
pub open_leads : (m : Mode) (n p : ℕ) (e : Exit) (acc : List Bool) (l : Hop) → LeadFrom n p e → IsIn l (open_ways m e.gates e.alternates acc) → LeadsFrom n p l
open_leads m n p e acc l k i = elim (in-append l (open_links m e.gates acc) (open_alternates m e.gates e.alternates acc) i) [
  | inl j ↦ let r = from_open m l e.gates acc j in subst (λ (z : Hop). LeadsFrom n p z) (sym r.2) (k.gates r.0 r.1)
  | inr j ↦ k.alternates l (from_blocked m e.gates l e.alternates acc j).0
]

-- what is open from a place, of all that is open
pub open_at : (m : Mode) (es : List Exit) (start : ℕ) (acc : List Bool) → IsBounded es start → (p : ℕ) (l : Hop) → IsIn l (open_through m es acc) → l.from ≡ p → IsIn l (open_ways m (exit_at es p).gates (exit_at es p).alternates acc)
open_at m es start acc b p l i e =
    let r = from_through m es acc l i in
    let s : r.0 ≡ p = sym (open_leads m (length es) r.0 (exit_at es r.0) acc l (b.leads r.0) r.2).0 ∙ e in
    subst (λ (z : ℕ). IsIn l (open_ways m (exit_at es z).gates (exit_at es z).alternates acc)) s r.2

-- ---- the same links, place by place and all in one list

from_place : (m : Mode) (gs : List Gate) (ls : List Hop) (p : ℕ) (acc : List Bool) (l : Hop) → IsIn l (open_ways m (gates_from p gs) (links_from p ls) acc) → IsIn l (open_ways m gs ls acc)
from_place m gs ls p acc l i = elim (in-append l (open_links m (gates_from p gs) acc) (open_alternates m (gates_from p gs) (links_from p ls) acc) i) [
  | inl j ↦
      let r = from_open m l (gates_from p gs) acc j in
      let f = from_filter (λ (z : Gate). eqb z.link.from p) r.0 gs r.1 in
      in_front l (open_links m gs acc) (open_alternates m gs ls acc) (subst (λ (z : Hop). IsIn z (open_links m gs acc)) (sym r.2) (open_in m r.0 gs acc f.0 r.3))
  | inr j ↦
      let r = from_blocked m (gates_from p gs) l (links_from p ls) acc j in
      let f = from_filter (λ (z : Hop). eqb z.from p) l ls r.0 in
      in_back l (open_links m gs acc) (open_alternates m gs ls acc) (blocked_in m gs l ls acc f.0 (blocks_all m gs l.from acc (λ g k s.
      all_block_at m (gates_from p gs) l.from acc r.1 g (in_filter (λ (z : Gate). eqb z.link.from p) g gs k (ap (λ (z : ℕ). eqb z p) s ∙ f.1)) s)))
]

to_place : (m : Mode) (gs : List Gate) (ls : List Hop) (acc : List Bool) (l : Hop) → IsIn l (open_ways m gs ls acc) → IsIn l (open_ways m (gates_from l.from gs) (links_from l.from ls) acc)
to_place m gs ls acc l i = elim (in-append l (open_links m gs acc) (open_alternates m gs ls acc) i) [
  | inl j ↦
      let r = from_open m l gs acc j in
      let t : eqb r.0.link.from l.from ≡ true = ap (λ (z : Hop). eqb z.from l.from) (sym r.2) ∙ eqb_same l.from in
      in_front l (open_links m (gates_from l.from gs) acc) (open_alternates m (gates_from l.from gs) (links_from l.from ls) acc)
      (subst (λ (z : Hop). IsIn z (open_links m (gates_from l.from gs) acc)) (sym r.2) (open_in m r.0 (gates_from l.from gs) acc (in_filter (λ (z : Gate). eqb z.link.from l.from) r.0 gs r.1 t) r.3))
  | inr j ↦
      let r = from_blocked m gs l ls acc j in
      in_back l (open_links m (gates_from l.from gs) acc) (open_alternates m (gates_from l.from gs) (links_from l.from ls) acc)
      (blocked_in m (gates_from l.from gs) l (links_from l.from ls) acc (in_filter (λ (z : Hop). eqb z.from l.from) l ls r.0 (eqb_same l.from))
      (blocks_all m (gates_from l.from gs) l.from acc (λ g k s. all_block_at m gs l.from acc r.1 g (from_filter (λ (z : Gate). eqb z.link.from l.from) g gs k).0 s)))
]

pub all_from_places : (m : Mode) (gs : List Gate) (ls : List Hop) (n : ℕ) (es : List Exit) (acc : List Bool) → AreExits gs ls n es → (l : Hop) → IsIn l (open_through m es acc) → IsIn l (open_ways m gs ls acc)
all_from_places m gs ls n es acc a l i =
    let r = from_through m es acc l i in
    from_place m gs ls r.0 acc l (subst (λ (z : List Hop). IsIn l (open_ways m (gates_from r.0 gs) z acc)) (a.alternates r.0) (subst (λ (z : List Gate). IsIn l (open_ways m z (exit_at es r.0).alternates acc)) (a.gates r.0) r.2))

pub all_to_places : (m : Mode) (gs : List Gate) (ls : List Hop) (n : ℕ) (es : List Exit) (acc : List Bool) → AreExits gs ls n es → (l : Hop) → l.from < n → IsIn l (open_ways m gs ls acc) → IsIn l (open_through m es acc)
all_to_places m gs ls n es acc a l h i =
    in_through m es acc l l.from (subst (λ (z : ℕ). l.from < z) (sym a.size) h)
    (subst (λ (z : List Gate). IsIn l (open_ways m z (exit_at es l.from).alternates acc)) (sym (a.gates l.from)) (subst (λ (z : List Hop). IsIn l (open_ways m (gates_from l.from gs) z acc)) (sym (a.alternates l.from)) (to_place m gs ls acc l i)))

pub chain_along : (one other : List Hop) → ((l : Hop) → IsIn l one → IsIn l other) → {a b : ℕ} → Chain one a b → Chain other a b
chain_along one other f still = still
chain_along one other f (along l i s t rest) = along l (f l i) s t (chain_along one other f rest)

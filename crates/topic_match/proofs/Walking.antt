-- The walk: what a token leads to, and what is added.
use Rattle.topic_match.proofs.Names.{◌≡◌, ℕ, zero, suc, ◌+◌, ◌<◌, List, [], ◌∷◌, ◌++◌, Bool, false, refl, sym, ap, ◌∙◌, subst, length, take, get_or, inl, inr, arith, append_assoc, append-nil, Option, Some, None, IfSome, IfNone, same_from_push, false≢true, Text, Matches, word, IsIn, Token, Word, One, Any, Node, Met, AreCounts, node_at, beginning_at, last_token, AreLinked, IsChild, AllDistinct, Begins, AreSteps, GoesOn, nodes_of, AreAdded, IsStep, IsBarren}
use Rattle.std.specs.Prelude.{◌⊎◌}
use Rattle.model.proofs.Joins.{split, last_of}
use Rattle.topic_match.proofs.Lists.{in_front, in_back, in_two, in_push, apart_two, in_taken, take_push, new_at, take_all, front_taken}

-- ---- nodes and their beginnings

take_none : {A : Type 0} (n : ℕ) (xs : List A) → n ≡ 0 → take n xs ≡ []
take_none zero xs e = refl
take_none (suc n) xs e = absurd (omega (arith, e))

pub root_is : (patterns : List (List Token)) (nodes : List Node) (slots : List ℕ) → AreLinked patterns nodes slots → beginning_at patterns nodes 0 ≡ []
root_is patterns nodes slots l = take_none (node_at nodes 0).depth (get_or patterns (node_at nodes 0).pattern []) l.root

some_push : {A : Type 0} (xs : List A) (x : A) → [] ≡ xs ++ x ∷ [] → ⊥
some_push [] x e = cc
some_push (y ∷ xs) x e = cc

behind_root : (patterns : List (List Token)) (nodes : List Node) (slots : List ℕ) (c : ℕ) (b : List Token) (t : Token) → AreLinked patterns nodes slots
    → beginning_at patterns nodes c ≡ b ++ t ∷ [] → 0 < c
behind_root patterns nodes slots zero b t l e = absurd (some_push b t (sym (root_is patterns nodes slots l) ∙ e))
behind_root patterns nodes slots (suc c) b t l e = omega arith

-- the beginnings of a beginning are there too
pub up : (patterns : List (List Token)) (nodes : List Node) (slots : List ℕ) (fuel c : ℕ) (b rest : List Token) → AreLinked patterns nodes slots → c < fuel → c < length nodes
    → beginning_at patterns nodes c ≡ b ++ rest → (a : ℕ) × (a < length nodes) × (beginning_at patterns nodes a ≡ b)
up patterns nodes slots zero c b rest l f h e = absurd (omega (arith, f))
up patterns nodes slots (suc fuel) c b rest l f h e = elim (last_of rest) [
  | inl n ↦ (c, h, e ∙ ap (λ (z : List Token). b ++ z) n ∙ append-nil b)
  | inr p ↦
      let g : beginning_at patterns nodes c ≡ (b ++ p.0) ++ p.1 ∷ [] = e ∙ ap (λ (z : List Token). b ++ z) p.2 ∙ sym (append_assoc b p.0 (p.1 ∷ [])) in
      let n = l.each c (behind_root patterns nodes slots c (b ++ p.0) p.1 l g) h in
      let s = same_from_push (beginning_at patterns nodes (node_at nodes c).parent) (b ++ p.0) (last_token patterns (node_at nodes c)) p.1 (sym n.behind ∙ g) in
      let q = n.parent in
      up patterns nodes slots fuel (node_at nodes c).parent b p.0 l (omega (arith, f, q)) (omega (arith, h, q)) s.0
]

-- the node of a beginning with one token more is its child
pub is_child : (patterns : List (List Token)) (nodes : List Node) (slots : List ℕ) (at a : ℕ) (t : Token) → AreLinked patterns nodes slots → at < length nodes → a < length nodes
    → beginning_at patterns nodes a ≡ beginning_at patterns nodes at ++ t ∷ [] → IsChild patterns nodes at t a
is_child patterns nodes slots at a t l h k e =
    let some = behind_root patterns nodes slots a (beginning_at patterns nodes at) t l e in
    let n = l.each a some k in
    let q = n.parent in
    let s = same_from_push (beginning_at patterns nodes (node_at nodes a).parent) (beginning_at patterns nodes at) (last_token patterns (node_at nodes a)) t (sym n.behind ∙ e) in
    record {
      some = some;
      within = k;
      last = record { origin = l.distinct (node_at nodes a).parent at (omega (arith, q, k)) h s.0; token_is = s.1 };
    }

pub child_is : (patterns : List (List Token)) (nodes : List Node) (slots : List ℕ) (at a : ℕ) (t : Token) → AreLinked patterns nodes slots → IsChild patterns nodes at t a
    → (at < a) × (beginning_at patterns nodes a ≡ beginning_at patterns nodes at ++ t ∷ [])
child_is patterns nodes slots at a t l i =
    let n = l.each a i.some i.within in
    let q = n.parent in
    let o = i.last.origin in (
      omega (arith, q, o),
      n.behind ∙ ap (λ (z : ℕ). beginning_at patterns nodes z ++ last_token patterns (node_at nodes a) ∷ []) o
          ∙ ap (λ (z : Token). beginning_at patterns nodes at ++ z ∷ []) i.last.token_is,
    )

one_more : (b : List Token) (t : Token) (rest : List Token) → b ++ t ∷ rest ≡ (b ++ t ∷ []) ++ rest
one_more b t rest = sym (append_assoc b (t ∷ []) rest)

pub barren_none : (patterns : List (List Token)) (nodes : List Node) (slots : List ℕ) (words : List Text) (at : ℕ) (t : Token) → AreLinked patterns nodes slots → at < length nodes
    → ((c : ℕ) → IsChild patterns nodes at t c → ⊥) → IsBarren patterns nodes words at t
barren_none patterns nodes slots words at t l h n = λ c i rest k e m d.
    let a = up patterns nodes slots (suc c) c (beginning_at patterns nodes at ++ t ∷ []) rest l (omega arith) k (e ∙ one_more (beginning_at patterns nodes at) t rest) in
    n a.0 (is_child patterns nodes slots at a.0 t l h a.1 a.2)

pub barren_empty : (patterns : List (List Token)) (nodes : List Node) (words : List Text) (at : ℕ) (t : Token) (counts : List Bool) → AreCounts (beginning_at patterns nodes at ++ t ∷ []) words counts
    → ((i : ℕ) → get_or counts i false ≡ false) → IsBarren patterns nodes words at t
barren_empty patterns nodes words at t counts a n = λ c i rest k e m d.
    let b = beginning_at patterns nodes at in
    let p = split (b ++ t ∷ []) rest m (e ∙ one_more b t rest) in
    let f = front_taken words i p.front p.back d p.whole in
    false≢true (sym (n f.0) ∙ (a.each f.0 f.1).1 (subst (Matches (b ++ t ∷ [])) f.2 p.first))

pub step_is : (patterns : List (List Token)) (nodes : List Node) (slots : List ℕ) (words : List Text) (at c : ℕ) (t : Token) (counts : List Bool) → AreLinked patterns nodes slots
    → IsChild patterns nodes at t c → AreCounts (beginning_at patterns nodes at ++ t ∷ []) words counts → IsStep patterns nodes words at t c counts
step_is patterns nodes slots words at c t counts l i a =
    let b = child_is patterns nodes slots at c t l i in
    record { later = b.0; within = i.within; begins = b.1; are = subst (λ (ts : List Token). AreCounts ts words counts) (sym b.1) a }

-- ---- what is added

nodes_two : (xs ys : List Met) → nodes_of (xs ++ ys) ≡ nodes_of xs ++ nodes_of ys
nodes_two [] ys = refl
nodes_two (x ∷ xs) ys = ap (λ (z : List ℕ). x.node ∷ z) (nodes_two xs ys)

pub node_in : (xs : List Met) (c : ℕ) → IsIn c (nodes_of xs) → (m : Met) × IsIn m xs × (c ≡ m.node)
node_in [] c h = absurd h
node_in (x ∷ xs) c h = elim h [ inl e ↦ (x, inl refl, e) | inr r ↦ (let p = node_in xs c r in (p.0, inr p.1, p.2)) ]

append_none : {A : Type 0} (xs : List A) → xs ≡ xs ++ []
append_none xs = sym (append-nil xs)

pub added_none : (patterns : List (List Token)) (nodes : List Node) (words : List Text) (b : List Token) (met : List Met) → AreAdded patterns nodes words (GoesOn b []) met met
added_none patterns nodes words b met = record {
  more = [];
  is_added = append_none met;
  are = record { distinct = tt; within = λ m h. absurd h; such = λ m h. absurd h; counts = λ m h. absurd h; all = λ c i h k m s. absurd s.2 };
}

pub added_skip : (patterns : List (List Token)) (nodes : List Node) (words : List Text) (at n : ℕ) (steps : List Token) (t : Token) (old new : List Met) → n < length steps → t ≡ get_or steps n t
    → IsBarren patterns nodes words at t → AreAdded patterns nodes words (GoesOn (beginning_at patterns nodes at) (take n steps)) old new
    → AreAdded patterns nodes words (GoesOn (beginning_at patterns nodes at) (take (n + 1) steps)) old new
added_skip patterns nodes words at n steps t old new h e barren a =
    let is = take_push steps n t h e in
    subst (λ (z : List Token). AreAdded patterns nodes words (GoesOn (beginning_at patterns nodes at) z) old new) (sym is) (record {
      more = a.more;
      is_added = a.is_added;
      are = record {
        distinct = a.are.distinct;
        within = a.are.within;
        such = λ m k. (let s = a.are.such m k in (s.0, s.1, in_front (take n steps) (t ∷ []) s.0 s.2, s.3));
        counts = a.are.counts;
        all = λ c i k d m s. elim (in_push (take n steps) t s.0 s.2) [
          | inl p ↦ a.are.all c i k d m (s.0, s.1, p, s.3)
          | inr q ↦ absurd (barren c i s.1 k (s.3 ∙ ap (λ (z : Token). beginning_at patterns nodes at ++ z ∷ s.1) q) m d)
        ];
      };
    })

same_next : (b : List Token) (t u : Token) (xs ys : List Token) → b ++ t ∷ xs ≡ b ++ u ∷ ys → t ≡ u
same_next [] t u xs ys e = cc
same_next (x ∷ b) t u xs ys e = same_next b t u xs ys (let f : x ∷ (b ++ t ∷ xs) ≡ x ∷ (b ++ u ∷ ys) = e in cc)

pub added_more : (patterns : List (List Token)) (nodes : List Node) (words : List Text) (at n next : ℕ) (counts : List Bool) (steps : List Token) (t : Token) (old new last : List Met) → n < length steps
    → t ≡ get_or steps n t → AllDistinct steps → IsStep patterns nodes words at t next counts → AreAdded patterns nodes words (Begins (beginning_at patterns nodes next)) new last
    → AreAdded patterns nodes words (GoesOn (beginning_at patterns nodes at) (take n steps)) old new
    → AreAdded patterns nodes words (GoesOn (beginning_at patterns nodes at) (take (n + 1) steps)) old last
added_more patterns nodes words at n next counts steps t old new last h e distinct s r a =
    let b = beginning_at patterns nodes at in
    let is = take_push steps n t h e in
    let begins : (x : List Token) → Begins (beginning_at patterns nodes next) x → (rest : List Token) × (x ≡ b ++ t ∷ rest) =
    λ x p. (p.0, p.1 ∙ ap (λ (z : List Token). z ++ p.0) s.begins ∙ sym (one_more b t p.0)) in
    let clash : (c : ℕ) → IsIn c (nodes_of a.more) → IsIn c (nodes_of r.more) → ⊥ = λ c p q.
    let x = node_in a.more c p in
    let y = node_in r.more c q in
    let u = a.are.such x.0 x.1 in
    let v = begins (beginning_at patterns nodes y.0.node) (r.are.such y.0 y.1) in
    let f : beginning_at patterns nodes x.0.node ≡ beginning_at patterns nodes y.0.node = ap (λ (z : ℕ). beginning_at patterns nodes z) (sym x.2 ∙ y.2) in
    new_at steps n t distinct h e (subst (λ (z : Token). IsIn z (take n steps)) (same_next b u.0 t u.1 v.0 (sym u.3 ∙ f ∙ v.1)) u.2) in
    subst (λ (z : List Token). AreAdded patterns nodes words (GoesOn b z) old last) (sym is) (record {
      more = a.more ++ r.more;
      is_added = r.is_added ∙ ap (λ (z : List Met). z ++ r.more) a.is_added ∙ append_assoc old a.more r.more;
      are = record {
        distinct = subst (λ (z : List ℕ). AllDistinct z) (sym (nodes_two a.more r.more)) (apart_two (nodes_of a.more) (nodes_of r.more) a.are.distinct r.are.distinct clash);
        within = λ m k. elim (in_two a.more r.more m k) [ inl p ↦ a.are.within m p | inr q ↦ r.are.within m q ];
        such = λ m k. elim (in_two a.more r.more m k) [
          | inl p ↦ (let u = a.are.such m p in (u.0, u.1, in_front (take n steps) (t ∷ []) u.0 u.2, u.3))
          | inr q ↦ (let v = begins (beginning_at patterns nodes m.node) (r.are.such m q) in (t, v.0, in_back (take n steps) (t ∷ []) t (inl refl), v.1))
        ];
        counts = λ m k. elim (in_two a.more r.more m k) [ inl p ↦ a.are.counts m p | inr q ↦ r.are.counts m q ];
        all = λ c i k d m u. subst (λ (z : List ℕ). IsIn c z) (sym (nodes_two a.more r.more)) (elim (in_push (take n steps) t u.0 u.2) [
          | inl p ↦ in_front (nodes_of a.more) (nodes_of r.more) c (a.are.all c i k d m (u.0, u.1, p, u.3))
          | inr q ↦ in_back (nodes_of a.more) (nodes_of r.more) c (r.are.all c i k d m (u.1, u.3 ∙ ap (λ (z : Token). b ++ z ∷ u.1) q ∙ one_more b t u.1 ∙ ap (λ (z : List Token). z ++ u.1) (sym s.begins)))
        ]);
      };
    })

-- the tokens behind a match are among the steps
word_in : (b : List Token) (v : Text) (ws : List Text) → Matches (Word v ∷ b) ws → IsIn v ws
word_in b v [] m = elim m [ ]
word_in b v (w ∷ ws) (word m) = inl refl

in_steps : (steps : List Token) (words : List Text) (t : Token) (i : ℕ) (b rest : List Token) → AreSteps steps words → Matches (b ++ t ∷ rest) (take i words) → IsIn t steps
in_steps steps words (Word v) i b rest s m =
    let p = split b (Word v ∷ rest) m refl in
    s.each v (in_taken words i v (subst (λ (z : List Text). IsIn v z) (sym p.whole) (in_back p.front p.back v (word_in rest v p.back p.second))))
in_steps steps words One i b rest s m = s.one
in_steps steps words Any i b rest s m = s.any

begins_or : (b x : List Token) → Begins b x → (x ≡ b) ⊎ ((t : Token) × (rest : List Token) × (x ≡ b ++ t ∷ rest))
begins_or b x p = go p.0 p.1
  where
    go : (rest : List Token) → x ≡ b ++ rest → (x ≡ b) ⊎ ((t : Token) × (more : List Token) × (x ≡ b ++ t ∷ more))
    go [] e = inl (e ∙ append-nil b)
    go (t ∷ more) e = inr (t, more, e)

longer : (b : List Token) (t : Token) (rest : List Token) → b ≡ b ++ t ∷ rest → ⊥
longer [] t rest e = cc
longer (x ∷ b) t rest e = longer b t rest (let f : x ∷ b ≡ x ∷ (b ++ t ∷ rest) = e in cc)

pub added_here : (patterns : List (List Token)) (nodes : List Node) (slots : List ℕ) (words : List Text) (steps : List Token) (here : Met) (n : ℕ) (old new last : List Met) → n ≡ length steps → AreLinked patterns nodes slots
    → here.node < length nodes → AreCounts (beginning_at patterns nodes here.node) words here.counts.items → AreSteps steps words → last ≡ new ++ here ∷ []
    → AreAdded patterns nodes words (GoesOn (beginning_at patterns nodes here.node) (take n steps)) old new
    → AreAdded patterns nodes words (Begins (beginning_at patterns nodes here.node)) old last
added_here patterns nodes slots words steps here n old new last size l h counts taken is a' =
    let b = beginning_at patterns nodes here.node in
    let a : AreAdded patterns nodes words (GoesOn b steps) old new = subst (λ (z : List Token). AreAdded patterns nodes words (GoesOn b z) old new) (ap (λ (i : ℕ). take i steps) size ∙ take_all steps) a' in
    record {
      more = a.more ++ here ∷ [];
      is_added = is ∙ ap (λ (z : List Met). z ++ here ∷ []) a.is_added ∙ append_assoc old a.more (here ∷ []);
      are = record {
        distinct = subst (λ (z : List ℕ). AllDistinct z) (sym (nodes_two a.more (here ∷ []))) (apart_two (nodes_of a.more) (here.node ∷ []) a.are.distinct ((λ e. e), tt)
            (λ c p q. elim q [
              | inl e ↦ (let x = node_in a.more c p in let u = a.are.such x.0 x.1 in longer b u.0 u.1 (ap (λ (z : ℕ). beginning_at patterns nodes z) (sym e ∙ x.2) ∙ u.3))
              | inr r ↦ r
            ]));
        within = λ m k. elim (in_push a.more here m k) [ inl p ↦ a.are.within m p | inr q ↦ subst (λ (z : Met). z.node < length nodes) (sym q) h ];
        such = λ m k. elim (in_push a.more here m k) [
          | inl p ↦ (let u = a.are.such m p in (u.0 ∷ u.1, u.3))
          | inr q ↦ subst (λ (z : Met). Begins b (beginning_at patterns nodes z.node)) (sym q) ([], append_none b)
        ];
        counts = λ m k. elim (in_push a.more here m k) [
          | inl p ↦ a.are.counts m p
          | inr q ↦ subst (λ (z : Met). AreCounts (beginning_at patterns nodes z.node) words z.counts.items) (sym q) counts
        ];
        all = λ c i k d m s. subst (λ (z : List ℕ). IsIn c z) (sym (nodes_two a.more (here ∷ []))) (elim (begins_or b (beginning_at patterns nodes c) s) [
          | inl e ↦ in_back (nodes_of a.more) (here.node ∷ []) c (inl (l.distinct c here.node k h e))
          | inr u ↦ in_front (nodes_of a.more) (here.node ∷ []) c
              (a.are.all c i k d m (u.0, u.1, in_steps steps words u.0 i b u.1 taken (subst (λ (z : List Token). Matches z (take i words)) u.2 m), u.2))
        ]);
      };
    }

pub found_step : (patterns : List (List Token)) (nodes : List Node) (words : List Text) (at : ℕ) (t : Token) (o : Option Met) (next : Met) → o ≡ Some next
    → IfSome o (λ m. IsStep patterns nodes words at t m.node m.counts.items) → IsStep patterns nodes words at t next.node next.counts.items
found_step patterns nodes words at t o next e h =
    subst (λ (z : Option Met). IfSome z (λ m. IsStep patterns nodes words at t m.node m.counts.items)) e h

pub found_none : (patterns : List (List Token)) (nodes : List Node) (words : List Text) (at : ℕ) (t : Token) (o : Option Met) → o ≡ None
    → IfNone o (IsBarren patterns nodes words at t) → IsBarren patterns nodes words at t
found_none patterns nodes words at t o e h =
    subst (λ (z : Option Met). IfNone z (IsBarren patterns nodes words at t)) e h

-- What leads to a queue is what chains of links lead to from it.
use Rattle.paths.proofs.Names.{◌≡◌, ℕ, zero, suc, ◌+◌, ◌<◌, ◌≤◌, List, [], ◌∷◌, ◌++◌, Bool, true, refl, sym, ap, ◌∙◌, subst, length, take, get_or, inl, inr, Option, Some, None, arith, Decides, slice_get, false≢true, take_all, take_more, Text, Topology, IsIn, of_key, Comes, Destination, comes_fixed, IsSet, Hop, Location, Visit, AreReached, Chain, LinksAreWithin, still, along, fixed_of, spot_place, IsRefixed, Refixes, AreExplored, Onto, there, comes, AddsFront, AddsLink, AreLeading, AreLinked, ComesAfter, IsFront, IsLeading, IsSource, LinkHolds, LinksAll, SomeLeads, links_from, in_get}
use Rattle.std.proofs.Common.{false}
use Rattle.model.specs.declared.topologies.Destination.TheVariants as destination
use Rattle.laws.proofs.Counts.{in_front, in_back, in-append}
use Rattle.paths.specs.Leading.{Leads as Locations}
use Rattle.paths.proofs.Traced.{below_or, in_at}
use Rattle.paths.proofs.Chains.{chain_on}
use Rattle.paths.proofs.Explorations.{Trail, refixed_key, refixed_once, refixed_within, trail_comes, trail_of, walk}

-- ---- what a stand adds

same_source : (t : Topology) (q : Text) (s : Location) (o : Option ℕ) (n : ℕ) → IsSource t q s o → IsSource t q s (Some n) → o ≡ Some n
same_source t q s None n a (inl e) = absurd (let h : None ≡ Some n = sym a.0 ∙ e in cc)
same_source t q s None n a (inr b) = absurd (a.1 b.2)
same_source t q s (Some m) n (inl d) (inl e) = sym d ∙ e
same_source t q s (Some m) n (inl d) (inr b) = absurd (let h : Some m ≡ None = sym d ∙ b.0 in cc)
same_source t q s (Some m) n (inr a) (inl e) = absurd (let h : None ≡ Some n = sym a.0 ∙ e in cc)
same_source t q s (Some m) n (inr a) (inr b) = ap (λ (z : ℕ). Some z) (a.1 ∙ sym b.1)

-- from what was explored a message comes to the queue where what it adds leads there
pub source_comes : (t : Topology) (q x key : Text) (visits : List Visit) (v : Visit) (n : ℕ) → AreExplored t x key visits → IsIn v visits → IsSource t q v.location (Some n) → IsLeading t q n → Comes t (of_key key) None x q
source_comes t q x key visits v n e i (inr s) l =
    e.sound q v i (subst (λ (z : Destination). Onto t key q (fixed_of t v.location.fixed) z) (sym s.2) there)
source_comes t q x key visits v n e i (inl s) l = elim (e.heads v i) [
  | inl k ↦ absurd (let h : None ≡ Some n = sym k ∙ s in cc)
  | inr r ↦ (
      let h : Some r.queue ≡ Some n = sym r.fixed ∙ s in
      let same : r.queue ≡ n = cc in
      elim l [
        | inl z ↦ absurd (let w = refixed_within t r.queue r.exchange r.key r.fixes in omega (arith, w, same, z))
        | inr a ↦ from r a (subst (λ (m : ℕ). Refixes t m r.exchange r.key) same r.fixes) same
      ])
]
  where
    from : (r : IsRefixed t v.location) → (a : ComesAfter t q n) → Refixes t n r.exchange r.key → r.queue ≡ n → Comes t (of_key key) None x q
    from r a f same =
        let one = refixed_once t n a.exchange a.key r.exchange r.key a.fixes f in
        let c : Comes t (of_key key) (Some a.key) a.exchange q = comes_fixed t (Some a.key) key {h = None} a.comes in
        let k : Some a.key ≡ fixed_of t v.location.fixed = ap (λ (z : Text). Some z) one.1 ∙ sym (key_of r) in
        let p : destination.Exchange a.exchange ≡ spot_place t v.location.spot = ap (λ (z : Text). destination.Exchange z) one.0 ∙ sym r.place in
        e.sound q v i (subst (λ (z : Destination). Onto t key q (fixed_of t v.location.fixed) z) p (subst (λ (z : Option Text). Onto t key q z (destination.Exchange a.exchange)) k (comes c)))
      where
        key_of : (r : IsRefixed t v.location) → fixed_of t v.location.fixed ≡ Some r.key
        key_of r = ap (fixed_of t) r.fixed ∙ refixed_key t r.queue r.exchange r.key r.fixes

-- ---- link by link

pub links_none : (t : Topology) (q : Text) (to : ℕ) (old : List Hop) → LinksAll t q [] to old old
links_none t q to old = record { kept = λ l i. i; only = λ l i. inl i; all = λ v n i. absurd i }

in_links : (o : Option ℕ) (to : ℕ) (l : Hop) → IsIn l (links_from o to) → (n : ℕ) × (o ≡ Some n) × (l ≡ record { from = n; to = to })
in_links None to l i = absurd i
in_links (Some n) to l (inl e) = (n, refl, e)
in_links (Some n) to l (inr i) = absurd i

links_then : (t : Topology) (q : Text) (visits : List Visit) (v : Visit) (to : ℕ) (old mid new : List Hop) → LinksAll t q visits to old mid → AddsLink t q v.location to mid new → LinksAll t q (visits ++ v ∷ []) to old new
links_then t q visits v to old mid new a b = record {
  kept = λ l i. grown l (a.kept l i);
  only = λ l i. (elim (in-append l mid (links_from b.0 to) (subst (λ (z : List Hop). IsIn l z) b.2 i)) [
    | inl j ↦ (elim (a.only l j) [ inl k ↦ inl k | inr k ↦ inr (k.0, in_front k.0 visits (v ∷ []) k.1, k.2, k.3) ])
    | inr j ↦ (
        let r = in_links b.0 to l j in
        let s : IsSource t q v.location (Some r.0) = subst (λ (o : Option ℕ). IsSource t q v.location o) r.1 b.1 in
        inr (v, in_back v visits (v ∷ []) (inl refl), ap (λ (z : Hop). z.to) r.2, subst (λ (m : ℕ). IsSource t q v.location (Some m)) (sym (ap (λ (z : Hop). z.from) r.2)) s))
  ]);
  all = λ w n i s. (elim (in-append w visits (v ∷ []) i) [
    | inl j ↦ grown (record { from = n; to = to }) (a.all w n j s)
    | inr j ↦ (elim j [
      | inl e ↦ (
          let o : b.0 ≡ Some n = same_source t q v.location b.0 n b.1 (subst (λ (z : Visit). IsSource t q z.location (Some n)) e s) in
          subst (λ (z : List Hop). IsIn (record { from = n; to = to }) z) (sym b.2)
          (in_back (record { from = n; to = to }) mid (links_from b.0 to) (subst (λ (z : Option ℕ). IsIn (record { from = n; to = to }) (links_from z to)) (sym o) (inl refl))))
      | inr z ↦ absurd z
    ])
  ]);
}
  where
    grown : (l : Hop) → IsIn l mid → IsIn l new
    grown l i = subst (λ (z : List Hop). IsIn l z) (sym b.2) (in_front l mid (links_from b.0 to) i)

pub links_more : (t : Topology) (q : Text) (visits : List Visit) (i : ℕ) (d : Visit) (to : ℕ) (old mid new : List Hop) → i < length visits → LinksAll t q (take i visits) to old mid → AddsLink t q (get_or visits i d).location to mid new
    → LinksAll t q (take (i + 1) visits) to old new
links_more t q visits i d to old mid new h a b =
    subst (λ (z : List Visit). LinksAll t q z to old new) (sym (take_more visits i d h)) (links_then t q (take i visits) (get_or visits i d) to old mid new a b)

pub links_all : (t : Topology) (q : Text) (visits : List Visit) (i to : ℕ) (old new : List Hop) → length visits ≤ i → LinksAll t q (take i visits) to old new → LinksAll t q visits to old new
links_all t q visits i to old new h a = subst (λ (z : List Visit). LinksAll t q z to old new) (take_all i visits h) a

-- ---- queue by queue

pub front_linked : (t : Topology) (q : Text) (at : ℕ) (exchange key : Text) (visits : List Visit) (old new : List Hop) → Refixes t at exchange key → AreExplored t exchange key visits → LinksAll t q visits at old new → AddsFront t q at old new
front_linked t q at exchange key visits old new r e a = record {
  kept = a.kept;
  only = λ l i. (elim (a.only l i) [ inl j ↦ inl j | inr j ↦ inr (holds l j.0 j.1 j.2 j.3) ]);
  front = λ x k f. (let one = refixed_once t at exchange key x k r f in
      subst (λ (z : Text). IsFront t q at z k new) one.0 (subst (λ (z : Text). IsFront t q at exchange z new) one.1 (record { visits = visits; explored = e; linked = λ v n i s. a.all v n i s })));
}
  where
    inside : (l : Hop) (v : Visit) → IsIn v visits → IsSource t q v.location (Some l.from) → l.from < length t.queues + 1
    inside l v i (inl s) = elim (e.heads v i) [
      | inl k ↦ absurd (let h : None ≡ Some l.from = sym k ∙ s in cc)
      | inr p ↦ (
          let h : Some p.queue ≡ Some l.from = sym p.fixed ∙ s in
          let same : p.queue ≡ l.from = cc in
          let w = refixed_within t p.queue p.exchange p.key p.fixes in
          omega (arith, w, same))
    ]
    inside l v i (inr s) = let k = s.1 in omega (arith, k)

    holds : (l : Hop) (v : Visit) → IsIn v visits → l.to ≡ at → IsSource t q v.location (Some l.from) → LinkHolds t q l
    holds l v i s o = record {
      from = inside l v i o;
      to = (let w = refixed_within t at exchange key r in omega (arith, w, s));
      leads = λ n. inr (subst (λ (z : ℕ). ComesAfter t q z) (sym s) (record { exchange = exchange; key = key; fixes = r; comes = source_comes t q exchange key visits v l.from e i o n }));
    }

-- it has no key of its own
pub no_front : (t : Topology) (q : Text) (at : ℕ) (links : List Hop) → ((exchange key : Text) → Refixes t at exchange key → ⊥) → AddsFront t q at links links
no_front t q at links none = record { kept = λ l i. i; only = λ l i. inl i; front = λ x k f. absurd (none x k f) }

pub linked_none : (t : Topology) (q : Text) → AreLinked t q [] 0
linked_none t q = record { holds = λ l i. absurd i; fronts = λ at x k h. absurd (omega (arith, h)) }

pub linked_more : (t : Topology) (q : Text) (at : ℕ) (old new : List Hop) → AreLinked t q old at → AddsFront t q at old new → AreLinked t q new (at + 1)
linked_more t q at old new a b = record {
  holds = λ l i. (elim (b.only l i) [ inl j ↦ a.holds l j | inr h ↦ h ]);
  fronts = λ p x k h f. (elim (below_or p at h) [
    | inl s ↦ (let g = a.fronts p x k s f in record { visits = g.visits; explored = g.explored; linked = λ v n i o. b.kept (record { from = n; to = p }) (g.linked v n i o) })
    | inr s ↦ subst (λ (z : ℕ). IsFront t q z x k new) (sym s) (b.front x k (subst (λ (z : ℕ). Refixes t z x k) s f))
  ]);
}

-- ---- chains of them

pub links_within : (t : Topology) (q : Text) (links : List Hop) (count : ℕ) → AreLinked t q links count → LinksAreWithin (length t.queues + 1) links
links_within t q links count a l i = let h = a.holds l i in (h.from, h.to)

leads_along : (t : Topology) (q : Text) (links : List Hop) (count : ℕ) → AreLinked t q links count → {a b : ℕ} → Chain links a b → IsLeading t q a → IsLeading t q b
leads_along t q links count k still n = n
leads_along t q links count k (along l i f g c) n =
    leads_along t q links count k c (subst (λ (z : ℕ). IsLeading t q z) g ((k.holds l i).leads (subst (λ (z : ℕ). IsLeading t q z) (sym f) n)))

chain_to : (t : Topology) (q : Text) (links : List Hop) → AreLinked t q links (length t.queues) → (fuel n : ℕ) (at : ℕ) (exchange key : Text) → Refixes t at exchange key → n < fuel → Trail t q n key exchange
    → Chain links (length t.queues) at
chain_to t q links k zero n at exchange key r h w = absurd (omega (arith, h))
chain_to t q links k (suc fuel) n at exchange key r h w =
    let f = k.fronts at exchange key (refixed_within t at exchange key r) r in
    elim f.explored.begun [
      | inl m ↦ walk t exchange key q f.visits f.explored (Chain links (length t.queues) at) n
          (λ v i s p. along (record { from = length t.queues; to = at }) (f.linked v (length t.queues) i (inr (s, refl, p))) refl refl still)
          (λ j v l i p u. chain_on links (chain_to t q links k fuel j p.queue p.exchange p.key p.fixes (omega (arith, l, h)) u) (record { from = p.queue; to = at }) at (f.linked v p.queue i (inl p.fixed)) refl refl)
          w refl (omega arith) m
      | inr none ↦ absurd (none q (trail_comes t w))
    ]

pub are_leading : (t : Topology) (q : Text) (links : List Hop) (marks : List Bool) → AreLinked t q links (length t.queues) → AreReached links (length t.queues + 1) (length t.queues) marks → AreLeading t q marks
are_leading t q links marks k r = record {
  size = r.size;
  sound = λ n s. leads_along t q links (length t.queues) k (r.sound n s) (inl refl);
  all = λ n l. r.all n (elim l [
    | inl e ↦ subst (λ (z : ℕ). Chain links (length t.queues) z) (sym e) still
    | inr a ↦ (let w = trail_of t a.key a.comes in chain_to t q links k (suc w.0) w.0 n a.exchange a.key a.fixes (omega arith) w.1)
  ]);
}

-- ---- what is asked

pub has_tells : (t : Topology) (q : Text) (marks : List Bool) (at : ℕ) (exchange key : Text) → AreLeading t q marks → Refixes t at exchange key → (IsSet marks at → Comes t (of_key key) None exchange q) × (Comes t (of_key key) None exchange q → IsSet marks at)
has_tells t q marks at exchange key a r = (λ s. to (a.sound at s), λ c. a.all at (inr (record { exchange = exchange; key = key; fixes = r; comes = c })))
  where
    to : IsLeading t q at → Comes t (of_key key) None exchange q
    to (inl e) = absurd (let w = refixed_within t at exchange key r in omega (arith, w, e))
    to (inr l) =
        let one = refixed_once t at l.exchange l.key exchange key l.fixes r in
        subst (λ (z : Text). Comes t (of_key z) None exchange q) one.1 (subst (λ (z : Text). Comes t (of_key l.key) None z q) one.0 l.comes)

pub some_tells : (t : Topology) (q x key : Text) (visits : List Visit) (marks : List Bool) → AreExplored t x key visits → AreLeading t q marks → (yes' : Bool) → Decides yes' (SomeLeads t q visits marks) → Decides yes' (Comes t (of_key key) None x q)
some_tells t q x key visits marks e a yes' d = (λ y. to (d.0 y), λ c. d.1 (from c))
  where
    to : SomeLeads t q visits marks → Comes t (of_key key) None x q
    to (v, i, (n, s, m)) = source_comes t q x key visits v n e i s (a.sound n m)

    from : Comes t (of_key key) None x q → SomeLeads t q visits marks
    from c = elim e.begun [
      | inl m ↦ (
          let w = trail_of t key c in
          walk t x key q visits e (SomeLeads t q visits marks) w.0
          (λ v i s p. (v, i, (length t.queues, inr (s, refl, p), a.all (length t.queues) (inl refl))))
          (λ j v l i r u. (v, i, (r.queue, inl r.fixed, a.all r.queue (inr (record { exchange = r.exchange; key = r.key; fixes = r.fixes; comes = trail_comes t u })))))
          w.1 refl (omega arith) m)
      | inr none ↦ absurd (none q c)
    ]

-- ---- visit by visit

-- none before this place adds what is marked
abbrev pub NoneLeads : Topology → Text → List Visit → List Bool → ℕ → Type 0
NoneLeads t q visits marks n = (i : ℕ) (v : Visit) → i < n → slice_get visits i ≡ Some v → Locations t q v.location marks → ⊥

pub one_leads : (t : Topology) (q : Text) (visits : List Visit) (marks : List Bool) (i : ℕ) (d : Visit) → i < length visits → Locations t q (get_or visits i d).location marks → Decides true (SomeLeads t q visits marks)
one_leads t q visits marks i d h s = (λ e. (get_or visits i d, in_get visits i d h, s), λ m. refl)

pub none_more : (t : Topology) (q : Text) (visits : List Visit) (marks : List Bool) (n : ℕ) (d : Visit) (yes' : Bool) → NoneLeads t q visits marks n → Decides yes' (Locations t q (get_or visits n d).location marks) → yes' ≡ false → NoneLeads t q visits marks (n + 1)
none_more t q visits marks n d yes' k a f i v h g s = elim (below_or i n h) [
  | inl b ↦ k i v b g s
  | inr e ↦ false≢true (sym f ∙ a.1 (subst (λ (z : Visit). Locations t q z.location marks) (sym (at_get visits n d v (subst (λ (j : ℕ). slice_get visits j ≡ Some v) e g))) s))
]
  where
    at_get : (xs : List Visit) (i : ℕ) (d v : Visit) → slice_get xs i ≡ Some v → get_or xs i d ≡ v
    at_get [] i d v e = absurd (let h : None ≡ Some v = e in cc)
    at_get (x ∷ xs) zero d v e = let h : Some x ≡ Some v = e in cc
    at_get (x ∷ xs) (suc i) d v e = at_get xs i d v e

pub none_leads : (t : Topology) (q : Text) (visits : List Visit) (marks : List Bool) (n : ℕ) → length visits ≤ n → NoneLeads t q visits marks n → Decides false (SomeLeads t q visits marks)
none_leads t q visits marks n h k = (λ e. absurd (false≢true e), λ m. absurd (let i = in_at visits m.0 m.1 in k i.0 m.0 (let b = i.1 in omega (arith, b, h)) i.2 m.2))

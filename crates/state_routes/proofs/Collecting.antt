-- The patterns that are collected are those of the exchanges that a message may meet.
use Rattle.state_routes.proofs.Names.{◌≡◌, ◌⊎◌, ℕ, zero, suc, ◌+◌, ◌<◌, ◌≤◌, Bool, true, false, cond, List, [], ◌∷◌, length, map, ◌++◌, refl, sym, ap, subst, ◌∙◌, inl, inr, Option, Some, arith, Contains, slice_index_or, fold, flat_map, bytes_eq, false≢true, Text, Topology, IsIn, IsWellFormed, exchange_names, Guarantee, Tracked, Met, own, by_bound, by_alternate, by_death, MayEnter, by_binding, by_name, IsTrackedList, Selects, as_topic, same_tracked, appended_if_new, keys_from, keys_by, keys_of, names_in, Mode, Exchange, DeclaredQueue, Binding, Destination, ExchangeKind, Direct, Fanout, Topic, IsSet, Hop, Chain, still, along, LinksAreWithin, node, count, end_node, link_of, links_of, alternate_links, any_links, Gate, AreEntered, IsUnfixedEnd, dying, entry, default_entry, links_in, unfixed_end, AreInReach, onto_tracked, keys_onto, keys_by_onto, names_onto, names_if, topics_onto, met_onto, collected, chain_on, in_front, in_back, in-append, in_map, from_map, contained, has_place, first_is}
use Rattle.std.proofs.lemmas.List.Sums.{fold-append}
use Rattle.model.specs.declared.topologies.Destination.TheVariants as destination
use Rattle.state_routes.proofs.Numbers.{node_same, node_default, node_above, node_within}
use Rattle.state_routes.proofs.Known.{alternate_in, from_alternates}
use Rattle.state_routes.proofs.DeadLetters.{FromDeath, ToDeath, from_entered, to_entered, dying_tells, dying_has, unfixed_tells, link_of_gate, gate_of_link}

link_in : (xs : List Exchange) (q : Text) (b : Binding) (bs : List Binding) → IsIn b bs → IsIn (link_of xs q b) (links_of xs q bs)
link_in xs q b [] i = absurd i
link_in xs q b (c ∷ cs) (inl e) = inl (ap (link_of xs q) e)
link_in xs q b (c ∷ cs) (inr i) = inr (link_in xs q b cs i)

from_links : (xs : List Exchange) (q : Text) (l : Hop) (bs : List Binding) → IsIn l (links_of xs q bs) → (b : Binding) × IsIn b bs × (l ≡ link_of xs q b)
from_links xs q l [] i = absurd i
from_links xs q l (b ∷ bs) (inl e) = (b, inl refl, e)
from_links xs q l (b ∷ bs) (inr i) = let r = from_links xs q l bs i in (r.0, inr r.1, r.2)

pub end_within : (xs : List Exchange) (q : Text) (to : Destination) → end_node xs q to < length xs + 4
end_within xs q (destination.Exchange name) = node_within xs name
end_within xs q (destination.Queue name) = go (bytes_eq name q)
  where
    go : (b : Bool) → cond b 0 1 < length xs + 4
    go true = omega arith
    go false = omega arith

pub links_within : (t : Topology) (q : Text) → LinksAreWithin (count t) (any_links t q)
links_within t q l i = elim (in-append l (links_of t.exchanges q t.bindings) (alternate_links t.exchanges t.exchanges) i) [
  | inl j ↦
      let r = from_links t.exchanges q l t.bindings j in
      subst (λ (z : Hop). (z.from < length t.exchanges + 4) × (z.to < length t.exchanges + 4)) (sym r.2) (node_within t.exchanges r.0.source, end_within t.exchanges q r.0.to)
  | inr j ↦
      let r = from_alternates t.exchanges t.exchanges l j in
      subst (λ (z : Hop). (z.from < length t.exchanges + 4) × (z.to < length t.exchanges + 4)) (sym r.4) (node_within t.exchanges r.0.name, node_within t.exchanges r.1)
]

module _ (t : Topology) (m : Mode) (q : Text) (deaths : List Gate) (entered : AreEntered t [] (IsUnfixedEnd t) (dying m t.queues) deaths) where
  -- the ways by which dead letters lead on start from exchanges, and end in them
  death_low : (g : Gate) → IsIn g deaths → (2 ≤ g.link.from) × (g.link.from < length t.exchanges + 4) × (g.link.to < length t.exchanges + 4)
  death_low g i =
      let w = from_entered t [] (IsUnfixedEnd t) g entered i in
      let u = unfixed_tells t.exchanges w.last.dead_letter_exchange w.last.dead_letter_key g.link.to w.ends in
      let e = u.3 in
      let h = node_within t.exchanges u.0 in (
        elim w.way [ inl r ↦ (let f = r.3 in let k = node_above t.exchanges r.0.source in omega (arith, f, k)) | inr r ↦ (let f = r.0 in omega (arith, f)) ],
        elim w.way [ inl r ↦ (let f = r.3 in let k = node_within t.exchanges r.0.source in omega (arith, f, k)) | inr r ↦ (let f = r.0 in omega (arith, f)) ],
        omega (arith, e, h),
      )

  pub within_as : (n : ℕ) (links : List Hop) → n ≡ length t.exchanges + 4 → links ≡ any_links t q ++ links_in deaths → LinksAreWithin n links
  within_as n links e f = subst (λ (z : ℕ). LinksAreWithin z links) (sym e) (λ l i. elim (in-append l (any_links t q) (links_in deaths) (subst (λ (z : List Hop). IsIn l z) f i)) [
    | inl j ↦ links_within t q l j
    | inr j ↦ let r = gate_of_link l deaths j in let w = death_low r.0 r.1 in subst (λ (z : Hop). (z.from < length t.exchanges + 4) × (z.to < length t.exchanges + 4)) (sym r.2) (w.1, w.2)
  ])

module _ (t : Topology) (g : Guarantee) (q : Text) (deaths : List Gate) (entered : AreEntered t [] (IsUnfixedEnd t) (dying g.mode t.queues) deaths) (formed : IsWellFormed t) where
  abbrev Linked : ℕ → ℕ → Type 0
  Linked a b = (l : Hop) × IsIn l (any_links t q ++ links_in deaths) × (l.from ≡ a) × (l.to ≡ b)

  onward : {a b c : ℕ} → Chain (any_links t q ++ links_in deaths) a b → Linked b c → Chain (any_links t q ++ links_in deaths) a c
  onward {c = c} h (l, i, f, u) = chain_on (any_links t q ++ links_in deaths) h l c i f u

  any_link : (l : Hop) → IsIn l (any_links t q) → Linked l.from l.to
  any_link l i = (l, in_front l (any_links t q) (links_in deaths) i, refl, refl)

  death_link : (w : Gate) → IsIn w deaths → Linked w.link.from w.link.to
  death_link w i = (w.link, in_back w.link (any_links t q) (links_in deaths) (link_of_gate w deaths i), refl, refl)

  -- from where a queue may be entered that leaves the key as it is
  entered_link : (x p : Text) (last : DeclaredQueue) (w : ToDeath t [] (IsUnfixedEnd t) last deaths) (n : ℕ) → w.end ≡ Some n → last.name ≡ p → MayEnter t x p → Linked (node t.exchanges x) n
  entered_link x p last w n e same (by_binding ex b c nm bs) =
      let r = death_link (entry t.exchanges [] n b) (w.bound n e b (contained t.bindings b bs.is_binding) (bs.leads ∙ ap (λ (z : Text). destination.Queue z) (sym same))) in
      (r.0, r.1, r.2 ∙ ap (node t.exchanges) (bs.source ∙ nm), r.3)
  entered_link x p last w n e same (by_name d c nm) = death_link (default_entry [] last.name n) (w.default n e)

  pub met_chain : {y : Text} → Met t g y → Chain (any_links t q ++ links_in deaths) (node t.exchanges g.exchange) (node t.exchanges y)
  met_chain own = still
  met_chain (by_bound {y = y} e b m c n bs) =
      let r = any_link (link_of t.exchanges q b) (in_front (link_of t.exchanges q b) (links_of t.exchanges q t.bindings) (alternate_links t.exchanges t.exchanges) (link_in t.exchanges q b t.bindings (contained t.bindings b bs.is_binding))) in
      onward (met_chain m) (r.0, r.1, r.2 ∙ ap (node t.exchanges) (bs.source ∙ n), r.3 ∙ ap (end_node t.exchanges q) bs.leads)
  met_chain (by_alternate {y = y} e m c n a) =
      let l : Hop = record { from = node t.exchanges e.name; to = node t.exchanges y } in
      let r = any_link l (in_back l (links_of t.exchanges q t.bindings) (alternate_links t.exchanges t.exchanges) (alternate_in t.exchanges t.exchanges e y (contained t.exchanges e c) a)) in
      onward (met_chain m) (r.0, r.1, r.2 ∙ ap (node t.exchanges) n, r.3)
  met_chain (by_death {x = x} {q = p} {y = y} last never m e d k) =
      let w = to_entered t [] (IsUnfixedEnd t) last entered (dying_has g.mode t.queues last never (contained t.queues last d.is_queue)) in
      let end = w.ends ∙ ap (λ (o : Option Text). unfixed_end t.exchanges o last.dead_letter_key) d.dead ∙ ap (λ (o : Option Text). unfixed_end t.exchanges (Some y) o) k in
      onward (met_chain m) (entered_link x p last w (node t.exchanges y) end d.is_named e)

  -- from places that are no exchanges nothing leads on
  low_end : {a b : ℕ} → Chain (any_links t q ++ links_in deaths) a b → a < 2 → (y : Text) → b ≡ node t.exchanges y → ⊥
  low_end still h y e = let k = node_above t.exchanges y in omega arith
  low_end (along l i f u rest) h y e = elim (in-append l (any_links t q) (links_in deaths) i) [
    | inl j ↦ elim (in-append l (links_of t.exchanges q t.bindings) (alternate_links t.exchanges t.exchanges) j) [
      | inl j ↦ let r = from_links t.exchanges q l t.bindings j in let k = node_above t.exchanges r.0.source in let m : l.from ≡ node t.exchanges r.0.source = ap (λ (z : Hop). z.from) r.2 in omega arith
      | inr j ↦ let r = from_alternates t.exchanges t.exchanges l j in let k = node_above t.exchanges r.0.name in let m : l.from ≡ node t.exchanges r.0.name = ap (λ (z : Hop). z.from) r.4 in omega arith
    ]
    | inr j ↦ let r = gate_of_link l deaths j in let k = (death_low t g.mode q deaths entered r.0 r.1).0 in let m : l.from ≡ r.0.link.from = ap (λ (z : Hop). z.from) r.2 in omega arith
  ]

  same_name : (y x : Text) → IsIn y (exchange_names t.exchanges) ⊎ (y ≡ []) → node t.exchanges y ≡ node t.exchanges x → y ≡ x
  same_name y x (inl i) e = node_same t.exchanges y x formed.none_is_default i e
  same_name y x (inr s) e = s ∙ sym (node_default t.exchanges x (sym e ∙ ap (node t.exchanges) s))

  -- a met exchange may enter a queue that leaves the key as it is
  death_met : (x : Text) (w : Gate) → Met t g x → IsIn w deaths → w.link.from ≡ node t.exchanges x → (y : Text) × (w.link.to ≡ node t.exchanges y) × Met t g y
  death_met x w m i e =
      let f = from_entered t [] (IsUnfixedEnd t) w entered i in
      let u = unfixed_tells t.exchanges f.last.dead_letter_exchange f.last.dead_letter_key w.link.to f.ends in
      let d = dying_tells g.mode t.queues f.last f.is_in in
      let c = has_place t.queues f.last d.1 in
      (u.0, u.3, by_death f.last d.0 m (enters f c) (record { is_queue = c; is_named = refl; dead = u.1 }) u.2)
    where
      enters : (f : FromDeath t [] (IsUnfixedEnd t) (dying g.mode t.queues) w) → Contains t.queues f.last → MayEnter t x f.last.name
      enters f c = elim f.way [
        | inl r ↦
            let source = formed.sources r.0 (has_place t.bindings r.0 r.1) in
            let same : r.0.source ≡ x = node_same t.exchanges r.0.source x formed.none_is_default source (sym r.3 ∙ e) in
            let o = from_map (λ (z : Exchange). z.name) r.0.source t.exchanges source in
            by_binding o.0 r.0 (has_place t.exchanges o.0 o.1) (sym o.2 ∙ same) (record { is_binding = has_place t.bindings r.0 r.1; source = o.2; leads = r.2 })
        | inr r ↦ subst (λ (z : Text). MayEnter t z f.last.name) (sym (node_default t.exchanges x (sym e ∙ r.0))) (by_name f.last c refl)
      ]

  pub chain_met : {a b : ℕ} → Chain (any_links t q ++ links_in deaths) a b → (x : Text) → a ≡ node t.exchanges x → Met t g x → (y : Text) → b ≡ node t.exchanges y → IsIn y (exchange_names t.exchanges) ⊎ (y ≡ []) → Met t g y
  chain_met still x e m y f s = subst (λ (z : Text). Met t g z) (sym (same_name y x s (sym f ∙ e))) m
  chain_met (along {b = b} {c = last} l i f u rest) x e m y k s = elim (in-append l (any_links t q) (links_in deaths) i) [
    | inl j ↦ elim (in-append l (links_of t.exchanges q t.bindings) (alternate_links t.exchanges t.exchanges) j) [
      | inl j ↦ by_link (from_links t.exchanges q l t.bindings j) (λ z h n. chain_met rest z h n y k s)
      | inr j ↦ by_other (from_alternates t.exchanges t.exchanges l j) (λ z h n. chain_met rest z h n y k s)
    ]
    | inr j ↦
        let r = gate_of_link l deaths j in
        let d = death_met x r.0 m r.1 (sym (ap (λ (z : Hop). z.from) r.2) ∙ f ∙ e) in
        chain_met rest d.0 (sym u ∙ ap (λ (z : Hop). z.to) r.2 ∙ d.1) d.2 y k s
  ]
    where
      low : (v : Bool) → b ≡ cond v zero (suc zero) → b < 2
      low true r = omega (arith, r)
      low false r = omega (arith, r)

      to_place : (c : Binding) (w : IsIn c t.bindings) (to : Destination) → c.to ≡ to → b ≡ end_node t.exchanges q c.to → ((z : Exchange) × IsIn z t.exchanges × (c.source ≡ z.name)) → c.source ≡ x → ((z : Text) → b ≡ node t.exchanges z → Met t g z → Met t g y) → Met t g y
      to_place c w (destination.Exchange z) d h o same next = next z (h ∙ ap (end_node t.exchanges q) d) (by_bound o.0 c m (has_place t.exchanges o.0 o.1) (sym o.2 ∙ same) (record { is_binding = has_place t.bindings c w; source = o.2; leads = d }))
      to_place c w (destination.Queue z) d h o same next = absurd (low_end rest (low (bytes_eq z q) (h ∙ ap (end_node t.exchanges q) d)) y k)

      by_link : ((c : Binding) × IsIn c t.bindings × (l ≡ link_of t.exchanges q c)) → ((z : Text) → b ≡ node t.exchanges z → Met t g z → Met t g y) → Met t g y
      by_link (c, w, p) next =
          let source = formed.sources c (has_place t.bindings c w) in
          let same : c.source ≡ x = node_same t.exchanges c.source x formed.none_is_default source (sym (ap (λ (z : Hop). z.from) p) ∙ f ∙ e) in
          to_place c w c.to refl (sym u ∙ ap (λ (z : Hop). z.to) p) (from_map (λ (z : Exchange). z.name) c.source t.exchanges source) same next

      by_other : ((z : Exchange) × (other : Text) × IsIn z t.exchanges × (z.alternate ≡ Some other) × (l ≡ record { from = node t.exchanges z.name; to = node t.exchanges other })) → ((z : Text) → b ≡ node t.exchanges z → Met t g z → Met t g y) → Met t g y
      by_other (z, other, w, a, p) next =
          let same : z.name ≡ x = node_same t.exchanges z.name x formed.none_is_default (in_map (λ (v : Exchange). v.name) z t.exchanges w) (sym (ap (λ (v : Hop). v.from) p) ∙ f ∙ e) in
          next other (sym u ∙ ap (λ (v : Hop). v.to) p) (by_alternate z m (has_place t.exchanges z w) same a)

-- ---- the list

keys_fold : (ps : List Tracked) (kind : ExchangeKind) (name : Text) (bs : List Binding) → keys_onto ps kind name bs ≡ fold (appended_if_new same_tracked) ps (keys_from kind name bs)
keys_fold ps kind name [] = refl
keys_fold ps kind name (b ∷ bs) = elim (bytes_eq b.source name) as (λ v. keys_onto (cond v (onto_tracked ps kind b.key) ps) kind name bs ≡ fold (appended_if_new same_tracked) ps (cond v (record { kind = kind; text = b.key } ∷ keys_from kind name bs) (keys_from kind name bs))) [
  | true ↦ keys_fold (onto_tracked ps kind b.key) kind name bs
  | false ↦ keys_fold ps kind name bs
]

keys_by_fold : (ps : List Tracked) (kind : ExchangeKind) (name : Text) (bs : List Binding) → keys_by_onto ps kind name bs ≡ fold (appended_if_new same_tracked) ps (keys_by kind name bs)
keys_by_fold ps Direct name bs = keys_fold ps Direct name bs
keys_by_fold ps Topic name bs = keys_fold ps Topic name bs
keys_by_fold ps Fanout name bs = refl

pub names_fold : (ps : List Tracked) (qs : List DeclaredQueue) → names_onto ps qs ≡ fold (appended_if_new same_tracked) ps (map (λ (q : DeclaredQueue). record { kind = Direct; text = q.name }) qs)
names_fold ps [] = refl
names_fold ps (q ∷ qs) = names_fold (onto_tracked ps Direct q.name) qs

pub topics_fold : (ps : List Tracked) (es : List Text) → topics_onto ps es ≡ fold (appended_if_new same_tracked) ps (map as_topic es)
topics_fold ps [] = refl
topics_fold ps (e ∷ es) = topics_fold (onto_tracked ps Topic e) es

-- the exchanges that are marked
abbrev pub chosen : Topology → List Bool → List Exchange → List Exchange
chosen t marks [] = []
chosen t marks (x ∷ xs) = cond (slice_index_or marks (node t.exchanges x.name) false) (x ∷ chosen t marks xs) (chosen t marks xs)

pub met_fold : (t : Topology) (marks : List Bool) (ps : List Tracked) (xs : List Exchange) → met_onto t marks ps xs ≡ fold (appended_if_new same_tracked) ps (flat_map (keys_of t) (chosen t marks xs))
met_fold t marks ps [] = refl
met_fold t marks ps (x ∷ xs) = elim (slice_index_or marks (node t.exchanges x.name) false) as (λ v. met_onto t marks (cond v (keys_by_onto ps x.kind x.name t.bindings) ps) xs ≡ fold (appended_if_new same_tracked) ps (flat_map (keys_of t) (cond v (x ∷ chosen t marks xs) (chosen t marks xs)))) [
  | true ↦
      met_fold t marks (keys_by_onto ps x.kind x.name t.bindings) xs
      ∙ ap (λ (z : List Tracked). fold (appended_if_new same_tracked) z (flat_map (keys_of t) (chosen t marks xs))) (keys_by_fold ps x.kind x.name t.bindings)
      ∙ sym (fold-append (appended_if_new same_tracked) ps (keys_of t x) (flat_map (keys_of t) (chosen t marks xs)))
  | false ↦ met_fold t marks ps xs
]

selects : (t : Topology) (marks : List Bool) (P : Text → Type 0) (xs : List Exchange) → ((x : Exchange) → IsIn x xs → (IsSet marks (node t.exchanges x.name) → P x.name) × (P x.name → IsSet marks (node t.exchanges x.name))) → Selects P xs (chosen t marks xs)
selects t marks P [] f = Selects.none
selects t marks P (x ∷ xs) f = go (slice_index_or marks (node t.exchanges x.name) false) refl (selects t marks P xs (λ y i. f y (inr i)))
  where
    go : (v : Bool) → slice_index_or marks (node t.exchanges x.name) false ≡ v → Selects P xs (chosen t marks xs) → Selects P (x ∷ xs) (cond v (x ∷ chosen t marks xs) (chosen t marks xs))
    go true e s = Selects.take ((f x (inl refl)).0 e) s
    go false e s = Selects.pass (λ p. false≢true (sym e ∙ (f x (inl refl)).1 p)) s

pub tracked_list : (t : Topology) (g : Guarantee) (q : Text) (marks : List Bool) (ps : List Tracked) → IsWellFormed t → AreInReach t g.mode g.exchange q marks
    → ps ≡ collected t g.pattern g.excepts marks
    → IsTrackedList t g ps
tracked_list t g q marks ps formed (deaths, entered, reached) is = go (slice_index_or marks 2 false) refl is
  where
    om : List Tracked → Tracked → List Tracked
    om = appended_if_new same_tracked

    first : List Tracked
    first = om [] (as_topic g.pattern)

    topics : List Tracked
    topics = topics_onto first g.excepts

    keys : List Tracked
    keys = flat_map (keys_of t) (chosen t marks t.exchanges)

    -- what comes after the topic patterns
    behind : (names : List Tracked) → fold om (fold om topics names) keys ≡ fold om first (map as_topic g.excepts ++ names ++ keys)
    behind names =
        ap (λ (z : List Tracked). fold om (fold om z names) keys) (topics_fold first g.excepts)
        ∙ ap (λ (z : List Tracked). fold om z keys) (sym (fold-append om first (map as_topic g.excepts) names))
        ∙ sym (fold-append om first (map as_topic g.excepts ++ names) keys)

    found : Selects (Met t g) t.exchanges (chosen t marks t.exchanges)
    found = selects t marks (Met t g) t.exchanges (λ x i. (
      (λ s. chain_met t g q deaths entered formed (reached.sound (node t.exchanges x.name) s) g.exchange refl own x.name refl (inl (in_map (λ (z : Exchange). z.name) x t.exchanges i))),
      (λ m. reached.all (node t.exchanges x.name) (met_chain t g q deaths entered formed m)),
    ))

    go : (v : Bool) → slice_index_or marks 2 false ≡ v → ps ≡ met_onto t marks (names_if v topics t.queues) t.exchanges → IsTrackedList t g ps
    go true e p = record {
      met = chosen t marks t.exchanges;
      names = names_in t;
      selects = found;
      default_met = λ m. refl;
      default_unmet = λ n. absurd (n (chain_met t g q deaths entered formed (reached.sound 2 e) g.exchange refl own [] refl (inr refl)));
      is = p ∙ met_fold t marks (names_onto topics t.queues) t.exchanges
          ∙ ap (λ (z : List Tracked). fold om z keys) (names_fold topics t.queues)
          ∙ behind (names_in t);
    }
    go false e p = record {
      met = chosen t marks t.exchanges;
      names = [];
      selects = found;
      default_met = λ m. absurd (false≢true (sym e ∙ reached.all 2 (met_chain t g q deaths entered formed m)));
      default_unmet = λ n. refl;
      is = p ∙ met_fold t marks topics t.exchanges ∙ behind [];
    }

pub tracked_from : (t : Topology) (g : Guarantee) (m : Mode) (x q pattern : Text) (excepts : List Text) (marks seen : List Bool) (ps : List Tracked) → IsWellFormed t → m ≡ g.mode → x ≡ g.exchange → pattern ≡ g.pattern → excepts ≡ g.excepts → seen ≡ marks → AreInReach t m x q marks
    → ps ≡ collected t pattern excepts seen → IsTrackedList t g ps
tracked_from t g m x q pattern excepts marks seen ps f mo ex pa ec se r is =
    tracked_list t g q marks ps f (subst (λ (z : Mode). AreInReach t z g.exchange q marks) mo (subst (λ (z : Text). AreInReach t m z q marks) ex r))
    (is ∙ ap (λ (z : Text). collected t z excepts seen) pa ∙ ap (λ (z : List Text). collected t g.pattern z seen) ec ∙ ap (λ (z : List Bool). collected t g.pattern g.excepts z) se)

-- the guarantee's pattern is there
pub some_tracked : (t : Topology) (g : Guarantee) (ps : List Tracked) → IsTrackedList t g ps → 0 < length ps
some_tracked t g ps l = let r = first_is t g ps l in subst (λ (z : List Tracked). 0 < length z) (sym r.1) (omega arith)

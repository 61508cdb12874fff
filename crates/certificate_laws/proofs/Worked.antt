-- Two certificates that are accepted.
use Rattle.certificate_laws.proofs.Names.{◌≡◌, ℕ, zero, suc, ◌<◌, List, [], ◌∷◌, refl, sym, ap, subst, ◌∙◌, inl, inr, Option, Some, None, false, arith, lit<, lit≤, codes, Contains, flat_map, slice_index_or, AllByRecursion, all_in, false≢true, Text, Topology, IsIn, Binds, Dies, Edge, bound, alternate, default, here, on, RoutesBy, reading_after, Comes, routed, dead, Guarantee, Tracked, as_topic, Met, own, by_bound, by_alternate, by_death, Selects, each_once, same_tracked, keys_of, IsTrackedList, Letter, letters, PatternAnswers, sure, possible, IsGoodState, LeadsIn, Exchange, DeclaredQueue, Binding, Destination, Fanout, Topic}
use Rattle.std.specs.Prelude.{◌++◌, map}
use Rattle.model.specs.declared.topologies.Destination.TheVariants as destination
use Rattle.certificate_laws.specs.Worked.{topic_x, from_x, two_keys, orders_reach, without_a1, one_key, never_but_a, but_a, SlicedIsAccepted, ExceptingIsAccepted}
use Rattle.certificate_laws.proofs.Trackings.{contained}

-- ---- of X alone

abbrev is_queue : Destination → Type 0
is_queue (destination.Queue q) = Unit {0}
is_queue (destination.Exchange x) = ⊥

all_queues : (bs : List Binding) → ((b : Binding) → IsIn b bs → is_queue b.to) → (b : Binding) → IsIn b bs → (y : Text) → b.to ≡ destination.Exchange y → ⊥
all_queues bs f b i y e = subst is_queue e (f b i)

module _ (t : Topology) (g : Guarantee) (exchanges : t.exchanges ≡ topic_x ∷ []) (queues : (b : Binding) → IsIn b t.bindings → is_queue b.to) (none_dies : (q : DeclaredQueue) → IsIn q t.queues → q.dead_letter_exchange ≡ None) where
  is_x : (e : Exchange) → Contains t.exchanges e → e ≡ topic_x
  is_x e c = elim (subst (λ (z : List Exchange). IsIn e z) exchanges (contained t.exchanges e c)) [ inl s ↦ s | inr n ↦ absurd n ]

  no_exchange : (e : Exchange) (b : Binding) (y : Text) → Binds t e (destination.Exchange y) b → ⊥
  no_exchange e b y bs = all_queues t.bindings queues b (contained t.bindings b bs.is_binding) y bs.leads

  no_alternate : (e : Exchange) (y : Text) → Contains t.exchanges e → e.alternate ≡ Some y → ⊥
  no_alternate e y c a = let h : None ≡ Some y = sym (ap (λ (z : Exchange). z.alternate) (is_x e c)) ∙ a in cc

  no_death : (q : Text) (y : Text) (last : DeclaredQueue) → Dies t q y last → ⊥
  no_death q y last d = let h : None ≡ Some y = sym (none_dies last (contained t.queues last d.is_queue)) ∙ d.dead in cc

  pub only_own : {x : Text} → Met t g x → x ≡ g.exchange
  only_own own = refl
  only_own (by_bound {y = y} e b m c n bs) = absurd (no_exchange e b y bs)
  only_own (by_alternate {y = y} e m c n a) = absurd (no_alternate e y c a)
  only_own (by_death {q = q} {y = y} last v m en d k) = absurd (no_death q y last d)

  pub tracked_x : (list : List Tracked) → (g.exchange ≡ codes "X") → list ≡ each_once same_tracked (as_topic g.pattern ∷ map as_topic g.excepts ++ [] ++ flat_map (keys_of t) (topic_x ∷ [])) → IsTrackedList t g list
  tracked_x list at e = record {
    met = topic_x ∷ [];
    names = [];
    selects = subst (λ (z : List Exchange). Selects (Met t g) z (topic_x ∷ [])) (sym exchanges) (Selects.take (subst (Met t g) at own) Selects.none);
    default_met = λ m. absurd (let h : [] ≡ codes "X" = only_own m ∙ at in cc);
    default_unmet = λ n. refl;
    is = e;
  }

-- ---- a part of the patterns

abbrev pub orders_list : List Tracked
orders_list = as_topic (codes "orders.#") ∷ as_topic (codes "a1") ∷ []

abbrev pub orders_alone : List Tracked
orders_alone = as_topic (codes "orders.#") ∷ []

orders_tracked : IsTrackedList two_keys orders_reach orders_list
orders_tracked = tracked_x two_keys orders_reach refl queues (λ q i. elim i [ inl e ↦ ap (λ (z : DeclaredQueue). z.dead_letter_exchange) e | inr j ↦ elim j [ inl e ↦ ap (λ (z : DeclaredQueue). z.dead_letter_exchange) e | inr n ↦ absurd n ] ]) orders_list refl refl
  where
    queues : (b : Binding) → IsIn b two_keys.bindings → is_queue b.to
    queues b (inl e) = subst (λ (z : Binding). is_queue z.to) (sym e) tt
    queues b (inr (inl e)) = subst (λ (z : Binding). is_queue z.to) (sym e) tt
    queues b (inr (inr n)) = absurd n

orders_audit : RoutesBy two_keys (sure orders_alone (4 ∷ [])) (codes "X") (codes "audit")
orders_audit = (codes "X", here, bound topic_x (from_x (codes "orders.#") (codes "audit")) (0, lit≤ tt, refl) refl (record { is_binding = (0, lit≤ tt, refl); source = refl; leads = refl }) (inr (inl (refl, refl, refl))))

orders_audit_6 : RoutesBy two_keys (sure orders_alone (6 ∷ [])) (codes "X") (codes "audit")
orders_audit_6 = (codes "X", here, bound topic_x (from_x (codes "orders.#") (codes "audit")) (0, lit≤ tt, refl) refl (record { is_binding = (0, lit≤ tt, refl); source = refl; leads = refl }) (inr (inl (refl, refl, refl))))

pub sliced_is_accepted : SlicedIsAccepted
sliced_is_accepted = record {
  list = orders_list;
  tracked = orders_tracked;
  patterns = orders_alone;
  chosen = (record { rise = record { first = ([], refl); rising = λ i j d h w. absurd (let k : j < 1 = w in omega (arith, h, k)) }; within = (lit< tt, tt) }, refl);
  formed = record {
    is_of = record { exchange = refl; mode = refl; pattern = refl; queue = refl };
    suits = refl;
    few = lit≤ tt;
    states = lit≤ tt;
    fit = ((lit< tt, tt), ((lit< tt, tt), ((lit< tt, tt), tt)));
    ascend = ((refl, (refl, tt)), ((refl, tt), (tt, tt)));
    none_dropped = (λ e. cc, (λ e. cc, (λ e. cc, tt)));
  };
  closed = record {
    start = (1 ∷ [], (record { first = refl; others = (refl, (refl, tt)); size = lit< tt }, tt), inl refl);
    closed = λ s i a j. all_in (λ (b : Letter). LeadsIn without_a1.form orders_alone without_a1.states s b) a (letters orders_alone) (all_in (λ (u : List ℕ). AllByRecursion (λ (b : Letter). LeadsIn without_a1.form orders_alone without_a1.states u b) (letters orders_alone)) s without_a1.states table i) j;
    good = λ s i. all_in (IsGoodState two_keys orders_reach orders_alone) s without_a1.states (λ c. absurd (elim c.pattern [ inl a ↦ false≢true a.2 | inr n ↦ n ]), (λ c. orders_audit, (λ c. orders_audit_6, tt))) i;
  };
}
  where
    table : AllByRecursion (λ (u : List ℕ). AllByRecursion (λ (b : Letter). LeadsIn without_a1.form orders_alone without_a1.states u b) (letters orders_alone)) without_a1.states
    table = (
      ((6 ∷ [], (record { first = refl; others = (refl, (refl, tt)); size = lit< tt }, tt), inl (inr (inr (inl refl)))), ((0 ∷ [], (record { first = refl; others = (refl, (refl, tt)); size = lit< tt }, tt), inr refl), tt)),
      (
        ((4 ∷ [], (record { first = refl; others = (refl, (refl, tt)); size = lit< tt }, tt), inl (inr (inl refl))), ((4 ∷ [], (record { first = refl; others = (refl, (refl, tt)); size = lit< tt }, tt), inl (inr (inl refl))), tt)),
        (
          ((4 ∷ [], (record { first = refl; others = (refl, (refl, tt)); size = lit< tt }, tt), inl (inr (inl refl))), ((4 ∷ [], (record { first = refl; others = (refl, (refl, tt)); size = lit< tt }, tt), inl (inr (inl refl))), tt)),
          tt,
        ),
      ),
    )

-- ---- keys taken out

abbrev pub but_a_list : List Tracked
but_a_list = as_topic (codes "#") ∷ as_topic (codes "a") ∷ []

but_a_queues : (b : Binding) → IsIn b one_key.bindings → is_queue b.to
but_a_queues b (inl e) = subst (λ (z : Binding). is_queue z.to) (sym e) tt
but_a_queues b (inr n) = absurd n

but_a_lives : (q : DeclaredQueue) → IsIn q one_key.queues → q.dead_letter_exchange ≡ None
but_a_lives q (inl e) = ap (λ (z : DeclaredQueue). z.dead_letter_exchange) e
but_a_lives q (inr n) = absurd n

but_a_tracked : IsTrackedList one_key never_but_a but_a_list
but_a_tracked = tracked_x one_key never_but_a refl but_a_queues but_a_lives but_a_list refl refl

-- where `a` is ruled out, nothing leads on from X
edge_never : (ms : List ℕ) → PatternAnswers but_a_list ms Topic (codes "a") false → {x : Text} {to : Destination} → x ≡ codes "X" → Edge one_key (possible but_a_list ms) x to → ⊥
edge_never ms out at (bound e b c n bs o) =
    let e_is : e ≡ topic_x = is_x one_key never_but_a refl but_a_queues but_a_lives e c in
    let b_is : b ≡ from_x (codes "a") (codes "q") = elim (contained one_key.bindings b bs.is_binding) [ inl s ↦ s | inr z ↦ absurd z ] in
    elim o [
      | inl f ↦ (let h : Topic ≡ Fanout = sym (ap (λ (z : Exchange). z.kind) e_is) ∙ f in cc)
      | inr hidden ↦ hidden (subst (λ (z : Exchange). PatternAnswers but_a_list ms z.kind b.key false) (sym e_is) (subst (λ (z : Binding). PatternAnswers but_a_list ms Topic z.key false) (sym b_is) out))
    ]
edge_never ms out at (alternate {other = other} e c n a s) = no_alternate one_key never_but_a refl but_a_queues but_a_lives e other c a
edge_never ms out at (default q c n o) = let h : [] ≡ codes "X" = at in cc

route_never : (ms : List ℕ) → PatternAnswers but_a_list ms Topic (codes "a") false → {x q : Text} → x ≡ codes "X" → RoutesBy one_key (possible but_a_list ms) x q → ⊥
route_never ms out at (y, here, e) = edge_never ms out at e
route_never ms out at (y, on f l, e) = edge_never ms out at f

comes_never : (ms : List ℕ) → PatternAnswers but_a_list ms Topic (codes "a") false → {fixed : Option Text} {x q : Text} → fixed ≡ None → x ≡ codes "X" → Comes one_key (possible but_a_list ms) fixed x q → ⊥
comes_never ms out {x = x} {q = q} f at (routed r) = route_never ms out at (subst (λ (z : Option Text). RoutesBy one_key (reading_after z (possible but_a_list ms)) x q) f r)
comes_never ms out f at (dead {p = p} {exchange = exchange} last r d c) = no_death one_key never_but_a refl but_a_queues but_a_lives p exchange last d

pub excepting_is_accepted : ExceptingIsAccepted
excepting_is_accepted = record {
  list = but_a_list;
  tracked = but_a_tracked;
  patterns = but_a_list;
  chosen = (record { rise = record { first = (1 ∷ [], refl); rising = rising }; within = (lit< tt, (lit< tt, tt)) }, refl);
  formed = record {
    is_of = record { exchange = refl; mode = refl; pattern = refl; queue = refl };
    suits = (λ e. (let h : codes "a" ∷ [] ≡ [] = e in cc), refl);
    few = lit≤ tt;
    states = lit≤ tt;
    fit = ((lit< tt, (lit< tt, tt)), ((lit< tt, (lit< tt, tt)), ((lit< tt, (lit< tt, tt)), tt)));
    ascend = ((refl, (refl, tt)), ((refl, tt), (tt, tt)));
    none_dropped = (λ e. cc, (λ e. cc, (λ e. cc, tt)));
  };
  closed = record {
    start = (3 ∷ 1 ∷ [], (record { first = refl; others = (refl, tt); size = lit< tt }, (record { first = refl; others = (refl, tt); size = lit< tt }, tt)), inr (inr (inl refl)));
    closed = λ s i a j. all_in (λ (b : Letter). LeadsIn but_a.form but_a_list but_a.states s b) a (letters but_a_list) (all_in (λ (u : List ℕ). AllByRecursion (λ (b : Letter). LeadsIn but_a.form but_a_list but_a.states u b) (letters but_a_list)) s but_a.states table i) j;
    good = λ s i. all_in (IsGoodState one_key never_but_a but_a_list) s but_a.states (λ c k. comes_never (2 ∷ 0 ∷ []) (inr (inl (refl, refl, refl))) refl refl k, (λ c. absurd (c.kept_in (codes "a") (inl refl) (inr (inl (refl, refl, refl)))), (λ c k. comes_never (3 ∷ 1 ∷ []) (inr (inl (refl, refl, refl))) refl refl k, tt))) i;
  };
}
  where
    rising : (i j d : ℕ) → i < j → j < 2 → slice_index_or (0 ∷ 1 ∷ []) i d < slice_index_or (0 ∷ 1 ∷ []) j d
    rising zero zero d h w = absurd (omega arith)
    rising zero (suc zero) d h w = lit< tt
    rising zero (suc (suc j)) d h w = absurd (let k : suc (suc j) < 2 = w in omega arith)
    rising (suc i) zero d h w = absurd (omega arith)
    rising (suc i) (suc j) d h w = absurd (let k : suc j < 2 = w in let l : suc i < suc j = h in omega arith)

    table : AllByRecursion (λ (u : List ℕ). AllByRecursion (λ (b : Letter). LeadsIn but_a.form but_a_list but_a.states u b) (letters but_a_list)) but_a.states
    table = (
      ((2 ∷ 0 ∷ [], (record { first = refl; others = (refl, tt); size = lit< tt }, (record { first = refl; others = (refl, tt); size = lit< tt }, tt)), inl (inl refl)), ((2 ∷ 0 ∷ [], (record { first = refl; others = (refl, tt); size = lit< tt }, (record { first = refl; others = (refl, tt); size = lit< tt }, tt)), inl (inl refl)), tt)),
      (
        ((2 ∷ 0 ∷ [], (record { first = refl; others = (refl, tt); size = lit< tt }, (record { first = refl; others = (refl, tt); size = lit< tt }, tt)), inl (inl refl)), ((2 ∷ 0 ∷ [], (record { first = refl; others = (refl, tt); size = lit< tt }, (record { first = refl; others = (refl, tt); size = lit< tt }, tt)), inl (inl refl)), tt)),
        (
          ((2 ∷ 2 ∷ [], (record { first = refl; others = (refl, tt); size = lit< tt }, (record { first = refl; others = (refl, tt); size = lit< tt }, tt)), inl (inr (inl refl))), ((2 ∷ 0 ∷ [], (record { first = refl; others = (refl, tt); size = lit< tt }, (record { first = refl; others = (refl, tt); size = lit< tt }, tt)), inl (inl refl)), tt)),
          tt,
        ),
      ),
    )

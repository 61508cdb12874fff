-- What leads on from an exchange are exactly the steps of a route.
use Rattle.exchange_graph.proofs.Names.{◌≡◌, ℕ, ◌<◌, List, [], ◌∷◌, Bool, true, false, cond, refl, sym, ap, ◌∙◌, subst, length, map, get_or, inl, inr, Contains, option_map, bytes_eq, bytes_eq-Decides, Text, Topology, IsIn, IsThere, IsWellFormed, exchange_names, Passes, Binds, Edge, bound, alternate, default, of_key, Exchange, Binding, Destination, Fanout, End, Onward, Branch, exchange_name, Fan, ArePassing, LeadOn, AreSteps, EndsWithin, ways_from, way_of, fan_of, end_of, destination_of, or_alternate, exchange_index, in_contains, contains_in, in_map}
use Rattle.std.proofs.Common.{Option, Some, None}
use Rattle.model.specs.declared.topologies.Destination.TheVariants as destination
use Rattle.exchange_graph.specs.Built.{IsBuilt}
use Rattle.exchange_graph.proofs.Good.{well_formed}
use Rattle.exchange_graph.proofs.Naming.{get_any, get_map, same_exchange, place_again, ends_within, exchange_stands}

-- ---- the ways of an exchange are its bindings

abbrev Ways : Topology → Text → List Binding → List Branch
Ways t name bs = ways_from t.exchanges t.queues name bs

way_kept : (t : Topology) (name : Text) (b : Binding) (bs : List Binding) (w : Branch) (v : Bool) → IsIn w (Ways t name bs) → IsIn w (cond v (way_of t.exchanges t.queues b ∷ Ways t name bs) (Ways t name bs))
way_kept t name b bs w true h = inr h
way_kept t name b bs w false h = h

way_in : (t : Topology) (name : Text) (bs : List Binding) (b : Binding) → IsIn b bs → b.source ≡ name → IsIn (way_of t.exchanges t.queues b) (Ways t name bs)
way_in t name [] b h e = absurd h
way_in t name (c ∷ bs) b h e = elim h [
  | inl q ↦ (
      let same : bytes_eq c.source name ≡ true = (bytes_eq-Decides c.source name).1 (ap (λ (x : Binding). x.source) (sym q) ∙ e) in
      rw same (inl (ap (λ (x : Binding). way_of t.exchanges t.queues x) q)))
  | inr r ↦ way_kept t name c bs (way_of t.exchanges t.queues b) (bytes_eq c.source name) (way_in t name bs b r e)
]

-- the binding of a way
record IsWayOf (t : Topology) (name : Text) (bs : List Binding) (w : Branch) : Type 0 where
  b : Binding
  is_binding : IsIn b bs
  source : b.source ≡ name
  way : w ≡ way_of t.exchanges t.queues b

way_more : (t : Topology) (name : Text) (c : Binding) (bs : List Binding) (w : Branch) → IsWayOf t name bs w → IsWayOf t name (c ∷ bs) w
way_more t name c bs w p = record { b = p.b; is_binding = inr p.is_binding; source = p.source; way = p.way }

in_way_at : (t : Topology) (name : Text) (c : Binding) (bs : List Binding) (w : Branch) (v : Bool) → (v ≡ true → c.source ≡ name) → (IsIn w (Ways t name bs) → IsWayOf t name bs w)
    → IsIn w (cond v (way_of t.exchanges t.queues c ∷ Ways t name bs) (Ways t name bs)) → IsWayOf t name (c ∷ bs) w
in_way_at t name c bs w true d ih h = elim h [ inl q ↦ record { b = c; is_binding = inl refl; source = d refl; way = q } | inr r ↦ way_more t name c bs w (ih r) ]
in_way_at t name c bs w false d ih h = way_more t name c bs w (ih h)

in_way : (t : Topology) (name : Text) (bs : List Binding) (w : Branch) → IsIn w (Ways t name bs) → IsWayOf t name bs w
in_way t name [] w h = absurd h
in_way t name (c ∷ bs) w h = in_way_at t name c bs w (bytes_eq c.source name) (bytes_eq-Decides c.source name).0 (in_way t name bs w) h

-- ---- steps

-- an end that is a step
record IsStep (t : Topology) (key name : Text) (e : End) : Type 0 where
  within : EndsWithin (length t.exchanges) (length t.queues) e
  edge : Edge t (of_key key) name (destination_of t e)

passing_step : (t : Topology) (key : Text) (x : Exchange) (passing : List End) → IsWellFormed t → Contains t.exchanges x
    → ArePassing x.kind key (Ways t x.name t.bindings) passing → (e : End) → IsIn e passing → IsStep t key x.name e
passing_step t key x passing w c a e h =
    let m = a.only e h in
    let p = in_way t x.name t.bindings m.0 m.1 in
    let is : Contains t.bindings p.b = contains_in t.bindings p.b p.is_binding in
    let there : IsThere t p.b.to = w.ends p.b is in
    let q : e ≡ end_of t.exchanges t.queues p.b.to = sym m.2 ∙ ap (λ (z : Branch). z.end) p.way in
    let passes : Passes x.kind p.b.key key = subst (λ (k : Text). Passes x.kind k key) (ap (λ (z : Branch). z.key) p.way) m.3 in
    record {
      within = subst (λ (z : End). EndsWithin (length t.exchanges) (length t.queues) z) (sym q) (ends_within t p.b.to there);
      edge = subst (λ (z : End). Edge t (of_key key) x.name (destination_of t z)) (sym q)
          (subst (λ (z : Destination). Edge t (of_key key) x.name z) (sym (place_again t p.b.to there))
          (bound x p.b c refl (record { is_binding = is; source = p.source; leads = refl }) passes));
    }

-- a binding that lets the key pass has its end among them
passing_end : (t : Topology) (key : Text) (x : Exchange) (passing : List End) → ArePassing x.kind key (Ways t x.name t.bindings) passing
    → (to : Destination) (b : Binding) → Binds t x to b → Passes x.kind b.key key → IsIn (end_of t.exchanges t.queues b.to) passing
passing_end t key x passing a to b s p = a.all (way_of t.exchanges t.queues b) (way_in t x.name t.bindings b (in_contains t.bindings b s.is_binding) s.source) p

alternate_step : (t : Topology) (key : Text) (x : Exchange) → IsWellFormed t → Contains t.exchanges x → ArePassing x.kind key (Ways t x.name t.bindings) []
    → (other : Text) → x.alternate ≡ Some other → IsStep t key x.name (Onward (exchange_index t.exchanges other))
alternate_step t key x w c a other q =
    let s = exchange_stands t.exchanges other (w.alternates x other c q) in
    record {
      within = s.0;
      edge = subst (λ (z : Text). Edge t (of_key key) x.name (destination.Exchange z)) (sym s.1) (alternate x c refl q (λ to b d p. passing_end t key x [] a to b d p));
    }

alternate_steps : (t : Topology) (key : Text) (x : Exchange) → IsWellFormed t → Contains t.exchanges x → ArePassing x.kind key (Ways t x.name t.bindings) []
    → (o : Option Text) → x.alternate ≡ o → (e : End) → IsIn e (or_alternate (option_map (exchange_index t.exchanges) o) []) → IsStep t key x.name e
alternate_steps t key x w c a None q e h = absurd h
alternate_steps t key x w c a (Some other) q e h = elim h [
  | inl r ↦ subst (λ (z : End). IsStep t key x.name z) (sym r) (alternate_step t key x w c a other q)
  | inr r ↦ absurd r
]

ends_are_steps : (t : Topology) (key : Text) (x : Exchange) (passing : List End) → IsWellFormed t → Contains t.exchanges x
    → ArePassing x.kind key (Ways t x.name t.bindings) passing → (e : End) → IsIn e (or_alternate (fan_of t x).alternate passing) → IsStep t key x.name e
ends_are_steps t key x [] w c a e h = alternate_steps t key x w c a x.alternate refl e h
ends_are_steps t key x (p ∷ ps) w c a e h = passing_step t key x (p ∷ ps) w c a e h

-- ---- and no others

passing_stays : (alternate' : Option ℕ) (passing : List End) (e : End) → IsIn e passing → IsIn e (or_alternate alternate' passing)
passing_stays alternate' [] e h = absurd h
passing_stays alternate' (p ∷ ps) e h = h

none_passes : (t : Topology) (key : Text) (x : Exchange) (passing : List End) → IsWellFormed t → ArePassing x.kind key (Ways t x.name t.bindings) passing
    → ((to : Destination) (b : Binding) → Binds t x to b → Passes x.kind b.key key → ⊥) → passing ≡ []
none_passes t key x [] w a no' = refl
none_passes t key x (p ∷ ps) w a no' =
    let m = a.only p (inl refl) in
    let q = in_way t x.name t.bindings m.0 m.1 in
    absurd (no' q.b.to q.b (record { is_binding = contains_in t.bindings q.b q.is_binding; source = q.source; leads = refl })
    (subst (λ (k : Text). Passes x.kind k key) (ap (λ (z : Branch). z.key) q.way) m.3))

-- the end of a step
abbrev HasEnd : Topology → List End → Destination → Type 0
HasEnd t ends to = (e : End) × IsIn e ends × (destination_of t e ≡ to)

alternate_end : (t : Topology) (x : Exchange) → IsWellFormed t → Contains t.exchanges x → (other : Text) → x.alternate ≡ Some other
    → HasEnd t (or_alternate (fan_of t x).alternate []) (destination.Exchange other)
alternate_end t x w c other q =
    let s = exchange_stands t.exchanges other (w.alternates x other c q) in
    rw q (Onward (exchange_index t.exchanges other), inl refl, ap (λ (z : Text). destination.Exchange z) s.1)

every_step : (t : Topology) (key : Text) (x : Exchange) (passing : List End) → IsWellFormed t → Contains t.exchanges x
    → ArePassing x.kind key (Ways t x.name t.bindings) passing → {name : Text} (to : Destination) → Edge t (of_key key) name to → name ≡ x.name → HasEnd t (or_alternate (fan_of t x).alternate passing) to
every_step t key x passing w c a to (bound y b d e s p) q =
    let same : y ≡ x = same_exchange t y x w d c (e ∙ q) in
    let s' : Binds t x to b = subst (λ (z : Exchange). Binds t z to b) same s in
    let p' : Passes x.kind b.key key = subst (λ (z : Exchange). Passes z.kind b.key key) same p in (
      end_of t.exchanges t.queues b.to,
      passing_stays (fan_of t x).alternate passing (end_of t.exchanges t.queues b.to) (passing_end t key x passing a to b s' p'),
      place_again t b.to (w.ends b s.is_binding) ∙ s.leads,
    )
every_step t key x passing w c a to (alternate {other = other} y d e o shut) q =
    let same : y ≡ x = same_exchange t y x w d c (e ∙ q) in
    let o' : x.alternate ≡ Some other = ap (λ (z : Exchange). z.alternate) (sym same) ∙ o in
    let none' : passing ≡ [] = none_passes t key x passing w a (subst (λ (z : Exchange). (to' : Destination) (b : Binding) → Binds t z to' b → Passes z.kind b.key key → ⊥) same shut) in
    subst (λ (es : List End). HasEnd t (or_alternate (fan_of t x).alternate es) (destination.Exchange other)) (sym none') (alternate_end t x w c other o')
every_step t key x passing w c a to (default z d e n) q =
    absurd (w.none_is_default (subst (λ (n' : Text). IsIn n' (exchange_names t.exchanges)) (sym q) (in_map (λ (y : Exchange). y.name) t.exchanges x (in_contains t.exchanges x c))))

pub steps_of : (t : Topology) (key : Text) (x : Exchange) (ends : List End) → IsWellFormed t → Contains t.exchanges x → LeadOn key (fan_of t x) ends → AreSteps t key x.name ends
steps_of t key x ends w c l =
    let P : List End → Type 0 = λ (es : List End). AreSteps t key x.name es in
    subst P (sym l.is) (record {
      within = λ e h. (ends_are_steps t key x l.passing w c l.are e h).within;
      only = λ e h. (ends_are_steps t key x l.passing w c l.are e h).edge;
      all = λ to s. every_step t key x l.passing w c l.are to s refl;
    })

-- .. as they stand in their lists
plain : Exchange
plain = record { name = []; kind = Fanout; internal = false; alternate = None }

pub steps_at : (inside t : Topology) (fans : List Fan) (xs qs : List Text) (at : ℕ) (key : Text) (fan : Fan) (ends : List End) → inside ≡ t → IsBuilt inside fans xs qs → at < length t.exchanges
    → fan ≡ get_or fans at fan → LeadOn key fan ends → AreSteps t key (exchange_name t at) ends
steps_at inside t fans xs qs at key fan ends e b h q l =
    let x : Exchange = get_or t.exchanges at plain in
    let p : x ≡ get_or t.exchanges at x = get_any t.exchanges at plain x h in
    let w : IsWellFormed t = subst (λ (z : Topology). IsWellFormed z) e (well_formed inside b.good) in
    let k : fans ≡ map (fan_of t) t.exchanges = b.known ∙ ap (λ (z : Topology). map (fan_of z) z.exchanges) e in
    let f : fan ≡ fan_of t x = q ∙ ap (λ (zs : List Fan). get_or zs at fan) k ∙ get_map (fan_of t) t.exchanges at x fan h ∙ ap (fan_of t) (sym p) in
    let n : x.name ≡ exchange_name t at = ap (λ (z : Exchange). z.name) p ∙ sym (get_map (λ (z : Exchange). z.name) t.exchanges at x [] h) in
    subst (λ (z : Text). AreSteps t key z ends) n (steps_of t key x ends w (at, h, sym p) (subst (λ (z : Fan). LeadOn key z ends) f l))

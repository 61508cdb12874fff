-- The worked examples of dead letters.
use Rattle.laws.proofs.Names.{◌≡◌, ◌⊎◌, ◌≤◌, ℕ, Bool, true, false, List, [], ◌∷◌, ◌++◌, refl, sym, ap, subst, ◌∙◌, arith, lit≤, append-nil, inl, inr, length, None, codes, Contains, bytes_eq, false≢true, same_Some, bytes_eq-Decides, Text, Matches, word, any_none, any_more, no_pairs, Topology, IsIn, Reading, of_key, Edge, bound, alternate, default, Leads, here, on, RoutesBy, Routes, Comes, routed, dead, Picks, pass, key_after, reading_after, Message, DescribesDeath, AreMarked, alone, added, marked_before, first_death, without_given, AreRejected, body_bytes, Said, with_sizes, is_entry_into, note_at, DiesInto, Rejection, AreRejections, next, rejection_notes, Entry, Rejected, Note, Entered, Refused, Left, Dead, DeclaredQueue, Any}
use Rattle.std.proofs.Common.{map, drop, Option, Some}
use Rattle.model.specs.Words.{none as matches_none}
use Rattle.model.specs.Routing.{none, take}
use Rattle.model.specs.Entering.{comes_to, entry_notes}
use Rattle.model.specs.Letters.{none as no_rejection}
use Rattle.model.specs.declared.topologies.Binding.{Binding}
use Rattle.model.specs.declared.topologies.Exchange.{Exchange}
use Rattle.model.specs.declared.topologies.ExchangeKind.TheVariants.{Fanout}
use Rattle.model.specs.declared.topologies.Destination.{Destination}
use Rattle.model.specs.declared.topologies.Destination.TheVariants as destination
use Rattle.laws.specs.Deaths.{deaths, circle, full_topology, queue_with, EndsIn, first_publish, got_from, while_held, while_in_q1, DiesTo, in_q1, in_q, WorkedDeaths, DeathsRefuse}
use Rattle.laws.proofs.Counts.{in_from_contains}
use Rattle.laws.proofs.Marking.{added_tells}

-- two texts that differ
differ : (a b : Text) → bytes_eq a b ≡ false → a ≡ b → ⊥
differ a b distinct e = false≢true (sym distinct ∙ (bytes_eq-Decides a b).1 e)

-- ---- the edges of a topology without alternate exchanges

-- a binding of the exchange of this name leads there
record Leading (t : Topology) (name : Text) (to : Destination) : Type 0 where
  binding : Binding
  there : IsIn binding t.bindings
  source : binding.source ≡ name
  leads : binding.to ≡ to

abbrev HaveNoAlternate : Topology → Type 0
HaveNoAlternate t = (x : Exchange) → IsIn x t.exchanges → x.alternate ≡ None

inside : {A : Type 0} (x : A) (xs : List A) → Contains xs x → IsIn x xs
inside x xs c = in_from_contains xs x c.0 c.1 c.2

edge_leads : (t : Topology) (r : Reading) (name : Text) (to : Destination) → HaveNoAlternate t → Edge t r name to → Leading t name to ⊎ (name ≡ [])
edge_leads t r name to plain (bound x b in_xs named is opens) = inl (record { binding = b; there = inside b t.bindings is.is_binding; source = is.source ∙ named; leads = is.leads })
edge_leads t r name to plain (alternate x in_xs named other shuts) = absurd (false≢true (ap Rattle.std.specs.Prelude.is_some (sym (plain x (inside x t.exchanges in_xs)) ∙ other)))
edge_leads t r name to plain (default q in_qs named names) = inr refl

-- the queue of a place
abbrev is_queue : Destination → Bool
is_queue (destination.Queue q) = true
is_queue (destination.Exchange x) = false

abbrev queue_in : Destination → Text
queue_in (destination.Queue q) = q
queue_in (destination.Exchange x) = []

-- ---- deaths

deaths_plain : HaveNoAlternate deaths
deaths_plain x (inl e) = ap (λ (z : Exchange). z.alternate) e
deaths_plain x (inr (inl e)) = ap (λ (z : Exchange). z.alternate) e
deaths_plain x (inr (inr (inl e))) = ap (λ (z : Exchange). z.alternate) e
deaths_plain x (inr (inr (inr none_left))) = absurd none_left

-- from where an edge leads, and to which queue
data DeathsEdge (name : Text) (to : Destination) : Type 0 where
  to_q1 : name ≡ codes "Y" → to ≡ destination.Queue (codes "q1") → DeathsEdge name to
  to_billing : name ≡ codes "D" → to ≡ destination.Queue (codes "billing") → DeathsEdge name to
  to_q3 : name ≡ codes "E" → to ≡ destination.Queue (codes "q3") → DeathsEdge name to

deaths_edge : (name : Text) (to : Destination) → Leading deaths name to → DeathsEdge name to
deaths_edge name to l = by l.there
  where
    by : IsIn l.binding deaths.bindings → DeathsEdge name to
    by (inl e) = to_q1 (sym l.source ∙ ap (λ (b : Binding). b.source) e) (sym l.leads ∙ ap (λ (b : Binding). b.to) e)
    by (inr (inl e)) = to_billing (sym l.source ∙ ap (λ (b : Binding). b.source) e) (sym l.leads ∙ ap (λ (b : Binding). b.to) e)
    by (inr (inr (inl e))) = to_q3 (sym l.source ∙ ap (λ (b : Binding). b.source) e) (sym l.leads ∙ ap (λ (b : Binding). b.to) e)
    by (inr (inr (inr none_left))) = absurd none_left

to_a_queue : (name : Text) (to : Destination) → DeathsEdge name to → is_queue to ≡ true
to_a_queue name to (to_q1 n e) = ap is_queue e
to_a_queue name to (to_billing n e) = ap is_queue e
to_a_queue name to (to_q3 n e) = ap is_queue e

-- no edge leads to an exchange
deaths_here : (r : Reading) (x y : Text) → (x ≡ [] → ⊥) → Leads deaths r x y → y ≡ x
deaths_here r x y named here = refl
deaths_here r x y named (on {y = z} e more) = elim (edge_leads deaths r x (destination.Exchange z) deaths_plain e) [
  | inl l ↦ absurd (false≢true (to_a_queue x (destination.Exchange z) (deaths_edge x (destination.Exchange z) l)))
  | inr is ↦ absurd (named is)
]

deaths_route : (r : Reading) (x q : Text) → (x ≡ [] → ⊥) → RoutesBy deaths r x q → DeathsEdge x (destination.Queue q)
deaths_route r x q named (y, leads, edge) =
    let is = deaths_here r x y named leads in
    elim (edge_leads deaths r y (destination.Queue q) deaths_plain edge) [
      | inl l ↦ subst (λ (z : Text). DeathsEdge z (destination.Queue q)) is (deaths_edge y (destination.Queue q) l)
      | inr empty ↦ absurd (named (sym is ∙ empty))
    ]

-- the queue where an edge of D ends
from_d : (q : Text) → DeathsEdge (codes "D") (destination.Queue q) → q ≡ codes "billing"
from_d q (to_q1 n e) = absurd (differ (codes "D") (codes "Y") refl n)
from_d q (to_billing n e) = ap queue_in e
from_d q (to_q3 n e) = absurd (differ (codes "D") (codes "E") refl n)

-- and of E
from_e : (q : Text) → DeathsEdge (codes "E") (destination.Queue q) → q ≡ codes "q3"
from_e q (to_q1 n e) = absurd (differ (codes "E") (codes "Y") refl n)
from_e q (to_billing n e) = absurd (differ (codes "E") (codes "D") refl n)
from_e q (to_q3 n e) = ap queue_in e

-- D leads to billing alone, and E to q3 alone
d_alone : (key q : Text) → Routes deaths (codes "D") key q → q ≡ codes "billing"
d_alone key q ro = from_d q (deaths_route (of_key key) (codes "D") q (differ (codes "D") [] refl) ro)

e_alone : (key q : Text) → Routes deaths (codes "E") key q → q ≡ codes "q3"
e_alone key q ro = from_e q (deaths_route (of_key key) (codes "E") q (differ (codes "E") [] refl) ro)

d_leads : Routes deaths (codes "D") (codes "pay") (codes "billing")
d_leads = (codes "D", here, bound _ _ (1, lit≤ tt, refl) refl (record { is_binding = (1, lit≤ tt, refl); source = refl; leads = refl }) refl)

e_leads : (r : Reading) → ((k : Text) → r.opens Fanout k) → RoutesBy deaths r (codes "E") (codes "q3")
e_leads r opens = (codes "E", here, bound _ _ (2, lit≤ tt, refl) refl (record { is_binding = (2, lit≤ tt, refl); source = refl; leads = refl }) (opens []))

d_picks : Picks (Routes deaths (codes "D") (codes "pay")) (codes "q1" ∷ codes "billing" ∷ codes "q3" ∷ []) (codes "billing" ∷ [])
d_picks = pass (λ ro. differ (codes "q1") (codes "billing") refl (d_alone (codes "pay") (codes "q1") ro)) (take d_leads (pass (λ ro. differ (codes "q3") (codes "billing") refl (d_alone (codes "pay") (codes "q3") ro)) none))

e_picks : Picks (Routes deaths (codes "E") (codes "pay")) (codes "q1" ∷ codes "billing" ∷ codes "q3" ∷ []) (codes "q3" ∷ [])
e_picks = pass (λ ro. differ (codes "q1") (codes "q3") refl (e_alone (codes "pay") (codes "q1") ro)) (pass (λ ro. differ (codes "billing") (codes "q3") refl (e_alone (codes "pay") (codes "billing") ro)) (take (e_leads (of_key (codes "pay")) (λ k. tt)) none))

-- headers of a first death tell of it
tells : (queue exchange : Text) → length queue ≤ 255 → length exchange ≤ 254 → DescribesDeath (first_death queue exchange)
tells queue exchange q x = added_tells no_pairs queue exchange q (omega (arith, x)) (record { size = omega arith; fits = tt }) (omega arith)

-- the queues after a message that was held there alone entered one
abbrev after_death : (t : Topology) (from to : Text) (m letter : Message) → Text → List Entry
after_death t from to m letter q = without_given 1 1 (while_held from m) (got_from from) q ++ comes_to t (without_given 1 1 (while_held from m) (got_from from)) letter q (to ∷ [])

first_dies : DiesTo deaths (codes "q1") (codes "billing") (first_publish (codes "Y") (codes "Y") (codes "a") None) (first_publish (codes "Y") (codes "D") (codes "pay") in_q1)
first_dies = record {
  after = after;
  rejected = (after, notes, [], (Entered 1 (codes "billing") Dead ∷ [], refl, record { headers = in_q1; marked = alone; targets = codes "billing" ∷ []; routed = d_picks; noted = refl; left = λ q. refl }), refl, (refl, λ q. refl));
  enters = refl;
}
  where
    m : Message
    m = first_publish (codes "Y") (codes "Y") (codes "a") None

    after : Text → List Entry
    after = after_death deaths (codes "q1") (codes "billing") m (first_publish (codes "Y") (codes "D") (codes "pay") in_q1)

    notes : List Note
    notes = Left 1 (codes "q1") Rejected ∷ Entered 1 (codes "billing") Dead ∷ []

second_dies : DiesTo deaths (codes "billing") (codes "q3") (first_publish (codes "Y") (codes "D") (codes "pay") in_q1) (first_publish (codes "Y") (codes "E") (codes "pay") in_q1)
second_dies = record {
  after = after;
  rejected = (after, notes, [], (Entered 1 (codes "q3") Dead ∷ [], refl, record { headers = in_q1; marked = marked_before (tells (codes "q1") (codes "Y") (lit≤ tt) (lit≤ tt)); targets = codes "q3" ∷ []; routed = e_picks; noted = refl; left = λ q. refl }), refl, (refl, λ q. refl));
  enters = refl;
}
  where
    m : Message
    m = first_publish (codes "Y") (codes "D") (codes "pay") in_q1

    after : Text → List Entry
    after = after_death deaths (codes "billing") (codes "q3") m (first_publish (codes "Y") (codes "E") (codes "pay") in_q1)

    notes : List Note
    notes = Left 1 (codes "billing") Rejected ∷ Entered 1 (codes "q3") Dead ∷ []

-- ---- the circle

circle_plain : HaveNoAlternate circle
circle_plain x (inl e) = ap (λ (z : Exchange). z.alternate) e
circle_plain x (inr none_left) = absurd none_left

circle_edge : (name : Text) (to : Destination) → Leading circle name to → to ≡ destination.Queue (codes "q")
circle_edge name to l = by l.there
  where
    by : IsIn l.binding circle.bindings → to ≡ destination.Queue (codes "q")
    by (inl e) = sym l.leads ∙ ap (λ (b : Binding). b.to) e
    by (inr none_left) = absurd none_left

circle_here : (r : Reading) (x y : Text) → (x ≡ [] → ⊥) → Leads circle r x y → y ≡ x
circle_here r x y named here = refl
circle_here r x y named (on {y = z} e more) = elim (edge_leads circle r x (destination.Exchange z) circle_plain e) [
  | inl l ↦ absurd (false≢true (ap is_queue (circle_edge x (destination.Exchange z) l)))
  | inr is ↦ absurd (named is)
]

circle_route : (r : Reading) (q : Text) → RoutesBy circle r (codes "X") q → q ≡ codes "q"
circle_route r q (y, leads, edge) = elim (edge_leads circle r y (destination.Queue q) circle_plain edge) [
  | inl l ↦ ap queue_in (circle_edge y (destination.Queue q) l)
  | inr is ↦ absurd (differ (codes "X") [] refl (sym (circle_here r (codes "X") y (differ (codes "X") [] refl) leads) ∙ is))
]

circle_leads : Routes circle (codes "X") (codes "a") (codes "q")
circle_leads = (codes "X", here, bound _ _ (0, lit≤ tt, refl) refl (record { is_binding = (0, lit≤ tt, refl); source = refl; leads = refl }) (word (any_none matches_none)))

circle_picks : Picks (Routes circle (codes "X") (codes "a")) (codes "q" ∷ codes "q2" ∷ []) (codes "q" ∷ [])
circle_picks = take circle_leads (pass (λ ro. differ (codes "q2") (codes "q") refl (circle_route (of_key (codes "a")) (codes "q2") ro)) none)

-- round, with these headers before it
goes_round : (headers : Option Text) → AreMarked (codes "q") (codes "X") headers in_q → DiesTo circle (codes "q") (codes "q") (first_publish (codes "X") (codes "X") (codes "a") headers) (first_publish (codes "X") (codes "X") (codes "a") in_q)
goes_round headers marked = record {
  after = after;
  rejected = (after, notes, [], (Entered 1 (codes "q") Dead ∷ [], refl, record { headers = in_q; marked = marked; targets = codes "q" ∷ []; routed = circle_picks; noted = refl; left = λ q. refl }), refl, (refl, λ q. refl));
  enters = refl;
}
  where
    after : Text → List Entry
    after = after_death circle (codes "q") (codes "q") (first_publish (codes "X") (codes "X") (codes "a") headers) (first_publish (codes "X") (codes "X") (codes "a") in_q)

    notes : List Note
    notes = Left 1 (codes "q") Rejected ∷ Entered 1 (codes "q") Dead ∷ []

-- ---- a full queue

crowded_plain : HaveNoAlternate full_topology
crowded_plain x (inl e) = ap (λ (z : Exchange). z.alternate) e
crowded_plain x (inr none_left) = absurd none_left

crowded_edge : (name : Text) (to : Destination) → Leading full_topology name to → (to ≡ destination.Queue (codes "billing")) ⊎ (to ≡ destination.Queue (codes "full"))
crowded_edge name to l = by l.there
  where
    by : IsIn l.binding full_topology.bindings → (to ≡ destination.Queue (codes "billing")) ⊎ (to ≡ destination.Queue (codes "full"))
    by (inl e) = inl (sym l.leads ∙ ap (λ (b : Binding). b.to) e)
    by (inr (inl e)) = inr (sym l.leads ∙ ap (λ (b : Binding). b.to) e)
    by (inr (inr none_left)) = absurd none_left

crowded_here : (r : Reading) (x y : Text) → (x ≡ [] → ⊥) → Leads full_topology r x y → y ≡ x
crowded_here r x y named here = refl
crowded_here r x y named (on {y = z} e more) = elim (edge_leads full_topology r x (destination.Exchange z) crowded_plain e) [
  | inl l ↦ elim (crowded_edge x (destination.Exchange z) l) [ inl is ↦ absurd (false≢true (ap is_queue is)) | inr is ↦ absurd (false≢true (ap is_queue is)) ]
  | inr is ↦ absurd (named is)
]

not_to_q1 : (key : Text) → Routes full_topology (codes "D") key (codes "q1") → ⊥
not_to_q1 key (y, leads, edge) = elim (edge_leads full_topology (of_key key) y (destination.Queue (codes "q1")) crowded_plain edge) [
  | inl l ↦ elim (crowded_edge y (destination.Queue (codes "q1")) l) [ inl is ↦ differ (codes "q1") (codes "billing") refl (ap queue_in is) | inr is ↦ differ (codes "q1") (codes "full") refl (ap queue_in is) ]
  | inr is ↦ differ (codes "D") [] refl (sym (crowded_here (of_key key) (codes "D") y (differ (codes "D") [] refl) leads) ∙ is)
]

to_billing_there : (key : Text) → Routes full_topology (codes "D") key (codes "billing")
to_billing_there key = (codes "D", here, bound _ _ (0, lit≤ tt, refl) refl (record { is_binding = (0, lit≤ tt, refl); source = refl; leads = refl }) tt)

to_full : (key : Text) → Routes full_topology (codes "D") key (codes "full")
to_full key = (codes "D", here, bound _ _ (0, lit≤ tt, refl) refl (record { is_binding = (1, lit≤ tt, refl); source = refl; leads = refl }) tt)

is_refused : EndsIn full_topology (codes "q1") (codes "billing") (first_publish (codes "Y") (codes "Y") (codes "a") None) (first_publish (codes "Y") (codes "D") (codes "a") in_q1) (Refused 1 (codes "full") ∷ Entered 1 (codes "billing") Dead ∷ [])
is_refused = record {
  after = after;
  rejected = (after, Left 1 (codes "q1") Rejected ∷ notes, [], (notes, refl, record { headers = in_q1; marked = alone; targets = codes "full" ∷ codes "billing" ∷ []; routed = pass (not_to_q1 (codes "a")) (take (to_full (codes "a")) (take (to_billing_there (codes "a")) none)); noted = refl; left = λ q. refl }), refl, (refl, λ q. refl));
  enters = refl;
}
  where
    before : Text → List Entry
    before = without_given 1 1 (while_held (codes "q1") (first_publish (codes "Y") (codes "Y") (codes "a") None)) (got_from (codes "q1"))

    after : Text → List Entry
    after q = before q ++ comes_to full_topology before (first_publish (codes "Y") (codes "D") (codes "a") in_q1) q (codes "full" ∷ codes "billing" ∷ [])

    notes : List Note
    notes = Refused 1 (codes "full") ∷ Entered 1 (codes "billing") Dead ∷ []

pub worked_deaths : WorkedDeaths
worked_deaths = record {
  first = first_dies;
  second = second_dies;
  header = refl;
  whole = refl;
  refused = is_refused;
  round = goes_round None alone;
  round_again = goes_round in_q (marked_before (tells (codes "q") (codes "X") (lit≤ tt) (lit≤ tt)));
}

-- ---- what deaths don't do

-- without a target D would lead nowhere
some_target : (targets : List Text) → Picks (Routes deaths (codes "D") (codes "pay")) (codes "q1" ∷ codes "billing" ∷ codes "q3" ∷ []) targets → targets ≡ [] → ⊥
some_target targets (take leads more) e = absurd cc
some_target targets (pass first (take leads more)) e = absurd cc
some_target targets (pass first (pass second more)) e = second d_leads

no_loss : (after : Text → List Entry) → AreRejected deaths 1 1 (got_from (codes "q1") ∷ []) (while_held (codes "q1") (first_publish (codes "Y") (codes "Y") (codes "a") None)) (Left 1 (codes "q1") Rejected ∷ []) after → ⊥
no_loss after (mid, first, rest, (more, is, dies), all, (end, same)) = some_target dies.targets dies.routed (empty dies.targets (sym dies.noted ∙ nothing))
  where
    -- nothing is noted behind that it left
    nothing : more ≡ []
    nothing =
        let whole : Left 1 (codes "q1") Rejected ∷ [] ≡ Left 1 (codes "q1") Rejected ∷ more = all ∙ ap (λ (ns : List Note). ns ++ rest) is ∙ ap (λ (ns : List Note). Left 1 (codes "q1") Rejected ∷ (more ++ ns)) end ∙ ap (λ (ns : List Note). Left 1 (codes "q1") Rejected ∷ ns) (append-nil more) in
        sym (ap (drop 1) whole)

    empty : (targets : List Text) → entry_notes deaths (without_given 1 1 (while_held (codes "q1") (first_publish (codes "Y") (codes "Y") (codes "a") None)) (got_from (codes "q1"))) 2 1 Dead targets ≡ [] → targets ≡ []
    empty [] e = refl
    empty (q ∷ qs) e = absurd cc

-- ---- what notes of deaths don't say

-- the first of these rejections, if there is one
record HasFirst (t : Topology) (queues : Text → List Entry) (said : List Said) (notes : List Note) : Type 0 where
  of : Rejection t queues
  rest : List Note
  is : notes ≡ rejection_notes t queues said of ++ rest
  more : AreRejections t queues (said ++ with_sizes (body_bytes of.entry) (rejection_notes t queues said of)) rest

first_of : {t : Topology} {queues : Text → List Entry} {said : List Said} {notes : List Note} → AreRejections t queues said notes → (notes ≡ []) ⊎ HasFirst t queues said notes
first_of no_rejection = inl refl
first_of (next {rest = rest} r more) = inr (record { of = r; rest = rest; is = refl; more = more })

-- a message that dies in q1 goes on to billing alone, whatever its key is
into_billing : (key r : Text) → DiesInto deaths (codes "q1") key r → r ≡ codes "billing"
into_billing key r d = by (inside d.last deaths.queues d.dies.is_queue)
  where
    by : IsIn d.last deaths.queues → r ≡ codes "billing"
    by (inl e) =
        let to : d.exchange ≡ codes "D" = same_Some d.exchange (codes "D") (sym d.dies.dead ∙ ap (λ (z : DeclaredQueue). z.dead_letter_exchange) e) in
        d_alone (codes "pay") r (subst (λ (x : Text). Routes deaths x (codes "pay") r) to (subst (λ (z : DeclaredQueue). Routes deaths d.exchange (key_after z.dead_letter_key key) r) e d.routes))
    by (inr (inl e)) = absurd (differ (codes "billing") (codes "q1") refl (ap (λ (z : DeclaredQueue). z.name) (sym e) ∙ d.dies.is_named))
    by (inr (inr (inl e))) = absurd (differ (codes "q3") (codes "q1") refl (ap (λ (z : DeclaredQueue). z.name) (sym e) ∙ d.dies.is_named))
    by (inr (inr (inr none_left))) = absurd none_left

billing_alone : (key : Text) (targets : List Text) → Picks (DiesInto deaths (codes "q1") key) (codes "q1" ∷ codes "billing" ∷ codes "q3" ∷ []) targets → targets ≡ codes "billing" ∷ []
billing_alone key targets (take d more) = absurd (differ (codes "q1") (codes "billing") refl (into_billing key (codes "q1") d))
billing_alone key targets (pass first (take second (take d more))) = absurd (differ (codes "q3") (codes "billing") refl (into_billing key (codes "q3") d))
billing_alone key targets (pass first (take second (pass third none))) = refl
billing_alone key targets (pass first (pass second more)) = absurd (second (record { last = queue_with (codes "q1") (Some (codes "D")) (Some (codes "pay")); exchange = codes "D"; dies = record { is_queue = (0, lit≤ tt, refl); is_named = refl; dead = refl }; routes = d_leads }))

-- behind that a message left q1, it is noted that a dead letter entered billing
record EntersBilling (more : List Note) : Type 0 where
  number : ℕ
  rest : List Note
  is : more ≡ Entered number (codes "billing") Dead ∷ rest
  said : List Said
  others : AreRejections deaths while_in_q1 said rest

abbrev queue_of : Note → Text
queue_of (Left n q cause) = q
queue_of (Entered n q w) = q
queue_of note = []

abbrev first_note : List Note → Note
first_note [] = Refused 0 []
first_note (note ∷ notes) = note

never_empty : (note : Note) (notes : List Note) → (note ∷ notes) ≡ [] → ⊥
never_empty note notes e = cc

enters_billing : (more : List Note) → AreRejections deaths while_in_q1 [] (Left 1 (codes "q1") Rejected ∷ more) → EntersBilling more
enters_billing more a = go (first_of a)
  where
    go : ((Left 1 (codes "q1") Rejected ∷ more) ≡ []) ⊎ HasFirst deaths while_in_q1 [] (Left 1 (codes "q1") Rejected ∷ more) → EntersBilling more
    go (inl e) = absurd (never_empty _ _ e)
    go (inr f) =
        let from : codes "q1" ≡ f.of.queue = ap (λ (ns : List Note). queue_of (first_note ns)) f.is in
        let to : f.of.targets ≡ codes "billing" ∷ [] = billing_alone f.of.entry.message.key f.of.targets (subst (λ (q : Text). Picks (DiesInto deaths q f.of.entry.message.key) (codes "q1" ∷ codes "billing" ∷ codes "q3" ∷ []) f.of.targets) (sym from) f.of.routed) in
        record {
          number = f.of.entry.message.number;
          rest = f.rest;
          is = ap (drop 1) f.is ∙ ap (λ (rs : List Text). map (note_at deaths while_in_q1 [] (body_bytes f.of.entry) f.of.entry.message.number Dead) rs ++ f.rest) to;
          said = with_sizes (body_bytes f.of.entry) (rejection_notes deaths while_in_q1 [] f.of);
          others = f.more;
        }

no_letter : AreRejections deaths while_in_q1 [] (Left 1 (codes "q1") Rejected ∷ []) → ⊥
no_letter a = let b = enters_billing [] a in never_empty _ _ (sym b.is)

-- it is the first that is noted
billing_first : (note : Note) (more : List Note) → AreRejections deaths while_in_q1 [] (Left 1 (codes "q1") Rejected ∷ note ∷ more) → is_entry_into (codes "billing") note ≡ true
billing_first note more a = ap (λ (ns : List Note). is_entry_into (codes "billing") (first_note ns)) (enters_billing (note ∷ more) a).is

-- the note says that a message left
abbrev is_gone : Note → Bool
is_gone (Left n q cause) = true
is_gone note = false

-- behind it another message left, if there is more
then_leaves : (note other : Note) (more : List Note) → AreRejections deaths while_in_q1 [] (Left 1 (codes "q1") Rejected ∷ note ∷ other ∷ more) → is_gone other ≡ true
then_leaves note other more a = go (first_of (subst (AreRejections deaths while_in_q1 b.said) (sym (ap (drop 1) b.is)) b.others))
  where
    b : EntersBilling (note ∷ other ∷ more)
    b = enters_billing (note ∷ other ∷ more) a

    go : ((other ∷ more) ≡ []) ⊎ HasFirst deaths while_in_q1 b.said (other ∷ more) → is_gone other ≡ true
    go (inl e) = absurd (never_empty other more e)
    go (inr f) = ap (λ (ns : List Note). is_gone (first_note ns)) f.is

-- where headers tell of a death they stay
marked_once : (queue exchange headers : Text) (old new : Option Text) → old ≡ Some headers → DescribesDeath headers → AreMarked queue exchange old new → new ≡ Some headers
marked_once queue exchange headers None new e tells alone = absurd (false≢true (ap Rattle.std.specs.Prelude.is_some e))
marked_once queue exchange headers (Some old) new e tells (added unmarked) = absurd (unmarked (subst DescribesDeath (sym (same_Some old headers e)) tells))
marked_once queue exchange headers (Some old) new e tells (marked_before told) = e

not_twice : AreMarked (codes "billing") (codes "D") in_q1 (Some (first_death (codes "q1") (codes "Y") ++ first_death (codes "billing") (codes "D"))) → ⊥
not_twice m =
    let same : ◌≡◌ {A = Option Text} (Some (first_death (codes "q1") (codes "Y") ++ first_death (codes "billing") (codes "D"))) in_q1 = marked_once (codes "billing") (codes "D") (first_death (codes "q1") (codes "Y")) in_q1 _ refl (tells (codes "q1") (codes "Y") (lit≤ tt) (lit≤ tt)) m in
    let long : ◌≡◌ {A = ℕ} 185 90 = ap length (same_Some _ _ same) in
    absurd (omega (arith, long))

-- ---- guarantees

any_key : (ws : List Text) → Matches (Any ∷ []) ws
any_key [] = any_none matches_none
any_key (w ∷ ws) = any_more (any_key ws)

to_billing_by_death : Comes deaths (of_key (codes "a")) None (codes "Y") (codes "billing")
to_billing_by_death = dead _ y_leads (record { is_queue = (0, lit≤ tt, refl); is_named = refl; dead = refl }) (routed d_leads)
  where
    y_leads : Routes deaths (codes "Y") (codes "a") (codes "q1")
    y_leads = (codes "Y", here, bound _ _ (0, lit≤ tt, refl) refl (record { is_binding = (0, lit≤ tt, refl); source = refl; leads = refl }) tt)

to_q3_by_deaths : Comes deaths (of_key (codes "a")) None (codes "Y") (codes "q3")
to_q3_by_deaths = dead _ y_leads (record { is_queue = (0, lit≤ tt, refl); is_named = refl; dead = refl }) (dead _ d_leads (record { is_queue = (1, lit≤ tt, refl); is_named = refl; dead = refl }) (routed (e_leads (of_key (codes "pay")) (λ k. tt))))
  where
    y_leads : Routes deaths (codes "Y") (codes "a") (codes "q1")
    y_leads = (codes "Y", here, bound _ _ (0, lit≤ tt, refl) refl (record { is_binding = (0, lit≤ tt, refl); source = refl; leads = refl }) tt)

-- by whatever route or death, X leads to q alone
circle_comes : {r : Reading} {fixed : Option Text} {x q : Text} → x ≡ codes "X" → Comes circle r fixed x q → q ≡ codes "q"
circle_comes {r = r} {fixed = fixed} {q = q} is (routed ro) = circle_route (reading_after fixed r) q (subst (λ (z : Text). RoutesBy circle (reading_after fixed r) z q) is ro)
circle_comes {r = r} is (dead last ro dies more) = circle_comes (by (inside last circle.queues dies.is_queue) dies.dead) more
  where
    by : IsIn last circle.queues → {exchange : Text} → last.dead_letter_exchange ≡ Some exchange → exchange ≡ codes "X"
    by (inl e) {exchange} f = sym (same_Some (codes "X") exchange (sym (ap (λ (z : DeclaredQueue). z.dead_letter_exchange) e) ∙ f))
    by (inr (inl e)) f = absurd (false≢true (ap Rattle.std.specs.Prelude.is_some (sym (ap (λ (z : DeclaredQueue). z.dead_letter_exchange) e) ∙ f)))
    by (inr (inr none_left)) f = absurd none_left

pub deaths_refuse : DeathsRefuse
deaths_refuse = record {
  letter_not_noted = no_letter;
  letter_noted_twice = λ a. false≢true (then_leaves _ _ _ a);
  refused_by_none = λ a. false≢true (billing_first _ _ a);
  entered_another = λ a. false≢true (billing_first _ _ a);
  lost = no_loss;
  two_deaths = not_twice;
  forgets = λ holds. holds (codes "a") (lit≤ tt) (record { pattern = any_key _; kept_in = λ e i m. i }) to_billing_by_death;
  forgets_second = λ holds. holds (codes "a") (lit≤ tt) (record { pattern = any_key _; kept_in = λ e i m. i }) to_q3_by_deaths;
  forgets_route = λ holds. holds (codes "a") (lit≤ tt) (record { pattern = any_key _; kept_in = λ e i m. i }) (routed circle_leads);
  kept = λ key short covers comes. differ (codes "q2") (codes "q") refl (circle_comes refl comes);
}

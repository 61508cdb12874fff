-- What is done by the places of queues is the rejection by their names.
use Rattle.depot.proofs.Names.{◌≡◌, ℕ, zero, suc, ◌+◌, ◌<◌, ◌≤◌, List, [], ◌∷◌, ◌++◌, Bool, true, false, cond, refl, sym, ap, subst, ◌∙◌, map, filter, length, get_or, set, arith, Option, Some, None, Result, Ok, Err, OnOk, count_by, nat_lt, ◌&&◌, common_steps, bytes_eq, length-set, get_or_past, bytes_eq-Decides, Text, Topology, queue_names, AreDistinct, key_after, queue_named, listed, is_full, ready_bytes, refuses, Message, is_held_as, without_first, dead_letter, DiesBy, DiesIn, MayDie, AreRejected, Content, Entry, Holder, Ready, DeclaredQueue, Note, Entered, Refused, ready_count, queue_name, names_at, ChannelId, Delivery, Death, PlannedTurn, Store, entries_named, IsStoreWhole, TurnOutcome, outcomes, arriving, entered_one, all_entered, notes_of_outcomes, AreSettledBy, IsHeldOnce, holder_of_delivery, outstanding_in, AreWithin, AreByTag, MayHaveLetters, IsDeathOf, Plans, given_at, ArePlanned, without, outcomes_of, died, death_notes, died_all, all_notes, Rejects}
use Rattle.std.proofs.Common.{not}
use Rattle.std.specs.Prelude.{find, if◌then◌else◌}
use Rattle.model.specs.Entering.{entry_note, entry_notes, comes_to}
use Rattle.model.specs.Deliveries as given
use Rattle.model.specs.declared.notes.Way.TheVariants as way
use Rattle.depot.proofs.Firsts.{number, count-cons, one_passes, none_found, count-filter, find-filter, held_apart}
use Rattle.depot.proofs.Naming.{names-length, same_name, later_name, noted_by_names, entered_by_names}
use Rattle.depot.proofs.Named.{queue_of-changed, queue_of-place}
use Rattle.depot.proofs.Planned.{queue_there}

-- ---- what a death leaves alone

-- what is appended is ready, and therefore not held
find_arriving : (a : Holder) (xs : List Entry) (o : Option Message) → find (is_held_as a) (xs ++ arriving o) ≡ find (is_held_as a) xs
find_arriving a [] None = refl
find_arriving a [] (Some m) = refl
find_arriving a (x ∷ xs) o = ap (λ (f : Option Entry). cond (is_held_as a x) (Some x) f) (find_arriving a xs o)

count_arriving : (a : Holder) (xs : List Entry) (o : Option Message) → count_by (is_held_as a) (xs ++ arriving o) ≡ count_by (is_held_as a) xs
count_arriving a [] None = refl
count_arriving a [] (Some m) = refl
count_arriving a (x ∷ xs) o =
    count-cons (is_held_as a) x (xs ++ arriving o) ∙ ap (λ (n : ℕ). number (is_held_as a x) + n) (count_arriving a xs o) ∙ sym (count-cons (is_held_as a) x xs)

-- a list is put in place of one that is seen alike
pub seen-set : {B : Type 0} (f : List Entry → B) (lists : List (List Entry)) (i k : ℕ) (es : List Entry) → f es ≡ f (get_or lists i []) → f (get_or (set lists i es) k []) ≡ f (get_or lists k [])
seen-set f [] i k es e = refl
seen-set f (xs ∷ xss) zero zero es e = e
seen-set f (xs ∷ xss) zero (suc k) es e = refl
seen-set f (xs ∷ xss) (suc i) zero es e = refl
seen-set f (xs ∷ xss) (suc i) (suc k) es e = seen-set f xss i k es e

seen-entered : {B : Type 0} (f : List Entry → B) → ((xs : List Entry) (o : Option Message) → f (xs ++ arriving o) ≡ f xs) → (os : List TurnOutcome) (lists : List (List Entry)) (k : ℕ) → f (get_or (all_entered os lists) k []) ≡ f (get_or lists k [])
seen-entered f same [] lists k = refl
seen-entered f same (o ∷ os) lists k = seen-entered f same os (entered_one o lists) k ∙ seen-set f lists o.place k (get_or lists o.place [] ++ arriving o.message) (same (get_or lists o.place []) o.message)

-- what is held under another tag is found after a death as before
pub found_after : (qs : List DeclaredQueue) (d : Death) (lists : List (List Entry)) (a : Holder) (k : ℕ) → ((a.tag ≡ d.holder.tag) → ⊥) → find (is_held_as a) (get_or (died qs d lists) k []) ≡ find (is_held_as a) (get_or lists k [])
found_after qs d lists a k ne =
    seen-entered (find (is_held_as a)) (find_arriving a) (outcomes_of qs d lists) (without d lists) k
    ∙ seen-set (find (is_held_as a)) lists d.place k (filter (λ (e : Entry). not (is_held_as d.holder e)) (get_or lists d.place [])) (find-filter (is_held_as a) (is_held_as d.holder) (held_apart a d.holder ne) (get_or lists d.place []))

-- at most one entry of each queue is held under one tag
abbrev pub AreDistinctBy : List (List Entry) → Type 0
AreDistinctBy lists = (k : ℕ) (a : Holder) → count_by (is_held_as a) (get_or lists k []) ≤ 1

pub fewer-set : (p : Entry → Bool) (lists : List (List Entry)) (i k : ℕ) (es : List Entry) → count_by p es ≤ count_by p (get_or lists i []) → count_by p (get_or (set lists i es) k []) ≤ count_by p (get_or lists k [])
fewer-set p [] i k es e = omega arith
fewer-set p (xs ∷ xss) zero zero es e = e
fewer-set p (xs ∷ xss) zero (suc k) es e = omega arith
fewer-set p (xs ∷ xss) (suc i) zero es e = omega arith
fewer-set p (xs ∷ xss) (suc i) (suc k) es e = fewer-set p xss i k es e

apart_after : (qs : List DeclaredQueue) (d : Death) (lists : List (List Entry)) → AreDistinctBy lists → AreDistinctBy (died qs d lists)
apart_after qs d lists distinct k a =
    let same = seen-entered (count_by (is_held_as a)) (count_arriving a) (outcomes_of qs d lists) (without d lists) k in
    let kept = filter (λ (e : Entry). not (is_held_as d.holder e)) (get_or lists d.place []) in
    let fewer = fewer-set (is_held_as a) lists d.place k kept (count-filter (is_held_as a) (λ (e : Entry). not (is_held_as d.holder e)) (get_or lists d.place [])) in
    let one = distinct k a in
    omega (arith, same, fewer, one)

length-entered : (os : List TurnOutcome) (lists : List (List Entry)) → length (all_entered os lists) ≡ length lists
length-entered [] lists = refl
length-entered (o ∷ os) lists = length-entered os (entered_one o lists) ∙ length-set lists o.place (get_or lists o.place [] ++ arriving o.message)

length-without : (d : Death) (lists : List (List Entry)) → length (without d lists) ≡ length lists
length-without d lists = length-set lists d.place (filter (λ (e : Entry). not (is_held_as d.holder e)) (get_or lists d.place []))

length-died : (qs : List DeclaredQueue) (d : Death) (lists : List (List Entry)) → length (died qs d lists) ≡ length lists
length-died qs d lists = length-entered (outcomes_of qs d lists) (without d lists) ∙ length-without d lists

-- what was planned for the others is planned for them still
planned_after : (t : Topology) (c h : ℕ) (lists now : List (List Entry)) (gs : List Delivery) (ds : List Death) → ((i : ℕ) (x : Delivery) → i < length gs → given_at c h now (get_or gs i x) ≡ given_at c h lists (get_or gs i x))
    → ArePlanned t c h lists gs ds → ArePlanned t c h now gs ds
planned_after t c h lists now [] ds same are = are
planned_after t c h lists now (g ∷ gs) ds same are =
    (are.0, are.1, subst (λ (o : Option Entry). Plans t c h g o are.0) (sym (same 0 g (omega arith))) are.2, are.3, planned_after t c h lists now gs are.1 (λ i x lt. same (suc i) x (omega (arith, lt))) are.4)

-- ---- queues that are the same, name by name

full_same : (t : Topology) (f g : Text → List Entry) → ((q : Text) → f q ≡ g q) → (q : Text) (size : ℕ) → is_full t f q size ≡ is_full t g q size
full_same t f g same q size = ap (λ (es : List Entry). refuses (queue_named t.queues q) (ready_count es) (ready_bytes es) size) (same q)

notes_same : (t : Topology) (f g : Text → List Entry) → ((q : Text) → f q ≡ g q) → (size n : ℕ) (targets : List Text) → entry_notes t f size n way.Dead targets ≡ entry_notes t g size n way.Dead targets
notes_same t f g same size n [] = refl
notes_same t f g same size n (r ∷ rs) =
    ap (λ (ns : List Note). entry_note t f size n way.Dead r ∷ ns) (notes_same t f g same size n rs)
    ∙ ap (λ (b : Bool). (if b then Refused n r else Entered n r way.Dead) ∷ entry_notes t g size n way.Dead rs) (full_same t f g same r size)

come_same : (t : Topology) (f g : Text → List Entry) → ((q : Text) → f q ≡ g q) → (m : Message) (q : Text) (targets : List Text) → comes_to t f m q targets ≡ comes_to t g m q targets
come_same t f g same m q [] = refl
come_same t f g same m q (r ∷ rs) =
    ap (λ (b : Bool). if bytes_eq r q && not b then record { message = m; mark = Ready } ∷ comes_to t f m q rs else comes_to t f m q rs) (full_same t f g same r (length m.content.body))
    ∙ ap (λ (es : List Entry). if bytes_eq r q && not (is_full t g r (length m.content.body)) then record { message = m; mark = Ready } ∷ es else es) (come_same t f g same m q rs)

-- ---- one death

-- the store with other entries
abbrev with_lists : Store → List (List Entry) → Store
with_lists s lists = record s { queues = lists }

named_there : (qs : List DeclaredQueue) (i : ℕ) (q : DeclaredQueue) → AreDistinct (queue_names qs) → i < length qs → q ≡ get_or qs i q → queue_named qs (get_or (queue_names qs) i []) ≡ Some q
named_there [] i q distinct lt is = absurd (omega arith)
named_there (x ∷ xs) zero q distinct lt is = rw (same_name x.name) (ap Some (sym is))
named_there (x ∷ xs) (suc i) q distinct lt is = let long = names-length xs in rw (later_name x.name (queue_names xs) i distinct (omega arith)) (named_there xs i q distinct.1 (omega arith) is)

-- the queues without the message that dies, by their names
without_named : (s : Store) (c h : ℕ) (g : Delivery) (d : Death) (q : Text) → IsStoreWhole s → AreDistinctBy s.queues → g.queue < length s.topology.queues → d.place ≡ g.queue → d.holder ≡ holder_of_delivery c h g
    → entries_named (with_lists s (without d s.queues)) q ≡ given.without_given c h (entries_named s) (outstanding_in (queue_names s.topology.queues) g) q
without_named s c h g d q whole distinct lt place holder =
    let p = is_held_as (holder_of_delivery c h g) in
    let name = queue_name s.topology g.queue in
    let here = queue_of-place s g.queue whole lt in
    let gone = filter (λ (e : Entry). not (p e)) (get_or s.queues g.queue []) in
    ap (λ (i : ℕ). entries_named (with_lists s (set s.queues i (filter (λ (e : Entry). not (is_held_as d.holder e)) (get_or s.queues i [])))) q) place
    ∙ ap (λ (a : Holder). entries_named (with_lists s (set s.queues g.queue (filter (λ (e : Entry). not (is_held_as a e)) (get_or s.queues g.queue [])))) q) holder
    ∙ queue_of-changed s g.queue gone q whole lt
    ∙ ap (λ (es : List Entry). if bytes_eq name q then es else entries_named s q) (one_passes p (get_or s.queues g.queue []) (distinct g.queue (holder_of_delivery c h g)) ∙ ap (without_first p) (sym here))

-- a message that dies, and its dead letter
dies_by : (s : Store) (q : DeclaredQueue) (m : Message) (d : Death) (queues : Text → List Entry) (x : Option Text) → IsStoreWhole s → ((r : Text) → entries_named (with_lists s (without d s.queues)) r ≡ queues r)
    → MayHaveLetters s.topology q m d.turns x
    → DiesBy s.topology q queues m (notes_of_outcomes (outcomes_of s.topology.queues d s.queues)) (entries_named (with_lists s (died s.topology.queues d s.queues))) x
dies_by s q m d queues None whole same none =
    let w = without d s.queues in (
      ap (λ (ts : List PlannedTurn). notes_of_outcomes (outcomes way.Dead s.topology.queues ts w)) none,
      (λ r. ap (λ (ts : List PlannedTurn). entries_named (with_lists s (all_entered (outcomes way.Dead s.topology.queues ts w) w)) r) none ∙ same r),
    )
dies_by s q m d queues (Some exchange) whole same letters =
    let t = s.topology in
    let w = without d s.queues in
    let key = key_after q.dead_letter_key m.key in
    let headers = letters.marked.headers in
    let letter = dead_letter m exchange key letters.content in
    let targets = names_at (queue_names t.queues) letters.plan.targets in
    let len = length-without d s.queues ∙ whole.len in
    let distinct = whole.formed.queues_distinct in
    record {
      headers = headers;
      marked = letters.marked.marked;
      targets = targets;
      routed = letters.plan.routed.picked;
      noted =
          noted_by_names t way.Dead w exchange key letter d.turns letters.plan distinct len
          ∙ ap (λ (content : Content). entry_notes t (listed (queue_names t.queues) w) (length content.body) m.number way.Dead targets) letters.marked.made
          ∙ notes_same t (listed (queue_names t.queues) w) queues same (length m.content.body) m.number targets;
      left = λ r.
          entered_by_names t way.Dead w exchange key letter d.turns letters.plan r distinct len
          ∙ ap (λ (es : List Entry). es ++ comes_to t (listed (queue_names t.queues) w) letter r targets) (same r)
          ∙ ap (λ (es : List Entry). queues r ++ es)
          (come_same t (listed (queue_names t.queues) w) queues same letter r targets
          ∙ ap (λ (content : Content). comes_to t queues (dead_letter m exchange key content) r targets) letters.marked.made);
    }

-- ---- all of them

may_die : (s : Store) (c h : ℕ) (g : Delivery) (e : Entry) (d : Death) → IsStoreWhole s → AreDistinctBy s.queues → g.queue < length s.topology.queues → IsDeathOf s.topology c h g e d
    → MayDie s.topology (queue_name s.topology g.queue) (given.without_given c h (entries_named s) (outstanding_in (queue_names s.topology.queues) g)) (death_notes s.topology.queues d s.queues) (entries_named (with_lists s (died s.topology.queues d s.queues))) (Some e)
may_die s c h g e d whole distinct lt is =
    let t = s.topology in
    let q = queue_there t.queues g.queue lt in
    let queues = given.without_given c h (entries_named s) (outstanding_in (queue_names t.queues) g) in
    let notes = notes_of_outcomes (outcomes_of t.queues d s.queues) in
    let new = entries_named (with_lists s (died t.queues d s.queues)) in (
      notes,
      ap (λ (n : Note). n ∷ notes) is.note,
      subst (DiesIn t queues e.message notes new) (sym (named_there t.queues g.queue q.0 whole.formed.queues_distinct lt q.1))
          (dies_by s q.0 e.message d queues q.0.dead_letter_exchange whole (λ r. without_named s c h g d r whole distinct lt is.place is.holder) (is.letters q.0 q.1)),
    )

not_there : (s : Store) (c h : ℕ) (g : Delivery) (r : Text) → find (is_held_as (holder_of_delivery c h g)) (entries_named s (queue_name s.topology g.queue)) ≡ None → entries_named s r ≡ given.without_given c h (entries_named s) (outstanding_in (queue_names s.topology.queues) g) r
not_there s c h g r none = go (bytes_eq name r) refl
  where
    name : Text
    name = queue_name s.topology g.queue

    p : Entry → Bool
    p = is_held_as (holder_of_delivery c h g)

    go : (b : Bool) → bytes_eq name r ≡ b → entries_named s r ≡ (if b then without_first p (entries_named s name) else entries_named s r)
    go true is = ap (λ (n : Text). entries_named s n) (sym ((bytes_eq-Decides name r).0 is)) ∙ sym (none_found p (entries_named s name) none)
    go false is = refl

whole_with : (s : Store) (lists : List (List Entry)) → IsStoreWhole s → length lists ≡ length s.queues → IsStoreWhole (with_lists s lists)
whole_with s lists whole len = record { formed = whole.formed; len = len ∙ whole.len }

-- what is still to do, where it was planned
abbrev RejectedBy : Store → ℕ → ℕ → List Delivery → List Death → Type 0
RejectedBy s c h gone ds =
    AreRejected s.topology c h (map (outstanding_in (queue_names s.topology.queues)) gone) (entries_named s) (all_notes s.topology.queues ds s.queues) (entries_named (with_lists s (died_all s.topology.queues ds s.queues)))

-- what is still to do once the first of them is done
abbrev IsLater : Store → ℕ → ℕ → List Delivery → List Death → Type 0
IsLater s c h gs rest =
    (lists : List (List Entry)) → IsStoreWhole (with_lists s lists) → AreDistinctBy lists → ArePlanned s.topology c h lists gs rest → RejectedBy (with_lists s lists) c h gs rest

rejected_next : (s : Store) (c h : ℕ) (g : Delivery) (gs : List Delivery) (first rest ds : List Death) (o : Option Entry) → given_at c h s.queues g ≡ o → IsStoreWhole s → AreDistinctBy s.queues → AreByTag (g ∷ gs) → g.queue < length s.topology.queues
    → Plans s.topology c h g o first → ds ≡ first ++ rest → ArePlanned s.topology c h s.queues gs rest → IsLater s c h gs rest → RejectedBy s c h (g ∷ gs) ds
rejected_next s c h g gs first rest ds None there whole distinct ordered lt none e planned later =
    let t = s.topology in
    let name = queue_name t g.queue in
    let p = is_held_as (holder_of_delivery c h g) in
    let same : ds ≡ rest = e ∙ ap (λ (xs : List Death). xs ++ rest) none in
    let absent : find p (entries_named s name) ≡ None = ap (find p) (queue_of-place s g.queue whole lt) ∙ there in
    subst (λ (xs : List Death). RejectedBy s c h (g ∷ gs) xs) (sym same) (
      entries_named s,
      [],
      all_notes t.queues rest s.queues,
      subst (MayDie t name (given.without_given c h (entries_named s) (outstanding_in (queue_names t.queues) g)) [] (entries_named s)) (sym absent) (refl, λ r. not_there s c h g r absent),
      refl,
      later s.queues whole distinct planned,
    )
rejected_next s c h g gs first rest ds (Some x) there whole distinct ordered lt one e planned later =
    let t = s.topology in
    let d = one.0 in
    let name = queue_name t g.queue in
    let p = is_held_as (holder_of_delivery c h g) in
    let same : ds ≡ d ∷ rest = e ∙ ap (λ (xs : List Death). xs ++ rest) one.1 in
    let present : find p (entries_named s name) ≡ Some x = ap (find p) (queue_of-place s g.queue whole lt) ∙ there in
    let now = died t.queues d s.queues in
    let tag : d.holder.tag ≡ g.tag = ap (λ (a : Holder). a.tag) one.2.holder in
    let still = planned_after t c h s.queues now gs rest
    (λ i y l.
    let after : g.tag < (get_or gs i y).tag = ordered 0 (suc i) y (omega arith) (omega (arith, l)) in
    found_after t.queues d s.queues (holder_of_delivery c h (get_or gs i y)) (get_or gs i y).queue (λ z. let at : (get_or gs i y).tag ≡ d.holder.tag = z in absurd (omega (arith, after, at, tag)))) planned in
    subst (λ (xs : List Death). RejectedBy s c h (g ∷ gs) xs) (sym same) (
      entries_named (with_lists s now),
      death_notes t.queues d s.queues,
      all_notes t.queues rest now,
      subst (MayDie t name (given.without_given c h (entries_named s) (outstanding_in (queue_names t.queues) g)) (death_notes t.queues d s.queues) (entries_named (with_lists s now))) (sym present) (may_die s c h g x d whole distinct lt one.2),
      refl,
      later now (whole_with s now whole (length-died t.queues d s.queues)) (apart_after t.queues d s.queues distinct) still,
    )

rejected_from : (s : Store) (c h : ℕ) (gone : List Delivery) (ds : List Death) → IsStoreWhole s → AreDistinctBy s.queues → AreByTag gone → AreWithin s.topology gone → ArePlanned s.topology c h s.queues gone ds → RejectedBy s c h gone ds
rejected_from s c h [] ds whole distinct ordered within are =
    (ap (λ (xs : List Death). all_notes s.topology.queues xs s.queues) are, (λ q. ap (λ (xs : List Death). entries_named (with_lists s (died_all s.topology.queues xs s.queues)) q) are))
rejected_from s c h (g ∷ gs) ds whole distinct ordered within are =
    rejected_next s c h g gs are.0 are.1 ds (given_at c h s.queues g) refl whole distinct ordered (within 0 g (omega arith)) are.2 are.3 are.4
    (λ lists w a p.
    rejected_from (with_lists s lists) c h gs are.1 w a (λ i j k l m. ordered (suc i) (suc j) k (omega (arith, l)) (omega (arith, m))) (λ i k l. within (suc i) k (omega (arith, l))) p)

pub apart_by : (s : Store) → IsStoreWhole s → IsHeldOnce s → AreDistinctBy s.queues
apart_by s whole distinct k a = go (nat_lt k (length s.topology.queues)) refl
  where
    go : (b : Bool) → nat_lt k (length s.topology.queues) ≡ b → count_by (is_held_as a) (get_or s.queues k []) ≤ 1
    go true is = let lt : k < length s.topology.queues = grind (arith, common_steps) in let one = distinct (queue_name s.topology k) a in let here = ap (count_by (is_held_as a)) (queue_of-place s k whole lt) in omega (arith, one, here)
    go false is =
        let len = whole.len in
        let past : length s.queues ≤ k = grind (arith, common_steps) in
        let none = ap (count_by (is_held_as a)) (get_or_past s.queues k [] past) in
        omega (arith, none)

-- what was done by places is the rejection
pub rejecting : (old new : Store) (id : ChannelId) (gone : List Delivery) (before after : List Note) → IsStoreWhole old → IsHeldOnce old → AreByTag gone → AreWithin old.topology gone → new.published ≡ old.published → new.topology ≡ old.topology
    → Rejects old.topology id gone old.queues new.queues before after → AreSettledBy given.Rejects old id.connection id.number gone before after new
rejecting old new id gone before after whole distinct ordered within counted same r =
    let t = old.topology in
    let done : with_lists old (died_all t.queues r.deaths old.queues) ≡ new = rw (same, counted, r.entries) refl in
    record {
      noted = all_notes t.queues r.deaths old.queues;
      appended = r.notes;
      settled = subst (λ (s : Store). AreRejected t id.connection id.number (map (outstanding_in (queue_names t.queues)) gone) (entries_named old) (all_notes t.queues r.deaths old.queues) (entries_named s)) done (rejected_from old id.connection id.number gone r.deaths whole (apart_by old whole distinct) ordered within r.planned);
      counted = counted;
      topology = same;
    }

-- where it was done
pub on_ok : {X E : Type 0} (r : Result X E) (A B : Type 0) → (A → B) → OnOk r A → OnOk r B
on_ok (Ok x) A B f a = f a
on_ok (Err e) A B f a = a

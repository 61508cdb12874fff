-- What is done by the places of queues settles deliveries in the queues of their names.
use Rattle.depot.proofs.Names.{◌≡◌, ℕ, suc, ◌+◌, ◌<◌, List, [], ◌∷◌, ◌++◌, Bool, true, false, cond, refl, sym, ap, subst, ◌∙◌, map, filter, length, get_or, drop, arith, append_assoc, bytes_eq, append-nil, length-set, Text, Topology, queue_names, IsWellFormed, is_under, is_held_as, freed, without_first, Leaves, Returns, left_note, Entry, Acked, Note, queue_name, Delivery, is_waiting, waiting, holder_of_delivery, outstanding_in, AreWithin, Store, entries_named, IsStoreWhole, given_at, AreSettledBy, store_of, left_at, returned_at, departure_in}
use Rattle.std.proofs.Common.{not}
use Rattle.std.specs.Prelude.{find, if◌then◌else◌}
use Rattle.model.specs.Deliveries as given
use Rattle.model.specs.declared.notes.Cause.{Cause}
use Rattle.depot.specs.declared.departures.Departure.{Departure}
use Rattle.depot.proofs.Firsts.{one_passes, count-filter}
use Rattle.depot.proofs.Named.{queue_of-changed, queue_of-place}
use Rattle.depot.proofs.Waiting.{nothing, next_waiting}
use Rattle.depot.proofs.Rejected.{AreDistinctBy, fewer-set}

-- ---- one delivery

-- the queues without its message, by their names
left_named : (s : Store) (c h : ℕ) (d : Delivery) (q : Text) → IsStoreWhole s → AreDistinctBy s.queues → d.queue < length s.topology.queues
    → entries_named (record s { queues = left_at c h s.queues d }) q ≡ given.without_given c h (entries_named s) (outstanding_in (queue_names s.topology.queues) d) q
left_named s c h d q whole distinct lt =
    let p = is_held_as (holder_of_delivery c h d) in
    let here = get_or s.queues d.queue [] in
    queue_of-changed s d.queue (filter (λ (e : Entry). not (p e)) here) q whole lt
    ∙ ap (λ (es : List Entry). if bytes_eq (queue_name s.topology d.queue) q then es else entries_named s q)
    (one_passes p here (distinct d.queue (holder_of_delivery c h d)) ∙ ap (without_first p) (sym (queue_of-place s d.queue whole lt)))

-- what is held is still apart without it
apart_left : (c h : ℕ) (lists : List (List Entry)) (d : Delivery) → AreDistinctBy lists → AreDistinctBy (left_at c h lists d)
apart_left c h lists d distinct k a =
    let p = is_held_as (holder_of_delivery c h d) in
    let kept = filter (λ (e : Entry). not (p e)) (get_or lists d.queue []) in
    let fewer = fewer-set (is_held_as a) lists d.queue k kept (count-filter (is_held_as a) (λ (e : Entry). not (p e)) (get_or lists d.queue [])) in
    let one = distinct k a in
    omega (arith, fewer, one)

-- the queues with it ready again, by their names
returned_named : (s : Store) (c h : ℕ) (d : Delivery) (q : Text) → IsStoreWhole s → d.queue < length s.topology.queues
    → entries_named (record s { queues = returned_at c h s.queues d }) q ≡ given.with_returned c h (entries_named s) (outstanding_in (queue_names s.topology.queues) d) q
returned_named s c h d q whole lt =
    let free = map (freed (is_under (holder_of_delivery c h d))) in
    queue_of-changed s d.queue (free (get_or s.queues d.queue [])) q whole lt
    ∙ ap (λ (es : List Entry). if bytes_eq (queue_name s.topology d.queue) q then free es else entries_named s q) (sym (queue_of-place s d.queue whole lt))

-- ---- one after another

-- none is settled
pub none_leaves : (cause : Cause) (s : Store) (c h : ℕ) (notes : List Note) → AreSettledBy (Leaves cause) s c h [] notes notes s
none_leaves cause s c h notes = record { noted = []; appended = sym (append-nil notes); settled = (refl, λ q. refl); counted = refl; topology = refl }

pub none_returns : (s : Store) (c h : ℕ) → AreSettledBy Returns s c h [] [] [] s
none_returns s c h = record { noted = []; appended = refl; settled = (refl, λ q. refl); counted = refl; topology = refl }

-- one leaves its queue, and then others do
pub leaves_first : (cause : Cause) (s : Store) (c h : ℕ) (d : Delivery) (ds : List Delivery) (lists : List (List Entry)) (before middle after : List Note) (new : Store)
    → IsStoreWhole s → AreDistinctBy s.queues → d.queue < length s.topology.queues
    → lists ≡ left_at c h s.queues d → middle ≡ before ++ left_note cause (queue_name s.topology d.queue) (given_at c h s.queues d)
    → AreSettledBy (Leaves cause) (record s { queues = lists }) c h ds middle after new → AreSettledBy (Leaves cause) s c h (d ∷ ds) before after new
leaves_first cause s c h d ds lists before middle after new whole distinct lt moved noted rest =
    let name = queue_name s.topology d.queue in
    let note = left_note cause name (given_at c h s.queues d) in
    record {
      noted = note ++ rest.noted;
      appended = rest.appended ∙ ap (λ (ns : List Note). ns ++ rest.noted) noted ∙ append_assoc before note rest.noted;
      settled = (
        entries_named (record s { queues = lists }),
        rest.noted,
        (λ q. ap (λ (ls : List (List Entry)). entries_named (record s { queues = ls }) q) moved ∙ left_named s c h d q whole distinct lt),
        ap (λ (es : List Entry). left_note cause name (find (is_held_as (holder_of_delivery c h d)) es) ++ rest.noted) (sym (queue_of-place s d.queue whole lt)),
        rest.settled,
      );
      counted = rest.counted;
      topology = rest.topology;
    }

-- one is ready again, and then others are
pub returns_first : (s : Store) (c h : ℕ) (d : Delivery) (ds : List Delivery) (lists : List (List Entry)) (new : Store) → IsStoreWhole s → d.queue < length s.topology.queues → lists ≡ returned_at c h s.queues d
    → AreSettledBy Returns (record s { queues = lists }) c h ds [] [] new → AreSettledBy Returns s c h (d ∷ ds) [] [] new
returns_first s c h d ds lists new whole lt moved rest = record {
  noted = [];
  appended = refl;
  settled = (
    refl,
    (
      entries_named (record s { queues = lists }),
      (λ q. ap (λ (ls : List (List Entry)). entries_named (record s { queues = ls }) q) moved ∙ returned_named s c h d q whole lt),
      rest.settled.1,
    ),
  );
  counted = rest.counted;
  topology = rest.topology;
}

-- ---- loops over what is settled

-- What is still to leave leaves; then all of these have left.
pub record AreLeaving (t : Topology) (c h : ℕ) (old now : List (List Entry)) (gone : List Delivery) (rest : List Departure) (before noted : List Note) : Type 0 where
  pub still : List Delivery
  pub rest_are : rest ≡ map (departure_in t) still
  pub within : AreWithin t still
  pub len : length now ≡ length t.queues
  pub distinct : AreDistinctBy now
  pub all : (n : ℕ) (after : List Note) (new : Store) → AreSettledBy (Leaves Acked) (store_of t now n) c h still noted after new → AreSettledBy (Leaves Acked) (store_of t old n) c h gone before after new

pub leaving_begins : (t : Topology) (c h : ℕ) (old : List (List Entry)) (gone : List Delivery) (rest : List Departure) (before : List Note) → rest ≡ map (departure_in t) gone → AreWithin t gone → length old ≡ length t.queues → AreDistinctBy old
    → AreLeaving t c h old old gone rest before before
leaving_begins t c h old gone rest before are within len distinct = record { still = gone; rest_are = are; within = within; len = len; distinct = distinct; all = λ n after new settled. settled }

pub leaving_within : (t : Topology) (c h : ℕ) (old now : List (List Entry)) (gone : List Delivery) (rest later : List Departure) (d : Departure) (before noted : List Note)
    → AreLeaving t c h old now gone rest before noted → rest ≡ d ∷ later → d.given.queue < length now
leaving_within t c h old now gone rest later d before noted leaving next = go leaving.still leaving.within (sym next ∙ leaving.rest_are)
  where
    go : (ds : List Delivery) → AreWithin t ds → d ∷ later ≡ map (departure_in t) ds → d.given.queue < length now
    go [] within e = absurd (cc)
    go (x ∷ xs) within e =
        let lt = within 0 x (omega arith) in
        let len = leaving.len in
        let same : d.given.queue ≡ x.queue = cc (e) in
        omega (arith, lt, len, same)

pub leaving_ends : (t : Topology) (c h n : ℕ) (old now : List (List Entry)) (gone : List Delivery) (rest : List Departure) (before noted : List Note)
    → AreLeaving t c h old now gone rest before noted → length rest ≡ 0 → AreSettledBy (Leaves Acked) (store_of t old n) c h gone before noted (store_of t now n)
leaving_ends t c h n old now gone rest before noted leaving none = go leaving.still (sym none ∙ ap length leaving.rest_are) leaving.all
  where
    go : (ds : List Delivery) → 0 ≡ length (map (departure_in t) ds)
        → ((n : ℕ) (after : List Note) (new : Store) → AreSettledBy (Leaves Acked) (store_of t now n) c h ds noted after new → AreSettledBy (Leaves Acked) (store_of t old n) c h gone before after new)
        → AreSettledBy (Leaves Acked) (store_of t old n) c h gone before noted (store_of t now n)
    go [] e all = all n noted (store_of t now n) (none_leaves Acked (store_of t now n) c h noted)
    go (x ∷ xs) e all = absurd (omega (arith, e))

pub leaving_next : (t : Topology) (c h : ℕ) (old now new : List (List Entry)) (gone : List Delivery) (rest later : List Departure) (d : Departure) (before noted more : List Note) → IsWellFormed t
    → AreLeaving t c h old now gone rest before noted → rest ≡ d ∷ later → new ≡ left_at c h now d.given → more ≡ noted ++ left_note Acked d.queue (given_at c h now d.given)
    → AreLeaving t c h old new gone later before more
leaving_next t c h old now new gone rest later d before noted more formed leaving next moved reported = go leaving.still leaving.within leaving.all (sym next ∙ leaving.rest_are)
  where
    go : (ds : List Delivery) → AreWithin t ds
        → ((n : ℕ) (after : List Note) (last : Store) → AreSettledBy (Leaves Acked) (store_of t now n) c h ds noted after last → AreSettledBy (Leaves Acked) (store_of t old n) c h gone before after last)
        → d ∷ later ≡ map (departure_in t) ds → AreLeaving t c h old new gone later before more
    go [] within all e = absurd (cc)
    go (x ∷ xs) within all e =
        let first : d ≡ departure_in t x = cc (e) in
        let at : d.given ≡ x = ap (λ (y : Departure). y.given) first in
        let name : d.queue ≡ queue_name t x.queue = ap (λ (y : Departure). y.queue) first in
        let lists : new ≡ left_at c h now x = moved ∙ ap (left_at c h now) at in
        let notes : more ≡ noted ++ left_note Acked (queue_name t x.queue) (given_at c h now x)
        = reported ∙ ap (λ (q : Text). noted ++ left_note Acked q (given_at c h now d.given)) name ∙ ap (λ (y : Delivery). noted ++ left_note Acked (queue_name t x.queue) (given_at c h now y)) at in
        let lt = within 0 x (omega arith) in
        record {
          still = xs;
          rest_are = cc (e);
          within = λ k y l. within (suc k) y (omega (arith, l));
          len = ap length lists ∙ length-set now x.queue (filter (λ (y : Entry). not (is_held_as (holder_of_delivery c h x) y)) (get_or now x.queue [])) ∙ leaving.len;
          distinct = subst AreDistinctBy (sym lists) (apart_left c h now x leaving.distinct);
          all = λ n after last settled.
              all n after last (leaves_first Acked (store_of t now n) c h x xs new noted more after last (record { formed = formed; len = leaving.len }) leaving.distinct lt lists notes settled);
        }

-- those that wait from this place on are still to leave
pub leaving_waiting : (t : Topology) (c h : ℕ) (old now new : List (List Entry)) (gone : List Delivery) (i : ℕ) (d : Delivery) (before noted more : List Note) → IsWellFormed t → i < length gone
    → AreLeaving t c h old now (waiting gone) (map (departure_in t) (waiting (drop i gone))) before noted
    → (is_waiting (get_or gone i d) ≡ true → new ≡ left_at c h now (get_or gone i d)) → (is_waiting (get_or gone i d) ≡ false → new ≡ now)
    → (is_waiting (get_or gone i d) ≡ true → more ≡ noted ++ left_note Acked (queue_name t (get_or gone i d).queue) (given_at c h now (get_or gone i d))) → (is_waiting (get_or gone i d) ≡ false → more ≡ noted)
    → AreLeaving t c h old new (waiting gone) (map (departure_in t) (waiting (drop (i + 1) gone))) before more
leaving_waiting t c h old now new gone i d before noted more formed lt leaving moves stays reports none = go (is_waiting (get_or gone i d)) refl
  where
    go : (b : Bool) → is_waiting (get_or gone i d) ≡ b → AreLeaving t c h old new (waiting gone) (map (departure_in t) (waiting (drop (i + 1) gone))) before more
    go true w = leaving_next t c h old now new (waiting gone) (map (departure_in t) (waiting (drop i gone))) (map (departure_in t) (waiting (drop (i + 1) gone))) (departure_in t (get_or gone i d)) before noted more formed leaving
        (ap (map (departure_in t)) (next_waiting gone i d true lt w)) (moves w) (reports w)
    go false w =
        let rest : map (departure_in t) (waiting (drop i gone)) ≡ map (departure_in t) (waiting (drop (i + 1) gone)) = ap (map (departure_in t)) (next_waiting gone i d false lt w) in
        subst (λ (ds : List Departure). AreLeaving t c h old new (waiting gone) ds before more) rest
        (subst (λ (now' : List (List Entry)). AreLeaving t c h old now' (waiting gone) (map (departure_in t) (waiting (drop i gone))) before more) (sym (stays w))
        (subst (λ (ns : List Note). AreLeaving t c h old now (waiting gone) (map (departure_in t) (waiting (drop i gone))) before ns) (sym (none w)) leaving))

-- where there is one, and it waits, it leaves
pub one_left : (t : Topology) (c h n : ℕ) (gone : List Delivery) (old new : List (List Entry)) (before after : List Note) → IsWellFormed t → length old ≡ length t.queues → AreDistinctBy old → AreWithin t (waiting gone)
    → length gone ≡ 1 → is_waiting (get_or gone 0 nothing) ≡ true → new ≡ left_at c h old (get_or gone 0 nothing)
    → after ≡ before ++ left_note Acked (queue_name t (get_or gone 0 nothing).queue) (given_at c h old (get_or gone 0 nothing))
    → AreSettledBy (Leaves Acked) (store_of t old n) c h (waiting gone) before after (store_of t new n)
one_left t c h n [] old new before after formed len distinct within one w moved noted = absurd (omega (arith, one))
one_left t c h n (x ∷ y ∷ zs) old new before after formed len distinct within one w moved noted = absurd (omega (arith, one))
one_left t c h n (x ∷ []) old new before after formed len distinct within one w moved noted =
    let alone : waiting (x ∷ []) ≡ x ∷ [] = ap (λ (b : Bool). cond b (x ∷ []) []) w in
    subst (λ (ds : List Delivery). AreSettledBy (Leaves Acked) (store_of t old n) c h ds before after (store_of t new n)) (sym alone)
    (leaves_first Acked (store_of t old n) c h x [] new before after after (store_of t new n) (record { formed = formed; len = len }) distinct (subst (AreWithin t) alone within 0 x (omega arith)) moved noted
    (none_leaves Acked (store_of t new n) c h after))

-- those that wait from this place on are ready again
pub returned_next : (t : Topology) (n c h : ℕ) (gone : List Delivery) (i : ℕ) (d : Delivery) (old new : List (List Entry)) (last : Store) → IsWellFormed t → length old ≡ length t.queues → i < length gone
    → (is_waiting (get_or gone i d) ≡ true → (get_or gone i d).queue < length old) → (is_waiting (get_or gone i d) ≡ true → new ≡ returned_at c h old (get_or gone i d)) → (is_waiting (get_or gone i d) ≡ false → new ≡ old)
    → AreSettledBy Returns (store_of t new n) c h (waiting (drop (i + 1) gone)) [] [] last → AreSettledBy Returns (store_of t old n) c h (waiting (drop i gone)) [] [] last
returned_next t n c h gone i d old new last formed len lt within changes stays rest = go (is_waiting (get_or gone i d)) refl
  where
    go : (b : Bool) → is_waiting (get_or gone i d) ≡ b → AreSettledBy Returns (store_of t old n) c h (waiting (drop i gone)) [] [] last
    go true w =
        subst (λ (ds : List Delivery). AreSettledBy Returns (store_of t old n) c h ds [] [] last) (sym (next_waiting gone i d true lt w))
        (returns_first (store_of t old n) c h (get_or gone i d) (waiting (drop (i + 1) gone)) new last (record { formed = formed; len = len }) (let l = within w in omega (arith, l, len)) (changes w) rest)
    go false w =
        subst (λ (ds : List Delivery). AreSettledBy Returns (store_of t old n) c h ds [] [] last) (sym (next_waiting gone i d false lt w))
        (subst (λ (ls : List (List Entry)). AreSettledBy Returns (store_of t ls n) c h (waiting (drop (i + 1) gone)) [] [] last) (stays w) rest)

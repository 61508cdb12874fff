-- A queue that was lent and came back with one more message, or as it was.
use Rattle.depot.proofs.Names.{◌≡◌, ℕ, ◌<◌, List, [], ◌++◌, Bool, true, false, Option, Some, Result, Ok, Err, OnErr, length, get_or, set, refl, sym, ap, ◌∙◌, arith, slice_get, Text, Topology, ready_bytes, refuses, Message, Entry, DeclaredQueue, Way, Line, ready_count, PlannedTurn, Store, entries_of, queue_at, with_entries_at, TurnOutcome, outcome_of, outcome_at, outcome, arriving, entered_one, no_line}
use Rattle.std.proofs.lemmas.Option.{slice_get_read}
use Rattle.depot.proofs.Changes.{entries_of-at, entries_of-set, changed_write}

-- the entries of the queue that is lent
pub lent_entries : (lines : List Line) (place : ℕ) (l : Line) → place < length lines → l ≡ get_or lines place no_line → l.entries ≡ get_or (entries_of lines) place []
lent_entries lines place l lt is = ap (λ (m : Line). m.entries) is ∙ sym (entries_of-at lines place no_line lt)

-- it is so, whatever was answered
pub on_err : {X E : Type 0} (r : Result X E) (A : Type 0) → A → OnErr r A
on_err (Ok x) A a = tt
on_err (Err e) A a = a

-- ---- a turn

-- what becomes of it at that queue is what becomes of it at its place
pub outcome_there : (how : Way) (declared : List DeclaredQueue) (entries : List (List Entry)) (t : PlannedTurn) (q : DeclaredQueue) (es : List Entry)
    → t.place < length declared → q ≡ get_or declared t.place q → es ≡ get_or entries t.place [] → outcome_at how q es t ≡ outcome how declared entries t
outcome_there how declared entries t q es lt at is =
    let size = length t.message.content.body in
    let found : slice_get declared t.place ≡ Some q = slice_get_read declared (length declared) t.place q refl lt at in
    ap (λ (o : Option DeclaredQueue). outcome_of how t.name (refuses o (ready_count es) (ready_bytes es) size) t.message t.place) (sym found)
    ∙ ap (λ (xs : List Entry). outcome_of how t.name (refuses (slice_get declared t.place) (ready_count xs) (ready_bytes xs) size) t.message t.place) is

outcome_place : (how : Way) (name : Text) (full : Bool) (m : Message) (place : ℕ) → (outcome_of how name full m place).place ≡ place
outcome_place how name true m place = refl
outcome_place how name false m place = refl

-- the queue comes back with what came to it
pub entered_there : (how : Way) (declared : List DeclaredQueue) (lines : List Line) (t : PlannedTurn) (q : DeclaredQueue) (es : List Entry) (w : Line)
    → t.place < length declared → q ≡ get_or declared t.place q → es ≡ get_or (entries_of lines) t.place [] → w.entries ≡ es ++ arriving (outcome_at how q es t).message
    → entries_of (set lines t.place w) ≡ entered_one (outcome how declared (entries_of lines) t) (entries_of lines)
entered_there how declared lines t q es w lt at is has =
    let o = outcome_at how q es t in
    let place : o.place ≡ t.place = outcome_place how t.name _ t.message t.place in
    entries_of-set lines t.place w (es ++ arriving o.message) has
    ∙ ap (λ (xs : List Entry). set (entries_of lines) t.place (xs ++ arriving o.message)) is
    ∙ ap (λ (p : ℕ). set (entries_of lines) p (get_or (entries_of lines) p [] ++ arriving o.message)) (sym place)
    ∙ ap (λ (x : TurnOutcome). entered_one x (entries_of lines)) (outcome_there how declared (entries_of lines) t q es lt at is)

-- ---- a store

-- the entries of the queue that is lent, as the store sees them
pub lent_queue : (t : Topology) (lines : List Line) (n place : ℕ) (s : Store) (l : Line) → record { topology = t; queues = entries_of lines; published = n } ≡ s → length lines ≡ length t.queues
    → place < length s.topology.queues → l ≡ get_or lines place no_line → l.entries ≡ queue_at s place
lent_queue t lines n place s l view len lt is =
    let same = ap (λ (x : Store). length x.topology.queues) view in
    lent_entries lines place l (omega (arith, same, len, lt)) is ∙ ap (λ (x : Store). queue_at x place) view

-- the queue comes back with its entries changed
pub store_changed : (f : List Entry → List Entry) (t : Topology) (lines now : List Line) (n place : ℕ) (s : Store) (l w : Line) → record { topology = t; queues = entries_of lines; published = n } ≡ s
    → length lines ≡ length t.queues → place < length s.topology.queues → l ≡ get_or lines place no_line → w.entries ≡ f l.entries → now ≡ set lines place w
    → record { topology = t; queues = entries_of now; published = n } ≡ with_entries_at s place (f (queue_at s place))
store_changed f t lines now n place s l w view len lt is has new =
    let same = ap (λ (x : Store). length x.topology.queues) view in
    ap (λ (ls : List Line). record { topology = t; queues = entries_of ls; published = n }) new
    ∙ ap (λ (qs : List (List Entry)). record { topology = t; queues = qs; published = n }) (changed_write f lines place w no_line (omega (arith, same, len, lt)) (has ∙ ap (λ (m : Line). f m.entries) is))
    ∙ ap (λ (x : Store). with_entries_at x place (f (queue_at x place))) view

-- What is foreseen of a rejection, turn by turn and death by death.
use Rattle.depot.proofs.Names.{◌≡◌, ℕ, ◌+◌, ◌<◌, List, [], ◌∷◌, ◌++◌, Bool, true, false, length, get_or, set, take, filter, refl, sym, ap, subst, ◌∙◌, append_assoc, append-nil, length-set, Option, Some, Text, Topology, Message, is_held_as, Entry, Holder, DeclaredQueue, Rejected, Note, Left, queue_name, ChannelId, Delivery, is_waiting, waiting, holder_of_delivery, PlannedTurn, all_entered, entered_one, is_full_at, notes_of_outcomes, outcome, outcome_of, outcomes, Arrival, Tally, AreTallied, CountsTurn, arrivals_at, taken_if, tally_of, Death, Extends, Foresees, ForeseesDeaths, ForeseesGiven, ForeseesLetters, ForeseesOutcomes, ForeseesTurns, ForeseesWaiting, Planned, Plans, given_at, ArePlanned, all_arrivals, all_notes, arrivals_in, arriving, death_notes, died, died_all, outcomes_of, LettersAt, map, turn_at}
use Rattle.std.proofs.Common.{not}
use Rattle.model.specs.declared.notes.Way.TheVariants as way
use Rattle.depot.specs.declared.plans.Letter.{Letter}
use Rattle.depot.proofs.Planned.{name_there, planned_more}
use Rattle.depot.proofs.Rejected.{seen-set}
use Rattle.depot.proofs.Tallying.{tally_left}
use Rattle.depot.proofs.Waiting.{waiting_more}

-- ---- notes are appended

pub extends_none : (a b : List Note) → b ≡ a → Extends a b
extends_none a b e = ([], e ∙ sym (append-nil a))

pub extends_then : (a b c : List Note) → Extends a b → Extends b c → Extends a c
extends_then a b c first next = (first.0 ++ next.0, next.1 ∙ ap (λ (ns : List Note). ns ++ next.0) first.1 ∙ append_assoc a first.0 next.0)

-- ---- one turn

pub turn_foreseen : (qs : List DeclaredQueue) (old : List (List Entry)) (from to : Planned) (letter : Message) (place size : ℕ) (full : Bool) (name : Text) (q : DeclaredQueue)
    → CountsTurn qs old from.tallies to.tallies place size full → size ≡ length letter.content.body → place < length qs → q ≡ get_or qs place q → name ≡ (get_or qs place q).name
    → to.arrivals ≡ from.arrivals ++ arrivals_at place (taken_if full letter) → to.notes ≡ from.notes ++ (outcome_of way.Dead name full letter place).note ∷ []
    → Foresees qs old letter (place ∷ []) from to
turn_foreseen qs old from to letter place size full name q tells long lt there its came noted entries are =
    let reported : full ≡ is_full_at qs entries place (length letter.content.body) = (tells entries).reported are ∙ ap (is_full_at qs entries place) long in
    let named = its ∙ ap (λ (x : DeclaredQueue). x.name) (sym there) ∙ name_there qs place q lt there in
    subst (λ (n : Text). ForeseesOutcomes qs old (outcome_of way.Dead n (is_full_at qs entries place (length letter.content.body)) letter place ∷ []) entries from to) named
    (subst (λ (f : Bool). ForeseesOutcomes qs old (outcome_of way.Dead name f letter place ∷ []) entries from to) reported
    (go full ((tells entries).tallied are letter (sym long)) came noted))
  where
    go : (f : Bool) → AreTallied qs old to.tallies (set entries place (get_or entries place [] ++ arriving (taken_if f letter))) → to.arrivals ≡ from.arrivals ++ arrivals_at place (taken_if f letter)
        → to.notes ≡ from.notes ++ (outcome_of way.Dead name f letter place).note ∷ [] → ForeseesOutcomes qs old (outcome_of way.Dead name f letter place ∷ []) entries from to
    go true t a n = record { tallied = t; arrivals = a; notes = n }
    go false t a n = record { tallied = t; arrivals = a; notes = n }

-- ---- turns, one after another

-- What was foreseen up to `now`, and what the other turns do there, is what all turns do.
pub record Foreseeing (qs : List DeclaredQueue) (old : List (List Entry)) (turns rest : List PlannedTurn) (entries : List (List Entry)) (from to : Planned) : Type 0 where
  pub now : List (List Entry)
  pub tallied : AreTallied qs old to.tallies now
  pub arrivals : to.arrivals ++ arrivals_in (outcomes way.Dead qs rest now) ≡ from.arrivals ++ arrivals_in (outcomes way.Dead qs turns entries)
  pub notes : to.notes ++ notes_of_outcomes (outcomes way.Dead qs rest now) ≡ from.notes ++ notes_of_outcomes (outcomes way.Dead qs turns entries)
  pub entered : all_entered (outcomes way.Dead qs rest now) now ≡ all_entered (outcomes way.Dead qs turns entries) entries

pub foreseeing_begins : (qs : List DeclaredQueue) (old : List (List Entry)) (turns : List PlannedTurn) (entries : List (List Entry)) (from : Planned)
    → AreTallied qs old from.tallies entries → Foreseeing qs old turns turns entries from from
foreseeing_begins qs old turns entries from are = record { now = entries; tallied = are; arrivals = refl; notes = refl; entered = refl }

pub foreseeing_next : (qs : List DeclaredQueue) (old : List (List Entry)) (turns rest later : List PlannedTurn) (t : PlannedTurn) (entries : List (List Entry)) (from mid to : Planned)
    → Foreseeing qs old turns rest entries from mid → rest ≡ t ∷ later → ForeseesTurns qs old (t ∷ []) mid to → Foreseeing qs old turns later entries from to
foreseeing_next qs old turns rest later t entries from mid to f next step =
    let s = step f.now f.tallied in
    let o = outcome way.Dead qs f.now t in
    let now = entered_one o f.now in
    let others = outcomes way.Dead qs later now in
    record {
      now = now;
      tallied = s.tallied;
      arrivals =
          ap (λ (as' : List Arrival). as' ++ arrivals_in others) s.arrivals
          ∙ append_assoc mid.arrivals (arrivals_in (o ∷ [])) (arrivals_in others)
          ∙ ap (λ (as' : List Arrival). mid.arrivals ++ (as' ++ arrivals_in others)) (append-nil (arrivals_at o.place o.message))
          ∙ ap (λ (ts : List PlannedTurn). mid.arrivals ++ arrivals_in (outcomes way.Dead qs ts f.now)) (sym next)
          ∙ f.arrivals;
      notes =
          ap (λ (ns : List Note). ns ++ notes_of_outcomes others) s.notes
          ∙ append_assoc mid.notes (o.note ∷ []) (notes_of_outcomes others)
          ∙ ap (λ (ts : List PlannedTurn). mid.notes ++ notes_of_outcomes (outcomes way.Dead qs ts f.now)) (sym next)
          ∙ f.notes;
      entered = ap (λ (ts : List PlannedTurn). all_entered (outcomes way.Dead qs ts f.now) f.now) (sym next) ∙ f.entered;
    }

pub foreseeing_ends : (qs : List DeclaredQueue) (old : List (List Entry)) (turns rest : List PlannedTurn) (entries : List (List Entry)) (from to : Planned)
    → Foreseeing qs old turns rest entries from to → rest ≡ [] → ForeseesOutcomes qs old (outcomes way.Dead qs turns entries) entries from to
foreseeing_ends qs old turns rest entries from to f none = record {
  tallied = subst (AreTallied qs old to.tallies) (ap (λ (ts : List PlannedTurn). all_entered (outcomes way.Dead qs ts f.now) f.now) (sym none) ∙ f.entered) f.tallied;
  arrivals = sym (append-nil to.arrivals) ∙ ap (λ (ts : List PlannedTurn). to.arrivals ++ arrivals_in (outcomes way.Dead qs ts f.now)) (sym none) ∙ f.arrivals;
  notes = sym (append-nil to.notes) ∙ ap (λ (ts : List PlannedTurn). to.notes ++ notes_of_outcomes (outcomes way.Dead qs ts f.now)) (sym none) ∙ f.notes;
}

-- ---- one death

-- queues are tallied as before without a message that was held
tallied_without : (qs : List DeclaredQueue) (old entries : List (List Entry)) (tl : List (ℕ × Tally)) (p : ℕ) (a : Holder) → AreTallied qs old tl entries
    → AreTallied qs old tl (set entries p (filter (λ (e : Entry). not (is_held_as a e)) (get_or entries p [])))
tallied_without qs old entries tl p a are =
    let rest = filter (λ (e : Entry). not (is_held_as a e)) (get_or entries p []) in
    record {
      len = length-set entries p rest ∙ are.len;
      tallied = λ k q found limited. are.tallied k q found limited ∙ sym (seen-set tally_of entries p k rest (tally_left a (get_or entries p [])));
    }

-- a plan with these notes
abbrev pub with_notes : Planned → List Note → Planned
with_notes p noted = record p { notes = noted }

-- the turns of the dead letter are foreseen; making room for notes has changed none
pub letter_foreseen : (t : Topology) (place : ℕ) (m : Message) (old : List (List Entry)) (l : Letter) (from to : Planned) (noted : List Note)
    → LettersAt t place m (map (turn_at t.queues l.message) l.route.value.targets.items) → noted ≡ from.notes
    → Foresees t.queues old l.message l.route.value.targets.items (with_notes from noted) to → ForeseesLetters t place m old from to
letter_foreseen t place m old l from to noted letters same foreseen entries are =
    let turns = map (turn_at t.queues l.message) l.route.value.targets.items in
    let f = foreseen entries are in (
      turns,
      letters,
      record {
        tallied = f.tallied;
        arrivals = f.arrivals;
        notes = f.notes ∙ ap (λ (ns : List Note). ns ++ notes_of_outcomes (outcomes way.Dead t.queues turns entries)) same;
      },
    )

pub given_foreseen : (t : Topology) (id : ChannelId) (g : Delivery) (e : Entry) (name : Text) (old : List (List Entry)) (from to : Planned) (noted : List Note)
    → given_at id.connection id.number old g ≡ Some e → name ≡ queue_name t g.queue → noted ≡ from.notes ++ Left e.message.number name Rejected ∷ []
    → ForeseesLetters t g.queue e.message old (with_notes from noted) to → ForeseesGiven t id g old from to
given_foreseen t id g e name old from to noted found named first letters entries are =
    let holder = holder_of_delivery id.connection id.number g in
    let now = set entries g.queue (filter (λ (x : Entry). not (is_held_as holder x)) (get_or entries g.queue [])) in
    let l = letters now (tallied_without t.queues old entries from.tallies g.queue holder are) in
    let note = Left e.message.number (queue_name t g.queue) Rejected in
    let d : Death = record { place = g.queue; holder = holder; note = note; turns = l.0 } in
    let os = outcomes way.Dead t.queues l.0 now in (
      d ∷ [],
      subst (λ (o : Option Entry). Plans t id.connection id.number g o (d ∷ [])) (sym found) (d, refl, record { place = refl; holder = refl; note = refl; letters = l.1 }),
      record {
        tallied = l.2.tallied;
        arrivals = l.2.arrivals ∙ ap (λ (as' : List Arrival). from.arrivals ++ as') (sym (append-nil (arrivals_in os)));
        notes =
            l.2.notes
            ∙ ap (λ (ns : List Note). ns ++ notes_of_outcomes os) (first ∙ ap (λ (n : Text). from.notes ++ Left e.message.number n Rejected ∷ []) named)
            ∙ append_assoc from.notes (note ∷ []) (notes_of_outcomes os)
            ∙ ap (λ (ns : List Note). from.notes ++ ns) (sym (append-nil (note ∷ notes_of_outcomes os)));
      },
    )

-- ---- deaths, one after another

died_all_end : (qs : List DeclaredQueue) (ds xs : List Death) (entries : List (List Entry)) → died_all qs (ds ++ xs) entries ≡ died_all qs xs (died_all qs ds entries)
died_all_end qs [] xs entries = refl
died_all_end qs (d ∷ ds) xs entries = died_all_end qs ds xs (died qs d entries)

arrivals_end : (qs : List DeclaredQueue) (ds xs : List Death) (entries : List (List Entry)) → all_arrivals qs (ds ++ xs) entries ≡ all_arrivals qs ds entries ++ all_arrivals qs xs (died_all qs ds entries)
arrivals_end qs [] xs entries = refl
arrivals_end qs (d ∷ ds) xs entries =
    ap (λ (as' : List Arrival). arrivals_in (outcomes_of qs d entries) ++ as') (arrivals_end qs ds xs (died qs d entries))
    ∙ sym (append_assoc (arrivals_in (outcomes_of qs d entries)) (all_arrivals qs ds (died qs d entries)) (all_arrivals qs xs (died_all qs ds (died qs d entries))))

notes_end : (qs : List DeclaredQueue) (ds xs : List Death) (entries : List (List Entry)) → all_notes qs (ds ++ xs) entries ≡ all_notes qs ds entries ++ all_notes qs xs (died_all qs ds entries)
notes_end qs [] xs entries = refl
notes_end qs (d ∷ ds) xs entries =
    ap (λ (ns : List Note). death_notes qs d entries ++ ns) (notes_end qs ds xs (died qs d entries))
    ∙ sym (append_assoc (death_notes qs d entries) (all_notes qs ds (died qs d entries)) (all_notes qs xs (died_all qs ds (died qs d entries))))

deaths_then : (qs : List DeclaredQueue) (old : List (List Entry)) (ds xs : List Death) (entries : List (List Entry)) (from mid to : Planned)
    → ForeseesDeaths qs old ds entries from mid → ForeseesDeaths qs old xs (died_all qs ds entries) mid to → ForeseesDeaths qs old (ds ++ xs) entries from to
deaths_then qs old ds xs entries from mid to first next = record {
  tallied = subst (AreTallied qs old to.tallies) (sym (died_all_end qs ds xs entries)) next.tallied;
  arrivals =
      next.arrivals ∙ ap (λ (as' : List Arrival). as' ++ all_arrivals qs xs (died_all qs ds entries)) first.arrivals
      ∙ append_assoc from.arrivals (all_arrivals qs ds entries) (all_arrivals qs xs (died_all qs ds entries))
      ∙ ap (λ (as' : List Arrival). from.arrivals ++ as') (sym (arrivals_end qs ds xs entries));
  notes =
      next.notes ∙ ap (λ (ns : List Note). ns ++ all_notes qs xs (died_all qs ds entries)) first.notes
      ∙ append_assoc from.notes (all_notes qs ds entries) (all_notes qs xs (died_all qs ds entries))
      ∙ ap (λ (ns : List Note). from.notes ++ ns) (sym (notes_end qs ds xs entries));
}

-- the plan before anything is planned, with these notes
abbrev pub unplanned : List Note → Planned
unplanned notes = record { tallies = []; arrivals = []; notes = notes }

-- What is foreseen of those of these deliveries that wait.
pub record ForeseesAll (t : Topology) (id : ChannelId) (gone : List Delivery) (old : List (List Entry)) (before : List Note) (to : Planned) : Type 0 where
  pub deaths : List Death
  pub planned : ArePlanned t id.connection id.number old gone deaths
  pub foreseen : ForeseesDeaths t.queues old deaths old (unplanned before) to

pub all_next : (t u : Topology) (id : ChannelId) (gone : List Delivery) (i : ℕ) (d : Delivery) (old : List (List Entry)) (before : List Note) (mid to : Planned) → i < length gone → u ≡ t
    → ForeseesWaiting u id (get_or gone i d) old mid to → (is_waiting (get_or gone i d) ≡ false → to ≡ mid)
    → ForeseesAll t id (waiting (take i gone)) old before mid → ForeseesAll t id (waiting (take (i + 1) gone)) old before to
all_next t u id gone i d old before mid to lt same plans passes f = go (is_waiting (get_or gone i d)) refl
  where
    g : Delivery
    g = get_or gone i d

    entries : List (List Entry)
    entries = died_all t.queues f.deaths old

    go : (b : Bool) → is_waiting g ≡ b → ForeseesAll t id (waiting (take (i + 1) gone)) old before to
    go true w =
        let one = subst (λ (v : Topology). ForeseesGiven v id g old mid to) same (plans w) entries f.foreseen.tallied in
        record {
          deaths = f.deaths ++ one.0;
          planned =
              subst (λ (gs : List Delivery). ArePlanned t id.connection id.number old gs (f.deaths ++ one.0)) (sym (waiting_more gone i d true lt w))
              (planned_more t id.connection id.number old (waiting (take i gone)) g f.deaths one.0 (f.deaths ++ one.0) f.planned one.1 refl);
          foreseen = deaths_then t.queues old f.deaths one.0 old (unplanned before) mid to f.foreseen one.2;
        }
    go false w =
        let gs : waiting (take (i + 1) gone) ≡ waiting (take i gone) = waiting_more gone i d false lt w ∙ append-nil (waiting (take i gone)) in
        subst (λ (xs : List Delivery). ForeseesAll t id xs old before to) (sym gs) (subst (λ (p : Planned). ForeseesAll t id (waiting (take i gone)) old before p) (sym (passes w)) f)

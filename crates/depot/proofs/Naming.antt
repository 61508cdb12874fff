-- What a publish does, by the names of the queues.
use Rattle.depot.proofs.Names.{◌≡◌, ℕ, zero, suc, ◌+◌, ◌<◌, ◌≤◌, List, [], ◌∷◌, ◌++◌, length, get_or, set, map, refl, sym, ap, subst, ◌∙◌, arith, Bool, true, false, cond, Option, Some, None, All, AllPairs, append_assoc, inl, inr, list_any, ◌&&◌, ◌||◌, nat_lt, slice_get, position_or_len, common_steps, bytes_eq, bytes_eq-Decides, append-nil, length-set, get_or-set_other, Text, Topology, queue_names, IsIn, AreDistinct, IsWellFormed, listed, ready_bytes, refuses, queue_named, is_full, Entry, Message, Ready, DeclaredQueue, Content, Publish, Note, Published, Entered, Refused, Way, ready_count, names_at, PlannedTurn, Store, TurnOutcome, outcome_of, outcome, outcomes, turn_at, is_full_at, places, notes_of_outcomes, is_refusal, no_turns, arriving, entered_one, all_entered, IsPlan, Enters}
use Rattle.std.specs.Prelude.{not, option_map, position}
use Rattle.model.specs.Step.{message, entry_notes, comes_to, is_none}
use Rattle.model.specs.declared.notes.Way.TheVariants as way
use Rattle.depot.specs.declared.depots.Routed.{Routed}
use Rattle.depot.specs.Publishing.{Publishing}

-- ---- names

pub names-length : (qs : List DeclaredQueue) → length (queue_names qs) ≡ length qs
names-length [] = refl
names-length (q ∷ qs) = ap suc (names-length qs)

pub is_in : (names : List Text) (i : ℕ) → i < length names → IsIn (get_or names i []) names
is_in [] i lt = absurd (omega arith)
is_in (n ∷ ns) zero lt = inl refl
is_in (n ∷ ns) (suc i) lt = inr (is_in ns i (omega arith))

pub same_name : (a : Text) → bytes_eq a a ≡ true
same_name a = (bytes_eq-Decides a a).1 refl

pub other_name : (a b : Text) → (a ≡ b → ⊥) → bytes_eq a b ≡ false
other_name a b ne = go (bytes_eq a b) refl
  where
    go : (v : Bool) → bytes_eq a b ≡ v → v ≡ false
    go true e = absurd (ne ((bytes_eq-Decides a b).0 e))
    go false e = refl

pub later_name : (n : Text) (ns : List Text) (i : ℕ) → AreDistinct (n ∷ ns) → i < length ns → bytes_eq n (get_or ns i []) ≡ false
later_name n ns i distinct lt = other_name n (get_or ns i []) (λ e. distinct.0 (subst (λ (z : Text). IsIn z ns) (sym e) (is_in ns i lt)))

pub listed_at : (names : List Text) (lists : List (List Entry)) (i : ℕ) → AreDistinct names → length names ≡ length lists → i < length names → listed names lists (get_or names i []) ≡ get_or lists i []
listed_at [] lists i distinct len lt = absurd (omega arith)
listed_at (n ∷ ns) [] i distinct len lt = absurd (omega arith)
listed_at (n ∷ ns) (es ∷ ess) zero distinct len lt = rw (same_name n) refl
listed_at (n ∷ ns) (es ∷ ess) (suc i) distinct len lt = rw (later_name n ns i distinct (omega arith)) (listed_at ns ess i distinct.1 (omega arith) (omega arith))

declared_at : (qs : List DeclaredQueue) (i : ℕ) → AreDistinct (queue_names qs) → i < length qs → queue_named qs (get_or (queue_names qs) i []) ≡ slice_get qs i
declared_at [] i distinct lt = absurd (omega arith)
declared_at (q ∷ qs) zero distinct lt = rw (same_name q.name) refl
declared_at (q ∷ qs) (suc i) distinct lt = let long = names-length qs in rw (later_name q.name (queue_names qs) i distinct (omega arith)) (declared_at qs i distinct.1 (omega arith))

full_at : (t : Topology) (lists : List (List Entry)) (i size : ℕ) → AreDistinct (queue_names t.queues) → length lists ≡ length t.queues → i < length t.queues
    → is_full t (listed (queue_names t.queues) lists) (get_or (queue_names t.queues) i []) size ≡ is_full_at t.queues lists i size
full_at t lists i size distinct len lt =
    let names = queue_names t.queues in
    let long = names-length t.queues in
    ap (λ (o : Option DeclaredQueue). refuses o (ready_count (listed names lists (get_or names i []))) (ready_bytes (listed names lists (get_or names i []))) size) (declared_at t.queues i distinct lt)
    ∙ ap (λ (es : List Entry). refuses (slice_get t.queues i) (ready_count es) (ready_bytes es) size) (listed_at names lists i distinct (omega arith) (omega arith))

-- ---- the queue of a name

not_there : (qs : List DeclaredQueue) (name : Text) → length qs ≤ position_or_len (λ (q : DeclaredQueue). bytes_eq q.name name) qs → queue_named qs name ≡ None
not_there [] name h = refl
not_there (q ∷ qs) name h = go (bytes_eq q.name name) h (not_there qs name)
  where
    go : (b : Bool) → suc (length qs) ≤ cond (not b) (1 + position_or_len (λ (r : DeclaredQueue). bytes_eq r.name name) qs) 0
        → (length qs ≤ position_or_len (λ (r : DeclaredQueue). bytes_eq r.name name) qs → queue_named qs name ≡ None) → cond b (Some q) (queue_named qs name) ≡ None
    go true le rest = absurd (omega arith)
    go false le rest = rest (omega arith)

there : (qs : List DeclaredQueue) (lists : List (List Entry)) (name : Text) (i : ℕ) → position_or_len (λ (q : DeclaredQueue). bytes_eq q.name name) qs ≡ i → i < length qs → length lists ≡ length qs
    → option_map (λ (q : DeclaredQueue). listed (queue_names qs) lists name) (queue_named qs name) ≡ Some (get_or lists i [])
there [] lists name i is lt len = absurd (omega arith)
there (q ∷ qs) [] name i is lt len = absurd (omega arith)
there (q ∷ qs) (es ∷ ess) name i is lt len = go (bytes_eq q.name name) is (there qs ess name)
  where
    go : (b : Bool) → cond (not b) (1 + position_or_len (λ (r : DeclaredQueue). bytes_eq r.name name) qs) 0 ≡ i
        → ((j : ℕ) → position_or_len (λ (r : DeclaredQueue). bytes_eq r.name name) qs ≡ j → j < length qs → length ess ≡ length qs → option_map (λ (r : DeclaredQueue). listed (queue_names qs) ess name) (queue_named qs name) ≡ Some (get_or ess j []))
        → option_map (λ (r : DeclaredQueue). cond b es (listed (queue_names qs) ess name)) (cond b (Some q) (queue_named qs name)) ≡ Some (get_or (es ∷ ess) i [])
    go true at rest = ap (λ (j : ℕ). Some (get_or (es ∷ ess) j [])) at
    go false at rest =
        let n = position_or_len (λ (r : DeclaredQueue). bytes_eq r.name name) qs in
        let next : suc n ≡ i = omega arith in
        rest n refl (omega arith) (omega arith) ∙ ap (λ (j : ℕ). Some (get_or (es ∷ ess) j [])) next

counted : (qs : List DeclaredQueue) (o : Option DeclaredQueue) (es xs : List Entry) → option_map (λ (q : DeclaredQueue). es) o ≡ Some xs → option_map (λ (q : DeclaredQueue). ready_count es) o ≡ Some (ready_count xs)
counted qs None es xs h = absurd (cc)
counted qs (Some q) es xs h = ap (λ (x : Option (List Entry)). option_map ready_count x) h

pub ready_none : (qs : List DeclaredQueue) (lists : List (List Entry)) (name : Text) (r : Option ℕ) → position (λ (q : DeclaredQueue). bytes_eq q.name name) qs ≡ r → r ≡ None
    → option_map (λ (q : DeclaredQueue). ready_count (listed (queue_names qs) lists name)) (queue_named qs name) ≡ None
ready_none qs lists name r at is =
    let n = position_or_len (λ (q : DeclaredQueue). bytes_eq q.name name) qs in
    let none : cond (nat_lt n (length qs)) (Some n) None ≡ None = at ∙ is in
    let past : length qs ≤ n = grind (arith, common_steps) in
    ap (option_map (λ (q : DeclaredQueue). ready_count (listed (queue_names qs) lists name))) (not_there qs name past)

pub ready_some : (qs : List DeclaredQueue) (lists : List (List Entry)) (name : Text) (i : ℕ) → position (λ (q : DeclaredQueue). bytes_eq q.name name) qs ≡ Some i → length lists ≡ length qs
    → option_map (λ (q : DeclaredQueue). ready_count (listed (queue_names qs) lists name)) (queue_named qs name) ≡ Some (ready_count (get_or lists i []))
ready_some qs lists name i at len =
    let n = position_or_len (λ (q : DeclaredQueue). bytes_eq q.name name) qs in
    let some : cond (nat_lt n (length qs)) (Some n) None ≡ Some i = at in
    let same : n ≡ i = grind (arith, common_steps) in
    let within : i < length qs = grind (arith, common_steps) in
    counted qs (queue_named qs name) (listed (queue_names qs) lists name) (get_or lists i []) (there qs lists name i same within len)

-- ---- the queues

-- the place of each
abbrev pub places_of : List TurnOutcome → List ℕ
places_of os = map (λ (o : TurnOutcome). o.place) os

-- what comes to the queue q by these outcomes
abbrev pub arrivals : List Text → List TurnOutcome → Text → List Entry
arrivals names [] q = []
arrivals names (o ∷ os) q = cond (bytes_eq (get_or names o.place []) q) (arriving o.message) [] ++ arrivals names os q

listed-set : (names : List Text) (lists : List (List Entry)) (i : ℕ) (x : List Entry) (q : Text) → AreDistinct names → length names ≡ length lists → i < length names
    → listed names (set lists i (get_or lists i [] ++ x)) q ≡ listed names lists q ++ cond (bytes_eq (get_or names i []) q) x []
listed-set [] lists i x q distinct len lt = absurd (omega arith)
listed-set (n ∷ ns) [] i x q distinct len lt = absurd (omega arith)
listed-set (n ∷ ns) (es ∷ ess) zero x q distinct len lt = go (bytes_eq n q)
  where
    go : (b : Bool) → cond b (es ++ x) (listed ns ess q) ≡ cond b es (listed ns ess q) ++ cond b x []
    go true = refl
    go false = sym (append-nil (listed ns ess q))
listed-set (n ∷ ns) (es ∷ ess) (suc i) x q distinct len lt = go (bytes_eq n q) refl (listed-set ns ess i x q distinct.1 (omega arith) (omega arith))
  where
    go : (b : Bool) → bytes_eq n q ≡ b → listed ns (set ess i (get_or ess i [] ++ x)) q ≡ listed ns ess q ++ cond (bytes_eq (get_or ns i []) q) x []
        → cond b es (listed ns (set ess i (get_or ess i [] ++ x)) q) ≡ cond b es (listed ns ess q) ++ cond (bytes_eq (get_or ns i []) q) x []
    go true is ih =
        let same : n ≡ q = (bytes_eq-Decides n q).0 is in
        let other : bytes_eq (get_or ns i []) q ≡ false
        = other_name (get_or ns i []) q (λ e. distinct.0 (subst (λ (z : Text). IsIn z ns) (e ∙ sym same) (is_in ns i (omega arith)))) in
        sym (ap (λ (b : Bool). es ++ cond b x []) other ∙ append-nil es)
    go false is ih = ih

listed-entered : (names : List Text) (os : List TurnOutcome) (lists : List (List Entry)) (q : Text) → AreDistinct names → length names ≡ length lists → All (λ (i : ℕ). i < length names) (places_of os)
    → listed names (all_entered os lists) q ≡ listed names lists q ++ arrivals names os q
listed-entered names [] lists q distinct len within = sym (append-nil (listed names lists q))
listed-entered names (o ∷ os) lists q distinct len within =
    let kept = length-set lists o.place (get_or lists o.place [] ++ arriving o.message) in
    listed-entered names os (entered_one o lists) q distinct (omega arith) (λ i d lt. within (suc i) d (omega arith))
    ∙ ap (λ (es : List Entry). es ++ arrivals names os q) (listed-set names lists o.place (arriving o.message) q distinct len (within 0 0 (omega arith)))
    ∙ append_assoc (listed names lists q) (cond (bytes_eq (get_or names o.place []) q) (arriving o.message) []) (arrivals names os q)

-- ---- the turns of a message

-- what becomes of the turn at this place
abbrev pub outcome_at : Way → List DeclaredQueue → List (List Entry) → Message → ℕ → TurnOutcome
outcome_at how qs lists m i = outcome_of how (get_or (queue_names qs) i []) (is_full_at qs lists i (length m.content.body)) m i

one_arrives : (how : Way) (name : Text) (m : Message) (i : ℕ) (b f : Bool) (xs ys : List Entry) → xs ≡ ys
    → cond b (arriving (outcome_of how name f m i).message) [] ++ xs ≡ cond (b && not f) (record { message = m; mark = Ready } ∷ ys) ys
one_arrives how name m i true true xs ys h = h
one_arrives how name m i true false xs ys h = ap (λ (zs : List Entry). record { message = m; mark = Ready } ∷ zs) h
one_arrives how name m i false true xs ys h = h
one_arrives how name m i false false xs ys h = h

place_of_outcome : (how : Way) (name : Text) (m : Message) (i : ℕ) (f : Bool) → (outcome_of how name f m i).place ≡ i
place_of_outcome how name m i true = refl
place_of_outcome how name m i false = refl

note_of_outcome : (how : Way) (name : Text) (m : Message) (i : ℕ) (f : Bool) → (outcome_of how name f m i).note ≡ cond f (Refused m.number name) (Entered m.number name how)
note_of_outcome how name m i true = refl
note_of_outcome how name m i false = refl

refusal_of_outcome : (how : Way) (name : Text) (m : Message) (i : ℕ) (f : Bool) → is_refusal (outcome_of how name f m i) ≡ f
refusal_of_outcome how name m i true = refl
refusal_of_outcome how name m i false = refl

-- the places of the turns are the targets
pub places_of_turns : (qs : List DeclaredQueue) (m : Message) (targets : List ℕ) → places (map (turn_at qs m) targets) ≡ targets
places_of_turns qs m [] = refl
places_of_turns qs m (i ∷ is) = ap (λ (js : List ℕ). i ∷ js) (places_of_turns qs m is)

places_of_outcomes : (how : Way) (qs : List DeclaredQueue) (lists : List (List Entry)) (m : Message) (targets : List ℕ) → places_of (map (outcome_at how qs lists m) targets) ≡ targets
places_of_outcomes how qs lists m [] = refl
places_of_outcomes how qs lists m (i ∷ is) =
    ap (λ (j : ℕ). j ∷ places_of (map (outcome_at how qs lists m) is)) (place_of_outcome how (get_or (queue_names qs) i []) m i (is_full_at qs lists i (length m.content.body)))
    ∙ ap (λ (js : List ℕ). i ∷ js) (places_of_outcomes how qs lists m is)

pub turned_within : (t : Topology) (m : Message) (targets : List ℕ) (turns ts : List PlannedTurn) (n : ℕ) → turns ≡ map (turn_at t.queues m) targets → All (λ (i : ℕ). i < length t.queues) targets → ts ≡ turns → n ≡ length t.queues → All (λ (i : ℕ). i < n) (places ts)
turned_within t m targets turns ts n turned within same len =
    subst (λ (is : List ℕ). All (λ (i : ℕ). i < n) is) (sym (ap places (same ∙ turned) ∙ places_of_turns t.queues m targets)) (subst (λ (k : ℕ). All (λ (i : ℕ). i < k) targets) (sym len) within)

pub turned_rising : (t : Topology) (m : Message) (targets : List ℕ) (turns ts : List PlannedTurn) → turns ≡ map (turn_at t.queues m) targets → AllPairs (λ (i j : ℕ). i < j) targets → ts ≡ turns → AllPairs (λ (i j : ℕ). i < j) (places ts)
turned_rising t m targets turns ts turned rising same = subst (AllPairs (λ (i j : ℕ). i < j)) (sym (ap places (same ∙ turned) ∙ places_of_turns t.queues m targets)) rising

-- where the places rise, each queue is found as it was before the first turn
outcomes_start : (how : Way) (qs : List DeclaredQueue) (m : Message) (targets : List ℕ) (lists now : List (List Entry)) → AllPairs (λ (i j : ℕ). i < j) targets
    → ((k : ℕ) → k < length targets → get_or now (get_or targets k 0) [] ≡ get_or lists (get_or targets k 0) [])
    → outcomes how qs (map (turn_at qs m) targets) now ≡ map (outcome_at how qs lists m) targets
outcomes_start how qs m [] lists now rising same = refl
outcomes_start how qs m (i ∷ is) lists now rising same =
    let first : outcome how qs now (turn_at qs m i) ≡ outcome_at how qs lists m i
    = ap (λ (es : List Entry). outcome_of how (get_or (queue_names qs) i []) (refuses (slice_get qs i) (ready_count es) (ready_bytes es) (length m.content.body)) m i) (same 0 (omega arith)) in
    let here = place_of_outcome how (get_or (queue_names qs) i []) m i (is_full_at qs now i (length m.content.body)) in
    ap (λ (o : TurnOutcome). o ∷ outcomes how qs (map (turn_at qs m) is) (entered_one (outcome how qs now (turn_at qs m i)) now)) first
    ∙ ap (λ (os : List TurnOutcome). outcome_at how qs lists m i ∷ os)
    (outcomes_start how qs m is lists (entered_one (outcome how qs now (turn_at qs m i)) now) (λ j k d lt within. rising (suc j) (suc k) d (omega arith) (omega arith))
    (λ k lt.
    let later : i < get_or is k 0 = rising 0 (suc k) 0 (omega arith) (omega arith) in
    get_or-set_other now (outcome how qs now (turn_at qs m i)).place (get_or is k 0) _ [] (λ e. absurd (omega (arith, later, here, e)))
    ∙ same (suc k) (omega arith)))

pub turned : (t : Topology) (how : Way) (lists : List (List Entry)) (exchange key : Text) (m : Message) (turns : List PlannedTurn) (plan : IsPlan t exchange key m turns)
    → outcomes how t.queues turns lists ≡ map (outcome_at how t.queues lists m) plan.targets
turned t how lists exchange key m turns plan =
    ap (λ (ts : List PlannedTurn). outcomes how t.queues ts lists) plan.turned ∙ outcomes_start how t.queues m plan.targets lists lists plan.routed.rising (λ k lt. refl)

arrive : (t : Topology) (how : Way) (lists : List (List Entry)) (m : Message) (q : Text) (targets : List ℕ) → AreDistinct (queue_names t.queues) → length lists ≡ length t.queues → All (λ (i : ℕ). i < length t.queues) targets
    → arrivals (queue_names t.queues) (map (outcome_at how t.queues lists m) targets) q ≡ comes_to t (listed (queue_names t.queues) lists) m q (names_at (queue_names t.queues) targets)
arrive t how lists m q [] distinct len within = refl
arrive t how lists m q (i ∷ is) distinct len within =
    let names = queue_names t.queues in
    let name = get_or names i [] in
    let full = is_full_at t.queues lists i (length m.content.body) in
    let later = comes_to t (listed names lists) m q (names_at names is) in
    ap (λ (j : ℕ). cond (bytes_eq (get_or names j []) q) (arriving (outcome_of how name full m i).message) [] ++ arrivals names (map (outcome_at how t.queues lists m) is) q) (place_of_outcome how name m i full)
    ∙ one_arrives how name m i (bytes_eq name q) full _ later (arrive t how lists m q is distinct len (λ k d lt. within (suc k) d (omega arith)))
    ∙ ap (λ (f : Bool). cond (bytes_eq name q && not f) (record { message = m; mark = Ready } ∷ later) later) (sym (full_at t lists i (length m.content.body) distinct len (within 0 0 (omega arith))))

note : (t : Topology) (how : Way) (lists : List (List Entry)) (m : Message) (targets : List ℕ) → AreDistinct (queue_names t.queues) → length lists ≡ length t.queues → All (λ (i : ℕ). i < length t.queues) targets
    → notes_of_outcomes (map (outcome_at how t.queues lists m) targets) ≡ entry_notes t (listed (queue_names t.queues) lists) (length m.content.body) m.number how (names_at (queue_names t.queues) targets)
note t how lists m [] distinct len within = refl
note t how lists m (i ∷ is) distinct len within =
    let names = queue_names t.queues in
    let name = get_or names i [] in
    let full = is_full_at t.queues lists i (length m.content.body) in
    let later = entry_notes t (listed names lists) (length m.content.body) m.number how (names_at names is) in
    ap (λ (ns : List Note). (outcome_of how name full m i).note ∷ ns) (note t how lists m is distinct len (λ k d lt. within (suc k) d (omega arith)))
    ∙ ap (λ (n : Note). n ∷ later) (note_of_outcome how name m i full)
    ∙ ap (λ (f : Bool). cond f (Refused m.number name) (Entered m.number name how) ∷ later) (sym (full_at t lists i (length m.content.body) distinct len (within 0 0 (omega arith))))

refuse : (t : Topology) (how : Way) (lists : List (List Entry)) (m : Message) (targets : List ℕ) → AreDistinct (queue_names t.queues) → length lists ≡ length t.queues → All (λ (i : ℕ). i < length t.queues) targets
    → list_any is_refusal (map (outcome_at how t.queues lists m) targets) ≡ list_any (λ (q : Text). is_full t (listed (queue_names t.queues) lists) q (length m.content.body)) (names_at (queue_names t.queues) targets)
refuse t how lists m [] distinct len within = refl
refuse t how lists m (i ∷ is) distinct len within =
    let names = queue_names t.queues in
    let name = get_or names i [] in
    let full = is_full_at t.queues lists i (length m.content.body) in
    let later = list_any (λ (q : Text). is_full t (listed names lists) q (length m.content.body)) (names_at names is) in
    ap (λ (b : Bool). is_refusal (outcome_of how name full m i) || b) (refuse t how lists m is distinct len (λ k d lt. within (suc k) d (omega arith)))
    ∙ ap (λ (b : Bool). b || later) (refusal_of_outcome how name m i full ∙ sym (full_at t lists i (length m.content.body) distinct len (within 0 0 (omega arith))))

nothing : (qs : List DeclaredQueue) (m : Message) (targets : List ℕ) → no_turns (map (turn_at qs m) targets) ≡ is_none (names_at (queue_names qs) targets)
nothing qs m [] = refl
nothing qs m (i ∷ is) = refl

-- ---- by the names of the queues

-- what is noted of a message that comes to its queues
pub noted_by_names : (t : Topology) (how : Way) (lists : List (List Entry)) (exchange key : Text) (m : Message) (turns : List PlannedTurn) (plan : IsPlan t exchange key m turns)
    → AreDistinct (queue_names t.queues) → length lists ≡ length t.queues
    → notes_of_outcomes (outcomes how t.queues turns lists) ≡ entry_notes t (listed (queue_names t.queues) lists) (length m.content.body) m.number how (names_at (queue_names t.queues) plan.targets)
noted_by_names t how lists exchange key m turns plan distinct len = ap notes_of_outcomes (turned t how lists exchange key m turns plan) ∙ note t how lists m plan.targets distinct len plan.routed.within

-- and what each queue has then
pub entered_by_names : (t : Topology) (how : Way) (lists : List (List Entry)) (exchange key : Text) (m : Message) (turns : List PlannedTurn) (plan : IsPlan t exchange key m turns) (q : Text)
    → AreDistinct (queue_names t.queues) → length lists ≡ length t.queues
    → listed (queue_names t.queues) (all_entered (outcomes how t.queues turns lists) lists) q
    ≡ listed (queue_names t.queues) lists q ++ comes_to t (listed (queue_names t.queues) lists) m q (names_at (queue_names t.queues) plan.targets)
entered_by_names t how lists exchange key m turns plan q distinct len =
    let names = queue_names t.queues in
    let long = names-length t.queues in
    let os = map (outcome_at how t.queues lists m) plan.targets in
    let within : All (λ (i : ℕ). i < length names) (places_of os)
    = subst (λ (is : List ℕ). All (λ (i : ℕ). i < length names) is) (sym (places_of_outcomes how t.queues lists m plan.targets)) (subst (λ (k : ℕ). All (λ (i : ℕ). i < k) plan.targets) (sym long) plan.routed.within) in
    ap (λ (xs : List TurnOutcome). listed names (all_entered xs lists) q) (turned t how lists exchange key m turns plan)
    ∙ listed-entered names os lists q distinct (omega arith) within
    ∙ ap (λ (es : List Entry). listed names lists q ++ es) (arrive t how lists m q plan.targets distinct len plan.routed.within)

-- what was done by places is the publish
pub published : (old new : Store) (c h : ℕ) (p : Publish) (content : Content) (confirm : Option ℕ) (before after : List Note) (routed : Routed)
    → IsWellFormed old.topology → length old.queues ≡ length old.topology.queues → new.published ≡ old.published + 1 → new.topology ≡ old.topology
    → Enters old.topology old.queues new.queues p (message (old.published + 1) p content) (Published (old.published + 1) c h p.exchange p.routing_key confirm) before after routed
    → Publishing old c h p content confirm before after routed new
published old new c h p content confirm before after routed formed len counted same e =
    let t = old.topology in
    let lists = old.queues in
    let names = queue_names t.queues in
    let m = message (old.published + 1) p content in
    let distinct = formed.queues_distinct in
    let targets = e.plan.targets in
    let within = e.plan.routed.within in
    let first = Published (old.published + 1) c h p.exchange p.routing_key confirm in
    record {
      noted = first ∷ notes_of_outcomes (outcomes way.Publish t.queues e.turns lists);
      appended = e.notes;
      publishes = record {
        targets = names_at names targets;
        picked = e.plan.routed.picked;
        notes = ap (λ (ns : List Note). first ∷ ns) (noted_by_names t way.Publish lists p.exchange p.routing_key m e.turns e.plan distinct len);
        none = e.none ∙ ap no_turns e.plan.turned ∙ nothing t.queues m targets;
        full = e.full ∙ ap (list_any is_refusal) (turned t way.Publish lists p.exchange p.routing_key m e.turns e.plan) ∙ refuse t way.Publish lists m targets distinct len within;
        counted = counted;
        topology = same;
        queues = λ q.
            ap (λ (u : Topology). listed (queue_names u.queues) new.queues q) same
            ∙ ap (λ (ess : List (List Entry)). listed names ess q) e.entries
            ∙ entered_by_names t way.Publish lists p.exchange p.routing_key m e.turns e.plan q distinct len;
      };
    }

-- the same, where its topology, its message and its first note are told
pub published_as : (was now s : Store) (c h : ℕ) (p : Publish) (content : Content) (confirm : Option ℕ) (before after : List Note) (routed : Routed) (t : Topology) (m : Message) (first : Note)
    → was ≡ s → t ≡ was.topology → m ≡ message (was.published + 1) p content → first ≡ Published (was.published + 1) c h p.exchange p.routing_key confirm
    → IsWellFormed t → length was.queues ≡ length was.topology.queues → now.published ≡ was.published + 1 → now.topology ≡ was.topology
    → Enters t was.queues now.queues p m first before after routed → Publishing s c h p content confirm before after routed now
published_as was now s c h p content confirm before after routed t m first view same made reported formed len counted topology enters =
    let number = was.published + 1 in
    let note = Published number c h p.exchange p.routing_key confirm in
    subst (λ (x : Store). Publishing x c h p content confirm before after routed now) view
    (published was now c h p content confirm before after routed (subst IsWellFormed same formed) len counted topology
    (subst (λ (u : Topology). Enters u was.queues now.queues p (message number p content) note before after routed) same
    (subst (λ (x : Message). Enters t was.queues now.queues p x note before after routed) made (subst (λ (x : Note). Enters t was.queues now.queues p m x before after routed) reported enters))))

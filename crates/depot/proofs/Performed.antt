-- Messages that leave first and dead letters that come then make the queues that deaths make one after another.
use Rattle.depot.proofs.Names.{◌≡◌, ◌<◌, ◌+◌, ℕ, zero, suc, length, drop, is_waiting, waiting, List, [], ◌∷◌, ◌++◌, Bool, true, false, cond, get_or, set, filter, refl, sym, ap, ◌∙◌, Option, Some, None, Topology, Message, is_held_as, Entry, Holder, Ready, DeclaredQueue, Note, ChannelId, Delivery, holder_of_delivery, TurnOutcome, all_entered, arriving, Arrival, arrivals_at, Death, IsForeseen, Plans, Rejects, ArePlanned, given_at, left_at, all_arrivals, all_left, arrived, arrivals_in, died, died_all, outcomes_of, without}
use Rattle.std.proofs.Common.{not}
use Rattle.std.specs.Prelude.{find}
use Rattle.std.proofs.lemmas.List.Elements.{filter-append}
use Rattle.depot.proofs.Tallying.{nothing_arrives}
use Rattle.depot.proofs.Waiting.{next_waiting}

-- ---- two changes of queues

abbrev changed_at : (List Entry → List Entry) → List (List Entry) → ℕ → List (List Entry)
changed_at f lists i = set lists i (f (get_or lists i []))

two_changes : (f g : List Entry → List Entry) → ((es : List Entry) → f (g es) ≡ g (f es)) → (lists : List (List Entry)) (i j : ℕ) → changed_at f (changed_at g lists j) i ≡ changed_at g (changed_at f lists i) j
two_changes f g same [] i j = refl
two_changes f g same (x ∷ xs) zero zero = ap (λ (y : List Entry). y ∷ xs) (same x)
two_changes f g same (x ∷ xs) zero (suc j) = refl
two_changes f g same (x ∷ xs) (suc i) zero = refl
two_changes f g same (x ∷ xs) (suc i) (suc j) = ap (λ (ys : List (List Entry)). x ∷ ys) (two_changes f g same xs i j)

-- the entries without the one that is held so
abbrev leaves : Holder → List Entry → List Entry
leaves a es = filter (λ (e : Entry). not (is_held_as a e)) es

-- the entries with one more behind them
abbrev comes : Message → List Entry → List Entry
comes m es = es ++ arriving (Some m)

leaves_comes : (a : Holder) (m : Message) (es : List Entry) → leaves a (comes m es) ≡ comes m (leaves a es)
leaves_comes a m es = filter-append (λ (e : Entry). not (is_held_as a e)) es (record { message = m; mark = Ready } ∷ [])

without_arrived : (a : Holder) (p : ℕ) (as' : List Arrival) (lists : List (List Entry)) → changed_at (leaves a) (arrived as' lists) p ≡ arrived as' (changed_at (leaves a) lists p)
without_arrived a p [] lists = refl
without_arrived a p (b ∷ bs) lists =
    without_arrived a p bs (changed_at (comes b.message) lists b.place)
    ∙ ap (arrived bs) (two_changes (leaves a) (comes b.message) (leaves_comes a b.message) lists p b.place)

-- ---- deaths

-- the queues without the messages that die
abbrev withouts : List Death → List (List Entry) → List (List Entry)
withouts [] lists = lists
withouts (d ∷ ds) lists = withouts ds (without d lists)

withouts_arrived : (ds : List Death) (as' : List Arrival) (lists : List (List Entry)) → withouts ds (arrived as' lists) ≡ arrived as' (withouts ds lists)
withouts_arrived [] as' lists = refl
withouts_arrived (d ∷ ds) as' lists = ap (withouts ds) (without_arrived d.holder d.place as' lists) ∙ withouts_arrived ds as' (without d lists)

arrived_more : (as' bs : List Arrival) (lists : List (List Entry)) → arrived (as' ++ bs) lists ≡ arrived bs (arrived as' lists)
arrived_more [] bs lists = refl
arrived_more (a ∷ as') bs lists = arrived_more as' bs (changed_at (comes a.message) lists a.place)

-- what outcomes bring is what comes
entered_arrived : (os : List TurnOutcome) (lists : List (List Entry)) → all_entered os lists ≡ arrived (arrivals_in os) lists
entered_arrived [] lists = refl
entered_arrived (o ∷ os) lists = go o.message (entered_arrived os)
  where
    go : (m : Option Message) → ((now : List (List Entry)) → all_entered os now ≡ arrived (arrivals_in os) now)
        → all_entered os (set lists o.place (get_or lists o.place [] ++ arriving m)) ≡ arrived (arrivals_at o.place m ++ arrivals_in os) lists
    go None rest = ap (all_entered os) (nothing_arrives lists o.place) ∙ rest lists
    go (Some m) rest = rest (set lists o.place (get_or lists o.place [] ++ arriving (Some m)))

died_arrived : (qs : List DeclaredQueue) (ds : List Death) (lists : List (List Entry)) → died_all qs ds lists ≡ arrived (all_arrivals qs ds lists) (withouts ds lists)
died_arrived qs [] lists = refl
died_arrived qs (d ∷ ds) lists =
    let first = arrivals_in (outcomes_of qs d lists) in
    let others = all_arrivals qs ds (died qs d lists) in
    died_arrived qs ds (died qs d lists)
    ∙ ap (λ (y : List (List Entry)). arrived others (withouts ds y)) (entered_arrived (outcomes_of qs d lists) (without d lists))
    ∙ ap (arrived others) (withouts_arrived ds first (without d lists))
    ∙ sym (arrived_more first others (withouts ds (without d lists)))

-- ---- what leaves is what dies

none_leaves : (p : Entry → Bool) (es : List Entry) → find p es ≡ None → filter (λ (e : Entry). not (p e)) es ≡ es
none_leaves p [] e = refl
none_leaves p (x ∷ xs) e = go (p x) e (none_leaves p xs)
  where
    go : (v : Bool) → cond v (Some x) (find p xs) ≡ None → (find p xs ≡ None → filter (λ (y : Entry). not (p y)) xs ≡ xs) → cond (not v) (x ∷ filter (λ (y : Entry). not (p y)) xs) (filter (λ (y : Entry). not (p y)) xs) ≡ x ∷ xs
    go true h rest = absurd (cc)
    go false h rest = ap (λ (ys : List Entry). x ∷ ys) (rest h)

same_set : (lists : List (List Entry)) (i : ℕ) → set lists i (get_or lists i []) ≡ lists
same_set [] i = refl
same_set (x ∷ xs) zero = refl
same_set (x ∷ xs) (suc i) = ap (λ (ys : List (List Entry)). x ∷ ys) (same_set xs i)

none_filter : (p q : Entry → Bool) (es : List Entry) → find p es ≡ None → find p (filter q es) ≡ None
none_filter p q [] e = e
none_filter p q (x ∷ xs) e = go (p x) refl (q x) e (none_filter p q xs)
  where
    go : (v : Bool) → p x ≡ v → (w : Bool) → cond v (Some x) (find p xs) ≡ None → (find p xs ≡ None → find p (filter q xs) ≡ None) → find p (cond w (x ∷ filter q xs) (filter q xs)) ≡ None
    go true is w h rest = absurd (cc)
    go false is true h rest = ap (λ (b : Bool). cond b (Some x) (find p (filter q xs))) is ∙ rest h
    go false is false h rest = rest h

none_after : (p q : Entry → Bool) (lists : List (List Entry)) (i k : ℕ) → find p (get_or lists k []) ≡ None → find p (get_or (set lists i (filter q (get_or lists i []))) k []) ≡ None
none_after p q [] i k e = e
none_after p q (x ∷ xs) zero zero e = none_filter p q x e
none_after p q (x ∷ xs) zero (suc k) e = e
none_after p q (x ∷ xs) (suc i) zero e = e
none_after p q (x ∷ xs) (suc i) (suc k) e = none_after p q xs i k e

-- what was not held is not held later
abbrev StillNone : ℕ → ℕ → List (List Entry) → List (List Entry) → Type 0
StillNone c h old now = (g : Delivery) → given_at c h old g ≡ None → given_at c h now g ≡ None

none_later : (c h : ℕ) (old now : List (List Entry)) (g : Delivery) → StillNone c h old now → StillNone c h old (left_at c h now g)
none_later c h old now g still x none =
    none_after (is_held_as (holder_of_delivery c h x)) (λ (e : Entry). not (is_held_as (holder_of_delivery c h g) e)) now g.queue x.queue (still x none)

left_first : (t : Topology) (c h : ℕ) (old now : List (List Entry)) (g : Delivery) (gs : List Delivery) (ds first others : List Death) (o : Option Entry) → given_at c h old g ≡ o → StillNone c h old now
    → Plans t c h g o first → ds ≡ first ++ others → all_left c h gs (left_at c h now g) ≡ withouts others (left_at c h now g) → all_left c h (g ∷ gs) now ≡ withouts ds now
left_first t c h old now g gs ds first others None is still none all rest =
    let p = is_held_as (holder_of_delivery c h g) in
    let stays : left_at c h now g ≡ now = ap (set now g.queue) (none_leaves p (get_or now g.queue []) (still g is)) ∙ same_set now g.queue in
    rest ∙ ap (withouts others) stays ∙ ap (λ (xs : List Death). withouts xs now) (sym (all ∙ ap (λ (xs : List Death). xs ++ others) none))
left_first t c h old now g gs ds first others (Some e) is still one all rest =
    let d = one.0 in
    let dies : without d now ≡ left_at c h now g =
    ap (λ (i : ℕ). set now i (filter (λ (x : Entry). not (is_held_as d.holder x)) (get_or now i []))) one.2.place
    ∙ ap (λ (a : Holder). set now g.queue (filter (λ (x : Entry). not (is_held_as a x)) (get_or now g.queue []))) one.2.holder in
    rest ∙ ap (withouts others) (sym dies) ∙ ap (λ (xs : List Death). withouts xs now) (sym (all ∙ ap (λ (xs : List Death). xs ++ others) one.1))

left_planned : (t : Topology) (c h : ℕ) (old now : List (List Entry)) (gs : List Delivery) (ds : List Death) → StillNone c h old now → ArePlanned t c h old gs ds → all_left c h gs now ≡ withouts ds now
left_planned t c h old now [] ds still are = ap (λ (xs : List Death). withouts xs now) (sym are)
left_planned t c h old now (g ∷ gs) ds still are =
    left_first t c h old now g gs ds are.0 are.1 (given_at c h old g) refl still are.2 are.3 (left_planned t c h old (left_at c h now g) gs are.1 (none_later c h old now g still) are.4)

-- what was foreseen is what is done
pub performed : (t : Topology) (id : ChannelId) (gone : List Delivery) (old new : List (List Entry)) (arrivals : List Arrival) (before after : List Note)
    → IsForeseen t id gone old arrivals before after → new ≡ arrived arrivals (all_left id.connection id.number gone old) → Rejects t id gone old new before after
performed t id gone old new arrivals before after f done = record {
  deaths = f.deaths;
  planned = f.planned;
  entries =
      done ∙ ap (λ (as' : List Arrival). arrived as' (all_left id.connection id.number gone old)) f.arrivals
      ∙ ap (arrived (all_arrivals t.queues f.deaths old)) (left_planned t id.connection id.number old old gone f.deaths (λ g none. none) f.planned)
      ∙ sym (died_arrived t.queues f.deaths old);
  notes = f.notes;
}

-- ---- one delivery after another

-- what is still to leave behind this one
pub left_next : (c h : ℕ) (gone : List Delivery) (i : ℕ) (d : Delivery) (old new : List (List Entry)) → i < length gone
    → (is_waiting (get_or gone i d) ≡ true → new ≡ left_at c h old (get_or gone i d)) → (is_waiting (get_or gone i d) ≡ false → new ≡ old)
    → all_left c h (waiting (drop (i + 1) gone)) new ≡ all_left c h (waiting (drop i gone)) old
left_next c h gone i d old new lt changes stays = go (is_waiting (get_or gone i d)) refl
  where
    go : (b : Bool) → is_waiting (get_or gone i d) ≡ b → all_left c h (waiting (drop (i + 1) gone)) new ≡ all_left c h (waiting (drop i gone)) old
    go true w = ap (all_left c h (waiting (drop (i + 1) gone))) (changes w) ∙ ap (λ (gs : List Delivery). all_left c h gs old) (sym (next_waiting gone i d true lt w))
    go false w = ap (all_left c h (waiting (drop (i + 1) gone))) (stays w) ∙ ap (λ (gs : List Delivery). all_left c h gs old) (sym (next_waiting gone i d false lt w))

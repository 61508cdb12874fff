-- Messages that are rejected: each leaves its queue, and its dead letter enters others.
use Rattle.laws.proofs.Names.{◌≡◌, ℕ, suc, ◌⊎◌, List, [], ◌∷◌, ◌++◌, true, false, length, refl, sym, ap, subst, ◌∙◌, arith, None, inl, inr, count_by, Contains, bytes_eq, AllByRecursion, bytes_eq-Decides, false≢true, Text, Topology, IsIn, Routes, Dies, key_after, Message, Outstanding, is_ready, queue_named, is_held_as, AreMarked, IsDeath, DiesBy, DiesIn, MayDie, dead_letter, with_headers, holder_of, given_in, without_given, left_note, AreRejected, has_number, is_entered, is_left, DeclaredQueue, Holder, Mark, Ready, Held, Entry, Cause, Rejected, Note, Entered, Refused, Left}
use Rattle.std.proofs.Common.{◌+◌, Option, Some}
use Rattle.model.specs.Entering.{entry_notes, comes_to}
use Rattle.model.specs.declared.notes.Way.TheVariants as way
use Rattle.laws.proofs.Counts.{count-append, count-cons_no, count_none, all-append, in-append, in_front, in_back}
use Rattle.laws.proofs.Leaving.{is_leaving, OfLeft, find_in, in_rest, given_balances}
use Rattle.laws.proofs.Entering.{picked, entries_all, comes_as_noted, in_comes}

-- ---- the ways of one rejection

-- the message that was found leaves: there is none, or it is gone, or it dies in its queue
pub data Goes (t : Topology) (name : Text) (gone : Text → List Entry) (notes : List Note) (new : Text → List Entry) : Option Entry → Type 0 where
  not_found : notes ≡ [] → ((q : Text) → new q ≡ gone q) → Goes t name gone notes new None
  left_only : {e : Entry} → notes ≡ Left e.message.number name Rejected ∷ [] → ((q : Text) → new q ≡ gone q) → Goes t name gone notes new (Some e)
  died : {e : Entry} (p : DeclaredQueue) (exchange : Text) (rest : List Note) → Dies t name exchange p → notes ≡ Left e.message.number name Rejected ∷ rest → IsDeath t p exchange gone e.message rest new
      → Goes t name gone notes new (Some e)

pub contains_in : {A : Type 0} (x : A) (xs : List A) → IsIn x xs → Contains xs x
contains_in x [] i = absurd i
contains_in x (y ∷ ys) (inl e) = (0, omega arith, sym e)
contains_in x (y ∷ ys) (inr i) = let r = contains_in x ys i in (suc r.0, omega arith, r.2)

pub goes_by : (t : Topology) (name : Text) (gone : Text → List Entry) (notes : List Note) (new : Text → List Entry) (o : Option Entry) → MayDie t name gone notes new o → Goes t name gone notes new o
goes_by t name gone notes new None m = not_found m.0 m.1
goes_by t name gone notes new (Some e) (rest, is, dies) = by (queue_named t.queues name) refl dies
  where
    alone : (rest ≡ []) × ((q : Text) → new q ≡ gone q) → Goes t name gone notes new (Some e)
    alone d = left_only (is ∙ ap (λ (ns : List Note). Left e.message.number name Rejected ∷ ns) d.0) d.1

    through : (p : DeclaredQueue) (x : Option Text) → IsIn p t.queues → p.name ≡ name → p.dead_letter_exchange ≡ x → DiesBy t p gone e.message rest new x → Goes t name gone notes new (Some e)
    through p None i named at d = alone d
    through p (Some exchange) i named at d = died p exchange rest (record { is_queue = contains_in p t.queues i; is_named = named; dead = at }) is d

    by : (o : Option DeclaredQueue) → queue_named t.queues name ≡ o → DiesIn t gone e.message rest new o → Goes t name gone notes new (Some e)
    by None found d = alone d
    by (Some p) found d = let at = find_in (λ (q : DeclaredQueue). bytes_eq q.name name) p t.queues found in through p p.dead_letter_exchange at.0 ((bytes_eq-Decides p.name name).0 at.1) refl d

-- ---- what is noted

-- a message of this number stood in one of these queues, which it left by a rejection as these notes say, and its dead letter may enter the queue r
pub record HasDied (t : Topology) (queues : Text → List Entry) (noted : List Note) (n : ℕ) (r : Text) : Type 0 where
  pub from : Text
  pub entry : Entry
  pub there : IsIn entry (queues from)
  pub number : entry.message.number ≡ n
  pub left : IsIn (Left n from Rejected) noted
  pub last : DeclaredQueue
  pub exchange : Text
  pub dies : Dies t from exchange last
  pub routes : Routes t exchange (key_after last.dead_letter_key entry.message.key) r

-- the note says that a message left its queue, or of the dead letter of one that died, as these notes say, that it entered a queue or was refused there
abbrev pub IsQuiet : Topology → (Text → List Entry) → List Note → Note → Type 0
IsQuiet t queues noted (Left n q cause) = Unit {0}
IsQuiet t queues noted (Refused n q) = Unit {0}
IsQuiet t queues noted (Entered n q way.Dead) = HasDied t queues noted n q
IsQuiet t queues noted note = ⊥

pub leaving_quiet : (t : Topology) (queues : Text → List Entry) (noted : List Note) (note : Note) → is_leaving note ≡ true → IsQuiet t queues noted note
leaving_quiet t queues noted (Left n q cause) e = tt
leaving_quiet t queues noted _ e = absurd (false≢true e)

-- each of these notes is one of those
abbrev AreAmong : List Note → List Note → Type 0
AreAmong notes noted = (note : Note) → IsIn note notes → IsIn note noted

pub leaving_enters : (n : ℕ) (q : Text) (note : Note) → is_leaving note ≡ true → is_entered n q note ≡ false
leaving_enters n q (Left m r cause) e = refl
leaving_enters n q _ e = absurd (false≢true e)

-- what is held was held before, the same message
abbrev pub HeldStay : (Text → List Entry) → (Text → List Entry) → Type 0
HeldStay old new = (q : Text) (e : Entry) → IsIn e (new q) → is_ready e ≡ false → IsIn e (old q)

pub idle_if_held : (g : Holder) (e : Entry) → is_held_as g e ≡ true → is_ready e ≡ false
idle_if_held g e = go e.message e.mark
  where
    go : (m : Message) (k : Mark) → is_held_as g (record { message = m; mark = k }) ≡ true → is_ready (record { message = m; mark = k }) ≡ false
    go m Ready is = absurd (false≢true is)
    go m (Held h) is = refl

-- what stands in the queues afterwards stood there before, or is a dead letter
pub record IsLetter (t : Topology) (old : Text → List Entry) (q : Text) (x : Entry) : Type 0 where
  pub from : Text
  pub entry : Entry
  pub there : IsIn entry (old from)
  -- it was held
  pub idle : is_ready entry ≡ false
  pub last : DeclaredQueue
  pub exchange : Text
  pub dies : Dies t from exchange last
  pub routes : Routes t exchange (key_after last.dead_letter_key entry.message.key) q
  pub headers : Option Text
  pub marked : AreMarked last.name entry.message.exchange entry.message.content.properties.headers headers
  pub is : x ≡ record { message = dead_letter entry.message exchange (key_after last.dead_letter_key entry.message.key) (with_headers entry.message.content headers); mark = Ready }

abbrev pub Stood : Topology → (Text → List Entry) → Text → Entry → Type 0
Stood t old q x = IsIn x (old q) ⊎ IsLetter t old q x

module _ (t : Topology) (c h : ℕ) (old : Text → List Entry) (o : Outstanding) (notes : List Note) (new : Text → List Entry) where
  abbrev gone : Text → List Entry
  gone = without_given c h old o

  abbrev GoesSo : Option Entry → Type 0
  GoesSo found = Goes t o.queue gone notes new found

  -- the message that is found stands in its queue, held
  pub found_there : (e : Entry) → given_in c h old o ≡ Some e → IsIn e (old o.queue) × (is_held_as (holder_of c h o) e ≡ true)
  found_there e found = find_in (is_held_as (holder_of c h o)) e (old o.queue) found

  pub one_stood : (found : Option Entry) → given_in c h old o ≡ found → GoesSo found → (q : Text) (x : Entry) → IsIn x (new q) → Stood t old q x
  one_stood None f (not_found none same) q x i = inl (in_rest c h old o x q (subst (IsIn x) (same q) i))
  one_stood (Some e) f (left_only is same) q x i = inl (in_rest c h old o x q (subst (IsIn x) (same q) i))
  one_stood (Some e) f (died p exchange rest dies is d) q x i = elim (in-append x (gone q) _ (subst (IsIn x) (d.left q) i)) [
    | inl j ↦ inl (in_rest c h old o x q j)
    | inr j ↦
        let came = in_comes t gone _ q d.targets x j in
        inr (record { from = o.queue; entry = e; there = (found_there e f).0; idle = idle_if_held (holder_of c h o) e (found_there e f).1; last = p; exchange = exchange; dies = dies; routes = picked q d.routed came.routed; headers = d.headers; marked = d.marked; is = came.is })
  ]

  letter_ready : (q : Text) (x : Entry) → IsLetter t old q x → is_ready x ≡ true
  letter_ready q x l = ap is_ready l.is

  pub one_held : (found : Option Entry) → given_in c h old o ≡ found → GoesSo found → HeldStay old new
  one_held found f g q x i idle = elim (one_stood found f g q x i) [ inl j ↦ j | inr l ↦ absurd (false≢true (sym idle ∙ letter_ready q x l)) ]

  -- of messages that stood in the queues at first, where what is held now was held then
  one_quiet : (first : Text → List Entry) (noted : List Note) → HeldStay first old → AreAmong notes noted → (found : Option Entry) → given_in c h old o ≡ found → GoesSo found → AllByRecursion (IsQuiet t first noted) notes
  one_quiet first noted stay among None f (not_found none same) = subst (AllByRecursion (IsQuiet t first noted)) (sym none) tt
  one_quiet first noted stay among (Some e) f (left_only is same) = subst (AllByRecursion (IsQuiet t first noted)) (sym is) (tt, tt)
  one_quiet first noted stay among (Some e) f (died p exchange rest dies is d) =
      let at = found_there e f in
      let there : IsIn e (first o.queue) = stay o.queue e at.0 (idle_if_held (holder_of c h o) e at.1) in
      let note = Left e.message.number o.queue Rejected in
      let left : IsIn note noted = among note (subst (IsIn note) (sym is) (inl refl)) in
      subst (AllByRecursion (IsQuiet t first noted)) (sym is) (
        tt,
        subst (AllByRecursion (IsQuiet t first noted)) (sym d.noted) (entries_all (IsQuiet t first noted) t gone (length e.message.content.body) e.message.number way.Dead d.targets (λ r. tt)
            (λ r i. record { from = o.queue; entry = e; there = there; number = refl; left = left; last = p; exchange = exchange; dies = dies; routes = picked r d.routed i })),
      )

  one_causes : (P : ℕ → Text → Cause → Type 0) → ((e : Entry) → IsIn e (old o.queue) → is_held_as (holder_of c h o) e ≡ true → P e.message.number o.queue Rejected)
      → (found : Option Entry) → given_in c h old o ≡ found → GoesSo found → AllByRecursion (OfLeft P) notes
  one_causes P each None f (not_found none same) = subst (AllByRecursion (OfLeft P)) (sym none) tt
  one_causes P each (Some e) f (left_only is same) = let at = found_there e f in subst (AllByRecursion (OfLeft P)) (sym is) (each e at.0 at.1, tt)
  one_causes P each (Some e) f (died p exchange rest dies is d) =
      let at = found_there e f in
      subst (AllByRecursion (OfLeft P)) (sym is) (each e at.0 at.1, subst (AllByRecursion (OfLeft P)) (sym d.noted) (entries_all (OfLeft P) t gone (length e.message.content.body) e.message.number way.Dead d.targets (λ r. tt) (λ r i. tt)))

  -- ---- counts

  abbrev Adds : ℕ → Text → Type 0
  Adds n q = count_by (has_number n) (old q) + count_by (is_entered n q) notes ≡ count_by (is_left n q) notes + count_by (has_number n) (new q)

  -- what leaves, without a dead letter
  plain : (n : ℕ) (q : Text) (found : Option Entry) → given_in c h old o ≡ found → notes ≡ left_note Rejected o.queue found → ((q : Text) → new q ≡ gone q) → count_by (is_entered n q) (left_note Rejected o.queue found) ≡ 0 → Adds n q
  plain n q found f is same none =
      let balance = given_balances Rejected c h old o found f n q in
      let left : count_by (is_left n q) notes ≡ count_by (is_left n q) (left_note Rejected o.queue found) = ap (count_by (is_left n q)) is in
      let entered : count_by (is_entered n q) notes ≡ 0 = ap (count_by (is_entered n q)) is ∙ none in
      let now : count_by (has_number n) (new q) ≡ count_by (has_number n) (gone q) = ap (count_by (has_number n)) (same q) in
      omega (arith, balance, left, entered, now)

  one_balances : (n : ℕ) (q : Text) (found : Option Entry) → given_in c h old o ≡ found → GoesSo found → Adds n q
  one_balances n q None f (not_found none same) = plain n q None f none same refl
  one_balances n q (Some e) f (left_only is same) = plain n q (Some e) f is same (count-cons_no (is_entered n q) (Left e.message.number o.queue Rejected) [] refl)
  one_balances n q (Some e) f (died p exchange rest dies is d) =
      let note = Left e.message.number o.queue Rejected in
      let letter = dead_letter e.message exchange (key_after p.dead_letter_key e.message.key) (with_headers e.message.content d.headers) in
      let balance = given_balances Rejected c h old o (Some e) f n q in
      let came : count_by (has_number n) (comes_to t gone letter q d.targets) ≡ count_by (is_entered n q) rest = comes_as_noted t gone letter n q way.Dead d.targets ∙ ap (count_by (is_entered n q)) (sym d.noted) in
      let left_rest : count_by (is_left n q) rest ≡ 0 =
      ap (count_by (is_left n q)) d.noted ∙ count_none (is_left n q) (entry_notes t gone (length e.message.content.body) e.message.number way.Dead d.targets) (entries_all _ t gone (length e.message.content.body) e.message.number way.Dead d.targets (λ r. refl) (λ r i. refl)) in
      let left : count_by (is_left n q) notes ≡ count_by (is_left n q) (note ∷ []) + count_by (is_left n q) rest = ap (count_by (is_left n q)) is ∙ count-append (is_left n q) (note ∷ []) rest in
      let entered : count_by (is_entered n q) notes ≡ count_by (is_entered n q) rest = ap (count_by (is_entered n q)) is ∙ count-cons_no (is_entered n q) note rest refl in
      let now : count_by (has_number n) (new q) ≡ count_by (has_number n) (gone q) + count_by (has_number n) (comes_to t gone letter q d.targets) = ap (count_by (has_number n)) (d.left q) ∙ count-append (has_number n) (gone q) _ in
      omega (arith, balance, came, left_rest, left, entered, now)

-- ---- all of them

pub rejected_quiet : (t : Topology) (c h : ℕ) (first : Text → List Entry) (noted : List Note) (os : List Outstanding) (old : Text → List Entry) (notes : List Note) (new : Text → List Entry) → HeldStay first old → AreAmong notes noted
    → AreRejected t c h os old notes new → AllByRecursion (IsQuiet t first noted) notes
rejected_quiet t c h first noted [] old notes new stay among (none, same) = subst (AllByRecursion (IsQuiet t first noted)) (sym none) tt
rejected_quiet t c h first noted (o ∷ os) old notes new stay among (mid, one, rest, dies, all, more) =
    let goes = goes_by t o.queue _ one mid (given_in c h old o) dies in
    let these : AreAmong (one ++ rest) noted = subst (λ (ns : List Note). AreAmong ns noted) all among in
    subst (AllByRecursion (IsQuiet t first noted)) (sym all) (all-append (IsQuiet t first noted) one rest (one_quiet t c h old o one mid first noted stay (λ note i. these note (in_front note one rest i)) (given_in c h old o) refl goes)
    (rejected_quiet t c h first noted os mid rest new (λ q e i idle. stay q e (one_held t c h old o one mid (given_in c h old o) refl goes q e i idle) idle) (λ note i. these note (in_back note one rest i)) more))

pub rejected_balances : (t : Topology) (c h : ℕ) (os : List Outstanding) (old : Text → List Entry) (notes : List Note) (new : Text → List Entry) → AreRejected t c h os old notes new
    → (n : ℕ) (q : Text) → count_by (has_number n) (old q) + count_by (is_entered n q) notes ≡ count_by (is_left n q) notes + count_by (has_number n) (new q)
rejected_balances t c h [] old notes new (none, same) n q =
    let left : count_by (is_left n q) notes ≡ 0 = ap (count_by (is_left n q)) none in
    let entered : count_by (is_entered n q) notes ≡ 0 = ap (count_by (is_entered n q)) none in
    let now : count_by (has_number n) (new q) ≡ count_by (has_number n) (old q) = ap (count_by (has_number n)) (same q) in
    omega (arith, left, entered, now)
rejected_balances t c h (o ∷ os) old notes new (mid, one, rest, dies, all, more) n q =
    let first = one_balances t c h old o one mid n q (given_in c h old o) refl (goes_by t o.queue _ one mid (given_in c h old o) dies) in
    let after = rejected_balances t c h os mid rest new more n q in
    let left : count_by (is_left n q) notes ≡ count_by (is_left n q) one + count_by (is_left n q) rest = ap (count_by (is_left n q)) all ∙ count-append (is_left n q) one rest in
    let entered : count_by (is_entered n q) notes ≡ count_by (is_entered n q) one + count_by (is_entered n q) rest = ap (count_by (is_entered n q)) all ∙ count-append (is_entered n q) one rest in
    omega (arith, first, after, left, entered)

-- of each that leaves the cause is known, if it is of each of these deliveries that stands in its queue
pub rejected_causes : (P : ℕ → Text → Cause → Type 0) (t : Topology) (c h : ℕ) (os : List Outstanding) (old : Text → List Entry) (notes : List Note) (new : Text → List Entry) → AreRejected t c h os old notes new
    → ((o : Outstanding) (e : Entry) → IsIn o os → IsIn e (old o.queue) → is_held_as (holder_of c h o) e ≡ true → P e.message.number o.queue Rejected)
    → AllByRecursion (OfLeft P) notes
rejected_causes P t c h [] old notes new (none, same) each = subst (AllByRecursion (OfLeft P)) (sym none) tt
rejected_causes P t c h (o ∷ os) old notes new (mid, one, rest, dies, all, more) each =
    let goes = goes_by t o.queue _ one mid (given_in c h old o) dies in
    subst (AllByRecursion (OfLeft P)) (sym all) (all-append (OfLeft P) one rest (one_causes t c h old o one mid P (λ e i held. each o e (inl refl) i held) (given_in c h old o) refl goes)
    (rejected_causes P t c h os mid rest new more (λ p e i there held. each p e (inr i) (one_held t c h old o one mid (given_in c h old o) refl goes p.queue e there (idle_if_held (holder_of c h p) e held)) held)))

-- what stands in the queues afterwards stood there before, or is a dead letter
pub rejected_stood : (t : Topology) (c h : ℕ) (os : List Outstanding) (old : Text → List Entry) (notes : List Note) (new : Text → List Entry) → AreRejected t c h os old notes new → (q : Text) (x : Entry) → IsIn x (new q) → Stood t old q x
rejected_stood t c h [] old notes new (none, same) q x i = inl (subst (IsIn x) (same q) i)
rejected_stood t c h (o ∷ os) old notes new (mid, one, rest, dies, all, more) q x i =
    let goes = goes_by t o.queue _ one mid (given_in c h old o) dies in
    elim (rejected_stood t c h os mid rest new more q x i) [
      | inl j ↦ one_stood t c h old o one mid (given_in c h old o) refl goes q x j
      | inr l ↦ inr (record {
        from = l.from;
        entry = l.entry;
        there = one_held t c h old o one mid (given_in c h old o) refl goes l.from l.entry l.there l.idle;
        idle = l.idle;
        last = l.last;
        exchange = l.exchange;
        dies = l.dies;
        routes = l.routes;
        headers = l.headers;
        marked = l.marked;
        is = l.is;
      })
    ]

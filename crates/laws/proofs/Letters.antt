-- What becomes of each message that is rejected: it leaves, and its dead letter comes to each queue to which it goes on, once, or that queue is full.
use Rattle.laws.proofs.Names.{◌≡◌, ℕ, ◌≤◌, List, [], ◌∷◌, ◌++◌, Bool, true, false, cond, eqb, length, refl, sym, ap, subst, ◌∙◌, arith, ◌⊎◌, None, inl, inr, count_by, find, is_some, ◌&&◌, bytes_eq, AllByRecursion, sum_by, and-false, false≢true, filter-append, length-filter, sum_by-append, sum_by-cons, same_Some, bytes_eq-Decides, Text, Topology, IsIn, AreDistinct, queue_names, Routes, Picks, pass, Dies, key_after, Message, Outstanding, is_ready, is_full, body_bytes, ready_bytes, refuses, queue_named, is_held_as, without_first, IsDeath, DiesBy, DiesIn, MayDie, dead_letter, with_headers, holder_of, given_in, without_given, ready_in, AreRejected, Said, with_size, with_sizes, is_said_into, bytes_into, is_full_after, note_at, DiesInto, Rejection, AreRejections, next, rejection_notes, IsOfNoRejection, is_dead_into, is_rejected, DeclaredQueue, Ready, Entry, Auto, Rejected, Purged, Note, Entered, Refused, Left, Way}
use Rattle.std.proofs.Common.{◌+◌, map, Option, Some}
use Rattle.std.specs.Prelude.{filter, not, if◌then◌else◌}
use Rattle.model.specs.Routing.{none, take}
use Rattle.model.specs.Entering.{entry_notes, comes_to}
use Rattle.model.specs.Letters.{none as no_rejection}
use Rattle.model.specs.declared.notes.Cause.TheVariants.{Acked}
use Rattle.model.specs.declared.notes.Way.TheVariants as way
use Rattle.laws.proofs.Counts.{count-append, count-cons, count-cons_no, count-cons_yes, count_none, all_each, in-append, in_from_contains}
use Rattle.laws.proofs.Leaving.{is_leaving, at_queue, find_in, none_without, in_rest}
use Rattle.laws.proofs.Entering.{in_comes}
use Rattle.laws.proofs.Dying.{HeldStay, contains_in, idle_if_held}
use Rattle.laws.proofs.Targets.{same_as, count_most}

-- ---- what leaves otherwise

leaving_other : (note : Note) → is_leaving note ≡ true → IsOfNoRejection note
leaving_other (Left n q Rejected) e = absurd (false≢true e)
leaving_other (Left n q Acked) e = tt
leaving_other (Left n q Auto) e = tt
leaving_other (Left n q Purged) e = tt
leaving_other _ e = absurd (false≢true e)

pub no_rejections : (notes : List Note) → AllByRecursion (λ (note : Note). is_leaving note ≡ true) notes → AllByRecursion IsOfNoRejection notes
no_rejections notes leaving = all_each _ _ leaving_other notes leaving

-- ---- names that are picked

picks_same : {P Q : Text → Type 0} {xs ys : List Text} → ((x : Text) → P x → Q x) → ((x : Text) → Q x → P x) → Picks P xs ys → Picks Q xs ys
picks_same to from none = none
picks_same to from (take p r) = take (to _ p) (picks_same to from r)
picks_same to from (pass np r) = pass (λ q. np (from _ q)) (picks_same to from r)

picks_none : {P : Text → Type 0} → ((x : Text) → P x → ⊥) → (xs : List Text) → Picks P xs []
picks_none absent [] = none
picks_none absent (x ∷ xs) = pass (absent x) (picks_none absent xs)

-- ---- the queue of a name

named_in : (p : DeclaredQueue) (qs : List DeclaredQueue) → IsIn p qs → IsIn p.name (queue_names qs)
named_in p [] i = i
named_in p (q ∷ qs) (inl e) = inl (ap (λ (z : DeclaredQueue). z.name) e)
named_in p (q ∷ qs) (inr i) = inr (named_in p qs i)

-- names are distinct, and so the one that is found is it
found_of : (p : DeclaredQueue) (name : Text) (qs : List DeclaredQueue) → AreDistinct (queue_names qs) → IsIn p qs → p.name ≡ name → queue_named qs name ≡ Some p
found_of p name [] distinct i named = absurd i
found_of p name (q ∷ qs) distinct i named = go (λ j. found_of p name qs distinct.1 j named) (bytes_eq q.name name) refl i
  where
    go : (IsIn p qs → queue_named qs name ≡ Some p) → (same : Bool) → bytes_eq q.name name ≡ same → IsIn p (q ∷ qs) → cond same (Some q) (queue_named qs name) ≡ Some p
    go more true s (inl e) = ap Some (sym e)
    go more true s (inr j) = absurd (distinct.0 (subst (λ (z : Text). IsIn z (queue_names qs)) (named ∙ sym ((bytes_eq-Decides q.name name).0 s)) (named_in p qs j)))
    go more false s (inl e) = absurd (false≢true (sym s ∙ (bytes_eq-Decides q.name name).1 (ap (λ (z : DeclaredQueue). z.name) (sym e) ∙ named)))
    go more false s (inr j) = more j

module _ (t : Topology) (distinct : AreDistinct (queue_names t.queues)) (name : Text) where
  found_dies : (exchange : Text) (p : DeclaredQueue) → Dies t name exchange p → queue_named t.queues name ≡ Some p
  found_dies exchange p d = found_of p name t.queues distinct (in_from_contains t.queues p d.is_queue.0 d.is_queue.1 d.is_queue.2) d.is_named

  -- a message that dies in a queue that is not there, or that dead-letters nowhere, goes on to none
  none_without_queue : (key : Text) → queue_named t.queues name ≡ None → Picks (DiesInto t name key) (queue_names t.queues) []
  none_without_queue key is = picks_none (λ r d. absurd (false≢true (ap is_some (sym is ∙ found_dies d.exchange d.last d.dies)))) (queue_names t.queues)

  none_without_exchange : (key : Text) (p : DeclaredQueue) → queue_named t.queues name ≡ Some p → p.dead_letter_exchange ≡ None → Picks (DiesInto t name key) (queue_names t.queues) []
  none_without_exchange key p is plain = picks_none no (queue_names t.queues)
    where
      no : (r : Text) → DiesInto t name key r → ⊥
      no r d =
          let same : p ≡ d.last = same_Some p d.last (sym is ∙ found_dies d.exchange d.last d.dies) in
          false≢true (ap is_some (sym plain ∙ ap (λ (z : DeclaredQueue). z.dead_letter_exchange) same ∙ d.dies.dead))

  -- and else to where its exchange leads
  picks_on : (key : Text) (p : DeclaredQueue) (exchange : Text) (targets : List Text) → queue_named t.queues name ≡ Some p → p.dead_letter_exchange ≡ Some exchange
      → Picks (Routes t exchange (key_after p.dead_letter_key key)) (queue_names t.queues) targets → Picks (DiesInto t name key) (queue_names t.queues) targets
  picks_on key p exchange targets is dead routed = picks_same goes comes routed
    where
      at : IsIn p t.queues × (bytes_eq p.name name ≡ true)
      at = find_in (λ (q : DeclaredQueue). bytes_eq q.name name) p t.queues is

      goes : (r : Text) → Routes t exchange (key_after p.dead_letter_key key) r → DiesInto t name key r
      goes r ro = record { last = p; exchange = exchange; dies = record { is_queue = contains_in p t.queues at.0; is_named = (bytes_eq-Decides p.name name).0 at.1; dead = dead }; routes = ro }

      comes : (r : Text) → DiesInto t name key r → Routes t exchange (key_after p.dead_letter_key key) r
      comes r d =
          let same : d.last ≡ p = same_Some d.last p (sym (found_dies d.exchange d.last d.dies) ∙ is) in
          let to : d.exchange ≡ exchange = same_Some d.exchange exchange (sym d.dies.dead ∙ ap (λ (z : DeclaredQueue). z.dead_letter_exchange) same ∙ dead) in
          subst (λ (x : Text). Routes t x (key_after p.dead_letter_key key) r) to (subst (λ (z : DeclaredQueue). Routes t d.exchange (key_after z.dead_letter_key key) r) same d.routes)

-- ---- queues behind some notes

-- the queues as they stand behind these notes: what is held there was held before the event, and what can be given out could be, or has entered since
pub record Follows (first : Text → List Entry) (said : List Said) (now : Text → List Entry) : Type 0 where
  pub held : HeldStay first now
  pub ready : (q : Text) → count_by is_ready (now q) ≡ count_by is_ready (first q) + count_by (is_said_into q) said
  pub bytes : (q : Text) → ready_bytes (now q) ≡ ready_bytes (first q) + bytes_into q said

-- without the first that passes the same are kept, where it isn't kept itself
filter_without : {A : Type 0} (f p : A → Bool) (x : A) (xs : List A) → find p xs ≡ Some x → f x ≡ false → filter f (without_first p xs) ≡ filter f xs
filter_without f p x [] e idle = absurd (false≢true (ap is_some e))
filter_without {A = A} f p x (y ∷ ys) e idle = go (p y) (λ more. filter_without f p x ys more idle) e
  where
    go : (v : Bool) → (find p ys ≡ Some x → filter f (without_first p ys) ≡ filter f ys) → cond v (Some y) (find p ys) ≡ Some x → filter f (cond v ys (y ∷ without_first p ys)) ≡ filter f (y ∷ ys)
    go true more e = sym (ap (λ (b : Bool). cond b (y ∷ filter f ys) (filter f ys)) (ap f (same_Some y x e) ∙ idle))
    go false more e = ap (λ (zs : List A). cond (f y) (y ∷ zs) zs) (more e)

-- a message that is held is not among those that can be given out
ready_without : (c h : ℕ) (queues : Text → List Entry) (o : Outstanding) (found : Option Entry) → given_in c h queues o ≡ found → (q : Text) → filter is_ready (without_given c h queues o q) ≡ filter is_ready (queues q)
ready_without c h queues o found is = at_queue (λ (q : Text) (es : List Entry). filter is_ready es ≡ filter is_ready (queues q)) queues o.queue _ (here found is) (λ q other. refl)
  where
    here : (found : Option Entry) → given_in c h queues o ≡ found → filter is_ready (without_first (is_held_as (holder_of c h o)) (queues o.queue)) ≡ filter is_ready (queues o.queue)
    here None none_there = ap (filter is_ready) (none_without _ (queues o.queue) none_there)
    here (Some e) there =
        let at = find_in (is_held_as (holder_of c h o)) e (queues o.queue) there in
        filter_without is_ready (is_held_as (holder_of c h o)) e (queues o.queue) there (idle_if_held (holder_of c h o) e at.1)

gone_follows : (c h : ℕ) (first old : Text → List Entry) (said : List Said) (o : Outstanding) → Follows first said old → Follows first said (without_given c h old o)
gone_follows c h first old said o f = record {
  held = λ q e i idle. f.held q e (in_rest c h old o e q i) idle;
  ready = λ q. sym (length-filter is_ready (without_given c h old o q)) ∙ ap length (ready_without c h old o (given_in c h old o) refl q) ∙ length-filter is_ready (old q) ∙ f.ready q;
  bytes = λ q. ap (sum_by body_bytes) (ready_without c h old o (given_in c h old o) refl q) ∙ f.bytes q;
}

same_follows : (first now new : Text → List Entry) (said : List Said) → Follows first said now → ((q : Text) → new q ≡ now q) → Follows first said new
same_follows first now new said f same = record {
  held = λ q e i idle. f.held q e (subst (IsIn e) (same q) i) idle;
  ready = λ q. ap (count_by is_ready) (same q) ∙ f.ready q;
  bytes = λ q. ap ready_bytes (same q) ∙ f.bytes q;
}

-- what is said behind other notes is added
bytes-append : (q : Text) (xs ys : List Said) → bytes_into q (xs ++ ys) ≡ bytes_into q xs + bytes_into q ys
bytes-append q xs ys = ap (sum_by (λ (s : Said). s.size)) (filter-append (is_said_into q) xs ys) ∙ sum_by-append (λ (s : Said). s.size) (filter (is_said_into q) xs) (filter (is_said_into q) ys)

-- what comes to a queue can be given out
came_ready : (t : Topology) (entries : Text → List Entry) (m : Message) (n : ℕ) (q : Text) (rs : List Text) → count_by is_ready (comes_to t entries m q rs) ≡ count_by (is_said_into q) (with_sizes (length m.content.body) (entry_notes t entries (length m.content.body) n way.Dead rs))
came_ready t entries m n q [] = refl
came_ready t entries m n q (r ∷ rs) = go (bytes_eq r q) refl (is_full t entries r (length m.content.body)) (came_ready t entries m n q rs)
  where
    size : ℕ
    size = length m.content.body

    said : List Said
    said = with_sizes (length m.content.body) (entry_notes t entries (length m.content.body) n way.Dead rs)

    go : (same : Bool) → bytes_eq r q ≡ same → (full : Bool) → count_by is_ready (comes_to t entries m q rs) ≡ count_by (is_said_into q) said
        → count_by is_ready (if same && not full then record { message = m; mark = Ready } ∷ comes_to t entries m q rs else comes_to t entries m q rs) ≡ count_by (is_said_into q) (with_size size (if full then Refused n r else Entered n r way.Dead) ∷ said)
    go true s true more = more ∙ sym (count-cons_no (is_said_into q) (with_size size (Refused n r)) said refl)
    go true s false more = count-cons_yes is_ready (record { message = m; mark = Ready }) (comes_to t entries m q rs) refl ∙ ap (λ (k : ℕ). 1 + k) more ∙ sym (count-cons_yes (is_said_into q) (with_size size (Entered n r way.Dead)) said s)
    go false s true more = more ∙ sym (count-cons_no (is_said_into q) (with_size size (Refused n r)) said refl)
    go false s false more = more ∙ sym (count-cons_no (is_said_into q) (with_size size (Entered n r way.Dead)) said s)

-- and its bytes with it
came_bytes : (t : Topology) (entries : Text → List Entry) (m : Message) (n : ℕ) (q : Text) (rs : List Text) → ready_bytes (comes_to t entries m q rs) ≡ bytes_into q (with_sizes (length m.content.body) (entry_notes t entries (length m.content.body) n way.Dead rs))
came_bytes t entries m n q [] = refl
came_bytes t entries m n q (r ∷ rs) = go (bytes_eq r q) refl (is_full t entries r (length m.content.body)) (came_bytes t entries m n q rs)
  where
    came : List Entry
    came = filter is_ready (comes_to t entries m q rs)

    into : List Said
    into = filter (is_said_into q) (with_sizes (length m.content.body) (entry_notes t entries (length m.content.body) n way.Dead rs))

    entered : Said
    entered = with_size (length m.content.body) (Entered n r way.Dead)

    of_size : Said → ℕ
    of_size s = s.size

    with_it : sum_by body_bytes came ≡ sum_by of_size into → sum_by body_bytes (record { message = m; mark = Ready } ∷ came) ≡ sum_by of_size (entered ∷ into)
    with_it more = sum_by-cons body_bytes (record { message = m; mark = Ready }) came ∙ ap (λ (k : ℕ). length m.content.body + k) more ∙ sym (sum_by-cons of_size entered into)

    go : (same : Bool) → bytes_eq r q ≡ same → (full : Bool) → sum_by body_bytes came ≡ sum_by of_size into
        → ready_bytes (if same && not full then record { message = m; mark = Ready } ∷ comes_to t entries m q rs else comes_to t entries m q rs)
        ≡ bytes_into q (with_size (length m.content.body) (if full then Refused n r else Entered n r way.Dead) ∷ with_sizes (length m.content.body) (entry_notes t entries (length m.content.body) n way.Dead rs))
    go true s true more = more
    go true s false more = with_it more ∙ sym (ap (λ (b : Bool). sum_by of_size (cond b (entered ∷ into) into)) s)
    go false s true more = more
    go false s false more = more ∙ sym (ap (λ (b : Bool). sum_by of_size (cond b (entered ∷ into) into)) s)

came_idle : (t : Topology) (entries : Text → List Entry) (m : Message) (q : Text) (rs : List Text) (e : Entry) → IsIn e (comes_to t entries m q rs) → is_ready e ≡ true
came_idle t entries m q rs e i = ap is_ready (in_comes t entries m q rs e i).is

-- the ready bytes of two lists of entries are those of both
ready-append : (xs ys : List Entry) → ready_bytes (xs ++ ys) ≡ ready_bytes xs + ready_bytes ys
ready-append xs ys = ap (sum_by body_bytes) (filter-append is_ready xs ys) ∙ sum_by-append body_bytes (filter is_ready xs) (filter is_ready ys)

-- ---- one rejection

-- a queue is full as it stands, or as what was noted tells
pub full_same : (t : Topology) (first gone : Text → List Entry) (said : List Said) → Follows first said gone → (size : ℕ) (r : Text) → is_full t gone r size ≡ is_full_after t first said r size
full_same t first gone said f size r =
    ap (λ (count : ℕ). refuses (queue_named t.queues r) count (ready_bytes (gone r)) size) (length-filter is_ready (gone r) ∙ f.ready r ∙ ap (λ (k : ℕ). k + count_by (is_said_into r) said) (sym (length-filter is_ready (first r))))
    ∙ ap (λ (bytes : ℕ). refuses (queue_named t.queues r) (ready_in (first r) + count_by (is_said_into r) said) bytes size) (f.bytes r)

-- and so what is noted of the queues to which a message goes is the same
pub same_notes : (t : Topology) (first gone : Text → List Entry) (said : List Said) (size n : ℕ) (w : Way) → Follows first said gone → (rs : List Text) → entry_notes t gone size n w rs ≡ map (note_at t first said size n w) rs
same_notes t first gone said size n w f [] = refl
same_notes t first gone said size n w f (r ∷ rs) =
    ap (λ (full : Bool). (if full then Refused n r else Entered n r w) ∷ entry_notes t gone size n w rs) (full_same t first gone said f size r)
    ∙ ap (λ (ns : List Note). note_at t first said size n w r ∷ ns) (same_notes t first gone said size n w f rs)

-- before anything was noted they stand as they stood
pub follows_itself : (first : Text → List Entry) → Follows first [] first
follows_itself first = record { held = λ q e i idle. i; ready = λ q. let e : count_by (is_said_into q) [] ≡ 0 = refl in omega (arith, e); bytes = λ q. let e : bytes_into q [] ≡ 0 = refl in omega (arith, e) }

-- these notes are of a rejection, behind which the queues stand so
record IsRejection (t : Topology) (first : Text → List Entry) (said : List Said) (notes : List Note) (new : Text → List Entry) : Type 0 where
  of : Rejection t first
  noted_so : notes ≡ rejection_notes t first said of
  follows : Follows first (said ++ with_sizes (body_bytes of.entry) notes) new

module _ (t : Topology) (distinct : AreDistinct (queue_names t.queues)) (c h : ℕ) (first old : Text → List Entry) (said : List Said) (o : Outstanding) (e : Entry) (there : IsIn e (first o.queue)) (f : Follows first said (without_given c h old o)) where
  abbrev gone : Text → List Entry
  gone = without_given c h old o

  -- notes beside the size of this message
  abbrev own : List Note → List Said
  own notes = with_sizes (body_bytes e) notes

  -- behind these notes
  counted : (q : Text) (notes rest : List Note) → notes ≡ Left e.message.number o.queue Rejected ∷ rest → count_by (is_said_into q) (said ++ own notes) ≡ count_by (is_said_into q) said + count_by (is_said_into q) (own rest)
  counted q notes rest is =
      ap (λ (ns : List Note). count_by (is_said_into q) (said ++ own ns)) is
      ∙ count-append (is_said_into q) said (own (Left e.message.number o.queue Rejected ∷ rest))
      ∙ ap (λ (k : ℕ). count_by (is_said_into q) said + k) (count-cons_no (is_said_into q) (with_size (body_bytes e) (Left e.message.number o.queue Rejected)) (own rest) refl)

  weighed : (q : Text) (notes rest : List Note) → notes ≡ Left e.message.number o.queue Rejected ∷ rest → bytes_into q (said ++ own notes) ≡ bytes_into q said + bytes_into q (own rest)
  weighed q notes rest is =
      ap (λ (ns : List Note). bytes_into q (said ++ own ns)) is
      ∙ bytes-append q said (own (Left e.message.number o.queue Rejected ∷ rest))

  -- it leaves, and nothing comes
  leaves : (notes rest : List Note) (new : Text → List Entry) → notes ≡ Left e.message.number o.queue Rejected ∷ rest → (rest ≡ []) × ((q : Text) → new q ≡ gone q) → Picks (DiesInto t o.queue e.message.key) (queue_names t.queues) [] → IsRejection t first said notes new
  leaves notes rest new is d routed = record {
    of = record { queue = o.queue; entry = e; stood = there; targets = []; routed = routed };
    noted_so = is ∙ ap (λ (ns : List Note). Left e.message.number o.queue Rejected ∷ ns) d.0;
    follows = record {
      held = λ q x i idle. f.held q x (subst (IsIn x) (d.1 q) i) idle;
      ready = λ q.
          let now : count_by is_ready (new q) ≡ count_by is_ready (gone q) = ap (count_by is_ready) (d.1 q) in
          let was = f.ready q in
          let more = counted q notes rest is in
          let none_more : count_by (is_said_into q) (own rest) ≡ 0 = ap (λ (ns : List Note). count_by (is_said_into q) (own ns)) d.0 in
          omega (arith, now, was, more, none_more);
      bytes = λ q.
          let now : ready_bytes (new q) ≡ ready_bytes (gone q) = ap ready_bytes (d.1 q) in
          let was = f.bytes q in
          let more = weighed q notes rest is in
          let none_more : bytes_into q (own rest) ≡ 0 = ap (λ (ns : List Note). bytes_into q (own ns)) d.0 in
          omega (arith, now, was, more, none_more);
    };
  }

  -- it leaves, and its letter comes
  dies : (notes rest : List Note) (new : Text → List Entry) (p : DeclaredQueue) (exchange : Text) → notes ≡ Left e.message.number o.queue Rejected ∷ rest → queue_named t.queues o.queue ≡ Some p → p.dead_letter_exchange ≡ Some exchange
      → IsDeath t p exchange gone e.message rest new → IsRejection t first said notes new
  dies notes rest new p exchange is found dead d = record {
    of = record { queue = o.queue; entry = e; stood = there; targets = d.targets; routed = picks_on t distinct o.queue e.message.key p exchange d.targets found dead d.routed };
    noted_so = is ∙ ap (λ (ns : List Note). Left e.message.number o.queue Rejected ∷ ns) (d.noted ∙ same_notes t first gone said (length e.message.content.body) e.message.number way.Dead f d.targets);
    follows = record {
      held = λ q x i idle. elim (in-append x (gone q) _ (subst (IsIn x) (d.left q) i)) [
        | inl j ↦ f.held q x j idle
        | inr j ↦ absurd (false≢true (sym idle ∙ came_idle t gone _ q d.targets x j))
      ];
      ready = λ q.
          let letter = dead_letter e.message exchange (key_after p.dead_letter_key e.message.key) (with_headers e.message.content d.headers) in
          let now : count_by is_ready (new q) ≡ count_by is_ready (gone q) + count_by is_ready (comes_to t gone letter q d.targets) = ap (count_by is_ready) (d.left q) ∙ count-append is_ready (gone q) _ in
          let came : count_by is_ready (comes_to t gone letter q d.targets) ≡ count_by (is_said_into q) (own rest) = came_ready t gone letter e.message.number q d.targets ∙ ap (λ (ns : List Note). count_by (is_said_into q) (own ns)) (sym d.noted) in
          let was = f.ready q in
          let more = counted q notes rest is in
          omega (arith, now, came, was, more);
      bytes = λ q.
          let letter = dead_letter e.message exchange (key_after p.dead_letter_key e.message.key) (with_headers e.message.content d.headers) in
          let now : ready_bytes (new q) ≡ ready_bytes (gone q) + ready_bytes (comes_to t gone letter q d.targets) = ap ready_bytes (d.left q) ∙ ready-append (gone q) (comes_to t gone letter q d.targets) in
          let came : ready_bytes (comes_to t gone letter q d.targets) ≡ bytes_into q (own rest) = came_bytes t gone letter e.message.number q d.targets ∙ ap (λ (ns : List Note). bytes_into q (own ns)) (sym d.noted) in
          let was = f.bytes q in
          let more = weighed q notes rest is in
          omega (arith, now, came, was, more);
    };
  }

  one_rejection : (notes rest : List Note) (new : Text → List Entry) → notes ≡ Left e.message.number o.queue Rejected ∷ rest → DiesIn t gone e.message rest new (queue_named t.queues o.queue) → IsRejection t first said notes new
  one_rejection notes rest new is = by (queue_named t.queues o.queue) refl
    where
      through : (p : DeclaredQueue) (x : Option Text) → queue_named t.queues o.queue ≡ Some p → p.dead_letter_exchange ≡ x → DiesBy t p gone e.message rest new x → IsRejection t first said notes new
      through p None found plain d = leaves notes rest new is d (none_without_exchange t distinct o.queue e.message.key p found plain)
      through p (Some exchange) found dead d = dies notes rest new p exchange is found dead d

      by : (q : Option DeclaredQueue) → queue_named t.queues o.queue ≡ q → DiesIn t gone e.message rest new q → IsRejection t first said notes new
      by None found d = leaves notes rest new is d (none_without_queue t distinct o.queue e.message.key found)
      by (Some p) found d = through p p.dead_letter_exchange found refl d

-- ---- all of them

rejections_from : (t : Topology) → AreDistinct (queue_names t.queues) → (c h : ℕ) (first : Text → List Entry) (os : List Outstanding) (old : Text → List Entry) (said : List Said) (notes : List Note) (new : Text → List Entry) → Follows first said old
    → AreRejected t c h os old notes new → AreRejections t first said notes
rejections_from t distinct c h first [] old said notes new f (none_noted, same) = subst (AreRejections t first said) (sym none_noted) no_rejection
rejections_from t distinct c h first (o ∷ os) old said notes new f (mid, one, rest, may, all, more) = go (λ known g. rejections_from t distinct c h first os mid known rest new g more) (given_in c h old o) refl may
  where
    go : ((known : List Said) → Follows first known mid → AreRejections t first known rest) → (found : Option Entry) → given_in c h old o ≡ found → MayDie t o.queue (without_given c h old o) one mid found → AreRejections t first said notes
    go others None is (none_noted, same) =
        let shorter : notes ≡ rest = all ∙ ap (λ (ns : List Note). ns ++ rest) none_noted in
        subst (AreRejections t first said) (sym shorter) (others said (same_follows first (without_given c h old o) mid said (gone_follows c h first old said o f) same))
    go others (Some e) is (left, noted_left, dies_so) =
        let at = find_in (is_held_as (holder_of c h o)) e (old o.queue) is in
        let there : IsIn e (first o.queue) = f.held o.queue e at.0 (idle_if_held (holder_of c h o) e at.1) in
        let r = one_rejection t distinct c h first old said o e there (gone_follows c h first old said o f) one left mid noted_left dies_so in
        let after : AreRejections t first (said ++ with_sizes (body_bytes r.of.entry) (rejection_notes t first said r.of)) rest =
        subst (λ (ns : List Note). AreRejections t first (said ++ with_sizes (body_bytes r.of.entry) ns) rest) r.noted_so (others (said ++ with_sizes (body_bytes r.of.entry) one) r.follows) in
        subst (AreRejections t first said) (sym (all ∙ ap (λ (ns : List Note). ns ++ rest) r.noted_so)) (next r.of after)

-- What is noted of messages that are rejected tells of each where its dead letter came.
pub are_rejections : (t : Topology) → AreDistinct (queue_names t.queues) → (c h : ℕ) (os : List Outstanding) (old : Text → List Entry) (notes : List Note) (new : Text → List Entry) → AreRejected t c h os old notes new → AreRejections t old [] notes
are_rejections t distinct c h os old notes new a = rejections_from t distinct c h old os old [] notes new (follows_itself old) a

-- ---- none comes twice

other_note : (n : ℕ) (q : Text) (note : Note) → IsOfNoRejection note → is_dead_into n q note ≡ false
other_note n q (Entered m r way.Dead) o = absurd o
other_note n q (Entered m r way.Publish) o = refl
other_note n q _ o = refl

-- a dead letter enters no queue oftener than it goes on to it
letters_most : (t : Topology) (first : Text → List Entry) (said : List Said) (size k n : ℕ) (q : Text) (rs : List Text)
    → count_by (is_dead_into n q) (map (note_at t first said size k way.Dead) rs) ≤ count_by (same_as q) rs
letters_most t first said size k n q [] = omega arith
letters_most t first said size k n q (r ∷ rs) = go (letters_most t first said size k n q rs) (is_full_after t first said r size) (same_as q r) refl
  where
    notes : List Note
    notes = map (note_at t first said size k way.Dead) rs

    at_most : (b : Bool) → cond b 1 0 ≤ 1
    at_most true = omega arith
    at_most false = omega arith

    go : count_by (is_dead_into n q) notes ≤ count_by (same_as q) rs → (full same : Bool) → same_as q r ≡ same
        → count_by (is_dead_into n q) ((if full then Refused k r else Entered k r way.Dead) ∷ notes) ≤ count_by (same_as q) (r ∷ rs)
    go more true same s = let one = count-cons_no (is_dead_into n q) (Refused k r) notes refl in let all = count-cons (same_as q) r rs in omega (arith, one, all, more)
    go more false true s =
        let one = count-cons (is_dead_into n q) (Entered k r way.Dead) notes in
        let all = count-cons_yes (same_as q) r rs s in
        let once : cond (is_dead_into n q (Entered k r way.Dead)) 1 0 ≤ 1 = at_most (is_dead_into n q (Entered k r way.Dead)) in
        omega (arith, one, all, once, more)
    go more false false s =
        let no : is_dead_into n q (Entered k r way.Dead) ≡ false = ap (λ (b : Bool). eqb k n && b) s ∙ and-false (eqb k n) in
        let one = count-cons_no (is_dead_into n q) (Entered k r way.Dead) notes no in
        let all = count-cons_no (same_as q) r rs s in
        omega (arith, one, all, more)

-- those of another message are none of this one
others_none : (t : Topology) (first : Text → List Entry) (said : List Said) (size k n : ℕ) (q : Text) (rs : List Text) → eqb k n ≡ false → count_by (is_dead_into n q) (map (note_at t first said size k way.Dead) rs) ≡ 0
others_none t first said size k n q [] ne = refl
others_none t first said size k n q (r ∷ rs) ne = go (is_full_after t first said r size) (others_none t first said size k n q rs ne)
  where
    notes : List Note
    notes = map (note_at t first said size k way.Dead) rs

    go : (full : Bool) → count_by (is_dead_into n q) notes ≡ 0 → count_by (is_dead_into n q) ((if full then Refused k r else Entered k r way.Dead) ∷ notes) ≡ 0
    go true more = count-cons_no (is_dead_into n q) (Refused k r) notes refl ∙ more
    go false more = count-cons_no (is_dead_into n q) (Entered k r way.Dead) notes (ap (λ (b : Bool). b && bytes_eq r q) ne) ∙ more

-- a rejection makes one letter at most for a queue
rejection_once : (t : Topology) (first : Text → List Entry) (said : List Said) (r : Rejection t first) → AreDistinct (queue_names t.queues) → (n : ℕ) (q : Text)
    → count_by (is_dead_into n q) (rejection_notes t first said r) ≤ count_by (is_rejected n) (rejection_notes t first said r)
rejection_once t first said r distinct n q = go (eqb r.entry.message.number n) refl
  where
    note : Note
    note = Left r.entry.message.number r.queue Rejected

    rest : List Note
    rest = map (note_at t first said (body_bytes r.entry) r.entry.message.number way.Dead) r.targets

    letters : count_by (is_dead_into n q) (note ∷ rest) ≡ count_by (is_dead_into n q) rest
    letters = count-cons_no (is_dead_into n q) note rest refl

    go : (own : Bool) → eqb r.entry.message.number n ≡ own → count_by (is_dead_into n q) (note ∷ rest) ≤ count_by (is_rejected n) (note ∷ rest)
    go true own =
        let most = letters_most t first said (body_bytes r.entry) r.entry.message.number n q r.targets in
        let once = count_most q r.routed distinct in
        let left = count-cons_yes (is_rejected n) note rest own in
        omega (arith, letters, most, once, left)
    go false own =
        let no = others_none t first said (body_bytes r.entry) r.entry.message.number n q r.targets own in
        omega (arith, letters, no)

rejections_once : (t : Topology) (first : Text → List Entry) (said : List Said) (notes : List Note) → AreDistinct (queue_names t.queues) → AreRejections t first said notes → (n : ℕ) (q : Text) → count_by (is_dead_into n q) notes ≤ count_by (is_rejected n) notes
rejections_once t first said notes distinct no_rejection n q = omega arith
rejections_once t first said notes distinct (next {rest = rest} r more) n q =
    let one = rejection_once t first said r distinct n q in
    let after = rejections_once t first _ rest distinct more n q in
    let letters = count-append (is_dead_into n q) (rejection_notes t first said r) rest in
    let left = count-append (is_rejected n) (rejection_notes t first said r) rest in
    omega (arith, one, after, letters, left)

-- Where what is noted is of rejections alone, or of none, no rejection made two letters in one queue.
pub letters_once : (t : Topology) (first : Text → List Entry) (notes : List Note) → AreDistinct (queue_names t.queues) → AreRejections t first [] notes ⊎ AllByRecursion IsOfNoRejection notes
    → (n : ℕ) (q : Text) → count_by (is_dead_into n q) notes ≤ count_by (is_rejected n) notes
letters_once t first notes distinct (inl r) n q = rejections_once t first [] notes distinct r n q
letters_once t first notes distinct (inr others) n q = let no = count_none (is_dead_into n q) notes (all_each _ _ (other_note n q) notes others) in omega (arith, no)

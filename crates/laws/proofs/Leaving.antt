-- What leaves a queue by its notes, and what stays: for messages given out, settled and purged.
use Rattle.laws.proofs.Names.{◌≡◌, ℕ, List, [], ◌∷◌, Bool, true, false, cond, eqb, refl, sym, ap, subst, ◌∙◌, arith, None, inl, inr, count_by, find, ◌==◌, ◌&&◌, AllByRecursion, bytes_eq, bytes_eq-Decides, same_Some, false≢true, Text, IsIn, Outstanding, is_ready, is_under, is_held_as, freed, change_first, without_first, is_refused, settled, with_queue, holder_of, given_in, without_given, left_note, AreLeft, AreReturned, purge_notes, has_number, is_left, Message, Holder, Mark, Ready, Held, Entry, Cause, Rejected, Purged, Note, Left}
use Rattle.std.proofs.Common.{◌+◌, filter, not, Option, Some}
use Rattle.std.specs.Prelude.{if◌then◌else◌}
use Rattle.model.specs.Settling.{takes}
use Rattle.laws.proofs.Counts.{count-append, count-cons, count-map, all-append}

-- ---- notes of leavings

-- not by a rejection
abbrev pub is_plain : Cause → Bool
is_plain Rejected = false
is_plain cause = true

-- the note says that a message left a queue, and not by a rejection
abbrev pub is_leaving : Note → Bool
is_leaving (Left n q cause) = is_plain cause
is_leaving note = false

-- what the notes say of leavings is so
abbrev pub OfLeft : (ℕ → Text → Cause → Type 0) → Note → Type 0
OfLeft P (Left n q cause) = P n q cause
OfLeft P note = Unit {0}

-- 1 where the note counts
abbrev pub one_for : Bool → ℕ
one_for b = cond b 1 0

-- ---- one queue changed

-- what is true of the changed queue and of all others is true of each
pub at_queue : (P : Text → List Entry → Type 0) (queues : Text → List Entry) (name : Text) (entries : List Entry) → P name entries → ((q : Text) → bytes_eq name q ≡ false → P q (queues q)) → (q : Text) → P q (with_queue queues name entries q)
at_queue P queues name entries here others q = go (bytes_eq name q) refl
  where
    go : (v : Bool) → bytes_eq name q ≡ v → P q (cond v entries (queues q))
    go true e = subst (λ (z : Text). P z entries) ((bytes_eq-Decides name q).0 e) here
    go false e = others q e

-- ---- lists of entries

pub find_in : {A : Type 0} (p : A → Bool) (x : A) (xs : List A) → find p xs ≡ Some x → IsIn x xs × (p x ≡ true)
find_in p x [] e = absurd (false≢true (ap Rattle.std.specs.Prelude.is_some e))
find_in {A = A} p x (y ∷ ys) e = go (p y) refl (find_in p x ys) e
  where
    go : (v : Bool) → p y ≡ v → (find p ys ≡ Some x → IsIn x ys × (p x ≡ true)) → cond v (Some y) (find p ys) ≡ Some x → IsIn x (y ∷ ys) × (p x ≡ true)
    go true q more e = (inl (sym (same_Some y x e)), subst (λ (z : A). p z ≡ true) (same_Some y x e) q)
    go false q more e = (inr (more e).0, (more e).1)

-- without the first that passes one fewer is counted, if it counts
pub count_without : {A : Type 0} (f p : A → Bool) (x : A) (xs : List A) → find p xs ≡ Some x → count_by f xs ≡ one_for (f x) + count_by f (without_first p xs)
count_without f p x [] e = absurd (false≢true (ap Rattle.std.specs.Prelude.is_some e))
count_without {A = A} f p x (y ∷ ys) e = go (p y) (count_without f p x ys) e
  where
    go : (v : Bool) → (find p ys ≡ Some x → count_by f ys ≡ one_for (f x) + count_by f (without_first p ys)) → cond v (Some y) (find p ys) ≡ Some x → count_by f (y ∷ ys) ≡ one_for (f x) + count_by f (cond v ys (y ∷ without_first p ys))
    go true more e = count-cons f y ys ∙ ap (λ (z : A). one_for (f z) + count_by f ys) (same_Some y x e)
    go false more e =
        let rest = more e in
        let one = count-cons f y ys in
        let two = count-cons f y (without_first p ys) in
        omega (arith, rest, one, two)

-- where none passes nothing is taken out
pub none_without : {A : Type 0} (p : A → Bool) (xs : List A) → find p xs ≡ None → without_first p xs ≡ xs
none_without p [] e = refl
none_without {A = A} p (y ∷ ys) e = go (p y) (none_without p ys) e
  where
    go : (v : Bool) → (find p ys ≡ None → without_first p ys ≡ ys) → cond v (Some y) (find p ys) ≡ None → cond v ys (y ∷ without_first p ys) ≡ y ∷ ys
    go true more e = absurd (false≢true (sym (ap Rattle.std.specs.Prelude.is_some e)))
    go false more e = ap (λ (zs : List A). y ∷ zs) (more e)

pub in_without : {A : Type 0} (p : A → Bool) (x : A) (xs : List A) → IsIn x (without_first p xs) → IsIn x xs
in_without p x [] i = i
in_without p x (y ∷ ys) i = go (p y) (in_without p x ys) i
  where
    go : (v : Bool) → (IsIn x (without_first p ys) → IsIn x ys) → IsIn x (cond v ys (y ∷ without_first p ys)) → IsIn x (y ∷ ys)
    go true more i = inr i
    go false more (inl e) = inl e
    go false more (inr i) = inr (more i)

-- a change of the first that passes keeps a count that the change keeps
pub count_change : {A : Type 0} (f p : A → Bool) (g : A → A) → ((x : A) → f (g x) ≡ f x) → (xs : List A) → count_by f (change_first p g xs) ≡ count_by f xs
count_change f p g same [] = refl
count_change f p g same (y ∷ ys) = go (p y) (count_change f p g same ys)
  where
    go : (v : Bool) → count_by f (change_first p g ys) ≡ count_by f ys → count_by f (cond v (g y ∷ ys) (y ∷ change_first p g ys)) ≡ count_by f (y ∷ ys)
    go true more = count-cons f (g y) ys ∙ ap (λ (b : Bool). one_for b + count_by f ys) (same y) ∙ sym (count-cons f y ys)
    go false more = count-cons f y (change_first p g ys) ∙ ap (λ (k : ℕ). one_for (f y) + k) more ∙ sym (count-cons f y ys)

-- those that pass and those that don't are all
count_split : {A : Type 0} (f p : A → Bool) (xs : List A) → count_by f xs ≡ count_by f (filter p xs) + count_by f (filter (λ x. not (p x)) xs)
count_split f p [] = refl
count_split f p (y ∷ ys) = go (p y) (count_split f p ys)
  where
    go : (v : Bool) → count_by f ys ≡ count_by f (filter p ys) + count_by f (filter (λ x. not (p x)) ys) → count_by f (y ∷ ys) ≡ count_by f (cond v (y ∷ filter p ys) (filter p ys)) + count_by f (cond (not v) (y ∷ filter (λ x. not (p x)) ys) (filter (λ x. not (p x)) ys))
    go true r =
        let one = count-cons f y ys in
        let two = count-cons f y (filter p ys) in
        omega (arith, one, two, r)
    go false r =
        let one = count-cons f y ys in
        let two = count-cons f y (filter (λ x. not (p x)) ys) in
        omega (arith, one, two, r)

pub in_filter : {A : Type 0} (p : A → Bool) (x : A) (xs : List A) → IsIn x (filter p xs) → IsIn x xs × (p x ≡ true)
in_filter p x [] i = absurd i
in_filter {A = A} p x (y ∷ ys) i = go (p y) refl (in_filter p x ys) i
  where
    go : (v : Bool) → p y ≡ v → (IsIn x (filter p ys) → IsIn x ys × (p x ≡ true)) → IsIn x (cond v (y ∷ filter p ys) (filter p ys)) → IsIn x (y ∷ ys) × (p x ≡ true)
    go true q more (inl e) = (inl e, subst (λ (z : A). p z ≡ true) (sym e) q)
    go true q more (inr i) = (inr (more i).0, (more i).1)
    go false q more i = (inr (more i).0, (more i).1)

-- ---- numbers stay

pub freed_number : (n : ℕ) (mine : Holder → Bool) (e : Entry) → has_number n (freed mine e) ≡ has_number n e
freed_number n mine e = go e.message e.mark
  where
    go : (m : Message) (k : Mark) → has_number n (freed mine (record { message = m; mark = k })) ≡ eqb m.number n
    go m Ready = refl
    go m (Held holder) = elim (mine holder) as (λ v. has_number n (if v then record { message = record m { redelivered = true }; mark = Ready } else record { message = m; mark = Held holder }) ≡ eqb m.number n) [ true ↦ refl | false ↦ refl ]

-- ---- one message leaves one queue

-- what the note of a leaving counts, of this number and this queue
left_one : (n m : ℕ) (q r : Text) (cause : Cause) → count_by (is_left n q) (Left m r cause ∷ []) ≡ one_for ((m == n) && bytes_eq r q)
left_one n m q r cause = let e = count-cons (is_left n q) (Left m r cause) [] in omega (arith, e)

-- nothing is counted for another queue
and_false : (a b : Bool) → b ≡ false → (a && b) ≡ false
and_false true b e = e
and_false false b e = refl

and_true : (a b : Bool) → b ≡ true → (a && b) ≡ a
and_true true b e = e
and_true false b e = refl

-- this queue's count, where the queue of the note is this one or another
abbrev Balanced : ℕ → List Note → List Entry → Text → List Entry → Type 0
Balanced n notes old q new = count_by (has_number n) old ≡ count_by (is_left n q) notes + count_by (has_number n) new

self_eq : (q : Text) → bytes_eq q q ≡ true
self_eq q = (bytes_eq-Decides q q).1 refl

-- the first that passes left
pub taken_balances : (p : Entry → Bool) (queues : Text → List Entry) (name : Text) (cause : Cause) (e : Entry) → find p (queues name) ≡ Some e
    → (n : ℕ) (q : Text) → Balanced n (Left e.message.number name cause ∷ []) (queues q) q (with_queue queues name (without_first p (queues name)) q)
taken_balances p queues name cause e found n = at_queue (λ (q : Text) (new : List Entry). Balanced n (Left e.message.number name cause ∷ []) (queues q) q new) queues name (without_first p (queues name)) here others
  where
    here : Balanced n (Left e.message.number name cause ∷ []) (queues name) name (without_first p (queues name))
    here =
        let one : count_by (is_left n name) (Left e.message.number name cause ∷ []) ≡ one_for (has_number n e) = left_one n e.message.number name name cause ∙ ap one_for (and_true (e.message.number == n) (bytes_eq name name) (self_eq name)) in
        let less = count_without (has_number n) p e (queues name) found in
        omega (arith, one, less)

    others : (q : Text) → bytes_eq name q ≡ false → Balanced n (Left e.message.number name cause ∷ []) (queues q) q (queues q)
    others q other =
        let none : count_by (is_left n q) (Left e.message.number name cause ∷ []) ≡ 0 = left_one n e.message.number q name cause ∙ ap one_for (and_false (e.message.number == n) (bytes_eq name q) other) in
        omega (arith, none)

-- ---- settled deliveries leave

-- without a note nothing is counted
none_counted : (n : ℕ) (q : Text) (x y : ℕ) → x ≡ y → x ≡ count_by (is_left n q) [] + y
none_counted n q x y e = let z : count_by (is_left n q) [] ≡ 0 = refl in omega (arith, z, e)

-- one of them, with the note of it
pub given_balances : (cause : Cause) (c h : ℕ) (queues : Text → List Entry) (o : Outstanding) (found : Option Entry) → given_in c h queues o ≡ found
    → (n : ℕ) (q : Text) → Balanced n (left_note cause o.queue found) (queues q) q (without_given c h queues o q)
given_balances cause c h queues o (Some e) is n q = taken_balances (is_held_as (holder_of c h o)) queues o.queue cause e is n q
given_balances cause c h queues o None is n q = at_queue (λ (q : Text) (new : List Entry). Balanced n [] (queues q) q new) queues o.queue _ (none_counted n o.queue _ _ (ap (count_by (has_number n)) (sym (none_without _ (queues o.queue) is)))) (λ q other. none_counted n q _ _ refl) q

pub left_balances : (cause : Cause) (c h : ℕ) (os : List Outstanding) (old : Text → List Entry) (notes : List Note) (new : Text → List Entry) → AreLeft cause c h os old notes new
    → (n : ℕ) (q : Text) → Balanced n notes (old q) q (new q)
left_balances cause c h [] old notes new (none, same) n q =
    let z : count_by (is_left n q) notes ≡ 0 = ap (count_by (is_left n q)) none in
    let s : count_by (has_number n) (new q) ≡ count_by (has_number n) (old q) = ap (count_by (has_number n)) (same q) in
    omega (arith, z, s)
left_balances cause c h (o ∷ os) old notes new (mid, rest, is, all, more) n q =
    let first = given_balances cause c h old o (given_in c h old o) refl n q in
    let step : count_by (has_number n) (mid q) ≡ count_by (has_number n) (without_given c h old o q) = ap (count_by (has_number n)) (is q) in
    let after = left_balances cause c h os mid rest new more n q in
    let split : count_by (is_left n q) notes ≡ count_by (is_left n q) (left_note cause o.queue (given_in c h old o)) + count_by (is_left n q) rest = ap (count_by (is_left n q)) all ∙ count-append (is_left n q) (left_note cause o.queue (given_in c h old o)) rest in
    omega (arith, first, step, after, split)

-- each note is of a leaving
left_leaving : (cause : Cause) → is_plain cause ≡ true → (q : Text) (o : Option Entry) → AllByRecursion (λ (note : Note). is_leaving note ≡ true) (left_note cause q o)
left_leaving cause plain q None = tt
left_leaving cause plain q (Some e) = (plain, tt)

pub are_leaving : (cause : Cause) → is_plain cause ≡ true → (c h : ℕ) (os : List Outstanding) (old : Text → List Entry) (notes : List Note) (new : Text → List Entry) → AreLeft cause c h os old notes new
    → AllByRecursion (λ (note : Note). is_leaving note ≡ true) notes
are_leaving cause plain c h [] old notes new (none, same) = subst (AllByRecursion (λ (note : Note). is_leaving note ≡ true)) (sym none) tt
are_leaving cause plain c h (o ∷ os) old notes new (mid, rest, is, all, more) =
    subst (AllByRecursion (λ (note : Note). is_leaving note ≡ true)) (sym all) (all-append _ (left_note cause o.queue (given_in c h old o)) rest (left_leaving cause plain o.queue (given_in c h old o)) (are_leaving cause plain c h os mid rest new more))

-- what is in the queues without it was in them before
pub in_rest : (c h : ℕ) (queues : Text → List Entry) (o : Outstanding) (e : Entry) (q : Text) → IsIn e (without_given c h queues o q) → IsIn e (queues q)
in_rest c h queues o e = at_queue (λ (q : Text) (new : List Entry). IsIn e new → IsIn e (queues q)) queues o.queue _ (in_without _ e (queues o.queue)) (λ q other i. i)

-- and of each the cause is known, if it is of each of these deliveries that stands in its queue
pub left_causes : (P : ℕ → Text → Cause → Type 0) (cause : Cause) (c h : ℕ) (os : List Outstanding) (old : Text → List Entry) (notes : List Note) (new : Text → List Entry) → AreLeft cause c h os old notes new
    → ((o : Outstanding) (e : Entry) → IsIn o os → IsIn e (old o.queue) → is_held_as (holder_of c h o) e ≡ true → P e.message.number o.queue cause)
    → AllByRecursion (OfLeft P) notes
left_causes P cause c h [] old notes new (none, same) each = subst (AllByRecursion (OfLeft P)) (sym none) tt
left_causes P cause c h (o ∷ os) old notes new (mid, rest, is, all, more) each =
    subst (AllByRecursion (OfLeft P)) (sym all) (all-append (OfLeft P) (left_note cause o.queue (given_in c h old o)) rest (one (given_in c h old o) refl) (left_causes P cause c h os mid rest new more later))
  where
    one : (found : Option Entry) → given_in c h old o ≡ found → AllByRecursion (OfLeft P) (left_note cause o.queue found)
    one None e = tt
    one (Some entry) e = let at = find_in (is_held_as (holder_of c h o)) entry (old o.queue) e in (each o entry (inl refl) at.0 at.1, tt)

    later : (p : Outstanding) (e : Entry) → IsIn p os → IsIn e (mid p.queue) → is_held_as (holder_of c h p) e ≡ true → P e.message.number p.queue cause
    later p e i there held = each p e (inr i) (in_rest c h old o e p.queue (subst (IsIn e) (is p.queue) there)) held

-- ---- settled deliveries are ready again

pub returned_counts : (c h : ℕ) (os : List Outstanding) (old new : Text → List Entry) → AreReturned c h os old new → (n : ℕ) (q : Text) → count_by (has_number n) (new q) ≡ count_by (has_number n) (old q)
returned_counts c h [] old new same n q = ap (count_by (has_number n)) (same q)
returned_counts c h (o ∷ os) old new (mid, is, more) n q =
    returned_counts c h os mid new more n q ∙ ap (count_by (has_number n)) (is q)
    ∙ at_queue (λ (r : Text) (entries : List Entry). count_by (has_number n) entries ≡ count_by (has_number n) (old r)) old o.queue _ (count-map (has_number n) _ (freed_number n (is_under (holder_of c h o))) (old o.queue)) (λ r other. refl) q

-- ---- what a tag settles

pub settled_are : {X : Type 0} (tag_of : X → ℕ) (tag : ℕ) (multiple : Bool) (given gone : List X) → settled tag_of tag multiple given ≡ Some gone → (x : X) → IsIn x gone → IsIn x given × (takes tag_of tag multiple x ≡ true)
settled_are tag_of tag multiple given gone e x i = go (is_refused tag_of tag multiple given) e
  where
    go : (v : Bool) → (if v then None else Some (filter (takes tag_of tag multiple) given)) ≡ Some gone → IsIn x given × (takes tag_of tag multiple x ≡ true)
    go true e = absurd (false≢true (ap Rattle.std.specs.Prelude.is_some e))
    go false e = in_filter (takes tag_of tag multiple) x given (subst (IsIn x) (sym (same_Some _ gone e)) i)

-- ---- a purge

purged_here : (n : ℕ) (name q : Text) (es : List Entry) (same : Bool) → bytes_eq name q ≡ same → count_by (is_left n q) (purge_notes name es) ≡ cond same (count_by (has_number n) es) 0
purged_here n name q [] true e = refl
purged_here n name q [] false e = refl
purged_here n name q (x ∷ xs) true e =
    let one = count-cons (is_left n q) (Left x.message.number name Purged) (purge_notes name xs) in
    let two = count-cons (has_number n) x xs in
    let rest = purged_here n name q xs true e in
    let eq : one_for ((x.message.number == n) && bytes_eq name q) ≡ one_for (has_number n x) = ap one_for (and_true (x.message.number == n) (bytes_eq name q) e) in
    omega (arith, one, two, rest, eq)
purged_here n name q (x ∷ xs) false e =
    let one = count-cons (is_left n q) (Left x.message.number name Purged) (purge_notes name xs) in
    let rest = purged_here n name q xs false e in
    let eq : one_for ((x.message.number == n) && bytes_eq name q) ≡ 0 = ap one_for (and_false (x.message.number == n) (bytes_eq name q) e) in
    omega (arith, one, rest, eq)

pub purge_balances : (queues : Text → List Entry) (name : Text) (n : ℕ) (q : Text)
    → Balanced n (purge_notes name (filter is_ready (queues name))) (queues q) q (with_queue queues name (filter (λ e. not (is_ready e)) (queues name)) q)
purge_balances queues name n = at_queue (λ (q : Text) (new : List Entry). Balanced n (purge_notes name (filter is_ready (queues name))) (queues q) q new) queues name _ here others
  where
    here : Balanced n (purge_notes name (filter is_ready (queues name))) (queues name) name (filter (λ e. not (is_ready e)) (queues name))
    here =
        let noted = purged_here n name name (filter is_ready (queues name)) true (self_eq name) in
        let split = count_split (has_number n) is_ready (queues name) in
        omega (arith, noted, split)

    others : (q : Text) → bytes_eq name q ≡ false → Balanced n (purge_notes name (filter is_ready (queues name))) (queues q) q (queues q)
    others q other = let none = purged_here n name q (filter is_ready (queues name)) false other in omega (arith, none)

pub purge_leaving : (name : Text) (es : List Entry) → AllByRecursion (λ (note : Note). is_leaving note ≡ true) (purge_notes name es)
purge_leaving name [] = tt
purge_leaving name (e ∷ es) = (refl, purge_leaving name es)

pub purge_causes : (P : ℕ → Text → Cause → Type 0) (name : Text) (queue es : List Entry) → ((e : Entry) → IsIn e es → IsIn e (filter is_ready queue))
    → ((e : Entry) → IsIn e queue → is_ready e ≡ true → P e.message.number name Purged) → AllByRecursion (OfLeft P) (purge_notes name es)
purge_causes P name queue [] within each = tt
purge_causes P name queue (e ∷ es) within each =
    let at = in_filter is_ready e queue (within e (inl refl)) in
    (each e at.0 at.1, purge_causes P name queue es (λ x i. within x (inr i)) each)

-- What is held in queues is outstanding on channels, whatever the broker does.
use Rattle.laws.proofs.Names.{◌≡◌, ℕ, zero, ◌≤◌, List, [], ◌∷◌, Bool, true, false, cond, refl, sym, ap, subst, ◌∙◌, arith, inl, inr, count_by, bytes_eq, eq-eqb, false≢true, bytes_eq-Decides, Text, IsIn, Outstanding, is_under, is_held_as, freed, without_first, with_queue, holder_of, without_given, with_returned, AreLeft, AreReturned, Message, Entry, Holder, Mark, Ready, Held, Cause, Note}
use Rattle.std.proofs.Common.{map, filter}
use Rattle.std.specs.Prelude.{if◌then◌else◌}
use Rattle.laws.proofs.Counts.{count-cons, count-cons_yes}
use Rattle.laws.proofs.Leaving.{at_queue, in_without, in_filter}

-- ---- marks

pub ready_not_held : {h : Holder} (P : Type 0) → Ready ≡ Held h → P
ready_not_held P e = absurd (false≢true (ap is_held e))
  where
    is_held : Mark → Bool
    is_held Ready = false
    is_held (Held h) = true

pub same_holder : (g h : Holder) → Held g ≡ Held h → g ≡ h
same_holder g h e = ap by e
  where
    by : Mark → Holder
    by Ready = g
    by (Held k) = k

-- it is held under its own tag
pub self_under : (h : Holder) → is_under h h ≡ true
self_under h = rw (eq-eqb h.connection h.connection refl, eq-eqb h.channel h.channel refl, eq-eqb h.tag h.tag refl) refl

pub held_here : (e : Entry) (h : Holder) → e.mark ≡ Held h → is_held_as h e ≡ true
held_here e h is = subst (λ (m : Mark). is_held_as h (record { message = e.message; mark = m }) ≡ true) (sym is) (self_under h)

-- one that passes is counted
pub counted_in : {A : Type 0} (p : A → Bool) (x : A) (xs : List A) → IsIn x xs → p x ≡ true → 1 ≤ count_by p xs
counted_in p x [] i e = absurd i
counted_in p x (y ∷ ys) (inl same) e = let one = count-cons_yes p y ys (subst (λ z. p z ≡ true) same e) in omega (arith, one)
counted_in p x (y ∷ ys) (inr i) e =
    let more = count-cons p y ys in
    let rest = counted_in p x ys i e in
    omega (arith, more, rest)

-- 1 for yes, 0 for no
abbrev pub number : Bool → ℕ
number b = cond b 1 0

-- where one is counted, one passes
pub record Passes {A : Type 0} (p : A → Bool) (xs : List A) : Type 0 where
  pub one : A
  pub there : IsIn one xs
  pub passes : p one ≡ true

pub find_counted : {A : Type 0} (p : A → Bool) (xs : List A) → 1 ≤ count_by p xs → Passes p xs
find_counted p [] le = absurd (omega arith)
find_counted {A = A} p (y ∷ ys) le = go (p y) refl (find_counted p ys)
  where
    go : (v : Bool) → p y ≡ v → (1 ≤ count_by p ys → Passes p ys) → Passes p (y ∷ ys)
    go true e more = record { one = y; there = inl refl; passes = e }
    go false e more =
        let same = count-cons p y ys in
        let none : number (p y) ≡ 0 = ap number e in
        let rest = more (omega (arith, le, same, none)) in
        record { one = rest.one; there = inr rest.there; passes = rest.passes }

-- ---- fewer are held

-- a message of these is held so
pub record HeldIn (es : List Entry) (holder : Holder) : Type 0 where
  pub entry : Entry
  pub there : IsIn entry es
  pub mark : entry.mark ≡ Held holder

-- What is held in the new queues was held in the old ones, and no more under any tag.
pub record Shrinks (old new : Text → List Entry) : Type 0 where
  pub held : (q : Text) (e : Entry) (holder : Holder) → IsIn e (new q) → e.mark ≡ Held holder → HeldIn (old q) holder
  pub fewer : (q : Text) (holder : Holder) → count_by (is_held_as holder) (new q) ≤ count_by (is_held_as holder) (old q)

pub shrinks_same : (old new : Text → List Entry) → ((q : Text) → new q ≡ old q) → Shrinks old new
shrinks_same old new same = record {
  held = λ q e holder i is. record { entry = e; there = subst (IsIn e) (same q) i; mark = is };
  fewer = λ q holder. let e = ap (count_by (is_held_as holder)) (same q) in omega (arith, e);
}

pub shrinks_on : (old mid new : Text → List Entry) → Shrinks old mid → Shrinks mid new → Shrinks old new
shrinks_on old mid new a b = record {
  held = λ q e holder i is. let m = b.held q e holder i is in a.held q m.entry holder m.there m.mark;
  fewer = λ q holder. let x = a.fewer q holder in let y = b.fewer q holder in omega (arith, x, y);
}

-- ---- single lists

count_without : (f p : Entry → Bool) (xs : List Entry) → count_by f (without_first p xs) ≤ count_by f xs
count_without f p [] = omega arith
count_without f p (y ∷ ys) = go (p y) (count_without f p ys)
  where
    go : (v : Bool) → count_by f (without_first p ys) ≤ count_by f ys → count_by f (cond v ys (y ∷ without_first p ys)) ≤ count_by f (y ∷ ys)
    go true le = let one = count-cons f y ys in omega (arith, one)
    go false le =
        let one = count-cons f y ys in
        let two = count-cons f y (without_first p ys) in
        omega (arith, one, two, le)

-- without the first that passes, one fewer passes
pub count_own : (p : Entry → Bool) (xs : List Entry) → count_by p xs ≤ 1 → count_by p (without_first p xs) ≡ zero
count_own p [] le = omega arith
count_own p (y ∷ ys) le = go (p y) refl (count_own p ys)
  where
    go : (v : Bool) → p y ≡ v → (count_by p ys ≤ 1 → count_by p (without_first p ys) ≡ zero) → count_by p (cond v ys (y ∷ without_first p ys)) ≡ zero
    go true e more =
        let one = count-cons p y ys in
        let yes : number (p y) ≡ 1 = ap number e in
        omega (arith, one, yes, le)
    go false e more =
        let one = count-cons p y ys in
        let two = count-cons p y (without_first p ys) in
        let no : number (p y) ≡ 0 = ap number e in
        let rest = more (omega (arith, one, no, le)) in
        omega (arith, two, no, rest)

count_filter : (f p : Entry → Bool) (xs : List Entry) → count_by f (filter p xs) ≤ count_by f xs
count_filter f p [] = omega arith
count_filter f p (y ∷ ys) = go (p y) (count_filter f p ys)
  where
    go : (v : Bool) → count_by f (filter p ys) ≤ count_by f ys → count_by f (cond v (y ∷ filter p ys) (filter p ys)) ≤ count_by f (y ∷ ys)
    go true le =
        let one = count-cons f y ys in
        let two = count-cons f y (filter p ys) in
        omega (arith, one, two, le)
    go false le = let one = count-cons f y ys in omega (arith, one, le)

-- ---- what was held by these is ready again

-- one that is still held was held by another
freed_held : (mine : Holder → Bool) (e : Entry) (holder : Holder) → (freed mine e).mark ≡ Held holder → (e.mark ≡ Held holder) × (mine holder ≡ false)
freed_held mine e holder = go e.message e.mark
  where
    go : (m : Message) (k : Mark) → (freed mine (record { message = m; mark = k })).mark ≡ Held holder → (k ≡ Held holder) × (mine holder ≡ false)
    go m Ready is = ready_not_held _ is
    go m (Held g) is = by (mine g) refl is
      where
        made : Bool → Entry
        made v = if v then record { message = record m { redelivered = true }; mark = Ready } else record { message = m; mark = Held g }

        by : (v : Bool) → mine g ≡ v → (made v).mark ≡ Held holder → (Held g ≡ Held holder) × (mine holder ≡ false)
        by true e is = ready_not_held _ is
        by false e is = (is, subst (λ (h : Holder). mine h ≡ false) (same_holder g holder is) e)

pub in_freed : (mine : Holder → Bool) (x : Entry) (xs : List Entry) (holder : Holder) → IsIn x (map (freed mine) xs) → x.mark ≡ Held holder → HeldIn xs holder × (mine holder ≡ false)
in_freed mine x [] holder i is = absurd i
in_freed mine x (y ∷ ys) holder (inl e) is =
    let was = freed_held mine y holder (sym (ap (λ (z : Entry). z.mark) e) ∙ is) in
    (record { entry = y; there = inl refl; mark = was.0 }, was.1)
in_freed mine x (y ∷ ys) holder (inr i) is =
    let rest = in_freed mine x ys holder i is in
    (record { entry = rest.0.entry; there = inr rest.0.there; mark = rest.0.mark }, rest.1)

-- where a freed message is held under a tag, it was so before
freed_under : (mine : Holder → Bool) (holder : Holder) (e : Entry) → number (is_held_as holder (freed mine e)) ≤ number (is_held_as holder e)
freed_under mine holder e = go e.message e.mark
  where
    go : (m : Message) (k : Mark) → number (is_held_as holder (freed mine (record { message = m; mark = k }))) ≤ number (is_held_as holder (record { message = m; mark = k }))
    go m Ready = omega arith
    go m (Held g) = by (mine g)
      where
        by : (v : Bool) → number (is_held_as holder (if v then record { message = record m { redelivered = true }; mark = Ready } else record { message = m; mark = Held g })) ≤ number (is_under holder g)
        by true = omega arith
        by false = omega arith

count_freed : (mine : Holder → Bool) (holder : Holder) (xs : List Entry) → count_by (is_held_as holder) (map (freed mine) xs) ≤ count_by (is_held_as holder) xs
count_freed mine holder [] = omega arith
count_freed mine holder (y ∷ ys) =
    let one = count-cons (is_held_as holder) (freed mine y) (map (freed mine) ys) in
    let two = count-cons (is_held_as holder) y ys in
    let here = freed_under mine holder y in
    let rest = count_freed mine holder ys in
    omega (arith, one, two, here, rest)

pub shrinks_freed : (mine : Holder → Bool) (old new : Text → List Entry) → ((q : Text) → new q ≡ map (freed mine) (old q)) → Shrinks old new
shrinks_freed mine old new is = record {
  held = λ q e holder i mark. (in_freed mine e (old q) holder (subst (IsIn e) (is q) i) mark).0;
  fewer = λ q holder. let c = ap (count_by (is_held_as holder)) (is q) in let le = count_freed mine holder (old q) in omega (arith, c, le);
}

-- ---- one queue changed

shrinks_at : (old : Text → List Entry) (name : Text) (entries : List Entry)
    → ((e : Entry) (holder : Holder) → IsIn e entries → e.mark ≡ Held holder → HeldIn (old name) holder)
    → ((holder : Holder) → count_by (is_held_as holder) entries ≤ count_by (is_held_as holder) (old name))
    → Shrinks old (with_queue old name entries)
shrinks_at old name entries held fewer = record {
  held = at_queue (λ (q : Text) (es : List Entry). (e : Entry) (holder : Holder) → IsIn e es → e.mark ≡ Held holder → HeldIn (old q) holder) old name entries held (λ q other e holder i is. record { entry = e; there = i; mark = is });
  fewer = at_queue (λ (q : Text) (es : List Entry). (holder : Holder) → count_by (is_held_as holder) es ≤ count_by (is_held_as holder) (old q)) old name entries fewer (λ q other holder. omega arith);
}

pub shrinks_without : (p : Entry → Bool) (old : Text → List Entry) (name : Text) → Shrinks old (with_queue old name (without_first p (old name)))
shrinks_without p old name = shrinks_at old name (without_first p (old name)) (λ e holder i is. record { entry = e; there = in_without p e (old name) i; mark = is }) (λ holder. count_without (is_held_as holder) p (old name))

pub shrinks_filter : (p : Entry → Bool) (old : Text → List Entry) (name : Text) → Shrinks old (with_queue old name (filter p (old name)))
shrinks_filter p old name = shrinks_at old name (filter p (old name)) (λ e holder i is. record { entry = e; there = (in_filter p e (old name) i).0; mark = is }) (λ holder. count_filter (is_held_as holder) p (old name))

-- ---- settled deliveries

pub left_shrinks : (cause : Cause) (c h : ℕ) (os : List Outstanding) (old : Text → List Entry) (notes : List Note) (new : Text → List Entry) → AreLeft cause c h os old notes new → Shrinks old new
left_shrinks cause c h [] old notes new a = shrinks_same old new a.1
left_shrinks cause c h (o ∷ os) old notes new (mid, rest, is, all, more) =
    shrinks_on old mid new (shrinks_on old (without_given c h old o) mid (shrinks_without (is_held_as (holder_of c h o)) old o.queue) (shrinks_same (without_given c h old o) mid is)) (left_shrinks cause c h os mid rest new more)

pub returned_shrinks : (c h : ℕ) (os : List Outstanding) (old new : Text → List Entry) → AreReturned c h os old new → Shrinks old new
returned_shrinks c h [] old new same = shrinks_same old new same
returned_shrinks c h (o ∷ os) old new (mid, is, more) =
    shrinks_on old mid new (shrinks_on old (with_returned c h old o) mid
    (shrinks_at old o.queue _ (λ e holder i mark. (in_freed (is_under (holder_of c h o)) e (old o.queue) holder i mark).0) (λ holder. count_freed (is_under (holder_of c h o)) holder (old o.queue))) (shrinks_same (with_returned c h old o) mid is))
    (returned_shrinks c h os mid new more)

-- no two are held under one tag
abbrev pub AreDistinct : (Text → List Entry) → Type 0
AreDistinct queues = (q : Text) (holder : Holder) → count_by (is_held_as holder) (queues q) ≤ 1

pub apart_on : (old new : Text → List Entry) → Shrinks old new → AreDistinct old → AreDistinct new
apart_on old new s a q holder = let x = s.fewer q holder in let y = a q holder in omega (arith, x, y)

-- under the tag of a delivery nothing is held in its queue
abbrev pub IsClear : ℕ → ℕ → (Text → List Entry) → Outstanding → Type 0
IsClear c h queues o = count_by (is_held_as (holder_of c h o)) (queues o.queue) ≡ zero

pub clear_on : (c h : ℕ) (o : Outstanding) (old new : Text → List Entry) → Shrinks old new → IsClear c h old o → IsClear c h new o
clear_on c h o old new s z = let le = s.fewer o.queue (holder_of c h o) in omega (arith, le, z)

pub here_eq : (q : Text) → bytes_eq q q ≡ true
here_eq q = (bytes_eq-Decides q q).1 refl

pub at_own : (queues : Text → List Entry) (name : Text) (entries : List Entry) → with_queue queues name entries name ≡ entries
at_own queues name entries = ap (λ (b : Bool). cond b entries (queues name)) (here_eq name)

pub left_clear : (cause : Cause) (c h : ℕ) (os : List Outstanding) (old : Text → List Entry) (notes : List Note) (new : Text → List Entry) → AreLeft cause c h os old notes new → AreDistinct old → (o : Outstanding) → IsIn o os → IsClear c h new o
left_clear cause c h [] old notes new a distinct o i = absurd i
left_clear cause c h (p ∷ os) old notes new (mid, rest, is, all, more) distinct o (inl e) =
    clear_on c h o mid new (left_shrinks cause c h os mid rest new more)
    (subst (IsClear c h mid) (sym e) (ap (count_by (is_held_as (holder_of c h p))) (is p.queue ∙ at_own old p.queue _) ∙ count_own (is_held_as (holder_of c h p)) (old p.queue) (distinct p.queue (holder_of c h p))))
left_clear cause c h (p ∷ os) old notes new (mid, rest, is, all, more) distinct o (inr i) =
    let step : Shrinks old mid = shrinks_on old (without_given c h old p) mid (shrinks_without (is_held_as (holder_of c h p)) old p.queue) (shrinks_same (without_given c h old p) mid is) in
    left_clear cause c h os mid rest new more (apart_on old mid step distinct) o i

-- freeing all that is held under a tag leaves none under it
freed_clear : (holder : Holder) (xs : List Entry) → count_by (is_held_as holder) (map (freed (is_under holder)) xs) ≡ zero
freed_clear holder [] = omega arith
freed_clear holder (y ∷ ys) =
    let one = count-cons (is_held_as holder) (freed (is_under holder) y) (map (freed (is_under holder)) ys) in
    let here : number (is_held_as holder (freed (is_under holder) y)) ≡ 0 = go y.message y.mark in
    let rest = freed_clear holder ys in
    omega (arith, one, here, rest)
  where
    by : (m : Message) (g : Holder) (v : Bool) → is_under holder g ≡ v → number (is_held_as holder (if v then record { message = record m { redelivered = true }; mark = Ready } else record { message = m; mark = Held g })) ≡ zero
    by m g true e = omega arith
    by m g false e = ap number e

    go : (m : Message) (k : Mark) → number (is_held_as holder (freed (is_under holder) (record { message = m; mark = k }))) ≡ zero
    go m Ready = omega arith
    go m (Held g) = by m g (is_under holder g) refl

pub returned_clear : (c h : ℕ) (os : List Outstanding) (old new : Text → List Entry) → AreReturned c h os old new → (o : Outstanding) → IsIn o os → IsClear c h new o
returned_clear c h [] old new same o i = absurd i
returned_clear c h (p ∷ os) old new (mid, is, more) o (inl e) =
    clear_on c h o mid new (returned_shrinks c h os mid new more)
    (subst (IsClear c h mid) (sym e) (ap (count_by (is_held_as (holder_of c h p))) (is p.queue ∙ at_own old p.queue _) ∙ freed_clear (holder_of c h p) (old p.queue)))
returned_clear c h (p ∷ os) old new (mid, is, more) o (inr i) = returned_clear c h os mid new more o i

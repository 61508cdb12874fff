-- What is held in queues is held there still, whatever becomes of other messages.
use Rattle.laws.proofs.Names.{◌≡◌, ℕ, List, [], ◌∷◌, ◌++◌, Bool, true, false, cond, refl, sym, ap, subst, ◌∙◌, None, inl, inr, is_some, false≢true, Text, Topology, IsIn, Outstanding, is_ready, is_under, is_held_as, freed, held_as, change_first, without_first, AreLeft, AreRejected, AreReturned, holder_of, with_queue, given_in, without_given, with_returned, first_ready, after_giving, Message, Entry, Holder, Mark, Ready, Held, Cause, Note}
use Rattle.std.proofs.Common.{map, filter, not, Option, Some}
use Rattle.std.specs.Prelude.{if◌then◌else◌}
use Rattle.laws.proofs.Counts.{in-map, in_front}
use Rattle.laws.proofs.Leaving.{at_queue}
use Rattle.laws.proofs.Dying.{Goes, not_found, left_only, died, goes_by}
use Rattle.laws.proofs.Agreement.{HeldIn, same_holder}

-- ---- single entries

held_not_ready : (e : Entry) (holder : Holder) → e.mark ≡ Held holder → is_ready e ≡ false
held_not_ready e holder is = ap (λ (m : Mark). is_ready (record { message = e.message; mark = m })) is

-- who holds it tells whether it is held under a tag
held_under : (g : Holder) (e : Entry) (holder : Holder) → e.mark ≡ Held holder → is_held_as g e ≡ is_under g holder
held_under g e holder is = ap (λ (m : Mark). is_held_as g (record { message = e.message; mark = m })) is

-- what another holds is not freed
pub freed_other : (mine : Holder → Bool) (e : Entry) (holder : Holder) → e.mark ≡ Held holder → mine holder ≡ false → freed mine e ≡ e
freed_other mine e holder = go e.message e.mark
  where
    go : (m : Message) (k : Mark) → k ≡ Held holder → mine holder ≡ false → freed mine (record { message = m; mark = k }) ≡ record { message = m; mark = k }
    go m Ready is other = refl
    go m (Held g) is other =
        let no : mine g ≡ false = subst (λ (x : Holder). mine x ≡ false) (sym (same_holder g holder is)) other in
        ap (λ (v : Bool). if v then record { message = record m { redelivered = true }; mark = Ready } else record { message = m; mark = Held g }) no

-- ---- single lists

pub in_passing : {A : Type 0} (p : A → Bool) (x : A) (xs : List A) → IsIn x xs → p x ≡ true → IsIn x (filter p xs)
in_passing p x [] i e = i
in_passing p x (y ∷ ys) i e = go (p y) refl (in_passing p x ys) i
  where
    go : (v : Bool) → p y ≡ v → (IsIn x ys → p x ≡ true → IsIn x (filter p ys)) → IsIn x (y ∷ ys) → IsIn x (cond v (y ∷ filter p ys) (filter p ys))
    go true is more (inl same) = inl same
    go true is more (inr j) = inr (more j e)
    go false is more (inl same) = absurd (false≢true (sym is ∙ sym (ap p same) ∙ e))
    go false is more (inr j) = more j e

-- one that doesn't pass stays where the first that passes is taken out
in_without : (p : Entry → Bool) (x : Entry) (xs : List Entry) → IsIn x xs → p x ≡ false → IsIn x (without_first p xs)
in_without p x [] i e = i
in_without p x (y ∷ ys) i e = go (p y) refl (in_without p x ys) i
  where
    go : (v : Bool) → p y ≡ v → (IsIn x ys → p x ≡ false → IsIn x (without_first p ys)) → IsIn x (y ∷ ys) → IsIn x (cond v ys (y ∷ without_first p ys))
    go true is more (inl same) = absurd (false≢true (sym e ∙ ap p same ∙ is))
    go true is more (inr j) = j
    go false is more (inl same) = inl same
    go false is more (inr j) = inr (more j e)

-- and where it is changed
in_change : (p : Entry → Bool) (f : Entry → Entry) (x : Entry) (xs : List Entry) → IsIn x xs → p x ≡ false → IsIn x (change_first p f xs)
in_change p f x [] i e = i
in_change p f x (y ∷ ys) i e = go (p y) refl (in_change p f x ys) i
  where
    go : (v : Bool) → p y ≡ v → (IsIn x ys → p x ≡ false → IsIn x (change_first p f ys)) → IsIn x (y ∷ ys) → IsIn x (cond v (f y ∷ ys) (y ∷ change_first p f ys))
    go true is more (inl same) = absurd (false≢true (sym e ∙ ap p same ∙ is))
    go true is more (inr j) = inr j
    go false is more (inl same) = inl same
    go false is more (inr j) = inr (more j e)

-- the first ready message is held from now on
pub first_is_held : (g : Holder) (e : Entry) (es : List Entry) → first_ready es ≡ Some e → HeldIn (change_first is_ready (held_as g) es) g
first_is_held g e [] found = absurd (false≢true (ap is_some found))
first_is_held g e (y ∷ ys) found = go (is_ready y) found (first_is_held g e ys)
  where
    go : (v : Bool) → cond v (Some y) (first_ready ys) ≡ Some e → (first_ready ys ≡ Some e → HeldIn (change_first is_ready (held_as g) ys) g) → HeldIn (cond v (held_as g y ∷ ys) (y ∷ change_first is_ready (held_as g) ys)) g
    go true found more = record { entry = held_as g y; there = inl refl; mark = refl }
    go false found more = let rest = more found in record { entry = rest.entry; there = inr rest.there; mark = rest.mark }

-- ---- all queues

-- What these holders held in the old queues they hold in the new ones.
abbrev pub Keeps : (Holder → Type 0) → (Text → List Entry) → (Text → List Entry) → Type 0
Keeps P old new = (q : Text) (holder : Holder) → P holder → HeldIn (old q) holder → HeldIn (new q) holder

-- whoever holds it
abbrev pub Any : Holder → Type 0
Any holder = Unit {0}

held_same : (xs ys : List Entry) (holder : Holder) → xs ≡ ys → HeldIn xs holder → HeldIn ys holder
held_same xs ys holder same was = record { entry = was.entry; there = subst (IsIn was.entry) same was.there; mark = was.mark }

pub keeps_same : (P : Holder → Type 0) (old new : Text → List Entry) → ((q : Text) → new q ≡ old q) → Keeps P old new
keeps_same P old new same q holder mine was = held_same (old q) (new q) holder (sym (same q)) was

pub keeps_on : (P : Holder → Type 0) (old mid new : Text → List Entry) → Keeps P old mid → Keeps P mid new → Keeps P old new
keeps_on P old mid new a b q holder mine was = b q holder mine (a q holder mine was)

pub keeps_arrivals : (P : Holder → Type 0) (old more new : Text → List Entry) → ((q : Text) → new q ≡ old q ++ more q) → Keeps P old new
keeps_arrivals P old more new is q holder mine was =
    record { entry = was.entry; there = subst (IsIn was.entry) (sym (is q)) (in_front was.entry (old q) (more q) was.there); mark = was.mark }

-- what others hold is not freed
pub keeps_freed : (mine : Holder → Bool) (old new : Text → List Entry) → ((q : Text) → new q ≡ map (freed mine) (old q)) → Keeps (λ holder. mine holder ≡ false) old new
keeps_freed mine old new is q holder other was =
    let same = freed_other mine was.entry holder was.mark other in
    record { entry = was.entry; there = subst (IsIn was.entry) (sym (is q)) (subst (λ (e : Entry). IsIn e (map (freed mine) (old q))) same (in-map (freed mine) was.entry (old q) was.there)); mark = was.mark }

-- one queue changed
keeps_at : (P : Holder → Type 0) (old : Text → List Entry) (name : Text) (entries : List Entry) → ((holder : Holder) → P holder → HeldIn (old name) holder → HeldIn entries holder) → Keeps P old (with_queue old name entries)
keeps_at P old name entries here q holder mine = at_queue (λ (r : Text) (es : List Entry). HeldIn (old r) holder → HeldIn es holder) old name entries (here holder mine) (λ r other was. was) q

-- a purge takes out what is ready
pub keeps_purged : (old : Text → List Entry) (name : Text) → Keeps Any old (with_queue old name (filter (λ e. not (is_ready e)) (old name)))
keeps_purged old name = keeps_at Any old name _ (λ holder mine was. record {
  entry = was.entry;
  there = in_passing (λ e. not (is_ready e)) was.entry (old name) was.there (ap not (held_not_ready was.entry holder was.mark));
  mark = was.mark;
})

-- and so does what is given out
pub keeps_given : (no_ack : Bool) (g : Holder) (old : Text → List Entry) (name : Text) → Keeps Any old (with_queue old name (after_giving no_ack g (old name)))
keeps_given true g old name = keeps_at Any old name _ (λ holder mine was. record {
  entry = was.entry;
  there = in_without is_ready was.entry (old name) was.there (held_not_ready was.entry holder was.mark);
  mark = was.mark;
})
keeps_given false g old name = keeps_at Any old name _ (λ holder mine was. record {
  entry = was.entry;
  there = in_change is_ready (held_as g) was.entry (old name) was.there (held_not_ready was.entry holder was.mark);
  mark = was.mark;
})

-- ---- settled deliveries

-- it holds under none of these tags of channel h of connection c
abbrev pub IsOther : ℕ → ℕ → List Outstanding → Holder → Type 0
IsOther c h os holder = (o : Outstanding) → IsIn o os → is_under (holder_of c h o) holder ≡ false

-- what is held under another tag stays where one leaves
pub without_keeps : (c h : ℕ) (o : Outstanding) (old : Text → List Entry) → Keeps (λ holder. is_under (holder_of c h o) holder ≡ false) old (without_given c h old o)
without_keeps c h o old = keeps_at _ old o.queue _ (λ holder other was. record {
  entry = was.entry;
  there = in_without (is_held_as (holder_of c h o)) was.entry (old o.queue) was.there (held_under (holder_of c h o) was.entry holder was.mark ∙ other);
  mark = was.mark;
})

pub left_keeps : (cause : Cause) (c h : ℕ) (os : List Outstanding) (old : Text → List Entry) (notes : List Note) (new : Text → List Entry) → AreLeft cause c h os old notes new → Keeps (IsOther c h os) old new
left_keeps cause c h [] old notes new a q holder other was = held_same (old q) (new q) holder (sym (a.1 q)) was
left_keeps cause c h (o ∷ os) old notes new (mid, rest, is, all, more) q holder other was =
    left_keeps cause c h os mid rest new more q holder (λ p i. other p (inr i))
    (held_same _ (mid q) holder (sym (is q)) (without_keeps c h o old q holder (other o (inl refl)) was))

-- a dead letter comes behind what is there
pub one_keeps : (t : Topology) (name : Text) (gone : Text → List Entry) (notes : List Note) (new : Text → List Entry) (found : Option Entry) → Goes t name gone notes new found → Keeps Any gone new
one_keeps t name gone notes new None (not_found none same) = keeps_same Any gone new same
one_keeps t name gone notes new (Some e) (left_only is same) = keeps_same Any gone new same
one_keeps t name gone notes new (Some e) (died p exchange rest dies is d) = keeps_arrivals Any gone _ new d.left

pub rejected_keeps : (t : Topology) (c h : ℕ) (os : List Outstanding) (old : Text → List Entry) (notes : List Note) (new : Text → List Entry) → AreRejected t c h os old notes new → Keeps (IsOther c h os) old new
rejected_keeps t c h [] old notes new a q holder other was = held_same (old q) (new q) holder (sym (a.1 q)) was
rejected_keeps t c h (o ∷ os) old notes new (mid, first, rest, dies, all, more) q holder other was =
    rejected_keeps t c h os mid rest new more q holder (λ p i. other p (inr i))
    (one_keeps t o.queue (without_given c h old o) first mid (given_in c h old o) (goes_by t o.queue (without_given c h old o) first mid (given_in c h old o) dies) q holder tt
    (without_keeps c h o old q holder (other o (inl refl)) was))

-- and where one is ready again
returned_step : (c h : ℕ) (o : Outstanding) (old : Text → List Entry) → Keeps (λ holder. is_under (holder_of c h o) holder ≡ false) old (with_returned c h old o)
returned_step c h o old = keeps_at _ old o.queue _ (λ holder other was.
    let same = freed_other (is_under (holder_of c h o)) was.entry holder was.mark other in
    record { entry = was.entry; there = subst (λ (e : Entry). IsIn e (map (freed (is_under (holder_of c h o))) (old o.queue))) same (in-map (freed (is_under (holder_of c h o))) was.entry (old o.queue) was.there); mark = was.mark })

pub returned_keeps : (c h : ℕ) (os : List Outstanding) (old new : Text → List Entry) → AreReturned c h os old new → Keeps (IsOther c h os) old new
returned_keeps c h [] old new same q holder other was = held_same (old q) (new q) holder (sym (same q)) was
returned_keeps c h (o ∷ os) old new (mid, is, more) q holder other was =
    returned_keeps c h os mid new more q holder (λ p i. other p (inr i))
    (held_same _ (mid q) holder (sym (is q)) (returned_step c h o old q holder (other o (inl refl)) was))

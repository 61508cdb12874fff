-- Messages that can be given out again: each in its place, and marked as redelivered.
use Rattle.laws.proofs.Names.{◌≡◌, ℕ, zero, suc, List, [], ◌∷◌, Bool, true, false, refl, sym, ap, subst, ◌∙◌, arith, inl, inr, slice_get, ◌==◌, ◌&&◌, AllPairs, ne_eqb, eq-eqb, same_Some, Text, IsIn, IsAgreed, Message, Outstanding, Broker, is_under, by_channel, freed, freed_now, holder_of, with_returned, AreReturned, IsReadyAgain, IsOutstandingOn, Entry, Holder, Mark, Ready, Held}
use Rattle.std.proofs.Common.{◌<◌, map, Some}
use Rattle.std.specs.Prelude.{if◌then◌else◌}
use Rattle.laws.proofs.Agreement.{at_own, held_here, ready_not_held, same_holder, self_under}
use Rattle.laws.proofs.Given.{freed_other}
use Rattle.laws.proofs.Dying.{contains_in}
use Rattle.laws.proofs.Leaving.{at_queue}

-- ---- tags that rise

abbrev pub Rise : List Outstanding → Type 0
Rise os = AllPairs (λ (a b : Outstanding). a.tag < b.tag) os

-- the first is below all others
pub first_below : (o : Outstanding) (os : List Outstanding) → Rise (o ∷ os) → (p : Outstanding) → IsIn p os → o.tag < p.tag
first_below o os rise p i =
    let at = contains_in p os i in
    let within = at.1 in
    subst (λ (z : Outstanding). o.tag < z.tag) at.2 (rise 0 (suc at.0) p (omega arith) (omega (arith, within)))

pub others_rise : (o : Outstanding) (os : List Outstanding) → Rise (o ∷ os) → Rise os
others_rise o os rise i j d lt within = rise (suc i) (suc j) d (omega (arith, lt)) (omega (arith, within))

and_false : (b : Bool) → (b && false) ≡ false
and_false true = refl
and_false false = refl

-- none of the others is held under the tag of the first
pub under_another : (c h : ℕ) (p : Outstanding) (os : List Outstanding) → Rise (p ∷ os) → (o : Outstanding) → IsIn o os → is_under (holder_of c h p) (holder_of c h o) ≡ false
under_another c h p os rise o i =
    let lt = first_below p os rise o i in
    let distinct : (o.tag == p.tag) ≡ false = ne_eqb o.tag p.tag (λ e. omega (arith, lt, e)) in
    ap (λ (b : Bool). ((c == c) && (h == h)) && b) distinct ∙ and_false ((c == c) && (h == h))

-- ---- places

-- the place of what stands in a list
pub place_of : {A : Type 0} (x : A) (xs : List A) → IsIn x xs → (i : ℕ) × (slice_get xs i ≡ Some x)
place_of x [] i = absurd i
place_of x (y ∷ ys) (inl e) = (zero, ap Some (sym e))
place_of x (y ∷ ys) (inr i) = let rest = place_of x ys i in (suc rest.0, rest.1)

pub map_at : {A B : Type 0} (f : A → B) (xs : List A) (i : ℕ) (x : A) → slice_get xs i ≡ Some x → slice_get (map f xs) i ≡ Some (f x)
map_at f [] i x e = absurd (cc)
map_at f (y ∷ ys) zero x e = ap (λ z. Some (f z)) (same_Some y x e)
map_at f (y ∷ ys) (suc i) x e = map_at f ys i x e

-- what these hold is freed
freed_mine : (mine : Holder → Bool) (e : Entry) (holder : Holder) → e.mark ≡ Held holder → mine holder ≡ true → freed mine e ≡ freed_now e
freed_mine mine e holder = go e.message e.mark
  where
    go : (m : Message) (k : Mark) → k ≡ Held holder → mine holder ≡ true → freed mine (record { message = m; mark = k }) ≡ freed_now (record { message = m; mark = k })
    go m Ready is own = ready_not_held _ is
    go m (Held g) is own =
        let yes : mine g ≡ true = subst (λ (x : Holder). mine x ≡ true) (sym (same_holder g holder is)) own in
        ap (λ (v : Bool). if v then record { message = record m { redelivered = true }; mark = Ready } else record { message = m; mark = Held g }) yes

-- ---- one after another

-- an entry that is not freed by it stays where it is
stays_at : (c h : ℕ) (queues : Text → List Entry) (p : Outstanding) (q : Text) (i : ℕ) (x : Entry) → freed (is_under (holder_of c h p)) x ≡ x → slice_get (queues q) i ≡ Some x → slice_get (with_returned c h queues p q) i ≡ Some x
stays_at c h queues p q i x same = at_queue (λ (r : Text) (es : List Entry). slice_get (queues r) i ≡ Some x → slice_get es i ≡ Some x) queues p.queue _
    (λ e. map_at (freed (is_under (holder_of c h p))) (queues p.queue) i x e ∙ ap Some same) (λ r other e. e) q

-- what is ready again stays so
ready_stays : (c h : ℕ) (os : List Outstanding) (old new : Text → List Entry) → AreReturned c h os old new → (q : Text) (i : ℕ) (x : Entry) → slice_get (old q) i ≡ Some (freed_now x) → slice_get (new q) i ≡ Some (freed_now x)
ready_stays c h [] old new same q i x e = ap (λ (es : List Entry). slice_get es i) (same q) ∙ e
ready_stays c h (p ∷ ps) old new (mid, is, more) q i x e =
    ready_stays c h ps mid new more q i x (ap (λ (es : List Entry). slice_get es i) (is q) ∙ stays_at c h old p q i (freed_now x) refl e)

-- each is ready again in its place
pub returned_each : (c h : ℕ) (os : List Outstanding) (old new : Text → List Entry) → Rise os → AreReturned c h os old new → (o : Outstanding) → IsIn o os → (i : ℕ) (x : Entry) → slice_get (old o.queue) i ≡ Some x → x.mark ≡ Held (holder_of c h o)
    → slice_get (new o.queue) i ≡ Some (freed_now x)
returned_each c h [] old new rise a o j i x at held = absurd j
returned_each c h (p ∷ ps) old new rise (mid, is, more) o (inl same) i x at held =
    subst (λ (z : Outstanding). slice_get (old z.queue) i ≡ Some x → x.mark ≡ Held (holder_of c h z) → slice_get (new z.queue) i ≡ Some (freed_now x)) (sym same) own at held
  where
    own : slice_get (old p.queue) i ≡ Some x → x.mark ≡ Held (holder_of c h p) → slice_get (new p.queue) i ≡ Some (freed_now x)
    own at held =
        let here : slice_get (mid p.queue) i ≡ Some (freed_now x) =
        ap (λ (es : List Entry). slice_get es i) (is p.queue ∙ at_own old p.queue _) ∙ map_at (freed (is_under (holder_of c h p))) (old p.queue) i x at
        ∙ ap Some (freed_mine (is_under (holder_of c h p)) x (holder_of c h p) held (self_under (holder_of c h p))) in
        ready_stays c h ps mid new more p.queue i x here
returned_each c h (p ∷ ps) old new rise (mid, is, more) o (inr j) i x at held =
    returned_each c h ps mid new (others_rise p ps rise) more o j i x
    (ap (λ (es : List Entry). slice_get es i) (is o.queue) ∙ stays_at c h old p o.queue i x (freed_other (is_under (holder_of c h p)) x (holder_of c h o) held (under_another c h p ps rise o j)) at) held

-- ---- all that these held

-- where all that these held is ready again, so is each delivery of theirs
pub freed_again : (old new : Broker) (mine : Holder → Bool) (c k : ℕ) (o : Outstanding) → IsAgreed old → ((q : Text) → new.queue q ≡ map (freed mine) (old.queue q)) → IsOutstandingOn old c k o → mine (holder_of c k o) ≡ true → IsReadyAgain old new c k o
freed_again old new mine c k o agreed queues was own =
    let is = agreed.given c k was.channel o was.there was.outstanding in
    let at = place_of is.entry (old.queue o.queue) is.there in
    record {
      entry = is.entry;
      place = at.0;
      stood = at.1;
      held = held_here is.entry (holder_of c k o) is.mark;
      stands = ap (λ (es : List Entry). slice_get es at.0) (queues o.queue) ∙ map_at (freed mine) (old.queue o.queue) at.0 is.entry at.1 ∙ ap Some (freed_mine mine is.entry (holder_of c k o) is.mark own);
    }

-- the holder's own channel, and its own connection
pub own_channel : (c k : ℕ) (o : Outstanding) → by_channel c k (holder_of c k o) ≡ true
own_channel c k o = ap (λ (b : Bool). b && (k == k)) (eq-eqb c c refl) ∙ ap (λ (b : Bool). true && b) (eq-eqb k k refl)

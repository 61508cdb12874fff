-- Worked examples of what is held and outstanding.
use Rattle.laws.proofs.Names.{◌≡◌, ℕ, ◌≤◌, [], ◌∷◌, Bool, true, false, refl, sym, ap, subst, ◌∙◌, arith, None, inl, inr, codes, count_by, is_some, ◌==◌, ◌&&◌, AllByRecursion, bytes_eq, eqb-true, false≢true, same_Some, bytes_eq-Decides, Text, IsIn, Outstanding, Channel, Broker, is_held_as, Rises, holder_of, tag_of, IsOutstanding, IsHeld, IsAgreed, Entry, Holder, Taker, Held, first_entry, AgreementRefuses, taken, with_taken, broker_of_taken, first_held}
use Rattle.std.proofs.Common.{◌<◌, Some}
use Rattle.std.specs.Prelude.{if◌then◌else◌}
use Rattle.model.specs.declared.messages.Taker.TheVariants as taker
use Rattle.laws.proofs.Agreement.{ready_not_held, same_holder, number}
use Rattle.laws.proofs.Counts.{count-cons}

-- ---- where both tell of it

abbrev own_holder : Holder
own_holder = holder_of 1 1 taken

abbrev own_entry : Entry
own_entry = first_held own_holder

abbrev agreeing : Broker
agreeing = broker_of_taken (own_entry ∷ [])

-- no other channel is open
record IsTheOne (c h : ℕ) (ch : Channel) : Type 0 where
  connection : 1 ≡ c
  number : 1 ≡ h
  channel : with_taken ≡ ch

the_one : (c h : ℕ) (ch : Channel) → agreeing.channel c h ≡ Some ch → IsTheOne c h ch
the_one c h ch e = go (c == 1) refl (h == 1) refl e
  where
    go : (v : Bool) → (c == 1) ≡ v → (w : Bool) → (h == 1) ≡ w → (if v && w then Some with_taken else None) ≡ Some ch → IsTheOne c h ch
    go true a true b e = record { connection = sym (eqb-true c 1 a); number = sym (eqb-true h 1 b); channel = same_Some with_taken ch e }
    go true a false b e = absurd (false≢true (ap is_some e))
    go false a w b e = absurd (false≢true (ap is_some e))

outstanding_there : (q : Text) (e : Entry) (holder : Holder) → IsIn e (agreeing.queue q) → e.mark ≡ Held holder → IsOutstanding agreeing q holder
outstanding_there q e holder i mark = go (bytes_eq q (codes "audit")) refl i
  where
    go : (v : Bool) → bytes_eq q (codes "audit") ≡ v → IsIn e (if v then own_entry ∷ [] else []) → IsOutstanding agreeing q holder
    go true at (inl same) = subst (λ (g : Holder). IsOutstanding agreeing q g) (same_holder own_holder holder (sym (ap (λ (z : Entry). z.mark) same) ∙ mark))
        (record { channel = with_taken; there = refl; delivery = taken; outstanding = inl refl; tag = refl; queue = sym ((bytes_eq-Decides q (codes "audit")).0 at); by = refl })
    go true at (inr j) = absurd j
    go false at j = absurd j

held_there : (c h : ℕ) (ch : Channel) (o : Outstanding) → agreeing.channel c h ≡ Some ch → IsIn o ch.outstanding → IsHeld agreeing c h o
held_there c h ch o e i = go (subst (λ (x : Channel). IsIn o x.outstanding) (sym one.channel) i)
  where
    one : IsTheOne c h ch
    one = the_one c h ch e

    it : IsHeld agreeing 1 1 taken
    it = record { entry = own_entry; there = inl refl; mark = refl }

    go : IsIn o (taken ∷ []) → IsHeld agreeing c h o
    go (inl same) = subst (λ (x : Outstanding). IsHeld agreeing c h x) (sym same) (subst (λ (k : ℕ). IsHeld agreeing c k taken) one.number (subst (λ (d : ℕ). IsHeld agreeing d 1 taken) one.connection it))
    go (inr j) = absurd j

apart_there : (q : Text) (holder : Holder) → count_by (is_held_as holder) (agreeing.queue q) ≤ 1
apart_there q holder = go (bytes_eq q (codes "audit"))
  where
    one_most : (b : Bool) → number b ≤ 1
    one_most true = omega arith
    one_most false = omega arith

    go : (v : Bool) → count_by (is_held_as holder) (if v then own_entry ∷ [] else []) ≤ 1
    go true = let all = count-cons (is_held_as holder) own_entry [] in let few = one_most (is_held_as holder own_entry) in omega (arith, all, few)
    go false = omega arith

both_agree : IsAgreed agreeing
both_agree = record {
  held = outstanding_there;
  given = held_there;
  distinct = apart_there;
  rising = λ c h ch e. subst (λ (x : Channel). Rises tag_of x.outstanding) (the_one c h ch e).channel (λ i j x lt within. absurd (omega (arith, lt, within)));
  before = λ c h ch e. subst (λ (x : Channel). AllByRecursion (λ (o : Outstanding). o.tag < x.next_tag) x.outstanding) (the_one c h ch e).channel (omega arith, tt);
  closed = λ c h ch e closing. absurd (false≢true (ap (λ (x : Channel). x.is_closing) (the_one c h ch e).channel ∙ closing));
}

-- ---- where one of them tells of something else

-- what stands in the queue is all that could be held there
only_entry : (x : Entry) → IsAgreed (broker_of_taken (x ∷ [])) → x.mark ≡ Held own_holder
only_entry x a = go it.there
  where
    it : IsHeld (broker_of_taken (x ∷ [])) 1 1 taken
    it = a.given 1 1 with_taken taken refl (inl refl)

    go : IsIn it.entry (x ∷ []) → x.mark ≡ Held own_holder
    go (inl same) = sym (ap (λ (z : Entry). z.mark) same) ∙ it.mark
    go (inr j) = absurd j

other_taker_holds : IsAgreed (broker_of_taken (first_held (record { connection = 1; channel = 1; tag = 1; by = taker.Consumer 1 }) ∷ [])) → ⊥
other_taker_holds a = false≢true (ap (λ (g : Holder). is_get g.by) (same_holder _ own_holder (only_entry _ a)))
  where
    is_get : Taker → Bool
    is_get taker.Get = true
    is_get (taker.Consumer n) = false

other_tag_held : IsAgreed (broker_of_taken (first_held (record { connection = 1; channel = 1; tag = 2; by = taker.Get }) ∷ [])) → ⊥
other_tag_held a = let e : ◌≡◌ {A = ℕ} 2 1 = ap (λ (g : Holder). g.tag) (same_holder _ own_holder (only_entry _ a)) in omega (arith, e)

held_twice : IsAgreed (broker_of_taken (own_entry ∷ own_entry ∷ [])) → ⊥
held_twice a = let le : 2 ≤ 1 = a.distinct (codes "audit") own_holder in omega (arith, le)

pub agreement_refuses : AgreementRefuses
agreement_refuses = record {
  both = both_agree;
  nowhere = λ a. (a.given 1 1 with_taken taken refl (inl refl)).there;
  ready = λ a. ready_not_held _ (only_entry first_entry a);
  other_taker = other_taker_holds;
  other_tag = other_tag_held;
  twice = held_twice;
}

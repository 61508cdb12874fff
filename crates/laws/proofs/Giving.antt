-- No message comes to be held but by being given out.
use Rattle.laws.proofs.Names.{◌≡◌, ℕ, List, [], ◌∷◌, Bool, true, false, cond, sym, ap, subst, ◌∙◌, ◌⊎◌, inl, inr, is_some, false≢true, same_Some, Text, IsIn, Outstanding, Broker, is_ready, held_as, change_first, without_first, Settlement, Leaves, Rejects, Returns, AreSettled, with_queue, first_ready, after_giving, Happening, Entry, Holder, Held, event_connection, GivesOut, IsHeldSince, before, by_it, HeldAreGiven}
use Rattle.std.proofs.Common.{not, Some}
use Rattle.laws.proofs.Agreement.{Shrinks, shrinks_same, shrinks_freed, shrinks_filter, shrinks_on, left_shrinks, returned_shrinks, same_holder}
use Rattle.laws.proofs.Agreed.{shrinks_arrivals, rejected_shrinks}
use Rattle.laws.proofs.Leaving.{at_queue}
use Rattle.laws.proofs.Deeds.{Deed, changes, enters, gives, settles, purges, freed_by}
use Rattle.laws.proofs.View.{deed_at}

-- ---- one queue

-- what stands in the queue after its first ready message was given out stood there before, or is this message, held
pub in_given : (no_ack : Bool) (g : Holder) (e : Entry) (es : List Entry) → first_ready es ≡ Some e → (x : Entry) → IsIn x (after_giving no_ack g es) → IsIn x es ⊎ (x ≡ held_as g e)
in_given no_ack g e [] found x i = absurd (false≢true (ap is_some found))
in_given true g e (y ∷ ys) found x i = go (is_ready y) found (in_given true g e ys) i
  where
    go : (v : Bool) → cond v (Some y) (first_ready ys) ≡ Some e → (first_ready ys ≡ Some e → (x : Entry) → IsIn x (without_first is_ready ys) → IsIn x ys ⊎ (x ≡ held_as g e)) → IsIn x (cond v ys (y ∷ without_first is_ready ys)) → IsIn x (y ∷ ys) ⊎ (x ≡ held_as g e)
    go true found more i = inl (inr i)
    go false found more (inl s) = inl (inl s)
    go false found more (inr j) = elim (more found x j) [ inl k ↦ inl (inr k) | inr is ↦ inr is ]
in_given false g e (y ∷ ys) found x i = go (is_ready y) found (in_given false g e ys) i
  where
    go : (v : Bool) → cond v (Some y) (first_ready ys) ≡ Some e → (first_ready ys ≡ Some e → (x : Entry) → IsIn x (change_first is_ready (held_as g) ys) → IsIn x ys ⊎ (x ≡ held_as g e))
        → IsIn x (cond v (held_as g y ∷ ys) (y ∷ change_first is_ready (held_as g) ys)) → IsIn x (y ∷ ys) ⊎ (x ≡ held_as g e)
    go true found more (inl s) = inr (s ∙ ap (held_as g) (same_Some y e found))
    go true found more (inr j) = inl (inr j)
    go false found more (inl s) = inl (inl s)
    go false found more (inr j) = elim (more found x j) [ inl k ↦ inl (inr k) | inr is ↦ inr is ]

-- ---- all cases

module _ (h : Happening) where
  abbrev old : Broker
  old = h.before.broker

  abbrev new : Broker
  new = h.after.broker

  abbrev AreHeldSince : Type 0
  AreHeldSince = (q : Text) (x : Entry) (holder : Holder) → IsIn x (new.queue q) → x.mark ≡ Held holder → IsHeldSince h q x holder

  held_before : Shrinks old.queue new.queue → AreHeldSince
  held_before s q x holder i mark = let was = s.held q x holder i mark in before was.entry was.there was.mark

  -- the first ready message of a queue was given out
  given : (name : Text) (no_ack : Bool) (g : Holder) (e : Entry) → first_ready (old.queue name) ≡ Some e → GivesOut h name e → ((q : Text) → new.queue q ≡ with_queue old.queue name (after_giving no_ack g (old.queue name)) q) → AreHeldSince
  given name no_ack g e found out is q x holder i mark =
      at_queue (λ (r : Text) (es : List Entry). IsIn x es → IsHeldSince h r x holder) old.queue name (after_giving no_ack g (old.queue name)) here (λ r other j. before x j mark) q (subst (IsIn x) (is q) i)
    where
      here : IsIn x (after_giving no_ack g (old.queue name)) → IsHeldSince h name x holder
      here j = elim (in_given no_ack g e (old.queue name) found x j) [
        | inl k ↦ before x k mark
        | inr s ↦ by_it out (s ∙ ap (λ (z : Holder). held_as z e) (same_holder g holder (sym (ap (λ (z : Entry). z.mark) s) ∙ mark)))
      ]

  shrinks : (how : Settlement) (c k : ℕ) (os : List Outstanding) → AreSettled h.config.topology how c k os old.queue h.notes new.queue → Shrinks old.queue new.queue
  shrinks (Leaves cause) c k os a = left_shrinks cause c k os old.queue h.notes new.queue a
  shrinks Rejects c k os a = rejected_shrinks h.config.topology c k os old.queue h.notes new.queue a
  shrinks Returns c k os a = returned_shrinks c k os old.queue new.queue a.1

  held : (c : ℕ) → Deed h.config.topology old new h.event c h.sends h.notes → AreHeldSince
  held c (changes s change) = let f = freed_by change in held_before (shrinks_freed f.0 old.queue new.queue f.1)
  held c (enters k now p puts alike serves) = held_before (shrinks_arrivals h.config.topology old.queue new.queue old.queue _ p.is.targets p.is.left.queues)
  held c (gives g) = given g.queue g.no_ack _ g.entry g.first g.out g.left.queues
  held c (settles s) = held_before (shrinks s.how c s.h s.is.gone s.is.queues)
  held c (purges p) = held_before (shrinks_on old.queue _ new.queue (shrinks_filter (λ e. not (is_ready e)) old.queue p.queue) (shrinks_same _ new.queue p.left.queues))

pub held_are_given : HeldAreGiven
held_are_given h s = held h (event_connection h.event) (deed_at h s)

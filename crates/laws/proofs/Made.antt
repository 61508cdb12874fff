-- No consumer comes but by a consume.
use Rattle.laws.proofs.Names.{◌≡◌, ℕ, List, [], ◌∷◌, Bool, true, false, cond, eqb→eq, T, refl, sym, ap, subst, ◌∙◌, None, ◌⊎◌, inl, inr, is_some, ◌==◌, ◌&&◌, nat_le, false≢true, same_Some, Topology, IsIn, event_connection, Consumer, Channel, Broker, new_channel, with_pair, with_row, is_tagged, consumer_of, channel_or_new, channels_up_to, Content, Send, Event, Consume, BasicConsume, Note, WasConsumer, IsMadeBy, ConsumersAreMade}
use Rattle.std.proofs.Common.{filter, not, Option, Some}
use Rattle.std.specs.Prelude.{if◌then◌else◌}
use Rattle.model.specs.declared.events.Event.TheVariants.{Command}
use Rattle.laws.proofs.Counts.{in-append}
use Rattle.laws.proofs.Deeds.{Deed, changes, enters, gives, settles, purges, nothing, alters, ends, clears, renews, Serves, as_before, one_more, fewer, acted}

in_fewer : (p : Consumer → Bool) (k : Consumer) (ks : List Consumer) → IsIn k (filter p ks) → IsIn k ks
in_fewer p k [] i = i
in_fewer p k (x ∷ xs) i = go (p x) (in_fewer p k xs) i
  where
    go : (v : Bool) → (IsIn k (filter p xs) → IsIn k xs) → IsIn k (cond v (x ∷ filter p xs) (filter p xs)) → IsIn k (x ∷ xs)
    go true more (inl e) = inl e
    go true more (inr j) = inr (more j)
    go false more j = inr (more j)

-- a channel that is there from the first on has no consumer
pub row_new : (max l : ℕ) (ch : Channel) → channels_up_to max l ≡ Some ch → ch.consumers ≡ []
row_new max l ch e = by (nat_le 1 l && nat_le l max) e
  where
    by : (v : Bool) → (if v then Some new_channel else None) ≡ Some ch → ch.consumers ≡ []
    by true e = ap (λ (z : Channel). z.consumers) (sym (same_Some new_channel ch e))
    by false e = absurd (false≢true (ap is_some e))

-- ---- all cases

module _ (t : Topology) (old new : Broker) (e : Event) (sends : List Send) (notes : List Note) where
  -- this consumer of channel h of connection c was there, or this event makes it
  abbrev Came : ℕ → ℕ → Consumer → Type 0
  Came c h k = WasConsumer old c h k ⊎ IsMadeBy old e c h k

  -- each consumer that is there now came so
  abbrev AllCame : Type 0
  AllCame = (c h : ℕ) (k : Consumer) → WasConsumer new c h k → Came c h k

  abbrev mine : ℕ → ℕ → Channel
  mine c h = channel_or_new (old.channel c h)

  in_mine : (c h : ℕ) (k : Consumer) → IsIn k (mine c h).consumers → Came c h k
  in_mine c h k i = go (old.channel c h) refl i
    where
      go : (o : Option Channel) → old.channel c h ≡ o → IsIn k (channel_or_new o).consumers → Came c h k
      go None is i = absurd i
      go (Some ch) is i = inl (ch, is, i)

  same : ((c h : ℕ) → new.channel c h ≡ old.channel c h) → AllCame
  same is c h k (ch, at, i) = inl (ch, sym (is c h) ∙ at, i)

  -- one channel is this now
  with_this : (c h : ℕ) (x : Option Channel) → ((d l : ℕ) → new.channel d l ≡ with_pair old.channel c h x d l) → ((ch : Channel) (k : Consumer) → x ≡ Some ch → IsIn k ch.consumers → Came c h k) → AllCame
  with_this c h x is good d l k (ch, at, i) = go (d == c) (l == h) refl refl (sym (is d l) ∙ at)
    where
      go : (v w : Bool) → (d == c) ≡ v → (l == h) ≡ w → (if v && w then x else old.channel d l) ≡ Some ch → Came d l k
      go true true first second e =
          subst (λ (n : ℕ). Came n l k) (sym (eqb→eq d c (subst T (sym first) tt)))
          (subst (λ (n : ℕ). Came c n k) (sym (eqb→eq l h (subst T (sym second) tt))) (good ch k e i))
      go true false first second e = inl (ch, e, i)
      go false w first second e = inl (ch, e, i)

  with_some : (c h : ℕ) (ch : Channel) → ((d l : ℕ) → new.channel d l ≡ with_pair old.channel c h (Some ch) d l) → ((k : Consumer) → IsIn k ch.consumers → Came c h k) → AllCame
  with_some c h ch is good = with_this c h (Some ch) is (λ x k e i. good k (subst (λ (z : Channel). IsIn k z.consumers) (sym (same_Some ch x e)) i))

  -- all channels of a connection are these now, none of which has a consumer
  with_these : (c : ℕ) (row : ℕ → Option Channel) → ((d l : ℕ) → new.channel d l ≡ with_row old.channel c row d l) → ((l : ℕ) (ch : Channel) → row l ≡ Some ch → ch.consumers ≡ []) → AllCame
  with_these c row is none d l k (ch, at, i) = go (d == c) (sym (is d l) ∙ at)
    where
      go : (v : Bool) → (if v then row l else old.channel d l) ≡ Some ch → Came d l k
      go true e = absurd (subst (λ (ks : List Consumer). IsIn k ks) (none l ch e) i)
      go false e = inl (ch, e, i)

  consumes : (c h : ℕ) (m : Consume) (content : Option Content) → e ≡ Command c h (BasicConsume m) content → (k : Consumer) → IsIn k ((mine c h).consumers) ⊎ IsIn k (consumer_of (mine c h) m ∷ []) → Came c h k
  consumes c h m content is k (inl i) = in_mine c h k i
  consumes c h m content is k (inr (inl made)) = inr (m, content, is, ap (λ (z : Consumer). z.number) made)
  consumes c h m content is k (inr (inr none)) = absurd none

  served : (c h : ℕ) (now : Channel) → Serves t e c h (mine c h) now → (k : Consumer) → IsIn k now.consumers → Came c h k
  served c h now (as_before consumers next) k i = in_mine c h k (subst (IsIn k) consumers i)
  served c h now (one_more m content is unrefused one) k i = consumes c h m content is k (in-append k (mine c h).consumers (consumer_of (mine c h) m ∷ []) (subst (λ (ch : Channel). IsIn k ch.consumers) one i))
  served c h now (fewer tag one) k i = in_mine c h k (in_fewer (λ (x : Consumer). not (is_tagged tag x)) k (mine c h).consumers (subst (λ (ch : Channel). IsIn k ch.consumers) one i))

  came : (c : ℕ) → Deed t old new e c sends notes → AllCame
  came c (changes s (nothing same_queues channels connections)) = same channels
  came c (changes s (alters h now same_queues puts alike serves)) = with_some c h now puts.channels (served c h now serves)
  came c (changes s (ends h same_queues puts awaits)) = with_this c h None puts.channels (λ ch k none. absurd (false≢true (ap is_some none)))
  came c (changes s (clears h now freed puts empty)) = with_this c h now puts.channels (λ ch k is i. absurd (subst (IsIn k) (empty ch is).consumers i))
  came c (changes s (renews row freed r)) = with_these c row r.channels (λ l ch is. (r.empty l ch is).consumers)
  came c (enters h now p puts alike serves) = with_some c h now puts.channels (served c h now serves)
  came c (gives g) = with_some c g.h _ g.left.channels (λ k i. inl (g.ch, g.there, i))
  came c (settles s) = with_some c s.h _ s.is.channels (in_mine c s.h)
  came c (purges p) = same p.left.channels

pub are_made : ConsumersAreMade
are_made t old new e sends notes p c h k was = came t old new e sends notes (event_connection e) (acted t old new sends notes e p).deed c h k was

-- What a deed does to the channels of its connection, and to what was outstanding there.
use Rattle.laws.proofs.Names.{◌≡◌, ℕ, List, Bool, true, false, refl, sym, ap, subst, is_some, ◌==◌, Text, Topology, IsIn, Outstanding, Channel, Broker, with_pair, with_row, freed, by_channel, by_connection, Settlement, outstanding_after, channel_after, Settles, channel_or_new, is_awaiting, Happening, Step, event_connection, Taker, Send, Event, Note}
use Rattle.std.proofs.Common.{map, Option, Some}
use Rattle.laws.proofs.Counts.{in_front}
use Rattle.laws.proofs.Deeds.{Deed, changes, enters, gives, settles, purges, nothing, alters, ends, clears, renews, Puts, HoldsAlike, channel_at}
use Rattle.laws.proofs.View.{deed_at}

-- what becomes of what was outstanding on channel h of connection c, which is this one now
pub data Fate (t : Topology) (old : Broker) (sends : List Send) (notes : List Note) (new : Broker) (c h : ℕ) (now : Option Channel) : Type 0 where
  -- it is outstanding there still
  remains : (ch : Channel) → now ≡ Some ch → ((o : Outstanding) → IsIn o (channel_or_new (old.channel c h)).outstanding → IsIn o ch.outstanding) → Fate t old sends notes new c h now
  -- it is ready again
  is_ready_again : ((q : Text) → new.queue q ≡ map (freed (by_channel c h)) (old.queue q)) → Fate t old sends notes new c h now
  -- there was nothing, for close-ok was awaited
  was_none : is_awaiting (old.channel c h) ≡ true → Fate t old sends notes new c h now
  -- a tag settles some of it
  is_settled : (how : Settlement) (tag : ℕ) (multiple : Bool) (wanted : List Send) → Settles t how old c h (channel_or_new (old.channel c h)) tag multiple wanted sends notes new → Fate t old sends notes new c h now

-- which channels change by an event of connection c
pub data Changes (t : Topology) (old : Broker) (sends : List Send) (notes : List Note) (new : Broker) (c : ℕ) : Type 0 where
  -- none, and no connection comes or goes
  unchanged : ((d k : ℕ) → new.channel d k ≡ old.channel d k) → ((d : ℕ) → is_some (new.connection d) ≡ is_some (old.connection d)) → Changes t old sends notes new c
  -- one of the connection, which is there
  one_channel : (h : ℕ) (now : Option Channel) → ((d k : ℕ) → new.channel d k ≡ with_pair old.channel c h now d k) → ((d : ℕ) → new.connection d ≡ old.connection d) → is_some (old.connection c) ≡ true → Fate t old sends notes new c h now → Changes t old sends notes new c
  -- all of the connection, which has any only where it is there, and what was outstanding on them is ready again
  all_channels : (row : ℕ → Option Channel) → ((d k : ℕ) → new.channel d k ≡ with_row old.channel c row d k) → ((q : Text) → new.queue q ≡ map (freed (by_connection c)) (old.queue q))
      → ((k : ℕ) (ch : Channel) → row k ≡ Some ch → is_some (new.connection c) ≡ true) → ((d : ℕ) → (d == c) ≡ false → new.connection d ≡ old.connection d) → Changes t old sends notes new c

module _ (t : Topology) (old new : Broker) (e : Event) (c : ℕ) (sends : List Send) (notes : List Note) where
  put : (h : ℕ) (now : Option Channel) → Puts old new c h now → Fate t old sends notes new c h now → Changes t old sends notes new c
  put h now p fate = one_channel h now p.channels p.connections p.there fate

  as_it_was : (h : ℕ) (now : Channel) → HoldsAlike (channel_at old c h) now → Fate t old sends notes new c h (Some now)
  as_it_was h now alike = remains now refl (λ o i. subst (IsIn o) (sym alike.outstanding) i)

  -- what was outstanding is so after one message more was given out
  given : (no_ack : Bool) (tag : ℕ) (queue : Text) (by : Taker) (os : List Outstanding) (o : Outstanding) → IsIn o os → IsIn o (outstanding_after no_ack tag queue by os)
  given true tag queue by os o i = i
  given false tag queue by os o i = in_front o os _ i

  -- Each deed changes channels in one of these ways.
  changed : Deed t old new e c sends notes → Changes t old sends notes new c
  changed (changes s (nothing same channels connections)) = unchanged channels connections
  changed (changes s (alters h now same puts alike serves)) = put h _ puts (as_it_was h now alike)
  changed (changes s (ends h same puts awaits)) = put h _ puts (was_none awaits)
  changed (changes s (clears h now freed puts empty)) = put h _ puts (is_ready_again freed)
  changed (changes s (renews row freed r)) = all_channels row r.channels freed r.there r.others
  changed (enters h now p puts alike serves) = put h _ puts (as_it_was h now alike)
  changed (gives g) =
      one_channel g.h _ g.left.channels g.left.connections g.runs (remains (channel_after g.no_ack g.queue g.by g.ch) refl
      (λ o i. given g.no_ack g.ch.next_tag g.queue g.by g.ch.outstanding o (subst (λ (ch : Option Channel). IsIn o (channel_or_new ch).outstanding) g.there i)))
  changed (settles s) = one_channel s.h _ s.is.channels s.is.connections s.runs (is_settled s.how s.tag s.multiple s.wanted s.is)
  changed (purges p) = unchanged p.left.channels (λ d. ap is_some (p.left.connections d))

-- So does each step.
pub step_changes : (h : Happening) → Step h.config h.before h.event h.sends h.notes h.after → Changes h.config.topology h.before.broker h.sends h.notes h.after.broker (event_connection h.event)
step_changes h s = changed h.config.topology h.before.broker h.after.broker h.event (event_connection h.event) h.sends h.notes (deed_at h s)

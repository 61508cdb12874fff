-- What a command that is not refused tells of its channel.
use Rattle.laws.proofs.Names.{◌≡◌, ℕ, Bool, true, false, refl, sym, ap, None, is_some, nat_lt, ◌==◌, false≢true, Text, Topology, Channel, Connection, Broker, Refusal, Ignored, Of_connection, channel_or_new, is_awaiting, refusal, refusal_of_consume, Consume, Get, ChannelOpen, ChannelCloseOk, BasicConsume, BasicGet, BasicPublish}
use Rattle.std.proofs.Common.{Option, Some}
use Rattle.std.specs.Prelude.{if◌then◌else◌}
use Rattle.model.specs.declared.methods.Publish.{Publish}

module _ (t : Topology) (old : Broker) (conn : Connection) (h : ℕ) where
  refused : {r : Refusal} → ◌≡◌ {A = Option Refusal} (Some r) None → ⊥
  refused e = false≢true (sym (ap is_some e))

  -- on a channel that is not open each of these is refused
  refused_unopened : (u v : Bool) → (if u then Some (Of_connection 503) else if v then Some (Of_connection 504) else Some (Of_connection 504)) ≡ None → ⊥
  refused_unopened true v e = refused e
  refused_unopened false true e = refused e
  refused_unopened false false e = refused e

  -- a close-ok is taken only where it is awaited
  pub awaited : (ch : Option Channel) → refusal t old conn h ChannelCloseOk ch ≡ None → is_awaiting ch ≡ true
  awaited None e = absurd (refused_unopened (h == 0) (nat_lt conn.channel_max h) e)
  awaited (Some ch) e = by ch.is_closing (h == 0) (nat_lt conn.channel_max h) e
    where
      by : (w u v : Bool) → (if w then None else if u then Some (Of_connection 503) else if v then Some (Of_connection 504) else Some (Of_connection 503)) ≡ None → w ≡ true
      by true u v e = refl
      by false true v e = absurd (refused e)
      by false false true e = absurd (refused e)
      by false false false e = absurd (refused e)

  -- a channel is opened only where it is not open
  pub not_open : (reserved : Text) (ch : Option Channel) → refusal t old conn h (ChannelOpen reserved) ch ≡ None → ch ≡ None
  not_open reserved None e = refl
  not_open reserved (Some ch) e = absurd (by ch.is_closing (h == 0) (nat_lt conn.channel_max h) e)
    where
      by : (w u v : Bool) → (if w then Some Ignored else if u then Some (Of_connection 503) else if v then Some (Of_connection 504) else Some (Of_connection 504)) ≡ None → ⊥
      by true u v e = refused e
      by false u v e = refused_unopened u v e

  -- a get is taken only on a channel that is open
  pub is_open : (m : Get) (ch : Option Channel) → refusal t old conn h (BasicGet m) ch ≡ None → ch ≡ Some (channel_or_new ch)
  is_open m None e = absurd (refused_unopened (h == 0) (nat_lt conn.channel_max h) e)
  is_open m (Some ch) e = refl

  -- so is a publish
  pub is_open_for : (m : Publish) (ch : Option Channel) → refusal t old conn h (BasicPublish m) ch ≡ None → ch ≡ Some (channel_or_new ch)
  is_open_for m None e = absurd (refused_unopened (h == 0) (nat_lt conn.channel_max h) e)
  is_open_for m (Some ch) e = refl

  -- and not where close-ok is awaited
  pub not_awaited : (m : Get) (ch : Option Channel) → refusal t old conn h (BasicGet m) ch ≡ None → (channel_or_new ch).is_closing ≡ false
  not_awaited m None e = refl
  not_awaited m (Some ch) e = by ch.is_closing _ e
    where
      by : (w : Bool) (rest : Option Refusal) → (if w then Some Ignored else rest) ≡ None → w ≡ false
      by true rest e = absurd (refused e)
      by false rest e = refl

  -- what stands against a consume on its channel, or on a new one
  pub consumes_on : (m : Consume) (ch : Option Channel) → refusal t old conn h (BasicConsume m) ch ≡ None → refusal_of_consume t (channel_or_new ch) m ≡ None
  consumes_on m None e = absurd (refused_unopened (h == 0) (nat_lt conn.channel_max h) e)
  consumes_on m (Some ch) e = by ch.is_closing (h == 0) (nat_lt conn.channel_max h) (refusal_of_consume t ch m) e
    where
      by : (w u v : Bool) (rest : Option Refusal) → (if w then Some Ignored else if u then Some (Of_connection 503) else if v then Some (Of_connection 504) else rest) ≡ None → rest ≡ None
      by true u v rest e = absurd (refused e)
      by false true v rest e = absurd (refused e)
      by false false true rest e = absurd (refused e)
      by false false false rest e = e

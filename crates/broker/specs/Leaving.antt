-- Whose consumers leave their lines after an event (own).
use Rattle.std.specs.Prelude.{◌≡◌, ◌==◌, ◌&&◌, ◌<◌, ◌⊎◌, ℕ, List, Bool, true, false, not, Option, Some, length}
use Rattle.model.specs.Topology.{IsIn}
use Rattle.marks.specs.Sets.{bit_of}
use Rattle.channels.specs.Open.{Open}
use Rattle.channels.specs.RunningConnections.{Running, channel_in}
use Rattle.channels.specs.declared.consumers.Consumer.{Consumer}
use Rattle.channels.specs.declared.consumers.Seat.{Seat}
use Rattle.commands.specs.declared.acted.Ends.{Ends}
use Rattle.commands.specs.declared.acted.Ends.TheVariants as ended
use Rattle.commands.specs.declared.picks.Pick.{Pick}
use Rattle.broker.specs.Lines.{is_other}
use Rattle.broker.specs.declared.rounds.leaving.Gone.{Gone}
use Rattle.broker.specs.declared.rounds.leaving.Gone.TheVariants.{Nobody, One, Several}
use Rattle.broker.specs.declared.rounds.leaving.Leavers.{Leavers}
use Rattle.broker.specs.declared.rounds.leaving.Leavers.TheVariants as leave

-- consumer `n` of channel `h` of connection `c`
abbrev pub consumer_at : ℕ → ℕ → ℕ → Pick
consumer_at c h n = record { connection = c; channel = h; number = n }

-- whose consumers leave after an event of channel `h` of connection `c`
abbrev pub leavers_of : ℕ → ℕ → Ends → Leavers
leavers_of c h ended.Nothing = leave.Nobody
leavers_of c h (ended.Consumer s) = leave.Consumer (consumer_at c h s.number)
leavers_of c h (ended.Channel o) = leave.Channel (record { connection = c; number = h })
leavers_of c h (ended.Connection o) = leave.Connection c

-- whether consumer `p` is none of those who leave
abbrev pub remains : Leavers → Pick → Bool
remains leave.Nobody p = true
remains (leave.Consumer q) p = is_other p q
remains (leave.Channel id) p = not (p.connection == id.connection && p.channel == id.number)
remains (leave.Connection c) p = not (p.connection == c)

-- `k` is a consumer of this channel, if it is open
abbrev pub IsConsumerIn : Option Open → Consumer → Type 0
IsConsumerIn o k = (ch : Open) × (o ≡ Some ch) × IsIn k ch.given.consumers

-- `p` is one of the consumers that the event of channel `h` of connection `c` ends, and took from the queue at index `queue`
abbrev pub IsNamed : ℕ → ℕ → Ends → ℕ → Pick → Type 0
IsNamed c h ended.Nothing queue p = ⊥
IsNamed c h (ended.Consumer s) queue p = (queue ≡ s.queue) × (p ≡ consumer_at c h s.number)
IsNamed c h (ended.Channel o) queue p = (k : Consumer) × IsConsumerIn o k × (k.queue ≡ queue) × (p ≡ consumer_at c h k.number)
IsNamed c h (ended.Connection o) queue p = (l : Running) × (o ≡ Some l)
    × (d : ℕ) × (k : Consumer) × IsConsumerIn (channel_in l d) k × (k.queue ≡ queue) × (p ≡ consumer_at c d k.number)

-- ---- how they are found

-- the consumer `p` of the queue at index `queue` is the one that `gone` names; or several leave, and the queue is in the set if its index is below `count`
abbrev pub IsAmong : ℕ → Gone → List ℕ → ℕ → Pick → Type 0
IsAmong count Nobody named queue p = ⊥
IsAmong count (One q s) named queue p = (queue ≡ s.queue) × (p ≡ q)
IsAmong count Several named queue p = queue < count → bit_of named queue ≡ 1

-- The consumer `p` of the queue at index `queue` is added to `old` and the set `before`, which are then `new` and `after`.
pub record AddsLeaver (p : Pick) (queue count : ℕ) (old : Gone) (before : List ℕ) (new : Gone) (after : List ℕ) : Type 0 where
  pub size : length after ≡ length before
  pub stay : (n : ℕ) (q : Pick) → IsAmong count old before n q → IsAmong count new after n q
  pub come : IsAmong count new after queue p
  pub one : (q : Pick) (s : Seat) → new ≡ One q s → (old ≡ One q s) ⊎ (q ≡ p)

-- Consumers of connection `c`, by channel, are added to `old` and the set `before`, which are then `new` and `after`.
pub record AreAdded (c : ℕ) (those : ℕ → Consumer → Type 0) (count : ℕ) (old : Gone) (before : List ℕ) (new : Gone) (after : List ℕ) : Type 0 where
  pub size : length after ≡ length before
  pub stay : (n : ℕ) (q : Pick) → IsAmong count old before n q → IsAmong count new after n q
  pub come : (h : ℕ) (k : Consumer) → those h k → IsAmong count new after k.queue (consumer_at c h k.number)
  pub one : (q : Pick) (s : Seat) → new ≡ One q s
      → (old ≡ One q s) ⊎ ((h : ℕ) × (k : Consumer) × those h k × (q ≡ consumer_at c h k.number))

-- Each consumer that the event of channel `h` of connection `c` ends is among `gone`; if that names one, it is one that leaves.
pub record FindsLeavers (c h : ℕ) (ends : Ends) (count : ℕ) (gone : Gone) (before after : List ℕ) : Type 0 where
  pub size : length after ≡ length before
  pub named : (queue : ℕ) (p : Pick) → IsNamed c h ends queue p → IsAmong count gone after queue p
  pub one : (q : Pick) (s : Seat) → gone ≡ One q s → remains (leavers_of c h ends) q ≡ false

-- The running connections, each with its open channels.
use Rattle.std.specs.Prelude.{◌≡◌, ◌≤◌, ◌==◌, true, false, ℕ, List, length, [], Bool, Option, Some, None, nat_eq, slice_index_or, slice_set, option_map}
use Rattle.std.specs.Map.{lookup, set_value}
use Rattle.model.specs.Words.{Text}
use Rattle.model.specs.Step.{channels_up_to, paused}
use Rattle.model.specs.Broker.{Channel, Connection, with_one, with_row, with_pair}
use Rattle.channels.specs.Open.{Open, open_in}
use Rattle.model.specs.declared.deliveries.Delivery.{Delivery}

-- a running connection, with its channels by number
pub record Running : Type 0 where
  pub channel_max : ℕ
  pub is_paused : Bool
  pub channels : List (Option Open)

-- the open channel with this number
abbrev pub channel_in : Running → ℕ → Option Open
channel_in l h = slice_index_or l.channels h None

-- channel `h` is the one with this number, or any channel if there is none
abbrev pub is_number : Option ℕ → ℕ → Bool
is_number None h = true
is_number (Some number) h = h == number

-- the open channel with this number as the model has it, if queues have these names, by index
abbrev pub channel_seen : List Text → Running → ℕ → Option Channel
channel_seen names l h = option_map (open_in names) (channel_in l h)

-- the connection with this number, if it is running
abbrev pub running_in : List (ℕ × Running) → ℕ → Option Running
running_in connections c = lookup (nat_eq c) connections

-- the greatest channel number of a connection, and whether it is paused
abbrev pub limits_of : Running → Connection
limits_of l = record { channel_max = l.channel_max; is_paused = l.is_paused }

-- a running connection as the model has it: only its limits, since the model keeps channels separately
abbrev pub connection_at : Option Running → Option Connection
connection_at None = None
connection_at (Some l) = Some (limits_of l)

-- the open channel with this number, if the connection is running
abbrev pub channel_at : Option Running → ℕ → Option Open
channel_at None h = None
channel_at (Some l) h = channel_in l h

-- the connections as the model has them
abbrev pub connection_of : List (ℕ × Running) → ℕ → Option Connection
connection_of connections c = connection_at (running_in connections c)

-- the open channel `h` of connection `c`
abbrev pub channel_of : List (ℕ × Running) → ℕ → ℕ → Option Open
channel_of connections c h = channel_at (running_in connections c) h

-- the open channel `h` of connection `c` as the model has it, if queues have these names, by index
abbrev pub seen_in : List Text → List (ℕ × Running) → ℕ → ℕ → Option Channel
seen_in names connections c h = option_map (open_in names) (channel_of connections c h)

-- the connection with `ch` in place of its open channel `h`
abbrev pub with_channel_in : Running → ℕ → Open → Running
with_channel_in l h ch = record l { channels = slice_set l.channels h (Some ch) }

-- the connections with `l` in place of connection `c`
abbrev pub with_running : List (ℕ × Running) → ℕ → Running → List (ℕ × Running)
with_running connections c l = set_value (nat_eq c) connections l

-- `connections` with `ch` as channel `h` of connection `c`, if that is running; otherwise unchanged
abbrev pub with_channel_at : List (ℕ × Running) → ℕ → ℕ → Option Running → Open → List (ℕ × Running)
with_channel_at connections c h None ch = connections
with_channel_at connections c h (Some l) ch = with_running connections c (with_channel_in l h ch)

-- the connections, with `ch` in place of the open channel `h` of connection `c`
abbrev pub with_channel : List (ℕ × Running) → ℕ → ℕ → Open → List (ℕ × Running)
with_channel connections c h ch = with_channel_at connections c h (running_in connections c) ch

-- channel `h` is `ch` now, and the other channels are unchanged
abbrev pub IsChannelSet : List (Option Open) → ℕ → Option Open → List (Option Open) → Type 0
IsChannelSet old h ch new = (k : ℕ) → slice_index_or new k None ≡ with_one (λ (i : ℕ). slice_index_or old i None) h ch k

-- channel `h` of the connection is `ch` now, and nothing else of the connection changed
pub record PutsIn (old : Running) (h : ℕ) (ch : Option Open) (new : Running) : Type 0 where
  pub max : new.channel_max ≡ old.channel_max
  pub pause : new.is_paused ≡ old.is_paused
  pub channels : (k : ℕ) → channel_in new k ≡ with_one (channel_in old) h ch k

-- the unacknowledged deliveries of a channel, if it is open
abbrev pub outstanding_on : Option Open → List Delivery
outstanding_on None = []
outstanding_on (Some ch) = ch.given.outstanding

-- the connection, if it is running, has slots only for channels with a number below `n`
abbrev pub HasPlacesBelow : List (ℕ × Running) → ℕ → ℕ → Type 0
HasPlacesBelow connections c n = (l : Running) → running_in connections c ≡ Some l → length l.channels ≤ n

-- Channel `h` of connection `c` is `ch` now, and nothing else changed.
pub record PutsChannel (old : List (ℕ × Running)) (c h : ℕ) (ch : Option Open) (new : List (ℕ × Running)) : Type 0 where
  pub connections : (d : ℕ) → connection_of new d ≡ connection_of old d
  pub channels : (d k : ℕ) → channel_of new d k ≡ with_pair (channel_of old) c h ch d k

-- `new` has exactly the connections `connections` and the channels `channels`.
pub record HoldsConnections (new : List (ℕ × Running)) (connections : ℕ → Option Connection) (channels : ℕ → ℕ → Option Open) : Type 0 where
  pub connections_are : (d : ℕ) → connection_of new d ≡ connections d
  pub channels_are : (d k : ℕ) → channel_of new d k ≡ channels d k

-- connection `c`, if it is running, is paused or not, as `is_paused` says, and nothing else changed
abbrev pub SetsPaused : List (ℕ × Running) → ℕ → Bool → List (ℕ × Running) → Type 0
SetsPaused old c is_paused new = HoldsConnections new (with_one (connection_of old) c (paused is_paused (connection_of old c))) (channel_of old)

-- Connection `c` is running now, with channel-max `max`, and its channels 1 to `k` are open and new. All others are unchanged.
pub record OpensConnection (old : List (ℕ × Running)) (c max k : ℕ) (new : List (ℕ × Running)) : Type 0 where
  pub connections_are : (d : ℕ) → connection_of new d ≡ with_one (connection_of old) c (Some (record { channel_max = max; is_paused = false })) d
  pub channels_are : (names : List Text) (d h : ℕ) → seen_in names new d h ≡ with_row (seen_in names old) c (channels_up_to k) d h
  pub others_stay : (d h : ℕ) → (d == c) ≡ false → channel_of new d h ≡ channel_of old d h

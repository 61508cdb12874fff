-- What is asked of a wire, and what it answers (own).
use Rattle.std.specs.Prelude.{◌≡◌, ◌+◌, ℕ, zero, suc, List, [], ◌∷◌, ◌++◌, length, Option, Some, None, Bool, true, false}
use Rattle.std.specs.Prelude.{◌==◌, if◌then◌else◌, filter_map, count_by}
use Rattle.model.specs.Topology.{IsIn}
use Rattle.serving.specs.declared.peers.Peer.{Peer}

-- One call of a wire, with its answer: a read with the length that it was offered, a write with all bytes that it was offered.
pub data Call : Type 0 where
  Accepted : (socket : ℕ) → Call
  Not_accepted : Call
  Accept_failed : Call
  Got : (socket room : ℕ) → (bytes : List ℕ) → Call
  Nothing_got : (socket room : ℕ) → Call
  Read_ended : (socket room : ℕ) → Call
  Read_failed : (socket room : ℕ) → Call
  Took : (socket : ℕ) → (offered taken : List ℕ) → Call
  Nothing_taken : (socket : ℕ) → (offered : List ℕ) → Call
  Write_failed : (socket : ℕ) → (offered : List ℕ) → Call
  Closed : (socket : ℕ) → Call
  -- the connection of the socket started running
  Welcomed : (socket : ℕ) → Call
  -- the connection of the socket stopped running
  Farewell : (socket : ℕ) → Call
  Rested : Call

-- an accept, a read or a write without its answer; other calls have no `Ask`
pub data Ask : Type 0 where
  To_accept : Ask
  To_read : (socket : ℕ) → Ask
  To_write : (socket : ℕ) → (bytes : List ℕ) → Ask

-- the ask of a call that is an accept, a read or a write
abbrev pub ask : Call → Option Ask
ask (Accepted s) = Some To_accept
ask Not_accepted = Some To_accept
ask Accept_failed = Some To_accept
ask (Got s room bytes) = Some (To_read s)
ask (Nothing_got s room) = Some (To_read s)
ask (Read_ended s room) = Some (To_read s)
ask (Read_failed s room) = Some (To_read s)
ask (Took s offered taken) = Some (To_write s offered)
ask (Nothing_taken s offered) = Some (To_write s offered)
ask (Write_failed s offered) = Some (To_write s offered)
ask (Closed s) = None
ask (Welcomed s) = None
ask (Farewell s) = None
ask Rested = None

-- the accepts, reads and writes among these calls, in order
abbrev pub asks : List Call → List Ask
asks calls = filter_map ask calls

-- whether a call's answer is a failure
abbrev pub is_failed : Call → Bool
is_failed Accept_failed = true
is_failed (Read_failed s room) = true
is_failed (Write_failed s offered) = true
is_failed call = false

-- how many bytes a socket gave and took since it was accepted
pub record Totals : Type 0 where
  pub got : ℕ
  pub taken : ℕ

-- the totals of a socket that was just accepted
abbrev pub no_bytes : Totals
no_bytes = record { got = 0; taken = 0 }

-- the totals after `n` more bytes were got
abbrev pub with_got : ℕ → Option Totals → Option Totals
with_got n None = None
with_got n (Some t) = Some (record { got = t.got + n; taken = t.taken })

-- the totals after `n` more bytes were taken
abbrev pub with_taken : ℕ → Option Totals → Option Totals
with_taken n None = None
with_taken n (Some t) = Some (record { got = t.got; taken = t.taken + n })

-- the totals of socket s after a call; they begin with the call that accepted it
abbrev pub total_after : ℕ → Option Totals → Call → Option Totals
total_after s t (Accepted r) = if r == s then Some no_bytes else t
total_after s t (Got r room bytes) = if r == s then with_got (length bytes) t else t
total_after s t (Took r offered taken) = if r == s then with_taken (length taken) t else t
total_after s t call = t

-- the totals of socket s after these calls
abbrev pub totals_after : ℕ → Option Totals → List Call → Option Totals
totals_after s t [] = t
totals_after s t (call ∷ more) = totals_after s (total_after s t call) more

-- What a wire knows.
pub record Traffic : Type 0 where
  -- its calls so far, or `None` if it doesn't know them
  pub calls : Option (List Call)
  -- how many of them failed
  pub failures : ℕ
  -- whether a socket has or had this name
  pub is_given : ℕ → Bool
  -- how many bytes the socket of this name gave and took, or `None` if the wire doesn't know that
  pub totals : ℕ → Option Totals

-- what is known of all calls after the calls `more`: those known before, followed by `more`; or `None`, if the calls are no longer known
abbrev pub Follows : Option (List Call) → List Call → Option (List Call) → Type 0
Follows old more None = Unit {0}
Follows old more (Some calls) = (before : List Call) × (old ≡ Some before) × (calls ≡ before ++ more)

-- What a wire that knew `old` knows after the calls `more`.
pub record AddsCalls (old : Traffic) (more : List Call) (new : Traffic) : Type 0 where
  pub calls : Follows old.calls more new.calls
  pub failures : new.failures ≡ old.failures + count_by is_failed more
  -- a name that was given stays given
  pub kept : (s : ℕ) → old.is_given s ≡ true → new.is_given s ≡ true
  -- the name of an accepted socket is given
  pub given : (s : ℕ) → IsIn (Accepted s) more → new.is_given s ≡ true
  -- totals that are known are those known before, with the bytes that these calls gave and took added
  pub totals : (s : ℕ) (t : Totals) → new.totals s ≡ Some t → totals_after s (old.totals s) more ≡ Some t

-- the buffer length, in bytes, that counts as offered to a read that the wire answers by itself (`pass_silent`)
abbrev pub least_room : ℕ
least_room = 16

-- a read of the socket in each taken one of the first n of these slots, in order, got nothing
abbrev pub AllWait : ℕ → List (Option Peer) → Traffic → Traffic → Type 0
AllWait zero ps old new = new ≡ old
AllWait (suc n) [] old new = new ≡ old
AllWait (suc n) (None ∷ ps) old new = AllWait n ps old new
AllWait (suc n) (Some p ∷ ps) old new = (mid : Traffic) × AddsCalls old (Nothing_got p.socket least_room ∷ []) mid × AllWait n ps mid new

-- socket `s` was offered these bytes and took none; without bytes it was not asked
abbrev pub TakesNothing : ℕ → List ℕ → Traffic → Traffic → Type 0
TakesNothing s [] old new = new ≡ old
TakesNothing s (byte ∷ bytes) old new = AddsCalls old (Nothing_taken s (byte ∷ bytes) ∷ []) new

-- the sockets of the first n of these slots were offered the outputs of their connections, one after another, and took nothing
abbrev pub NoneTakes : (ℕ → List ℕ) → ℕ → List (Option Peer) → Traffic → Traffic → Type 0
NoneTakes output zero ps old new = new ≡ old
NoneTakes output (suc n) [] old new = new ≡ old
NoneTakes output (suc n) (None ∷ ps) old new = NoneTakes output n ps old new
NoneTakes output (suc n) (Some p ∷ ps) old new = (mid : Traffic) × TakesNothing p.socket (output p.connection) old mid × NoneTakes output n ps mid new

-- no earlier socket had this name
abbrev pub IsFresh : ℕ → Traffic → Type 0
IsFresh s traffic = traffic.is_given s ≡ false

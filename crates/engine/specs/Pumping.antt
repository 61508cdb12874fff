-- The effects of a delivery on the broker and on one connection.
use Rattle.std.specs.Prelude.{◌≡◌, ◌≤◌, ◌<◌, ◌++◌, ℕ, List, Option, length, false, get_or, set, MatchOption}
use Rattle.std.specs.List.{AllByRecursion}
use Rattle.model.specs.Topology.{Topology}
use Rattle.model.specs.Broker.{Broker}
use Rattle.model.specs.Spelling.{receiver, spelling, IsSpelled}
use Rattle.model.specs.Run.{Happening, notes_of}
use Rattle.model.specs.Arrivals.{World, Delivers, is_past_bound}
use Rattle.model.specs.Headline.{KeepsEvents}
use Rattle.model.specs.declared.events.Send.{Send}
use Rattle.model.specs.declared.notes.Note.{Note}
use Rattle.runs.specs.Opened.{Idles}
use Rattle.runs.specs.declared.delivered.Delivered.{Delivered}
use Rattle.broker.specs.Turns.{WithTurn, topology_kept, broker_of}
use Rattle.commands.specs.Picked.{DeliversTo}
use Rattle.commands.specs.declared.picks.Pick.{Pick}
use Rattle.engine.specs.Performing.{PausesOr}
use Rattle.engine.specs.declared.connection.Connection.{Connection}

-- ---- one connection

-- A message was delivered to consumer `to` of the connection: its frames are appended to the output, and the broker pauses the connection if that
-- brought the output past the bound.
pub record ConnectionPumped (t : Topology) (b : Broker) (to : Pick) (old : Connection) (notes : List Note) (new_b : Broker) (new : Connection) : Type 0 where
  pub sends : List Send
  pub mid : Broker
  pub delivers : DeliversTo b to sends notes mid
  pub own : AllByRecursion (λ s. receiver s ≡ to.connection) sends
  pub bounded : old.session.frame_max ≤ 131072
  pub spelled : AllByRecursion (IsSpelled old.session.frame_max) sends
  pub put : new.output.bytes ≡ old.output.bytes ++ spelling old.session.frame_max sends
  pub pauses : PausesOr t to.connection false (is_past_bound new.output.bytes) mid new_b

-- `ConnectionPumped`, from the broker `b` with its turns to `new_b`
abbrev pub PumpsConnection : WithTurn → Pick → Connection → List Note → WithTurn → Connection → Type 0
PumpsConnection b to old notes new_b new = ConnectionPumped (topology_kept b) (broker_of b) to old notes (broker_of new_b) new

-- ---- the connections

-- The output of connection c changed, and nothing else of the list did.
pub record OutputChanges (c : ℕ) (ls new_ls : List Connection) : Type 0 where
  pub place : ℕ
  pub within : place < length ls
  pub old : Connection
  pub here : get_or ls place old ≡ old
  pub number : old.number ≡ c
  pub new : Connection
  pub rest : new ≡ record old { output = new.output }
  pub left : new_ls ≡ set ls place new

-- A message was delivered to the consumer `to` of one of the connections.
pub record ConnectionsPumped (t : Topology) (b : Broker) (to : Pick) (ls : List Connection) (notes : List Note)
    (new_b : Broker) (new_ls : List Connection) : Type 0 where
  pub change : OutputChanges to.connection ls new_ls
  pub pumped : ConnectionPumped t b to change.old notes new_b change.new

-- An allocation failed: nothing was delivered to connection c, and the bytes of its output are unchanged.
pub record ConnectionsNotPumped (b : Broker) (c : ℕ) (ls : List Connection) (new_b : Broker) (new_ls : List Connection) : Type 0 where
  pub change : OutputChanges c ls new_ls
  pub broker : new_b ≡ b
  pub output : change.new.output.bytes ≡ change.old.output.bytes

-- ---- the engine

-- A message was delivered to a consumer of `connection`, and certified delivery's promises hold of what happened.
pub record IsPump (old : World) (connection : ℕ) (notes : List Note) (new : World) : Type 0 where
  pub happenings : List Happening
  pub noted : notes ≡ notes_of happenings
  pub delivers : Delivers old connection happenings new
  pub promises : KeepsEvents old.state.broker happenings new.state.broker

-- `IsPump`, and the delivery is the one to the consumer `to`.
pub record IsPumpTo (old : World) (to : Pick) (notes : List Note) (new : World) : Type 0 where
  pub pump : IsPump old to.connection notes new
  pub given : DeliversTo old.state.broker to pump.delivers.puts.h.sends pump.delivers.puts.h.notes pump.delivers.puts.h.after.broker

-- a delivery was made, to the connection and with the notes that `did` has (`IsPump`), or none can be made
abbrev pub PumpsOrIdles : World → Option Delivered → World → Type 0
PumpsOrIdles old did new = MatchOption did (Idles old new) (λ d. IsPump old d.connection d.notes.items new)

-- The names that several files of these proofs use.
pub use Rattle.assembly.proofs.Fronts.{ends_front, goes_front, yields_front}
pub use Rattle.assembly.specs.Front.{HasFront}
pub use Rattle.assembly.specs.Held.{Held, stream_of}
pub use Rattle.assembly.specs.Onward.{GivesCommand, Stops, YieldsNext}
pub use Rattle.broker.specs.Turns.{WithTurn}
pub use Rattle.broker.specs.Waiting.{IsPickedInTurn, LinesMove, NobodyIsPutBack, NoneIsLater, ServesSoon}
pub use Rattle.commands.specs.Picked.{IsPick}
pub use Rattle.commands.specs.State.{Kept, nothing}
pub use Rattle.engine.specs.Engines.{Becomes, Changes, ConnectionFed, ConnectionSent, ConnectionTookOr, ConnectionsFed, ConnectionsSent, ConnectionsTook, HasConnection, IsConnectionIndex, IsNotGone, IsSwept, OnDid, Turned, left_in, left_to_read, room_for, room_in}
pub use Rattle.engine.specs.InForce.{in_force}
pub use Rattle.engine.specs.Offered.{JudgesOffered}
pub use Rattle.engine.specs.Opening.{Numbers, OpenedBy, OpenedNew, OpenedReady}
pub use Rattle.engine.specs.Performing.{ByBroker, ByPhase, DecidesByPhase, IsAskedBy, PausesOr, Rules, rules_of, session_after}
pub use Rattle.engine.specs.Pumping.{ConnectionPumped, ConnectionsNotPumped, ConnectionsPumped, IsPump, IsPumpTo, OutputChanges}
pub use Rattle.engine.specs.Reading.{ComesNext, HasCommand, HasMore, IsEventMade, IsKeptEvent, kept_for, kept_of, to_read}
pub use Rattle.engine.specs.Turning.{ConnectionDid, ConnectionSame, ConnectionStays, ConnectionTook, ConnectionWaits, DidEvent, DidNext, MayTurn, OnIdle, Performed, has_performed}
pub use Rattle.engine.specs.Waiting.{KeepsPicked, KeepsTurns, PerformsNext, ServesOne, PicksNobody, PicksOne, TurnLeaves}
pub use Rattle.engine.specs.Allocating.{brings_message, MayAllocate, ReloadMayAllocate, puts, judges}
pub use Rattle.engine.specs.World.{AreConnections, AreRising, IsConnection, IsEngine, IsNew, Parts, config_of, connection_in, is_connection_gone, session_of, state_of, wire_in, wire_of, world_of}
pub use Rattle.engine.specs.declared.connection.Connection.{Connection}
pub use Rattle.engine.specs.declared.turning.Turn.{Turn}
pub use Rattle.laws.proofs.Consistency.{new_is_consistent, stay_consistent}
pub use Rattle.laws.proofs.Naming.{worlds_named}
pub use Rattle.laws.proofs.Whole.{pump_keeps, turn_confirms, turn_keeps}
pub use Rattle.model.specs.Arrivals.{Delivers, IsIdle, IsSaid, Loses, NoneCanDeliver, Pauses, Reads, Same, SameToCome, Seen, TakesOutput, Turns, Waits, Wire, World, again, can_open, delivers, event_of, fault, fresh, is_awake, is_ended, is_gone, is_over, is_past_bound, is_paused, kept, new_wire, new_world, count_open, still, with_setup, under_session, waits, wire_after, with_heard}
pub use Rattle.model.specs.Broker.{Broker, with_one}
pub use Rattle.model.specs.Commands.{Ends, GoesOn, IsCommand, Stream, Takes, Yields, goes, heard, opened_stream, running_stream, stays}
pub use Rattle.model.specs.Consistent.{IsConsistent}
pub use Rattle.model.specs.Consuming.{CanDeliver}
pub use Rattle.model.specs.Guarantee.{AllHold, Guarantee}
pub use Rattle.model.specs.Headline.{CertifiedDelivery, IsSound}
pub use Rattle.model.specs.Naming.{AreNamed}
pub use Rattle.model.specs.Opening.{IsAnswered, first_move, new_session}
pub use Rattle.model.specs.Phases.{Move, Session, after_sends, faulted, is_running, running_session, to_phase}
pub use Rattle.model.specs.Run.{Happening, notes_of}
pub use Rattle.model.specs.Sending.{AreCarried, AreOwn, IsAddressed}
pub use Rattle.model.specs.Spelling.{IsSpelled, receiver, spelling}
pub use Rattle.model.specs.State.{Config, Moves, OfCommand, OfFault, OfFirst, OfLarge, State, Step, Steps, after_move}
pub use Rattle.model.specs.Step.{Acts, Is, empty_publish}
pub use Rattle.model.specs.Topology.{IsWellFormed, Topology}
pub use Rattle.model.specs.declared.events.Command.{Command}
pub use Rattle.model.specs.declared.events.Command.TheVariants.{Head, Plain, TooLarge}
pub use Rattle.model.specs.declared.events.Event.{Event}
pub use Rattle.model.specs.declared.events.Phase.{Phase}
pub use Rattle.model.specs.declared.events.Send.{Send}
pub use Rattle.model.specs.declared.messages.User.{User}
pub use Rattle.model.specs.declared.notes.Note.{Note}
pub use Rattle.model.specs.declared.obstacles.Obstacle.{Obstacle}
pub use Rattle.outputs.specs.Waiting.{HoldsNone, WaitingBytes}
pub use Rattle.reloading.specs.Obstacles.{Judges}
pub use Rattle.runs.proofs.Worlds.{waits_not, world_same}
pub use Rattle.runs.specs.Opened.{Hears, Idles, IsLost, IsOpened, OpensNew, OpensReady, TakesAway, runs}
pub use Rattle.runs.specs.Reloaded.{IsMemory, IsPutInForce, ReportsReload, wanting}
pub use Rattle.runs.specs.Wants.{To_reload}
pub use Rattle.std.proofs.Common.{Bool, List, None, Option, Some, [], ap, append-nil, arith, cond, drop, eqb, false, get_or, inl, inr, length, ltb, ltb-false, ltb-true, map, refl, remove, rules, set, subst, suc, sym, true, zero, ℕ, ◌++◌, ◌+◌, ◌<◌, ◌∙◌, ◌∷◌, ◌≡◌, ◌≢◌, ◌≤◌, ◌⊎◌}
pub use Rattle.std.proofs.lemmas.Bool.{eq-eqb, eqb-true, false≢true}
pub use Rattle.std.proofs.lemmas.Bool.Decides.{nat_tests}
pub use Rattle.std.proofs.lemmas.List.Sorted.{IsPartitionPoint-from_clause, IsPartitionedBy-ltb, answers_always}
pub use Rattle.std.proofs.lemmas.Result.{err_from_is_err_and}
pub use Rattle.std.specs.List.{AllByRecursion, HoldsAt}
pub use Rattle.std.specs.Prelude.{IfOk, IfSome, IsOk, IsSome, MatchBool, OnErr, OnOk, if◌then◌else◌, is_some, nat_le, nat_lt, not, ◌&&◌, ◌==◌}

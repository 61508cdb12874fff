-- What the calls of an engine leave of turns to be served.
use Rattle.engine.proofs.Names.{◌≡◌, ◌∙◌, ◌<◌, ℕ, List, Bool, false, Option, Some, None, get_or, length, refl, sym, ap, subst, arith, IfOk, Broker, Stream, Wire, Reads, is_ended, Command, Event, stream_of, IsPick, WithTurn, Note, IsPumpTo, NobodyIsPutBack, NoneIsLater, IsPickedInTurn, ServesSoon, Rules, rules_of, kept_of, ComesNext, DidEvent, DidNext, Parts, connection_in, wire_in, wire_of, world_of, IsEngine, IsConnectionIndex, ConnectionsTook, KeepsTurns, PerformsNext, TurnLeaves, KeepsPicked, PicksOne, ServesOne, Connection, Turn}
use Rattle.std.proofs.Common.{Result, Ok, Err}
use Rattle.std.proofs.lemmas.Option.{same_Some}
use Rattle.commands.specs.State as core
use Rattle.commands.specs.declared.picks.Pick.{Pick}
use Rattle.broker.specs.Turns.{topology_kept, broker_of}
use Rattle.engine.specs.declared.turning.Turn.TheVariants as turn
use Rattle.engine.proofs.Turned.{next_read}
use Rattle.engine.proofs.Swept.{same_at}
use Rattle.engine.proofs.Tooks.{found_at, number_is}

-- ---- one thing after another

pub same_later : (b : WithTurn) → NoneIsLater b b
same_later b = record { next = refl; took = λ place p takes. takes; lines = λ place p takes. omega arith }

pub later_then : (old mid new : WithTurn) → NoneIsLater old mid → NoneIsLater mid new → NoneIsLater old new
later_then old mid new first last = record {
  next = last.next ∙ first.next;
  took = λ place p takes. first.took place p (last.took place p takes);
  lines = λ place p takes.
      let one = first.lines place p (last.took place p takes) in
      let two = last.lines place p takes in
      omega (arith, one, two);
}

pub turns_same : (b : WithTurn) → KeepsTurns b b
turns_same b = record { turn = refl; topology = refl; later = same_later b }

pub turns_if : (old new : WithTurn) → new ≡ old → KeepsTurns old new
turns_if old new same = subst (λ (b : WithTurn). KeepsTurns old b) (sym same) (turns_same old)

pub none_back : (old new : WithTurn) → NoneIsLater old new → NobodyIsPutBack old new
none_back old new later = record { next = later.next; lines = λ place p had takes. later.lines place p takes }

pub back_then : (old mid new : WithTurn) → NobodyIsPutBack old mid → NoneIsLater mid new → NobodyIsPutBack old new
back_then old mid new first last = record {
  next = last.next ∙ first.next;
  lines = λ place p had takes.
      let one = first.lines place p had (last.took place p takes) in
      let two = last.lines place p takes in
      omega (arith, one, two);
}

-- ---- a turn

-- what is performed is what the connection says next
pub did_leaves : (c : ℕ) (w : Wire) (next : Stream) (e : Event) (r : Rules) (l l' : Connection) (what : Turn) (old new : WithTurn) → Reads c w.kept w.stream e next
    → DidEvent r (broker_of old) l e what (broker_of new) l' → new.turn ≡ old.turn → topology_kept new ≡ topology_kept old → NobodyIsPutBack old new → TurnLeaves c w old what new
did_leaves c w next e r l l' (turn.Did notes) old new read did same topology later =
    record { event = e; next = next; read = read; turn = same; topology = topology; back = later }
did_leaves c w next e r l l' turn.Idle old new read did same topology later = absurd did
did_leaves c w next e r l l' turn.Paused old new read did same topology later = absurd did
did_leaves c w next e r l l' turn.Over old new read did same topology later = absurd did

-- what was read was performed, or nothing was
pub next_leaves : (w : Wire) (r : Rules) (old new : WithTurn) (l mid l' : Connection) (left : Option Event) (what : Turn) → w.kept ≡ kept_of l.kept → w.stream ≡ stream_of l.stream
    → ComesNext l.number l.kept (stream_of l.stream) left mid.stream.fault (stream_of mid.stream) → DidNext r old mid left what new l' → new.turn ≡ old.turn → topology_kept new ≡ topology_kept old
    → TurnLeaves l.number w old what new
next_leaves w r old new l mid l' (Some e) what kept stream h did same topology =
    let read = next_read l.number l.kept (stream_of l.stream) e mid.stream.fault (stream_of mid.stream) h in
    did_leaves l.number w read.0 e r mid l' what old new (subst (λ (k : Option Command). Reads l.number k w.stream e read.0) (sym kept) (subst (λ (s : Stream). Reads l.number (kept_of l.kept) s e read.0) (sym stream) read.1)) did.0 same topology did.1
next_leaves w r old new l mid l' None what kept stream h did same topology = subst (λ (t : Turn). TurnLeaves l.number w old t new) (sym did.idle) did.broker

-- what one that is not over has to say is what its wire has
wire_found : (p : Parts) (c : ℕ) (l : Connection) → connection_in p.connections c ≡ Some l → is_ended l.session.phase ≡ false → wire_in false l ≡ (world_of p).wire c
wire_found p c l found going = sym (ap wire_of found ∙ ap (λ (v : Bool). wire_in v l) going)

-- what is said of the connection at a place is said of each that is there
pub leaves_here : {E : Type 0} (result : Result Turn E) (ls : List Connection) (i : ℕ) (l : Connection) (old new : WithTurn) → i < length ls → get_or ls i l ≡ l
    → IfOk result (λ t. TurnLeaves l.number (wire_in false l) old t new) → (m : Connection) → get_or ls i m ≡ m → IfOk result (λ t. TurnLeaves m.number (wire_in false m) old t new)
leaves_here result ls i l old new lt here leaves m there = subst (λ (k : Connection). IfOk result (λ t. TurnLeaves k.number (wire_in false k) old t new)) (same_at ls i l m lt here there) leaves

-- from the connection at a place to the world
pub leaves_at : {E : Type 0} (result : Result Turn E) (p : Parts) (c i : ℕ) (b : Broker) (ls : List Connection) (new : WithTurn) → IsEngine p → IsConnectionIndex p.connections c (Some i)
    → ConnectionsTook (rules_of (topology_kept p.broker) p.users) (broker_of p.broker) p.connections i result b ls
    → ((l : Connection) → get_or p.connections i l ≡ l → IfOk result (λ t. TurnLeaves l.number (wire_in false l) p.broker t new)) → IfOk result (λ t. TurnLeaves c ((world_of p).wire c) p.broker t new)
leaves_at (Ok (turn.Did notes)) p c i b ls new e place t leaves =
    let l = t.old in
    let here = t.changes.here in
    let found = found_at p.connections c i l e.connections.rising place here in
    subst (λ (w : Wire). PerformsNext c w p.broker new) (wire_found p c l found t.took.0)
    (subst (λ (n : ℕ). PerformsNext n (wire_in false l) p.broker new) (number_is p.connections c i l place here) (leaves l here))
leaves_at (Ok turn.Idle) p c i b ls new e place t leaves = leaves t.old t.changes.here
leaves_at (Ok turn.Paused) p c i b ls new e place t leaves = leaves t.old t.changes.here
leaves_at (Ok turn.Over) p c i b ls new e place t leaves = leaves t.old t.changes.here
leaves_at (Err x) p c i b ls new e place t leaves = tt

-- ---- a delivery

pub kept_picked : (old : WithTurn) (picked : Pick) → ((p : Pick) → old.turn ≡ Some p → IsPick (broker_of old) p → Some picked ≡ Some p) → KeepsPicked old picked
kept_picked old picked again p had could = same_Some picked p (again p had could)

-- who is picked, and whether it is served or not
pub picks_one : (old mid : WithTurn) (picked : Pick) → mid.kept ≡ old.kept → IsPickedInTurn old picked mid → mid.turn ≡ Some picked
    → ((p : Pick) → old.turn ≡ Some p → IsPick (broker_of old) p → Some picked ≡ Some p) → PicksOne old mid
picks_one old mid picked kept turns has again = record { picked = picked; again = kept_picked old picked again; turn = has; kept = kept; in_turn = turns }

pub serves_one : (old : Parts) (mid : WithTurn) (new : Parts) (picked : Pick) (notes : List Note) → mid.kept ≡ old.broker.kept → IsPickedInTurn old.broker picked mid → mid.turn ≡ Some picked
    → ((p : Pick) → old.broker.turn ≡ Some p → IsPick (broker_of old.broker) p → Some picked ≡ Some p) → IsPumpTo (world_of old) picked notes (world_of new)
    → NoneIsLater mid new.broker → topology_kept new.broker ≡ topology_kept mid → new.broker.turn ≡ None → ServesSoon mid picked → ServesOne old picked.connection notes new
serves_one old mid new picked notes kept turns has again served later topology over soon = record {
  mid = mid;
  picked = record { picked = picked; again = kept_picked old.broker picked again; turn = has; kept = kept; in_turn = turns };
  its = refl;
  served = served;
  over = over;
  topology = topology ∙ ap core.topology_kept kept;
  later = later;
  soon = soon;
}

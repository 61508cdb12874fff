-- A delivery to one connection is a delivery of the world.
use Rattle.engine.proofs.Names.{◌≡◌, ℕ, List, ◌∷◌, ◌++◌, Bool, true, false, cond, Option, Some, None, get_or, set, remove, length, refl, sym, ap, subst, ◌∙◌, append-nil, ◌&&◌, not, nat_lt, is_some, IfOk, OnErr, false≢true, CanDeliver, IsConsistent, Session, is_running, State, spelling, Happening, notes_of, Wire, Same, Pauses, Delivers, delivers, NoneCanDeliver, is_ended, is_past_bound, is_paused, Phase, Note, pump_keeps, Kept, WithTurn, Idles, IsKeptEvent, WaitingBytes, ConnectionPumped, OutputChanges, ConnectionsPumped, ConnectionsNotPumped, IsPumpTo, Parts, connection_in, session_of, wire_in, wire_of, config_of, state_of, world_of, is_connection_gone, AreRising, IsEngine, Becomes, Changes, HasConnection, IsConnectionIndex, Connection}
use Rattle.std.proofs.Common.{Result, Ok, Err}
use Rattle.model.specs.declared.events.Phase.TheVariants as phase
use Rattle.model.specs.declared.events.Event.TheVariants as event
use Rattle.commands.specs.State as core
use Rattle.commands.specs.Picked.{DeliversTo}
use Rattle.commands.specs.declared.picks.Pick.{Pick}
use Rattle.broker.specs.Turns.{topology_kept, broker_of}
use Rattle.engine.proofs.Numbered.{connection_in-place}
use Rattle.engine.proofs.Agreeing.{agreed, same_agrees, delivers_agrees}
use Rattle.engine.proofs.Lifted.{Ended, ended, at_own, at_others, same_config, output_in, with_same}
use Rattle.engine.proofs.Tooks.{Stays, becomes, sound, world_stays, engine_change}

-- ---- where a delivery can be made

running_open : (p : Phase) → is_running p ≡ true → is_ended p ≡ false
running_open phase.Header e = refl
running_open phase.Start e = refl
running_open phase.Tune e = refl
running_open phase.Open e = refl
running_open phase.Running e = refl
running_open phase.Closing e = refl
running_open phase.Over e = absurd (false≢true e)

-- its connection runs
runs : (p : Parts) (c : ℕ) → IsConsistent (world_of p) → CanDeliver (broker_of p.broker) c → is_running (session_of (connection_in p.connections c)).phase ≡ true
runs p c k made = sym (k.running c) ∙ ap is_some made.taker.runs

-- and its output is below the bound
below : (p : Parts) (c : ℕ) → IsConsistent (world_of p) → CanDeliver (broker_of p.broker) c → is_paused (world_of p) c ≡ false
below p c k made = sym (k.paused c made.taker.connection made.taker.runs) ∙ made.taker.awake

-- the connection is in the list
pub picked_there : (p : Parts) (c : ℕ) → IsEngine p → CanDeliver (broker_of p.broker) c → HasConnection p.connections c
picked_there p c e made = go (connection_in p.connections c) refl
  where
    go : (o : Option Connection) → connection_in p.connections c ≡ o → HasConnection p.connections c
    go None none = absurd (false≢true (sym (ap (λ (o : Option Connection). is_running (session_of o).phase) none) ∙ runs p c e.consistent made))
    go (Some l) found = (l, found)

-- ---- the connection whose output changes

found_there : (ls new_ls : List Connection) (c : ℕ) (f : OutputChanges c ls new_ls) → AreRising 0 ls → connection_in ls f.old.number ≡ Some f.old
found_there ls new_ls c f r = connection_in-place 0 ls f.place f.old r f.within f.here

open_still : (p : Parts) (c : ℕ) (new_ls : List Connection) (f : OutputChanges c p.connections new_ls) → IsEngine p → CanDeliver (broker_of p.broker) c → is_ended f.old.session.phase ≡ false
open_still p c new_ls f e made =
    let found : connection_in p.connections c ≡ Some f.old = subst (λ (k : ℕ). connection_in p.connections k ≡ Some f.old) f.number (found_there p.connections new_ls c f e.connections.rising) in
    running_open f.old.session.phase (sym (ap (λ (o : Option Connection). is_running (session_of o).phase) found) ∙ runs p c e.consistent made)

output_changes : (ls new_ls : List Connection) (c : ℕ) (f : OutputChanges c ls new_ls) → is_ended f.old.session.phase ≡ false → Changes ls f.place f.old f.new new_ls
output_changes ls new_ls c f awake =
    let still : is_connection_gone f.new ≡ false = ap is_connection_gone f.rest ∙ ap (λ (v : Bool). v && not (nat_lt 0 (length f.new.output.bytes))) awake in
    record {
      within = f.within;
      here = f.here;
      number = ap (λ (z : Connection). z.number) f.rest;
      kept = λ k. subst (λ (z : Connection). IsKeptEvent z.number z.kept z.stream.fault) (sym f.rest) k;
      left = f.left ∙ sym (ap (λ (v : Bool). cond v (remove ls f.place) (set ls f.place f.new)) still);
      over = λ gone. absurd (false≢true (sym still ∙ gone));
    }

abbrev output_change : (ls : List Connection) (c i : ℕ) (old new : Connection) → IsConnectionIndex ls c (Some i) → get_or ls i old ≡ old → new ≡ record old { output = new.output } → OutputChanges c ls (set ls i new)
output_change ls c i old new at here only = record {
  place = i;
  within = at.0;
  old = old;
  here = here;
  number = sym (ap (λ (z : Connection). z.number) here) ∙ at.1 old;
  new = new;
  rest = only;
  left = refl;
}

-- the wire is as before, but for its output
output_alone : (b : Bool) (l : Connection) (o : WaitingBytes) → wire_in b (record l { output = o }) ≡ record (wire_in b l) { output = o.bytes }
output_alone true l o = refl
output_alone false l o = refl

-- ---- the delivery

-- the consumer of these numbers on this connection
abbrev on : ℕ → Pick → Pick
on c to = record to { connection = c }

delivered : (old new : Parts) (l l' : Connection) (to : Pick) (notes : List Note) → Becomes old l l' new → connection_in old.connections l.number ≡ Some l → IsConsistent (world_of old) → l' ≡ record l { output = l'.output }
    → ConnectionPumped (topology_kept old.broker) (broker_of old.broker) (on l.number to) l notes (broker_of new.broker) l'
    → (hs : List Happening) × (notes ≡ notes_of hs) × (d : Delivers (world_of old) l.number hs (world_of new))
    × DeliversTo (broker_of old.broker) (on l.number to) d.puts.h.sends d.puts.h.notes d.puts.h.after.broker
delivered old new l l' to notes b found k only p =
    let c = l.number in
    let session_was : session_of (connection_in old.connections c) ≡ l.session = ap session_of found in
    let sessions : (d : ℕ) → session_of (connection_in new.connections d) ≡ session_of (connection_in old.connections d) =
    λ d. b.sessions d ∙ with_same (λ n. session_of (connection_in old.connections n)) c l'.session (ap (λ (z : Connection). z.session) only ∙ sym session_was) d in
    let wire_was : wire_of (connection_in old.connections c) ≡ wire_of (Some l) = ap wire_of found in
    let wire_is : wire_of (connection_in new.connections c) ≡ wire_of (Some l') = b.wires c ∙ at_own (λ d. wire_of (connection_in old.connections d)) c (wire_of (Some l')) in
    let output_was : (wire_of (connection_in old.connections c)).output ≡ l.output.bytes = ap (λ (w : Wire). w.output) wire_was ∙ output_in (is_ended l.session.phase) l in
    let output_is : (wire_of (connection_in new.connections c)).output ≡ l'.output.bytes = ap (λ (w : Wire). w.output) wire_is ∙ output_in (is_ended l'.session.phase) l' in
    let mid : State = record { broker = p.mid; session = λ d. session_of (connection_in old.connections d) } in
    let h : Happening = record { config = config_of old; event = event.Deliver c; before = state_of old; sends = p.sends; notes = notes; frame_max = l.session.frame_max; after = mid } in
    let past_was : is_paused (world_of old) c ≡ false = below old c k p.delivers.delivery.made in
    let past_is : is_paused (world_of new) c ≡ is_past_bound l'.output.bytes = ap is_past_bound output_is in
    let rest : Ended (config_of old) mid c false (is_past_bound l'.output.bytes) (state_of new) = ended (config_of old) mid (state_of new) c false (is_past_bound l'.output.bytes) p.pauses sessions in (
      h ∷ rest.hs,
      sym (ap (λ (z : List Note). notes ++ z) rest.quiet ∙ append-nil notes),
      record {
        puts = record {
          h = h;
          rest = rest.hs;
          all = refl;
          mid = mid;
          happens = record { under = refl; event = refl; before = refl; after = refl; stepped = record { acts = p.delivers.delivery; session = λ d. refl } };
          own = p.own;
          limit = sym (ap (λ (s : Session). s.frame_max) session_was);
          bounded = p.bounded;
          spelled = p.spelled;
          output = output_is ∙ p.put ∙ ap (λ (z : List ℕ). z ++ spelling l.session.frame_max p.sends) (sym output_was);
          pauses = subst (λ (v : Bool). Pauses (config_of old) mid c v (is_paused (world_of new) c) rest.hs (state_of new)) (sym past_was)
              (subst (λ (v : Bool). Pauses (config_of old) mid c false v rest.hs (state_of new)) (sym past_is) rest.pauses);
          config = same_config old new l l' b;
          others = λ d ne. b.wires d ∙ at_others (λ n. wire_of (connection_in old.connections n)) c d (wire_of (Some l')) ne;
          rests = λ d ne. sessions d;
        };
        given = b.given;
        wire = wire_is ∙ ap (λ (z : Connection). wire_of (Some z)) only ∙ output_alone (is_ended l.session.phase) l l'.output
            ∙ ap (λ (w : Wire). record w { output = l'.output.bytes }) (sym wire_was)
            ∙ ap (λ (z : List ℕ). record (wire_of (connection_in old.connections c)) { output = z }) (sym output_is);
      },
      p.delivers,
    )

made_of : (old new : Parts) (to : Pick) (notes : List Note) → ConnectionsPumped (topology_kept old.broker) (broker_of old.broker) to old.connections notes (broker_of new.broker) new.connections
    → CanDeliver (broker_of old.broker) to.connection
made_of old new to notes p = p.pumped.delivers.delivery.made

pumps : (old new : Parts) (to : Pick) (notes : List Note) → IsEngine old → Stays old new
    → ConnectionsPumped (topology_kept old.broker) (broker_of old.broker) to old.connections notes (broker_of new.broker) new.connections → IsPumpTo (world_of old) to notes (world_of new)
pumps old new to notes e st p =
    let f = p.change in
    let ch = output_changes old.connections new.connections to.connection f (open_still old to.connection new.connections f e (made_of old new to notes p)) in
    let b = becomes old new f.place f.old f.new st e.connections.rising ch in
    let did = delivered old new f.old f.new to notes b (found_there old.connections new.connections to.connection f e.connections.rising) e.consistent f.rest
    (subst (λ (n : ℕ). ConnectionPumped (topology_kept old.broker) (broker_of old.broker) (on n to) f.old notes (broker_of new.broker) f.new) (sym f.number) p.pumped) in
    subst (λ (n : ℕ). IsPumpTo (world_of old) (on n to) notes (world_of new)) f.number
    (record { pump = record { happenings = did.0; noted = did.1; delivers = did.2; promises = pump_keeps (world_of old) (world_of new) did.0 (sound old e) e.consistent (delivers did.2) }; given = did.3 })

pumps_engine : (old new : Parts) (to : Pick) (notes : List Note) → IsEngine old → Stays old new
    → ConnectionsPumped (topology_kept old.broker) (broker_of old.broker) to old.connections notes (broker_of new.broker) new.connections → IsEngine new
pumps_engine old new to notes e st p =
    let f = p.change in
    let done = (pumps old new to notes e st p).pump in
    engine_change old new f.place f.old f.new e st (output_changes old.connections new.connections to.connection f (open_still old to.connection new.connections f e (made_of old new to notes p)))
    (delivers_agrees (world_of old) (world_of new) to.connection done.happenings (agreed old e) done.delivers)

-- ---- after an allocation failure

not_pumped : (old new : Parts) (c : ℕ) → IsEngine old → Stays old new → CanDeliver (broker_of old.broker) c
    → ConnectionsNotPumped (broker_of old.broker) c old.connections (broker_of new.broker) new.connections → Same (world_of old) (world_of new)
not_pumped old new c e st made p =
    let f = p.change in
    let found = found_there old.connections new.connections c f e.connections.rising in
    let b = becomes old new f.place f.old f.new st e.connections.rising (output_changes old.connections new.connections c f (open_still old c new.connections f e made)) in
    let sessions : (d : ℕ) → session_of (connection_in new.connections d) ≡ session_of (connection_in old.connections d) =
    λ d. b.sessions d ∙ with_same (λ n. session_of (connection_in old.connections n)) f.old.number f.new.session (ap (λ (z : Connection). z.session) f.rest ∙ sym (ap session_of found)) d in
    let wire : wire_of (Some f.new) ≡ wire_of (connection_in old.connections f.old.number) =
    ap (λ (z : Connection). wire_of (Some z)) f.rest ∙ output_alone (is_ended f.old.session.phase) f.old f.new.output
    ∙ ap (λ (z : List ℕ). record (wire_of (Some f.old)) { output = z }) (p.output ∙ sym (output_in (is_ended f.old.session.phase) f.old)) ∙ sym (ap wire_of found) in
    record {
      config = same_config old new f.old f.new b;
      state = λ i. record { broker = p.broker i; session = λ d. sessions d i };
      given = b.given;
      wires = λ d. b.wires d ∙ with_same (λ n. wire_of (connection_in old.connections n)) f.old.number (wire_of (Some f.new)) wire d;
    }

not_pumped_engine : (old new : Parts) (c : ℕ) → IsEngine old → Stays old new → CanDeliver (broker_of old.broker) c
    → ConnectionsNotPumped (broker_of old.broker) c old.connections (broker_of new.broker) new.connections → IsEngine new
not_pumped_engine old new c e st made p =
    let f = p.change in
    engine_change old new f.place f.old f.new e st (output_changes old.connections new.connections c f (open_still old c new.connections f e made))
    (same_agrees (world_of old) (world_of new) (agreed old e) (not_pumped old new c e st made p))

-- ---- where the broker picked first, which leaves it as it was but for the turn

-- whose turn it is matters to nothing that an engine keeps
turned_engine : (old : Parts) (b : WithTurn) → IsEngine old → IsEngine (record old { broker = record b { kept = old.broker.kept } })
turned_engine old b e = record { hold = e.hold; formed = e.formed; connections = e.connections; consistent = e.consistent; named = e.named }

-- the same with this kept, and the turns of b
abbrev with_kept : Parts → WithTurn → Kept → Parts
with_kept old b kept = record old { broker = record b { kept = kept } }

pub picked_engine : (old : Parts) (b : WithTurn) → b.kept ≡ old.broker.kept → IsEngine old → IsEngine (record old { broker = b })
picked_engine old b same e = subst (λ (k : Kept). IsEngine (with_kept old b k)) (sym same) (turned_engine old b e)

picked_pumps : (old new : Parts) (b : WithTurn) (to : Pick) (notes : List Note) → IsEngine old → b.kept ≡ old.broker.kept → Stays (record old { broker = b }) new
    → ConnectionsPumped (topology_kept b) (broker_of b) to old.connections notes (broker_of new.broker) new.connections → IsPumpTo (world_of old) to notes (world_of new)
picked_pumps old new b to notes e same st p =
    subst (λ (k : Kept). IsPumpTo (world_of (with_kept old b k)) to notes (world_of new)) same (pumps (record old { broker = b }) new to notes (picked_engine old b same e) st p)

can_still : (old : Parts) (b : WithTurn) (c : ℕ) → b.kept ≡ old.broker.kept → CanDeliver (broker_of old.broker) c → CanDeliver (broker_of b) c
can_still old b c same made = subst (λ (k : Kept). CanDeliver (core.broker_of k) c) (sym same) made

picked_not : (old new : Parts) (b : WithTurn) (c : ℕ) → IsEngine old → b.kept ≡ old.broker.kept → Stays (record old { broker = b }) new → CanDeliver (broker_of old.broker) c
    → ConnectionsNotPumped (broker_of b) c old.connections (broker_of new.broker) new.connections → Same (world_of old) (world_of new)
picked_not old new b c e same st made p =
    subst (λ (k : Kept). Same (world_of (with_kept old b k)) (world_of new)) same
    (not_pumped (record old { broker = b }) new c (picked_engine old b same e) st (can_still old b c same made) p)

-- ---- the delivery, whatever it answered

-- what it comes to for the engine
pub record PumpedAt {V E : Type 0} (r : Result V E) (notes : V → List Note) (old : Parts) (to : Pick) (new : Parts) : Type 0 where
  pub engine : IsEngine new
  pub ok : IfOk r (λ v. IsPumpTo (world_of old) to (notes v) (world_of new))
  pub err : OnErr r (Same (world_of old) (world_of new))

-- the connection with this number is at this index, and became another by it
pub pumped_at : {V E : Type 0} (r : Result V E) (notes : V → List Note) (old : Parts) (b new_b : WithTurn) (to : Pick) (place : ℕ) (l l' : Connection) → IsEngine old → b.kept ≡ old.broker.kept → topology_kept new_b ≡ topology_kept b
    → CanDeliver (broker_of old.broker) to.connection → IsConnectionIndex old.connections to.connection (Some place) → get_or old.connections place l ≡ l → l' ≡ record l { output = l'.output }
    → IfOk r (λ v. ConnectionPumped (topology_kept b) (broker_of b) to l (notes v) (broker_of new_b) l') → OnErr r (new_b ≡ b) → OnErr r (l'.output.bytes ≡ l.output.bytes)
    → PumpedAt r notes old to (record old { broker = new_b; connections = set old.connections place l' })
pumped_at (Ok v) notes old b new_b to place l l' e same topology made at here only ok kept output =
    let new : Parts = record old { broker = new_b; connections = set old.connections place l' } in
    let stays : Stays (record old { broker = b }) new = record { topology = topology; guarantees = refl; users = refl; given = refl } in
    let p : ConnectionsPumped (topology_kept b) (broker_of b) to old.connections (notes v) (broker_of new_b) new.connections = record { change = output_change old.connections to.connection place l l' at here only; pumped = ok } in
    record { engine = pumps_engine (record old { broker = b }) new to (notes v) (picked_engine old b same e) stays p; ok = picked_pumps old new b to (notes v) e same stays p; err = tt }
pumped_at (Err x) notes old b new_b to place l l' e same topology made at here only ok kept output =
    let new : Parts = record old { broker = new_b; connections = set old.connections place l' } in
    let stays : Stays (record old { broker = b }) new = record { topology = topology; guarantees = refl; users = refl; given = refl } in
    let p : ConnectionsNotPumped (broker_of b) to.connection old.connections (broker_of new_b) new.connections = record { change = output_change old.connections to.connection place l l' at here only; broker = ap broker_of kept; output = output } in
    record { engine = not_pumped_engine (record old { broker = b }) new to.connection (picked_engine old b same e) stays (can_still old b to.connection same made) p; ok = tt; err = picked_not old new b to.connection e same stays made p }

-- nothing can be delivered, and the engine is as before
pub picked_none : (old : Parts) (b : WithTurn) → b.kept ≡ old.broker.kept → NoneCanDeliver (world_of old) → Idles (world_of old) (world_of (record old { broker = b }))
picked_none old b same none = (none, world_stays old (record old { broker = b }) (record { topology = ap core.topology_kept same; guarantees = refl; users = refl; given = refl }) (ap core.broker_of same) refl)

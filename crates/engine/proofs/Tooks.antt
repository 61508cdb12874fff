-- From the connection at a place to the world.
use Rattle.engine.proofs.Names.{◌≡◌, ◌⊎◌, inl, inr, ◌<◌, ◌+◌, ℕ, List, [], Bool, true, false, cond, Option, Some, None, get_or, set, remove, length, refl, sym, ap, subst, ◌∙◌, arith, IsOk, IfOk, OnOk, OnErr, MatchBool, ◌==◌, ◌&&◌, not, false≢true, Broker, Topology, Rules, rules_of, Acts, Happening, IsSound, Same, Waits, is_ended, is_over, is_paused, is_awake, is_gone, is_past_bound, TakesOutput, Loses, with_heard, Event, Note, turn_keeps, turn_confirms, is_running, runs, Hears, TakesAway, IsLost, waits_not, stream_of, HasMore, IsKeptEvent, kept_of, to_read, ConnectionDid, ConnectionWaits, ConnectionSame, Parts, connection_in, session_of, wire_of, wire_in, config_of, world_of, is_connection_gone, AreConnections, AreRising, IsEngine, Becomes, Changes, IsConnectionIndex, ConnectionTookOr, ConnectionsTook, ConnectionsSent, ConnectionFed, ConnectionsFed, Turned, OnDid, left_to_read, left_in, room_in, room_for, Connection, Turn}
use Rattle.std.proofs.Common.{Result, Ok, Err}
use Rattle.model.specs.declared.events.Event.TheVariants as event
use Rattle.broker.specs.Turns.{topology_kept, broker_of}
use Rattle.engine.specs.declared.turning.Turn.TheVariants as turn
use Rattle.engine.proofs.Numbered.{connection_in-place, connection_in-remove, rising-remove, all-remove}
use Rattle.engine.proofs.Standing.{gone_some}
use Rattle.engine.proofs.Changed.{sessions_change, wires_change, connections_change, left_change}
use Rattle.engine.proofs.Turned.{same_coming}
use Rattle.engine.proofs.Agreeing.{Agrees, agreed, same_agrees, hears_agrees, takes_off_agrees, loses_agrees, turn_agrees}
use Rattle.engine.proofs.Lifted.{turned, waited, idle, taken, hears, lost}

-- all but the broker and the connections is as before
pub record Stays (old new : Parts) : Type 0 where
  pub topology : topology_kept new.broker ≡ topology_kept old.broker
  pub guarantees : new.guarantees ≡ old.guarantees
  pub users : new.users ≡ old.users
  pub given : new.given ≡ old.given

pub becomes : (old new : Parts) (i : ℕ) (l l' : Connection) → Stays old new → AreRising 0 old.connections → Changes old.connections i l l' new.connections → Becomes old l l' new
becomes old new i l l' st r ch = record {
  topology = st.topology;
  guarantees = st.guarantees;
  users = st.users;
  given = st.given;
  sessions = sessions_change old.connections i l l' new.connections r ch;
  wires = wires_change old.connections i l l' new.connections r ch;
}

pub sound : (p : Parts) → IsEngine p → IsSound (config_of p)
sound p e = record { wf = e.formed; hold = e.hold }

pub engine_with : (old new : Parts) → IsEngine old → Stays old new → AreConnections old.given new.connections → Agrees (world_of new) → IsEngine new
engine_with old new e st a k = record {
  hold = subst (λ (g : List _). Rattle.model.specs.Guarantee.AllHold (topology_kept new.broker) g) (sym st.guarantees)
      (subst (λ (t : Topology). Rattle.model.specs.Guarantee.AllHold t old.guarantees) (sym st.topology) e.hold);
  formed = subst (λ (t : Topology). Rattle.model.specs.Topology.IsWellFormed t) (sym st.topology) e.formed;
  connections = subst (λ (n : ℕ). AreConnections n new.connections) (sym st.given) a;
  consistent = k.consistent;
  named = k.named;
}

-- where the broker and the connections are as before, so is the world
pub world_stays : (old new : Parts) → Stays old new → broker_of new.broker ≡ broker_of old.broker → new.connections ≡ old.connections → Same (world_of old) (world_of new)
world_stays old new st broker connections = record {
  config = λ i. record { topology = st.topology i; guarantees = st.guarantees i; users = st.users i };
  state = λ i. record { broker = broker i; session = λ c. session_of (connection_in (connections i) c) };
  given = st.given;
  wires = λ d. ap (λ (z : List Connection). wire_of (connection_in z d)) connections;
}

-- every engine stays one
pub engine_change : (old new : Parts) (i : ℕ) (l l' : Connection) → IsEngine old → Stays old new → Changes old.connections i l l' new.connections → Agrees (world_of new) → IsEngine new
engine_change old new i l l' e st ch k = engine_with old new e st (connections_change old.given old.connections i l l' new.connections e.connections ch) k

-- ---- turns

same_waits : (b new_b : Broker) (l l' : Connection) → ConnectionSame b l new_b l' → ConnectionWaits b l new_b l'
same_waits b new_b l l' same = subst (λ (z : Connection). ConnectionWaits b l new_b z) (sym same.connection)
    (record { broker = same.broker; number = refl; session = refl; output = refl; coming = same_coming (kept_of l.kept) (stream_of l.stream) })

left_less : (b : Bool) (m n : ℕ) → (m < n) ⊎ (b ≡ true) → cond b 0 (m + 1) < n + 1
left_less true m n f = omega arith
left_less false m n (inl lt) = omega (arith, lt)
left_less false m n (inr e) = absurd (false≢true e)

did_less : (t : Rules) (b new_b : Broker) (l l' : Connection) (notes : List Note) → is_ended l.session.phase ≡ false → ConnectionDid t b l notes new_b l' → left_to_read l' < left_to_read l
did_less t b new_b l l' notes open_still did =
    let reads : to_read (kept_of l'.kept) (stream_of l'.stream) ≡ to_read None (stream_of l'.stream) = ap (λ (k : Option Event). to_read (kept_of k) (stream_of l'.stream)) did.none_kept in
    let was : left_to_read l ≡ to_read (kept_of l.kept) (stream_of l.stream) + 1 = ap (λ (v : Bool). cond v 0 (to_read (kept_of l.kept) (stream_of l.stream) + 1)) open_still in
    subst (λ (n : ℕ). left_to_read l' < n) (sym was)
    (subst (λ (m : ℕ). cond (is_ended l'.session.phase) 0 (m + 1) < to_read (kept_of l.kept) (stream_of l.stream) + 1) (sym reads)
    (left_less (is_ended l'.session.phase) (to_read None (stream_of l'.stream)) (to_read (kept_of l.kept) (stream_of l.stream)) did.fewer))

-- what a turn's answer says of the world
pub record Outcome {E : Type 0} (old new : Parts) (c : ℕ) (what : Result Turn E) : Type 0 where
  pub ok : IfOk what (λ t. Turned (world_of old) c t (world_of new))
  pub fewer : IfOk what (λ t. OnDid t (left_in new.connections < left_in old.connections))
  pub err : OnErr what (Waits (world_of old) c (world_of new))
  pub awake : OnErr what (is_awake (world_of old) c ≡ true)
  pub more : OnErr what (HasMore ((world_of old).wire c).kept ((world_of old).wire c).stream)

over_is : (p : Parts) (l : Connection) → connection_in p.connections l.number ≡ Some l → is_over (world_of p) l.number ≡ is_ended l.session.phase
over_is p l found = ap (λ (o : Option Connection). is_ended (session_of o).phase) found

paused_is : (p : Parts) (l : Connection) → connection_in p.connections l.number ≡ Some l → is_paused (world_of p) l.number ≡ is_past_bound l.output.bytes
paused_is p l found = ap is_past_bound (ap (λ (o : Option Connection). (wire_of o).output) found ∙ Rattle.engine.proofs.Standing.output_in (is_ended l.session.phase) l)

-- a connection that is neither over nor paused is awake
awake_is : (over paused : Bool) → over ≡ false → paused ≡ false → (not over && not paused) ≡ true
awake_is true paused e f = absurd (false≢true (sym e))
awake_is false true e f = absurd (false≢true (sym f))
awake_is false false e f = refl

-- what one that is not over has more to perform is what its wire has
more_is : (p : Parts) (l : Connection) → connection_in p.connections l.number ≡ Some l → is_ended l.session.phase ≡ false → HasMore (kept_of l.kept) (stream_of l.stream)
    → HasMore ((world_of p).wire l.number).kept ((world_of p).wire l.number).stream
more_is p l found going more =
    subst (λ (o : Option Connection). HasMore (wire_of o).kept (wire_of o).stream) (sym found) (subst (λ (b : Bool). HasMore (wire_in b l).kept (wire_in b l).stream) (sym going) more)

outcome : {E : Type 0} (old new : Parts) (i : ℕ) (l l' : Connection) (what : Result Turn E) → IsEngine old → Stays old new → Changes old.connections i l l' new.connections
    → ConnectionTookOr (rules_of (topology_kept old.broker) old.users) (broker_of old.broker) l what (broker_of new.broker) l' → Outcome old new l.number what
outcome old new i l l' (Ok (turn.Did notes)) e st ch t =
    let b = becomes old new i l l' st e.connections.rising ch in
    let found = connection_in-place 0 old.connections i l e.connections.rising ch.within ch.here in
    let done = turned old new l l' notes.items b found t.0 t.1 t.2 in
    let confirms = turn_confirms (world_of old) (world_of new) l.number done.0 done.2 in
    record {
      ok = record {
        happenings = done.0;
        noted = done.1;
        turns = done.2;
        promises = turn_keeps (world_of old) (world_of new) l.number done.0 (sound old e) e.consistent done.2;
        output = confirms.0;
        confirms = confirms.1;
      };
      fewer = left_change old.connections i l l' new.connections ch (did_less (rules_of (topology_kept old.broker) old.users) (broker_of old.broker) (broker_of new.broker) l l' notes.items t.0 t.2);
      err = tt;
      awake = tt;
      more = tt;
    }
outcome old new i l l' (Ok turn.Idle) e st ch t =
    let b = becomes old new i l l' st e.connections.rising ch in
    let found = connection_in-place 0 old.connections i l e.connections.rising ch.within ch.here in
    record { ok = (over_is old l found ∙ t.0, idle old l found t.1.none_kept t.1.ends t.0, waited old new l l' b found t.1.waits); fewer = tt; err = tt; awake = tt; more = tt }
outcome old new i l l' (Ok turn.Paused) e st ch t =
    let b = becomes old new i l l' st e.connections.rising ch in
    let found = connection_in-place 0 old.connections i l e.connections.rising ch.within ch.here in
    record { ok = (over_is old l found ∙ t.0, paused_is old l found ∙ t.1, waited old new l l' b found (same_waits (broker_of old.broker) (broker_of new.broker) l l' t.2)); fewer = tt; err = tt; awake = tt; more = tt }
outcome old new i l l' (Ok turn.Over) e st ch t =
    let b = becomes old new i l l' st e.connections.rising ch in
    let found = connection_in-place 0 old.connections i l e.connections.rising ch.within ch.here in
    record { ok = (over_is old l found ∙ t.0, waited old new l l' b found (same_waits (broker_of old.broker) (broker_of new.broker) l l' t.1)); fewer = tt; err = tt; awake = tt; more = tt }
outcome old new i l l' (Err x) e st ch t =
    let b = becomes old new i l l' st e.connections.rising ch in
    let found = connection_in-place 0 old.connections i l e.connections.rising ch.within ch.here in
    record { ok = tt; fewer = tt; err = waited old new l l' b found t.waits; awake = awake_is (is_over (world_of old) l.number) (is_paused (world_of old) l.number) (over_is old l found ∙ t.awake.0) (paused_is old l found ∙ t.awake.1); more = more_is old l found t.awake.0 t.more }

pub number_is : (ls : List Connection) (c i : ℕ) (l : Connection) → IsConnectionIndex ls c (Some i) → get_or ls i l ≡ l → l.number ≡ c
number_is ls c i l place here = sym (ap (λ (z : Connection). z.number) here) ∙ place.1 l

pub took : {E : Type 0} (old new : Parts) (c i : ℕ) (what : Result Turn E) → IsEngine old → Stays old new → IsConnectionIndex old.connections c (Some i)
    → ConnectionsTook (rules_of (topology_kept old.broker) old.users) (broker_of old.broker) old.connections i what (broker_of new.broker) new.connections → Outcome old new c what
took old new c i what e st place t =
    subst (λ (n : ℕ). Outcome old new n what) (number_is old.connections c i t.old place t.changes.here) (outcome old new i t.old t.new what e st t.changes t.took)

pub took_engine : {E : Type 0} (old new : Parts) (i : ℕ) (what : Result Turn E) → IsEngine old → Stays old new
    → ConnectionsTook (rules_of (topology_kept old.broker) old.users) (broker_of old.broker) old.connections i what (broker_of new.broker) new.connections → IsEngine new
took_engine old new i what e st t =
    let out = outcome old new i t.old t.new what e st t.changes t.took in
    engine_change old new i t.old t.new e st t.changes (turn_agrees what (world_of old) (world_of new) t.old.number (agreed old e) out.ok out.err)

-- of a connection that is not there nothing is performed
pub not_there : (p : Parts) (c : ℕ) → connection_in p.connections c ≡ None → (is_over (world_of p) c ≡ true) × Waits (world_of p) c (world_of p)
not_there p c none = (ap (λ (o : Option Connection). is_ended (session_of o).phase) none, waits_not (world_of p) c)

on_true : (A B : Type 0) (v : Bool) → v ≡ true → A → MatchBool v A B
on_true A B true e a = a
on_true A B false e a = absurd (false≢true e)

on_false : (A B : Type 0) (v : Bool) → v ≡ false → B → MatchBool v A B
on_false A B true e b = absurd (false≢true (sym e))
on_false A B false e b = b

-- ---- output that is taken

pub nothing_changes : (p : Parts) → Same (world_of p) (world_of p)
nothing_changes p = record { config = refl; state = refl; given = refl; wires = λ d. refl }

pub sends : (old new : Parts) (c i n : ℕ) → IsEngine old → Stays old new → IsConnectionIndex old.connections c (Some i)
    → ConnectionsSent (topology_kept old.broker) (broker_of old.broker) old.connections i n (broker_of new.broker) new.connections → TakesAway (world_of old) c n (world_of new)
sends old new c i n e st place s =
    let found = connection_in-place 0 old.connections i s.old e.connections.rising s.changes.within s.changes.here in
    let b = becomes old new i s.old s.new st e.connections.rising s.changes in
    let gone : is_gone (world_of old) s.old.number ≡ false = gone_some old s.old.number s.old e.connections found in
    subst (λ (k : ℕ). TakesAway (world_of old) k n (world_of new)) (number_is old.connections c i s.old place s.changes.here)
    (on_false (Same (world_of old) (world_of new)) ((hs : List Happening) × TakesOutput (world_of old) s.old.number n hs (world_of new)) (is_gone (world_of old) s.old.number) gone (taken old new s.old s.new n b found s.sent))

pub sends_engine : (old new : Parts) (i n : ℕ) → IsEngine old → Stays old new
    → ConnectionsSent (topology_kept old.broker) (broker_of old.broker) old.connections i n (broker_of new.broker) new.connections → IsEngine new
sends_engine old new i n e st s =
    let found = connection_in-place 0 old.connections i s.old e.connections.rising s.changes.within s.changes.here in
    let b = becomes old new i s.old s.new st e.connections.rising s.changes in
    let off = taken old new s.old s.new n b found s.sent in
    engine_change old new i s.old s.new e st s.changes (takes_off_agrees (world_of old) (world_of new) s.old.number n off.0 (agreed old e) off.1)

-- ---- bytes that are heard

gone_same : (l l' : Connection) (bytes : List ℕ) → ConnectionFed l bytes l' → is_connection_gone l' ≡ is_connection_gone l
gone_same l l' bytes fed = λ i. Rattle.std.specs.Prelude.◌&&◌ (is_ended (fed.session i).phase) (Rattle.std.specs.Prelude.not (Rattle.std.specs.Prelude.nat_lt 0 (length (fed.output i).bytes)))

pub fed_changes : (given : ℕ) (ls new_ls : List Connection) (i : ℕ) (bytes : List ℕ) → AreConnections given ls → (f : ConnectionsFed ls i bytes new_ls) → Changes ls i f.old f.new new_ls
fed_changes given ls new_ls i bytes a f =
    let here : is_connection_gone f.old ≡ false = (Rattle.engine.proofs.Numbered.all_at (Rattle.engine.specs.World.IsConnection given) ls i f.old a.each f.within f.here).here in
    let still : is_connection_gone f.new ≡ false = gone_same f.old f.new bytes f.fed ∙ here in
    record {
      within = f.within;
      here = f.here;
      number = f.fed.number;
      kept = λ k. subst (λ (n : ℕ). IsKeptEvent n f.new.kept f.new.stream.fault) (sym f.fed.number)
          (subst (λ (o : Option Event). IsKeptEvent f.old.number o f.new.stream.fault) (sym f.fed.kept) (subst (λ (broke : Option ℕ). IsKeptEvent f.old.number f.old.kept broke) (sym f.fed.fault) k));
      left = f.left ∙ sym (ap (λ (v : Bool). cond v (remove ls i) (set ls i f.new)) still);
      over = λ gone. absurd (false≢true (sym still ∙ gone));
    }

pub feeds : (old new : Parts) (c i : ℕ) (bytes : List ℕ) → IsEngine old → Stays old new → broker_of new.broker ≡ broker_of old.broker → IsConnectionIndex old.connections c (Some i) → ConnectionsFed old.connections i bytes new.connections
    → Hears (world_of old) c bytes (world_of new)
feeds old new c i bytes e st same place f =
    let ch = fed_changes old.given old.connections new.connections i bytes e.connections f in
    let found = connection_in-place 0 old.connections i f.old e.connections.rising f.within f.here in
    let b = becomes old new i f.old f.new st e.connections.rising ch in
    subst (λ (k : ℕ). Hears (world_of old) k bytes (world_of new)) (number_is old.connections c i f.old place f.here) (hears old new f.old f.new bytes b found same f.fed)

pub feeds_engine : (old new : Parts) (i : ℕ) (bytes : List ℕ) → IsEngine old → Stays old new → broker_of new.broker ≡ broker_of old.broker → ConnectionsFed old.connections i bytes new.connections → IsEngine new
feeds_engine old new i bytes e st same f =
    let ch = fed_changes old.given old.connections new.connections i bytes e.connections f in
    let found = connection_in-place 0 old.connections i f.old e.connections.rising f.within f.here in
    let b = becomes old new i f.old f.new st e.connections.rising ch in
    engine_change old new i f.old f.new e st ch (hears_agrees (world_of old) (world_of new) f.old.number bytes (agreed old e) (hears old new f.old f.new bytes b found same f.fed))

pub hears_none : (p : Parts) (c : ℕ) (bytes : List ℕ) → connection_in p.connections c ≡ None → Hears (world_of p) c bytes (world_of p)
hears_none p c bytes none = on_true (Same (world_of p) (world_of p)) (world_of p ≡ with_heard (world_of p) c bytes) (is_over (world_of p) c) (not_there p c none).0 (nothing_changes p)

-- ---- losses

pub loses : (old new : Parts) (c i : ℕ) → IsEngine old → Stays old new → IsConnectionIndex old.connections c (Some i) → new.connections ≡ remove old.connections i
    → Acts (topology_kept old.broker) (broker_of old.broker) (event.Lose c) [] [] (broker_of new.broker) → IsLost (world_of old) c (world_of new)
loses old new c i e st place left acts =
    let at = Rattle.engine.proofs.Found.element old.connections i place.0 in
    let l : Connection = at.0 in
    let is : l.number ≡ c = number_is old.connections c i l place at.1 in
    let found : connection_in old.connections c ≡ Some l = subst (λ (k : ℕ). connection_in old.connections k ≡ Some l) is (connection_in-place 0 old.connections i l e.connections.rising place.0 at.1) in
    let gone : is_gone (world_of old) c ≡ false = gone_some old c l e.connections found in
    on_false (Same (world_of old) (world_of new)) ((hs : List Happening) × Loses (world_of old) c hs (world_of new)) (is_gone (world_of old) c) gone
    (lost old new c st.topology st.guarantees st.users st.given acts
    (λ d. ap (λ (z : List Connection). connection_in z d) left ∙ connection_in-remove 0 old.connections i l d e.connections.rising place.0 at.1 ∙ ap (λ (k : ℕ). cond (k == d) None (connection_in old.connections d)) is))

pub loses_engine : (old new : Parts) (c i : ℕ) → IsEngine old → Stays old new → IsConnectionIndex old.connections c (Some i) → new.connections ≡ remove old.connections i
    → Acts (topology_kept old.broker) (broker_of old.broker) (event.Lose c) [] [] (broker_of new.broker) → IsEngine new
loses_engine old new c i e st place left acts = engine_with old new e st
    (subst (λ (z : List Connection). AreConnections old.given z) (sym left) (record { rising = rising-remove 0 old.connections i e.connections.rising; each = all-remove (Rattle.engine.specs.World.IsConnection old.given) old.connections i e.connections.each }))
    (loses_agrees (world_of old) (world_of new) c (agreed old e) (loses old new c i e st place left acts))

-- ---- bytes that are appended, or an allocation failed

pub fed_engine : {T E : Type 0} (r : Result T E) (old new : Parts) (i : ℕ) (bytes : List ℕ) → IsEngine old → Stays old new → broker_of new.broker ≡ broker_of old.broker → OnOk r (ConnectionsFed old.connections i bytes new.connections) → OnErr r (new.connections ≡ old.connections) → IsEngine new
fed_engine (Ok x) old new i bytes e st same ok err = feeds_engine old new i bytes e st same ok
fed_engine (Err x) old new i bytes e st same ok err =
    engine_with old new e st (subst (λ (z : List Connection). AreConnections old.given z) (sym err) e.connections) (same_agrees (world_of old) (world_of new) (agreed old e) (world_stays old new st same err))

pub fed_ok : {T E : Type 0} (r : Result T E) (old new : Parts) (c i : ℕ) (bytes : List ℕ) → IsEngine old → Stays old new → broker_of new.broker ≡ broker_of old.broker → IsConnectionIndex old.connections c (Some i)
    → OnOk r (ConnectionsFed old.connections i bytes new.connections) → OnOk r (Hears (world_of old) c bytes (world_of new))
fed_ok (Ok x) old new c i bytes e st same place ok = feeds old new c i bytes e st same place ok
fed_ok (Err x) old new c i bytes e st same place ok = tt

pub fed_err : {T E : Type 0} (r : Result T E) (p : Parts) (ls : List Connection) → OnErr r (ls ≡ p.connections) → OnErr r (record p { connections = ls } ≡ p)
fed_err (Ok x) p ls err = tt
fed_err (Err x) p ls err = λ i. record p { connections = err i }

-- ---- what is asked of one connection

pub found_at : (ls : List Connection) (c i : ℕ) (l : Connection) → AreRising 0 ls → IsConnectionIndex ls c (Some i) → get_or ls i l ≡ l → connection_in ls c ≡ Some l
found_at ls c i l r place here = subst (λ (k : ℕ). connection_in ls k ≡ Some l) (number_is ls c i l place here) (connection_in-place 0 ls i l r place.0 here)

pub output_at : (p : Parts) (c i : ℕ) (l : Connection) → IsEngine p → IsConnectionIndex p.connections c (Some i) → get_or p.connections i l ≡ l → ((world_of p).wire c).output ≡ l.output.bytes
output_at p c i l e place here = ap (λ (o : Option Connection). (wire_of o).output) (found_at p.connections c i l e.connections.rising place here) ∙ Rattle.engine.proofs.Standing.output_in (is_ended l.session.phase) l

pub over_at : (p : Parts) (c i : ℕ) (l : Connection) → IsEngine p → IsConnectionIndex p.connections c (Some i) → get_or p.connections i l ≡ l → is_over (world_of p) c ≡ is_ended l.session.phase
over_at p c i l e place here = ap (λ (o : Option Connection). is_ended (session_of o).phase) (found_at p.connections c i l e.connections.rising place here)

pub runs_at : (p : Parts) (c i : ℕ) (l : Connection) → IsEngine p → IsConnectionIndex p.connections c (Some i) → get_or p.connections i l ≡ l → runs (world_of p) c ≡ is_running l.session.phase
runs_at p c i l e place here = ap (λ (o : Option Connection). is_running (session_of o).phase) (found_at p.connections c i l e.connections.rising place here)

-- ---- of one that is over nothing is heard

fed_nothing : {T E : Type 0} (r : Result T E) (p : Parts) (ls : List Connection) → IsOk r × (ls ≡ p.connections) → IsOk r × (record p { connections = ls } ≡ p)
fed_nothing r p ls both = (both.0, λ i. record p { connections = both.1 i })

-- the connection at this place is over, and so nothing was kept
pub fed_over : {T E : Type 0} (r : Result T E) (p : Parts) (ls : List Connection) (c i : ℕ) → IsEngine p → IsConnectionIndex p.connections c (Some i)
    → ((l : Connection) → get_or p.connections i l ≡ l → is_ended l.session.phase ≡ true → IsOk r × (ls ≡ p.connections)) → is_over (world_of p) c ≡ true → IsOk r × (record p { connections = ls } ≡ p)
fed_over r p ls c i e place over is =
    let at = Rattle.engine.proofs.Found.element p.connections i place.0 in
    fed_nothing r p ls (over at.0 at.1 (sym (over_at p c i at.0 e place at.1) ∙ is))

-- ---- memory is wanted for more bytes than there is room for

pub fed_full : {T E : Type 0} (r : Result T E) (p : Parts) (c i n : ℕ) → IsEngine p → IsConnectionIndex p.connections c (Some i) → ((l : Connection) → get_or p.connections i l ≡ l → OnErr r (l.stream.room < n)) → OnErr r (room_for p c < n)
fed_full r p c i n e place full =
    let at = Rattle.engine.proofs.Found.element p.connections i place.0 in
    subst (λ (o : Option Connection). OnErr r (room_in o < n)) (sym (found_at p.connections c i at.0 e.connections.rising place at.1)) (full at.0 at.1)

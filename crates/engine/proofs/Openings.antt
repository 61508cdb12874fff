-- An engine with no connection, and one more connection.
use Rattle.engine.proofs.Names.{◌≡◌, ◌<◌, ◌≤◌, ◌+◌, ℕ, List, [], ◌∷◌, ◌++◌, Bool, true, false, cond, Option, Some, None, length, refl, sym, ap, subst, ◌∙◌, arith, ◌==◌, ◌&&◌, not, nat_lt, AllByRecursion, nat_tests, Broker, with_one, Stream, opened_stream, running_stream, new_session, Session, running_session, Config, Step, Acts, Is, Happening, Topology, Guarantee, Wire, new_wire, new_world, is_ended, can_open, count_open, Same, Event, nothing, WithTurn, IsOpened, IsKeptEvent, kept_of, Parts, connection_in, session_of, wire_in, wire_of, config_of, state_of, world_of, AreConnections, IsConnection, IsNew, IsEngine, Numbers, OpenedBy, Connection}
use Rattle.std.proofs.Common.{Result, Ok, Err}
use Rattle.model.specs.declared.events.Event.TheVariants as event
use Rattle.broker.specs.Turns.{topology_kept, broker_of}
use Rattle.engine.specs.declared.engines.Refused.{Refused}
use Rattle.engine.specs.declared.engines.Refused.TheVariants.{Full, Spent, Memory}
use Rattle.engine.proofs.Numbered.{connection_in-push, rising-push, other_false}
use Rattle.engine.proofs.Standing.{count_open_is}
use Rattle.engine.proofs.Agreeing.{Agrees, agreed, opens_new_agrees, opens_ready_agrees}
use Rattle.engine.proofs.Asked.{is_same}
use Rattle.engine.proofs.Changed.{either}

pub no_connection : (p : Parts) (f : Config) → topology_kept p.broker ≡ f.topology → p.guarantees ≡ f.guarantees → p.users ≡ f.users → p.given ≡ 0 → p.connections ≡ [] → Is nothing (broker_of p.broker) → world_of p ≡ new_world f
no_connection p f t g u n ls is = λ i. record {
  config = record { topology = t i; guarantees = g i; users = u i };
  state = record {
    broker = record { published = is.counted i; queue = λ q. is.queues q i; connection = λ c. is.connections c i; channel = λ c h. is.channels c h i };
    session = λ c. session_of (connection_in (ls i) c);
  };
  given = n i;
  wire = λ c. wire_of (connection_in (ls i) c);
}

-- numbers are at most as many as were given
below : (given n : ℕ) (ls : List Connection) → given < n → AllByRecursion (IsConnection given) ls → AllByRecursion (λ (l : Connection). l.number < n) ls
below given n [] lt a = tt
below given n (l ∷ ls) lt a = (let w = a.0.within in omega (arith, lt, w), below given n ls lt a.1)

wider : (given : ℕ) (ls : List Connection) → AllByRecursion (IsConnection given) ls → AllByRecursion (IsConnection (given + 1)) ls
wider given [] a = tt
wider given (l ∷ ls) a = (record { within = (let w = a.0.within in omega (arith, w)); here = a.0.here; kept = a.0.kept }, wider given ls a.1)

all-push : (P : Connection → Type 0) (ls : List Connection) (x : Connection) → AllByRecursion P ls → P x → AllByRecursion P (ls ++ x ∷ [])
all-push P [] x a p = (p, tt)
all-push P (y ∷ ys) x a p = (a.0, all-push P ys x a.1 p)

-- no connection has a number that was not given
none_above : (given : ℕ) (ls : List Connection) (c : ℕ) → AllByRecursion (IsConnection given) ls → given < c → connection_in ls c ≡ None
none_above given [] c a lt = refl
none_above given (l ∷ ls) c a lt =
    ap (λ (b : Bool). cond b (Some l) (connection_in ls c)) (other_false l.number c (λ k. let w = a.0.within in omega (arith, w, lt, k))) ∙ none_above given ls c a.1 lt

-- There is one more connection, with the next number, in this session and with this stream: it is not over.
record IsOneMore (old new : Parts) (l : Connection) (session : Session) (stream : Stream) : Type 0 where
  pub topology : topology_kept new.broker ≡ topology_kept old.broker
  pub guarantees : new.guarantees ≡ old.guarantees
  pub users : new.users ≡ old.users
  pub given : new.given ≡ old.given + 1
  pub connections : new.connections ≡ old.connections ++ l ∷ []
  pub is : IsNew l (old.given + 1) session stream
  pub awake : is_ended session.phase ≡ false

connections_opened : (given : ℕ) (ls : List Connection) (l : Connection) (sess : Session) (st : Stream) → AreConnections given ls → IsNew l (given + 1) sess st → is_ended sess.phase ≡ false → AreConnections (given + 1) (ls ++ l ∷ [])
connections_opened given ls l sess st a is awake = record {
  rising = rising-push 0 ls l a.rising (let n = is.number_is in omega (arith, n)) (below given l.number ls (let n = is.number_is in omega (arith, n)) a.each);
  each = all-push (IsConnection (given + 1)) ls l (wider given ls a.each) (record {
    within = (let n = is.number_is in omega (arith, n));
    here = ap (λ (s : Session). is_ended s.phase && not (nat_lt 0 (length l.output.bytes))) is.session_is ∙ ap (λ (b : Bool). b && not (nat_lt 0 (length l.output.bytes))) awake;
    kept = subst (λ (k : Option Event). IsKeptEvent l.number k l.stream.fault) (sym is.kept) tt;
  });
}

wire_new : (l : Connection) (n : ℕ) (sess : Session) (st : Stream) → IsNew l n sess st → is_ended sess.phase ≡ false → wire_of (Some l) ≡ record new_wire { stream = st }
wire_new l n sess st is awake =
    ap (λ (s : Session). wire_in (is_ended s.phase) l) is.session_is
    ∙ ap (λ (b : Bool). wire_in b l) awake
    ∙ (λ i. record { kept = kept_of (is.kept i); stream = is.stream_is i; output = is.output i })

-- it is found by its number, and the others stay
found_new : (old new : Parts) (l : Connection) (sess : Session) (st : Stream) → AreConnections old.given old.connections → IsOneMore old new l sess st → (d : ℕ) → connection_in new.connections d ≡ cond (l.number == d) (Some l) (connection_in old.connections d)
found_new old new l sess st a m d =
    ap (λ (z : List Connection). connection_in z d) m.connections ∙ connection_in-push old.connections l d (below old.given l.number old.connections (let e = m.is.number_is in omega (arith, e)) a.each)

sessions_are : (old new : Parts) (l : Connection) (sess : Session) (st : Stream) → AreConnections old.given old.connections → IsOneMore old new l sess st
    → (d : ℕ) → session_of (connection_in new.connections d) ≡ with_one (λ c. session_of (connection_in old.connections c)) (old.given + 1) sess d
sessions_are old new l sess st a m d =
    either session_of old.connections new.connections l.number d (Some l) (found_new old new l sess st a m d)
    ∙ ap (λ (s : Session). with_one (λ c. session_of (connection_in old.connections c)) l.number s d) m.is.session_is
    ∙ ap (λ (c : ℕ). with_one (λ c. session_of (connection_in old.connections c)) c sess d) m.is.number_is

wires_are : (old new : Parts) (l : Connection) (sess : Session) (st : Stream) → AreConnections old.given old.connections → IsOneMore old new l sess st
    → (d : ℕ) → wire_of (connection_in new.connections d) ≡ with_one (λ c. wire_of (connection_in old.connections c)) (old.given + 1) (record new_wire { stream = st }) d
wires_are old new l sess st a m d =
    either wire_of old.connections new.connections l.number d (Some l) (found_new old new l sess st a m d)
    ∙ ap (λ (w : Wire). with_one (λ c. wire_of (connection_in old.connections c)) l.number w d) (wire_new l (old.given + 1) sess st m.is m.awake)
    ∙ ap (λ (c : ℕ). with_one (λ c. wire_of (connection_in old.connections c)) c (record new_wire { stream = st }) d) m.is.number_is

pub can_open_is : (p : Parts) → AreConnections p.given p.connections → length p.connections < 1024 → p.given < 18446744073709551615 → can_open (world_of p) ≡ true
can_open_is p a few left = let same = count_open_is p a in grind (arith, nat_tests, same, few, left)

-- ---- what happens then

-- no byte of it has come, and the broker is as before
steps_new : (old new : Parts) (l : Connection) → AreConnections old.given old.connections → IsOneMore old new l new_session opened_stream → broker_of new.broker ≡ broker_of old.broker
    → Step (config_of old) (state_of old) (event.Open (old.given + 1)) [] [] (state_of new)
steps_new old new l a m same = record {
  free = ap (λ (o : Option Connection). (session_of o).phase) (none_above old.given old.connections (old.given + 1) a.each (omega arith));
  steps = record { acts = record { sent = refl; noted = refl; left = subst (λ (b : Broker). Is (broker_of old.broker) b) (sym same) (is_same (broker_of old.broker)) }; session = sessions_are old new l new_session opened_stream a m };
}

-- it runs at once, and is one of the broker's
steps_ready : (old new : Parts) (l : Connection) (k : ℕ) → AreConnections old.given old.connections → IsOneMore old new l running_session running_stream
    → Acts (topology_kept old.broker) (broker_of old.broker) (event.Running (old.given + 1) 255 k) [] [] (broker_of new.broker)
    → Step (config_of old) (state_of old) (event.Running (old.given + 1) 255 k) [] [] (state_of new)
steps_ready old new l k a m acts = record { acts = acts; session = sessions_are old new l running_session running_stream a m }

opened : (old new : Parts) (l : Connection) (e : Event) (sess : Session) (st : Stream) → AreConnections old.given old.connections → length old.connections < 1024 → old.given < 18446744073709551615 → IsOneMore old new l sess st
    → Step (config_of old) (state_of old) e [] [] (state_of new) → IsOpened e st (world_of old) (Some (old.given + 1)) (world_of new)
opened old new l e sess st a few left m stepped =
    let h : Happening = record { config = config_of old; event = e; before = state_of old; sends = []; notes = []; frame_max = 0; after = state_of new } in (
      can_open_is old a few left,
      sym m.given,
      (
        h ∷ [],
        record {
          h = h;
          all = refl;
          happens = record { under = refl; event = refl; before = refl; after = refl; stepped = stepped };
          silent = refl;
          config = λ i. record { topology = m.topology i; guarantees = m.guarantees i; users = m.users i };
          given = m.given;
          wires = wires_are old new l sess st a m;
        },
      ),
    )

-- the same for the number that was found
opened_new : (old new : Parts) (l : Connection) (n : ℕ) → AreConnections old.given old.connections → Numbers old.given old.connections (Ok n) → IsOneMore old new l new_session opened_stream → broker_of new.broker ≡ broker_of old.broker
    → IsOpened (event.Open (old.given + 1)) opened_stream (world_of old) (Some n) (world_of new)
opened_new old new l n a numbers m same =
    subst (λ (k : ℕ). IsOpened (event.Open (old.given + 1)) opened_stream (world_of old) (Some k) (world_of new)) (sym numbers.0)
    (opened old new l (event.Open (old.given + 1)) new_session opened_stream a numbers.1 numbers.2 m (steps_new old new l a m same))

opened_ready : (old new : Parts) (l : Connection) (n k : ℕ) → AreConnections old.given old.connections → Numbers old.given old.connections (Ok n) → IsOneMore old new l running_session running_stream
    → Acts (topology_kept old.broker) (broker_of old.broker) (event.Running n 255 k) [] [] (broker_of new.broker)
    → IsOpened (event.Running (old.given + 1) 255 k) running_stream (world_of old) (Some n) (world_of new)
opened_ready old new l n k a numbers m acts =
    let here : Acts (topology_kept old.broker) (broker_of old.broker) (event.Running (old.given + 1) 255 k) [] [] (broker_of new.broker) =
    subst (λ (c : ℕ). Acts (topology_kept old.broker) (broker_of old.broker) (event.Running c 255 k) [] [] (broker_of new.broker)) numbers.0 acts in
    subst (λ (c : ℕ). IsOpened (event.Running (old.given + 1) 255 k) running_stream (world_of old) (Some c) (world_of new)) (sym numbers.0)
    (opened old new l (event.Running (old.given + 1) 255 k) running_session running_stream a numbers.1 numbers.2 m (steps_ready old new l k a m here))

engine_opened : (old new : Parts) (l : Connection) (sess : Session) (st : Stream) → IsEngine old → IsOneMore old new l sess st → Agrees (world_of new) → IsEngine new
engine_opened old new l sess st e m k = record {
  hold = subst (λ (gs : List Guarantee). Rattle.model.specs.Guarantee.AllHold (topology_kept new.broker) gs) (sym m.guarantees)
      (subst (λ (x : Topology). Rattle.model.specs.Guarantee.AllHold x old.guarantees) (sym m.topology) e.hold);
  formed = subst (λ (x : Topology). Rattle.model.specs.Topology.IsWellFormed x) (sym m.topology) e.formed;
  connections = subst (λ (k : ℕ). AreConnections k new.connections) (sym m.given) (subst (λ (z : List Connection). AreConnections (old.given + 1) z) (sym m.connections) (connections_opened old.given old.connections l sess st e.connections m.is m.awake));
  consistent = k.consistent;
  named = k.named;
}

-- ---- an opening

-- the connection has the number that was found, and this is the broker now
one_more : (old : Parts) (b : WithTurn) (l : Connection) (n : ℕ) (ls new_ls : List Connection) (sess : Session) (st : Stream) → topology_kept b ≡ topology_kept old.broker → n ≡ old.given + 1 → ls ≡ old.connections → new_ls ≡ ls ++ l ∷ []
    → IsNew l n sess st → is_ended sess.phase ≡ false → IsOneMore old (record old { broker = b; given = n; connections = new_ls }) l sess st
one_more old b l n ls new_ls sess st topology number same more is awake = record {
  topology = topology;
  guarantees = refl;
  users = refl;
  given = number;
  connections = more ∙ ap (λ (z : List Connection). z ++ l ∷ []) same;
  is = subst (λ (k : ℕ). IsNew l k sess st) number is;
  awake = awake;
}

-- what it comes to for the engine
pub record Opens (old : Parts) (e : Event) (st : Stream) (n : ℕ) (new : Parts) : Type 0 where
  pub engine : IsEngine new
  pub opened : IsOpened e st (world_of old) (Some n) (world_of new)

pub opens_new : (old : Parts) (l : Connection) (n : ℕ) (ls new_ls : List Connection) → IsEngine old → Numbers old.given old.connections (Ok n) → ls ≡ old.connections → new_ls ≡ ls ++ l ∷ [] → IsNew l n new_session opened_stream
    → Opens old (event.Open (old.given + 1)) opened_stream n (record old { given = n; connections = new_ls })
opens_new old l n ls new_ls e numbers same more is =
    let new : Parts = record old { given = n; connections = new_ls } in
    let one = one_more old old.broker l n ls new_ls new_session opened_stream refl numbers.0 same more is refl in
    let done = opened_new old new l n e.connections numbers one refl in
    record { engine = engine_opened old new l new_session opened_stream e one (opens_new_agrees (world_of old) (world_of new) n (agreed old e) done); opened = done }

-- the broker has it, with this many channels
pub opens_ready : (old : Parts) (b : WithTurn) (l : Connection) (n k given : ℕ) (ls new_ls : List Connection) → IsEngine old → Numbers old.given old.connections (Ok n) → ls ≡ old.connections → new_ls ≡ ls ++ l ∷ []
    → IsNew l n running_session running_stream → topology_kept b ≡ topology_kept old.broker → given ≡ k → Acts (topology_kept old.broker) (broker_of old.broker) (event.Running n 255 given) [] [] (broker_of b)
    → Opens old (event.Running (old.given + 1) 255 k) running_stream n (record old { broker = b; given = n; connections = new_ls })
opens_ready old b l n k given ls new_ls e numbers same more is topology count acts =
    let new : Parts = record old { broker = b; given = n; connections = new_ls } in
    let one = one_more old b l n ls new_ls running_session running_stream topology numbers.0 same more is refl in
    let here = subst (λ (j : ℕ). Acts (topology_kept old.broker) (broker_of old.broker) (event.Running n 255 j) [] [] (broker_of b)) count acts in
    let done = opened_ready old new l n k e.connections numbers one here in
    record { engine = engine_opened old new l running_session running_stream e one (opens_ready_agrees (world_of old) (world_of new) k n (agreed old e) done); opened = done }

-- ---- refusals

full_is : (p : Parts) → AreConnections p.given p.connections → 1024 ≤ length p.connections → nat_lt (count_open (world_of p) p.given) 1024 ≡ false
full_is p a many = let same = count_open_is p a in grind (arith, nat_tests, same, many)

room_is : (p : Parts) → AreConnections p.given p.connections → length p.connections < 1024 → nat_lt (count_open (world_of p) p.given) 1024 ≡ true
room_is p a few = let same = count_open_is p a in grind (arith, nat_tests, same, few)

spent_is : (given : ℕ) → 18446744073709551615 ≤ given → nat_lt given 18446744073709551615 ≡ false
spent_is given most = grind (arith, nat_tests, most)

-- where there is no number nothing is opened
refused : (old new : Parts) (e : Event) (s : Stream) (why : Refused) → AreConnections old.given old.connections → Numbers old.given old.connections (Err why) → Same (world_of old) (world_of new) → OpenedBy e s (world_of old) (Err why) (world_of new)
refused old new e s Full a n same = (full_is old a n, same)
refused old new e s Spent a n same = (room_is old a n.0, spent_is old.given n.1, same)
refused old new e s Memory a n same = (can_open_is old a n.0 n.1, same)

pub refused_so : (old new : Parts) (e : Event) (s : Stream) (r : Result ℕ Refused) (is why : Refused) → r ≡ Err is → is ≡ why → AreConnections old.given old.connections → Numbers old.given old.connections (Err why) → Same (world_of old) (world_of new)
    → OpenedBy e s (world_of old) r (world_of new)
refused_so old new e s r is why at same a n w =
    subst (λ (x : Result ℕ Refused). OpenedBy e s (world_of old) x (world_of new)) (sym at) (subst (λ (x : Refused). OpenedBy e s (world_of old) (Err x) (world_of new)) (sym same) (refused old new e s why a n w))

-- and where there is one, it is refused for memory alone
pub refused_memory : (old new : Parts) (e : Event) (s : Stream) (r : Result ℕ Refused) (is : Refused) (n : ℕ) → r ≡ Err is → is ≡ Memory → AreConnections old.given old.connections → Numbers old.given old.connections (Ok n) → Same (world_of old) (world_of new)
    → OpenedBy e s (world_of old) r (world_of new)
refused_memory old new e s r is n at memory a numbers w = refused_so old new e s r is Memory at memory a (numbers.1, numbers.2) w

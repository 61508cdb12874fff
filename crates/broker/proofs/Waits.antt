-- Nobody waits for ever while others are served.
use Rattle.broker.proofs.Names.{◌∙◌, ◌<◌, ◌≤◌, ◌+◌, ℕ, List, [], ◌∷◌, Bool, true, false, if◌then◌else◌, length, inl, inr, refl, sym, ap, arith, false≢true, Topology, IsIn, Pick, ahead, count_before, is_consumer, WithTurn, line_at, queues, count_before_at, ahead_at, owed, IsInLine, Waits, QueueWaits, IsServedSoon, ServesSoon, NobodyWaits}
use Rattle.std.proofs.Common.{◌≡◌}
use Rattle.commands.specs.State as core
use Rattle.broker.specs.Turns.{topology_kept}
use Rattle.broker.specs.Waiting.Waits.{begins, passed, other, beside, again, stays}
use Rattle.broker.specs.Waiting.QueueWaits.{begins as q_begins, passed as q_passed, other as q_other, stays as q_stays}
use Rattle.broker.proofs.Members.{one_consumer}
use Rattle.broker.proofs.Passing.{ahead_within}
use Rattle.broker.proofs.Nearer.{nearer_here, same_line, queue_nearer}

-- ---- one consumer

nears : (place : ℕ) (p : Pick) (start now : WithTurn) (served owes : ℕ) → Waits place p start served owes now → served + owes + count_before_at now place p ≤ count_before_at start place p + owed start.turn
nears place p start _ _ _ begins = omega arith
nears place p start _ _ _ (passed {served} {owes} {old} {new} w over) =
    let near = nears place p start old served owes w in
    let less = nearer_here old new place over.picked p over.first over.in_line over.could over.other in
    omega (arith, near, less)
nears place p start _ _ _ (other {served} {owes} {old} {new} w done) =
    let near = nears place p start old served owes w in
    let le = done.later.lines place p done.still in
    omega (arith, near, le)
nears place p start _ _ _ (beside {served} {owes} {old} {new} w aside) =
    let near = nears place p start old served owes w in
    let same = same_line old new place p (aside.first.others place aside.far) in
    omega (arith, near, same)
nears place p start _ _ _ (again {served} {owes} {old} {new} w stay) =
    let near = nears place p start old served owes w in
    let same = same_line old new place p (stay.lines place) in
    omega (arith, near, same)
nears place p start _ _ _ (stays {served} {owes} {old} {new} w left) =
    let near = nears place p start old served owes w in
    let le = left.back.lines place p left.was left.still in
    omega (arith, near, le)

count_before_less : (p : Pick) (xs : List Pick) → IsIn p xs → count_before (is_consumer p) xs < length xs
count_before_less p [] i = absurd i
count_before_less p (x ∷ xs) i = go (is_consumer p x) refl i (count_before_less p xs)
  where
    go : (v : Bool) → is_consumer p x ≡ v → IsIn p (x ∷ xs) → (IsIn p xs → count_before (is_consumer p) xs < length xs) → (if v then 0 else 1 + count_before (is_consumer p) xs) < length (x ∷ xs)
    go true e j rest = omega arith
    go false e (inl s) rest = absurd (false≢true (sym e ∙ ap (is_consumer p) (sym s) ∙ one_consumer p))
    go false e (inr j) rest = let less = rest j in omega (arith, less)

fewer : (place : ℕ) (p : Pick) (start now : WithTurn) (served owes : ℕ) → IsInLine start place p → Waits place p start served owes now → IsServedSoon start place served owes
fewer place p start now served owes in_line w =
    let near = nears place p start now served owes w in
    let less = count_before_less p (line_at start place) in_line in
    omega (arith, near, less)

-- ---- one queue

-- How far it is from its turn after `served` deliveries to others:
record QueueNears (place : ℕ) (start : WithTurn) (served owes : ℕ) (now : WithTurn) : Type 0 where
  topology : topology_kept now ≡ topology_kept start
  near : served + owes + ahead_at now place ≤ ahead_at start place + owed start.turn

-- where the queues are gone round as before
same_ahead : (old new : WithTurn) (place : ℕ) → new.next ≡ old.next → topology_kept new ≡ topology_kept old → ahead_at new place ≡ ahead_at old place
same_ahead old new place next topology = ap (λ (t : Topology). ahead (length t.queues) new.next place) topology ∙ ap (λ (k : ℕ). ahead (queues old) k place) next

queue_nears : (place : ℕ) (start now : WithTurn) (served owes : ℕ) → QueueWaits place start served owes now → QueueNears place start served owes now
queue_nears place start _ _ _ q_begins = record { topology = refl; near = omega arith }
queue_nears place start _ _ _ (q_passed {served} {owes} {old} {new} picked queue w can far first kept) =
    let n = queue_nears place start old served owes w in
    let near = n.near in
    let topology = ap core.topology_kept kept in
    let less = queue_nearer old new place queue picked first can far topology in
    record { topology = topology ∙ n.topology; near = omega (arith, near, less) }
queue_nears place start _ _ _ (q_other {served} {owes} {old} {new} w next topology) =
    let n = queue_nears place start old served owes w in
    let near = n.near in
    let same = same_ahead old new place next topology in
    record { topology = topology ∙ n.topology; near = omega (arith, near, same) }
queue_nears place start _ _ _ (q_stays {served} {owes} {old} {new} w next topology) =
    let n = queue_nears place start old served owes w in
    let near = n.near in
    let same = same_ahead old new place next topology in
    record { topology = topology ∙ n.topology; near = omega (arith, near, same) }

queue_fewer : (place : ℕ) (start now : WithTurn) (served owes : ℕ) → place < queues start → QueueWaits place start served owes now → served + owes < queues start + owed start.turn
queue_fewer place start now served owes lt w =
    let near = (queue_nears place start now served owes w).near in
    let less = ahead_within (queues start) start.next place lt in
    omega (arith, near, less)

-- ---- all of it

-- whoever waits while another, which was picked, is served
pub serves_soon : (b : WithTurn) (picked : Pick) → ServesSoon b picked
serves_soon b picked place p start served owes in_line w = fewer place p start b served owes in_line w

pub nobody_waits : NobodyWaits
nobody_waits = record { nearer = nears; fewer = fewer; soon = serves_soon; queue = queue_fewer }

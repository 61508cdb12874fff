use Rattle.engine.proofs.Names.{◌≡◌, ◌≤◌, ◌<◌, ◌∙◌, ◌++◌, arith, true, false, ℕ, List, Option, refl, sym, ap, subst, IfSome, IsSaid, spelling, Event, IsAskedBy, rules_of, Performed, DidNext, brings_message, Connection}
use Rattle.broker.specs.Turns.{topology_kept, broker_of}
use Rattle.engine.specs.declared.turning.Turn.TheVariants as turn
use Rattle.engine.specs.Allocating.{allowance_after, room_wanted, KeepsLarge}
use Rattle.outputs.specs.Storages.{AreAtMost, IsWhole, SpareCounts, room_of}
use Rattle.engine.proofs.Reserved.{taken_few}
use Rattle.engine.proofs.Turned.{performed_put}
use Rattle.engine.proofs.Waiting.{back_then}
use Rattle.engine.proofs.turning.do_next.Goals as goal

pub perform-requires-clause-asked : goal.perform-requires-clause-asked
perform-requires-clause-asked c = (subst (λ (k : Option Event). IfSome k (λ e. IsAskedBy c.args.connection.now.number e × IsSaid e)) c.in-Some.is c.requires.next).0

pub perform-requires-clause-said : goal.perform-requires-clause-said
perform-requires-clause-said c = (subst (λ (k : Option Event). IfSome k (λ e. IsAskedBy c.args.connection.now.number e × IsSaid e)) c.in-Some.is c.requires.next).1

pub put_out-requires-clause-room : goal.put_out-requires-clause-room
put_out-requires-clause-room c =
    let max = c.frame_max-max.ensures in
    let size = c.in-Ok.ensures.size c.frame_max-max.result max.least in
    let same : room_of c.room_wanted-wanted.result ≡ room_of (room_wanted c.in-Some.event) = ap room_of c.room_wanted-wanted.ensures in
    let room : room_of c.room_wanted-wanted.result ≤ c.make_room.new.output.room = c.in_default-make_room.ensures.ok in
    rw c.deref.ensures.value (omega (arith, size, same, room))

pub returns-in-Ok : goal.returns-in-Ok
returns-in-Ok c =
    let b = c.args.broker.now in
    let mid = c.perform.new.broker in
    let l = c.args.connection.now in
    let event = c.in-Some.event in
    let step = c.in-Ok.step in
    let max = c.frame_max-max.ensures in
    let put = c.put_out.ensures in
    let output : c.put_out.new.output.bytes ≡ l.output.bytes ++ spelling c.frame_max-max.result c.deref.result.now = put.bytes ∙ ap (λ (o : List ℕ). o ++ spelling c.frame_max-max.result c.deref.result.now) c.make_room.ensures.bytes in
    let performed : Performed (rules_of (topology_kept b) c.args.users.now) (broker_of b) l.number l.session l.output.bytes event step.notes.items (broker_of c.put_out.new.broker) c.perform.new.session c.put_out.new.output.bytes =
    performed_put (rules_of (topology_kept b) c.args.users.now) (broker_of b) (broker_of mid) (broker_of c.put_out.new.broker) l.number l.session c.perform.new.session l.output.bytes c.put_out.new.output.bytes event
    step.notes.items c.deref.result.now step.sends.items c.frame_max-max.result (topology_kept mid) c.deref.ensures.value max.value max.most c.in-Ok.ensures.ok put.own put.spelled output c.perform.ensures.topology put.pauses in
    let new : Connection = record { number = l.number; session = c.perform.new.session; stream = c.follow.new.stream; kept = c.forget.new.kept; output = c.put_out.new.output; allowance = c.allowance_after-allowance.result } in
    record {
      ok = subst (λ (k : Option Event). DidNext (rules_of (topology_kept b) c.args.users.now) b l k (turn.Did step.notes) c.put_out.new.broker new) (sym c.in-Some.is)
          (record { performed = performed; number = refl; none_kept = c.forget.ensures; stream = c.follow.ensures }, back_then b mid c.put_out.new.broker c.in-Ok.ensures.later put.later);
      wants = tt;
      broker_kept = tt;
      connection_kept = tt;
      topology = put.topology ∙ c.perform.ensures.topology;
      turn = put.turn ∙ c.perform.ensures.turn;
      whole = subst (λ (k : Option Event). IfSome k (λ e. brings_message e ≡ true → IsWhole c.perform.new.spares)) (sym c.in-Some.is) c.in-Ok.ensures.whole;
      after = subst (λ (k : Option Event). IfSome k (λ e. c.allowance_after-allowance.result ≡ allowance_after e)) (sym c.in-Some.is) c.allowance_after-allowance.ensures;
      last = tt;
      spare = tt;
      large = subst (λ (k : Option Event). IfSome k (λ e. brings_message e ≡ false → KeepsLarge (room_wanted e) l.output.bytes c.args.spares.now c.perform.new.spares)) (sym c.in-Some.is)
          (λ quiet reply none many.
          let same = c.perform.ensures.kept quiet many in
          subst (λ (s : SpareCounts). c.args.spares.now.contents ≤ s.contents) (sym same)
          (c.make_room.ensures.large (c.room_wanted-wanted.ensures ∙ reply) none (subst (λ (s : SpareCounts). 3 < s.contents) same many)));
    }

pub returns-in-Err-perform-clause-spare : goal.returns-in-Err-perform-clause-spare
returns-in-Err-perform-clause-spare c =
    let back = c.take_back-in-Err-perform.ensures in
    taken_few c.make_room.new.output 16 8 c.perform.new.spares c.take_back-in-Err-perform.new.self back.back back.same c.in-Err-perform.ensures.spare

pub returns-in-Err-perform-clause-last : goal.returns-in-Err-perform-clause-last
returns-in-Err-perform-clause-last c =
    let back = c.take_back-in-Err-perform.ensures in
    subst (λ (k : Option Event). IfSome k (λ e. brings_message e ≡ false → AreAtMost 9 3 c.take_back-in-Err-perform.new.self)) (sym c.in-Some.is)
    (λ quiet. taken_few c.make_room.new.output 8 2 c.perform.new.spares c.take_back-in-Err-perform.new.self back.back back.same (c.in-Err-perform.ensures.last quiet))

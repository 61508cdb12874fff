use Rattle.engine.proofs.Names.{◌≡◌, false, refl, sym, ap, rules, is_ended, is_past_bound, rules_of, wire_in, Connection, stream_of}
use Rattle.broker.specs.Turns.{topology_kept, broker_of}
use Rattle.engine.proofs.Asked.{ok_map, on_err, err_map, both_err}
use Rattle.engine.proofs.Turned.{IsRead, next_known, took_next, idle_next, keeps_after, waits_next, reads_next}
use Rattle.engine.proofs.Waiting.{next_leaves}
use Rattle.engine.proofs.turning.turn_connection.Goals as goal

pub do_next-requires-clause-next : goal.do_next-requires-clause-next
do_next-requires-clause-next c =
    let old = c.args.connection.now in
    next_known old.number old.kept (stream_of old.stream) c.read_next.new.kept c.read_next.new.stream.fault (stream_of c.read_next.new.stream) c.in-Ok.ensures.ok

pub returns-in-Ok : goal.returns-in-Ok
returns-in-Ok c =
    let b = c.args.broker.now in
    let left = c.do_next.new.broker in
    let old = c.args.connection.now in
    let new = c.do_next.new.connection in
    let r = rules_of (topology_kept b) c.args.users.now in
    let open_still : is_ended old.session.phase ≡ false = sym c.if-is_over.ensures.value in
    let below : is_past_bound old.output.bytes ≡ false = search rules in
    let mid : Connection = record { number = old.number; session = old.session; stream = c.read_next.new.stream; kept = c.read_next.new.kept; output = old.output; allowance = old.allowance } in
    let is : IsRead old mid = record { number = refl; session = refl; output = refl } in
    let h = c.in-Ok.ensures.ok in
    let did = c.do_next.ensures in
    let result = c.do_next.result in
    let kept = keeps_after result r b left old mid new mid.kept is refl h did.ok did.connection_kept in
    record {
      ok = ok_map result _ _ (λ t one. took_next r b left old mid new mid.kept t open_still below is refl h one) did.ok;
      err = err_map result _ _ (λ was. waits_next (broker_of b) (broker_of left) old mid new is h (ap broker_of was.0) was.1) (both_err result _ _ did.broker_kept did.connection_kept);
      awake = on_err result _ (open_still, below);
      more = err_map result _ _ (λ some. reads_next old.number old.kept (stream_of old.stream) mid.kept mid.stream.fault (stream_of mid.stream) some h) did.wants;
      idle = ok_map result _ _ (λ t one. idle_next r b left mid new mid.kept t one) did.ok;
      refused = err_map result _ _ (λ was. was.none) did.connection_kept;
      kept = kept.0;
      number = kept.1;
      topology = did.topology;
      turns = ok_map result _ _ (λ t one. next_leaves (wire_in false old) r b left old mid new mid.kept t refl refl h one did.turn did.topology) did.ok;
      spare = did.spare;
      broker_kept = did.broker_kept;
    }

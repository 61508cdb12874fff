use Rattle.reload_loop.proofs.Imports.{◌∙◌, ◌&&◌, is_ok, Bool, List, Option, ap, refl, subst, arith, Text, world_of, Known, served, change, names_of, Looks, told_of, last, more}
use Rattle.serving.specs.declared.peers.Peer.{Peer}
use Rattle.reload_loop.proofs.Outcomes.{same_holds}
use Rattle.reload_loop.proofs.serving_on.serve_and_reload.Goals as goal

pub loop-left-preserved : goal.loop-left-preserved
loop-left-preserved g c =
    let traffic = g.W.Wire.past in
    let says = g.E.Write.contents in
    let holds = g.F.Files.holds in
    let mid = served (world_of c.serve.new.server.machine) c.serve.new.server.peers (traffic c.serve.new.wire) in
    record {
      serves = λ new s.
          c.loop-left.invariant.serves new (more mid c.loop-left-test.true c.serve.ensures.rounds (record {
            now = c.seconds-now.result;
            given = c.seconds-now.ensures;
            taken = is_ok c.look.result;
            looks = subst (λ (h : Text → Known). Looks h (names_of c.args.names) c.seconds-now.result (change (says c.loop-left.err) (says c.look.new.err)) (told_of c.loop-left.found) c.loop-left.kept mid.world (told_of c.look.new.found) c.look.new.kept (world_of c.look.new.server.machine) (is_ok c.look.result))
                (same_holds (holds c.args.files.now) (holds c.loop-left.files) c.loop-left.invariant.files) c.look.ensures.looks;
            rest = ap (λ (ps : List (Option Peer)). served (world_of c.look.new.server.machine) ps mid.traffic) c.look.ensures.peers;
            whole = ap (λ (taken : Bool). taken && c.loop-left.whole) c.is_ok-taken.ensures.value;
          }) s);
      served = λ f before was. c.look.ensures.served f before mid.traffic (c.serve.ensures.served f before (c.loop-left.invariant.served f before was));
      files = λ name. c.look.ensures.files name ∙ c.loop-left.invariant.files name;
      found = c.look.ensures.found;
    }

pub returns-clause-serves : goal.returns-clause-serves
returns-clause-serves g c = (told_of c.loop-left.found, c.loop-left.invariant.serves _ (last (omega (arith, c.loop-left-test.false)) c.serve-2.ensures.rounds refl))

pub returns-clause-served : goal.returns-clause-served
returns-clause-served g c f before was = c.serve-2.ensures.served f before (c.loop-left.invariant.served f before was)

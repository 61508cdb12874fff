use Rattle.reload_loop.proofs.Imports.{Config, world_of, MayAllocate, AreKept, served, IsServed, names_of, WasFound, BetweenRounds, ServesOn, None, told_of, between_rounds}
use Rattle.std.specs.Prelude.{true}
use Rattle.serving.specs.Wire.{Traffic}
use Rattle.reload_loop.proofs.serving_on.serve_and_reload.Given as goal

abbrev pub invariant-loop-left : goal.invariant-loop-left
invariant-loop-left g l =
    let traffic = g.W.Wire.past in
    let says = g.E.Write.contents in
    let holds = g.F.Files.holds in
    let start = served (world_of l.fn.server.machine) l.fn.server.peers (traffic l.fn.sockets) in
    let here = served (world_of l.server.machine) l.server.peers (traffic l.sockets) in
    record {
      serves : (new : BetweenRounds) → ServesOn g.C.Clock.may (holds l.fn.files) (names_of l.names) l.every l.left (between_rounds here l.kept (told_of l.found) (says l.err) l.whole) new
          → ServesOn g.C.Clock.may (holds l.fn.files) (names_of l.names) l.every l.turns (between_rounds start l.fn.kept None (says l.fn.err) true) new;
      served : (f : Config) (before : Traffic) → IsServed MayAllocate f before start → IsServed MayAllocate f before here;
      files : AreKept (holds l.fn.files) (holds l.files);
      found : WasFound (names_of l.names) l.kept l.found;
    }

abbrev pub decreases-loop-left : goal.decreases-loop-left
decreases-loop-left g l = l.left

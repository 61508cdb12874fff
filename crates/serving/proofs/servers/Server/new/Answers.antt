use Rattle.serving.proofs.Names.{◌≡◌, ◌∙◌, List, [], Option, sym, subst, IsFit, Peer}
use Rattle.serving.proofs.Fits.{fit_none}
use Rattle.serving.proofs.Quieting.{none_quiet, none_ended}
use Rattle.serving.proofs.Fullness.{none_full}
use Rattle.serving.proofs.servers.Server.new.Goals as goal

pub invariant_of-result : goal.invariant_of-result
invariant_of-result g c =
    let w = g.M.Machine.world c.args.machine in
    let ps = c.in_ok-peers.peers.slots in
    let none : ps ≡ [] = c.in_ok-peers.ensures.empty in
    record {
      settled = record {
        in_slots = record { fit = subst (λ (qs : List (Option Peer)). IsFit w qs) (sym none) (fit_none w); quiet = none_quiet w ps c.in_ok-quiet.quiet none };
        ended = none_ended w ps none;
        most = c.in_ok-peers.ensures.capacity;
      };
      full = none_full w ps c.in_ok-full.full c.in_ok-full.ensures;
      room = sym c.in_ok-buffer.buffer.ok.0 ∙ c.in_ok-buffer.ensures.len;
    }

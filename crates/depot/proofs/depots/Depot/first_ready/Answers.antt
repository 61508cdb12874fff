use Rattle.depot.proofs.Names.{◌∙◌, ap, sym, Bor, Option, is_ready, Entry}
use Rattle.std.proofs.Common.{option_map, find}
use Rattle.depot.proofs.Absent.{absent}
use Rattle.depot.proofs.depots.Depot.first_ready.Goals as goal

pub returns-in_err-place : goal.returns-in_err-place
returns-in_err-place c =
    ap (λ (r : Option (Bor Entry)). option_map (λ (e : Bor Entry). e.now) r) c.from_residual.ensures
    ∙ sym (ap (find is_ready) (absent c.args.self.now c.topology.result.now c.args.name.now c.topology.ensures c.in_err-place.ensures.absent))

use Rattle.server.proofs.Names.{unpromised, IsWhyUnpromised}
use Rattle.server.proofs.FilesKept.{why_kept}
use Rattle.server.proofs.stated.set_up.Goals as goal

pub returns-clause-states : goal.returns-clause-states
returns-clause-states g c =
    let stated = c.in-Ok.ensures.states in
    unpromised (record { topology = c.in-Ok.stated.0; users = c.in-Ok.stated.1.items }) stated
    (why_kept _ _ (IsWhyUnpromised c.in-Ok.stated.0) _ _ _ c.in-Ok.ensures.files c.in-Err-guarantees_of.ensures.states)

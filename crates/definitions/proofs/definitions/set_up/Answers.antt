use Rattle.definitions.proofs.Imports.{◌∙◌, sym, subst, Topology, IsBuildable, file_of}
use Rattle.definitions.proofs.Building.{buildable, hashed_some, settled}
use Rattle.definitions.proofs.definitions.set_up.Goals as goal

pub sound-requires : goal.sound-requires
sound-requires c = subst (λ (t : Topology). IsBuildable t) (sym c.in_ok-parts.ensures) (buildable (file_of c.args.document.now) c.in_ok-check_entries.ensures)

pub returns : goal.returns
returns c =
    let f = file_of c.args.document.now in
    let hashed = hashed_some _ f.users c.in_ok-users.field-0 c.in-Some.users (rw c.as_slice.ensures.value at c.in_ok-users.ensures) c.in-Some.is in
    settled f c.in_ok-topology.topology c.in-Some.users.items c.in_ok-check_entries.ensures hashed (c.in_ok-topology.ensures ∙ c.in_ok-parts.ensures)

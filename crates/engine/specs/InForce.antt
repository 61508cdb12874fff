-- The configuration that is in force in an engine.
use Rattle.std.specs.Prelude.{List}
use Rattle.model.specs.State.{Config}
use Rattle.model.specs.declared.messages.User.{User}
use Rattle.certificate.specs.Admitted.{Admitted}

-- the configuration of an admitted topology and the users who may log in
abbrev pub in_force : Admitted → List User → Config
in_force admitted users = record { topology = admitted.topology; guarantees = admitted.guarantees; users = users }

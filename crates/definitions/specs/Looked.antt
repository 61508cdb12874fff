-- The directories in which the names of a file are looked up.
use Rattle.std.specs.Prelude.{◌≡◌, List}
use Rattle.model.specs.Words.{Text}
use Rattle.model.specs.Topology.{Topology}
use Rattle.definitions.specs.File.{File}
use Rattle.definitions.specs.Causes.{user_names}
use Rattle.definitions.specs.States.{topology_of}

-- `users` are the names of the file's users, and `draft` is the topology that its entries set up
pub record AreLookedUp (f : File) (users : List Text) (draft : Topology) : Type 0 where
  pub names : users ≡ user_names f
  pub lists : draft ≡ topology_of f

-- What reading a definitions file returns. Each cause is about the whole file; of several the lowest-numbered one is reported.
use Rattle.std.specs.Prelude.{◌≡◌, ℕ, List, Result, Ok, Err}
use Rattle.model.specs.Topology.{Topology}
use Rattle.model.specs.declared.messages.User.{User}
use Rattle.json_file.specs.declared.causes.FileCause.{FileCause}
use Rattle.json_file.specs.Files.{IsCauseReported, IsFileOf, IsFreeOf, IsLeastCause}
use Rattle.definitions.specs.File.{File, file_at}
use Rattle.definitions.specs.Causes.{IsClear}
use Rattle.definitions.specs.States.{topology_of, users_of}

-- the file is JSON and states the entries `f`
abbrev pub IsDefinitionsFile : List ℕ → File → Type 0
IsDefinitionsFile bytes f = IsFileOf file_at bytes f

-- This cause does not apply to the file.
abbrev pub IsFree : FileCause → List ℕ → Type 0
IsFree bad bytes = IsFreeOf file_at IsClear bytes bad

-- This cause applies to the file, and none of a lower number does.
abbrev pub IsFirst : FileCause → List ℕ → Type 0
IsFirst bad bytes = IsLeastCause (IsFreeOf file_at IsClear bytes) bad

-- a file is refused by its lowest-numbered cause; a refusal for an allocation failure promises nothing
abbrev pub IsRefused : FileCause → List ℕ → Type 0
IsRefused bad bytes = IsCauseReported (IsFreeOf file_at IsClear bytes) bad

-- the topology and the users that a file sets up
pub record Stated : Type 0 where
  pub topology : Topology
  pub users : List User

-- No cause applies to the file, and `s` is what it sets up.
pub record IsAccepted (s : Stated) (bytes : List ℕ) : Type 0 where
  pub free : (bad : FileCause) → IsFree bad bytes
  pub file : File
  pub is_file : IsDefinitionsFile bytes file
  pub topology : s.topology ≡ topology_of file
  pub users : s.users ≡ users_of file

-- A file is read if and only if no cause applies to it, and what it sets up is returned; otherwise it is refused by its lowest-numbered cause.
abbrev pub ReadsDefinitions : Result Stated FileCause → List ℕ → Type 0
ReadsDefinitions (Ok s) bytes = IsAccepted s bytes
ReadsDefinitions (Err bad) bytes = IsRefused bad bytes

-- What checking the entries of a file returns.
use Rattle.std.specs.Prelude.{◌≡◌, ℕ, List, Result, Ok, Err, ⊤}
use Rattle.json_file.specs.declared.causes.FileCause.{FileCause}
use Rattle.json_file.specs.Files.{IsUnreadFile}
use Rattle.definitions.specs.declared.document.Document.{Document}
use Rattle.definitions.specs.File.{File, file_at, file_of}
use Rattle.definitions.specs.Causes.{IsClearBelow, IsReported}
use Rattle.definitions.specs.States.{topology_of, users_of}
use Rattle.definitions.specs.Reads.{IsDefinitionsFile, Stated}

-- parsing a file returns its entries, or the cause for which it is refused before its entries are known
abbrev pub OpensDefinitions : Result Document FileCause → List ℕ → Type 0
OpensDefinitions (Ok d) bytes = IsDefinitionsFile bytes (file_of d)
OpensDefinitions (Err bad) bytes = IsUnreadFile file_at bad bytes

-- no cause below 13 applies to the entries, or the reported one is the lowest-numbered one that does
abbrev pub JudgesFile : Result ⊤ FileCause → File → Type 0
JudgesFile (Ok done) f = IsClearBelow 13 f
JudgesFile (Err bad) f = IsReported bad f

-- no cause below 15 applies to the entries, and `s` has the topology and the users that they set up
pub record IsSettled (s : Stated) (f : File) : Type 0 where
  pub clear : IsClearBelow 15 f
  pub topology : s.topology ≡ topology_of f
  pub users : s.users ≡ users_of f

-- the entries are accepted, and what they set up is returned; or the reported cause is the lowest-numbered one that applies
abbrev pub StatesOrReports : Result Stated FileCause → File → Type 0
StatesOrReports (Ok s) f = IsSettled s f
StatesOrReports (Err bad) f = IsReported bad f

-- From the entries of a file to the whole of it.
use Rattle.definitions.proofs.Imports.{ℕ, List, Result, Ok, Err, FileCause, all_numbered, free_of, refused, File, IsClear, StatesOrReports}
use Rattle.definitions.specs.File.{file_at}
use Rattle.definitions.specs.Reads.{IsDefinitionsFile, ReadsDefinitions, Stated}
use Rattle.definitions.proofs.Order.{ask_nothing}

pub read_whole : (bytes : List ℕ) (f : File) (r : Result Stated FileCause) → IsDefinitionsFile bytes f → StatesOrReports r f → ReadsDefinitions r bytes
read_whole bytes f (Ok s) w h = record {
  free = λ bad. free_of file_at IsClear bytes f bad w (h.clear bad (all_numbered bad));
  file = f;
  is_file = w;
  topology = h.topology;
  users = h.users;
}
read_whole bytes f (Err bad) w h = refused file_at IsClear bytes f bad (ask_nothing f) w h

-- The names of the files of a reload (own).
use Rattle.model.specs.Words.{Text}

-- the names of a definitions, a guarantees and a certificates file
pub record FileNames : Type 0 where
  pub definitions : Text
  pub guarantees : Text
  pub certificates : Text

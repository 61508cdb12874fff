-- Messages that are remembered, so that messages like them are not judged again (own).
use Rattle.std.specs.Prelude.{List, [], ◌∷◌, Option, Some, None}
use Rattle.std.specs.Borrow.{Bor}
use Rattle.model.specs.Message.{Message}

-- the messages that are remembered, in slots of which some are empty
abbrev pub kept : List (Option (Bor Message)) → List Message
kept [] = []
kept (None ∷ slots) = kept slots
kept (Some m ∷ slots) = m.now ∷ kept slots

-- What is remembered of the last death (own).
use Rattle.std.specs.Prelude.{Option, Some, None}
use Rattle.depot.specs.declared.markers.Marking.{Marking}
use Rattle.depot.specs.Marked.{ArePropertiesMarked}

-- if a marking is remembered, it is right: `after` are the properties `before`, marked for a death in `queue` of a message last sent to `exchange`
abbrev pub IsRight : Option Marking → Type 0
IsRight None = Unit {0}
IsRight (Some m) = ArePropertiesMarked m.queue m.exchange m.before m.after

-- Patterns as texts, by the kind of exchange that compares them (own).
use Rattle.std.specs.Prelude.{List, [], ◌∷◌, ◌++◌}
use Rattle.model.specs.Words.{Text}
use Rattle.model.specs.Topology.{IsIn}
use Rattle.model.specs.Tracking.{Tracked}
use Rattle.model.specs.declared.topologies.ExchangeKind.{ExchangeKind}
use Rattle.model.specs.declared.topologies.ExchangeKind.TheVariants.{Direct, Fanout, Topic}

-- a list of texts for each kind of exchange
pub record ByKind : Type 0 where
  pub direct : List Text
  pub fanout : List Text
  pub topic : List Text

-- the texts of one kind
abbrev pub texts_by : ByKind → ExchangeKind → List Text
texts_by keys Direct = keys.direct
texts_by keys Fanout = keys.fanout
texts_by keys Topic = keys.topic

-- `keys` with `text` appended to the texts of one kind
abbrev pub with_text : ByKind → ExchangeKind → Text → ByKind
with_text keys Direct text = record keys { direct = keys.direct ++ text ∷ [] }
with_text keys Fanout text = record keys { fanout = keys.fanout ++ text ∷ [] }
with_text keys Topic text = record keys { topic = keys.topic ++ text ∷ [] }

-- `keys` has exactly the texts of the patterns `ps`, each under its kind
abbrev pub AreKeysOf : ByKind → List Tracked → Type 0
AreKeysOf keys ps = (kind : ExchangeKind) (text : Text)
    → (IsIn text (texts_by keys kind) → IsIn (record { kind = kind; text = text }) ps)
    × (IsIn (record { kind = kind; text = text }) ps → IsIn text (texts_by keys kind))

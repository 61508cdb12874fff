-- How the bindings of an exchange that let a key pass are found (own).
use Rattle.std.specs.Prelude.{◌≡◌, List}
use Rattle.model.specs.declared.topologies.ExchangeKind.{ExchangeKind}
use Rattle.model.specs.declared.topologies.ExchangeKind.TheVariants.{Direct, Fanout, Topic}
use Rattle.exchange_graph.specs.declared.ends.Branch.{Branch}
use Rattle.exchange_graph.specs.declared.fans.Index.{Index}
use Rattle.exchange_graph.specs.declared.fans.Index.TheVariants.{Keys, All, Patterns}
use Rattle.exchange_graph.specs.Fans.{patterns_of}
use Rattle.exchange_graph.specs.Keyed.{AreKeyed}

-- the kind of exchange that this index is for
abbrev pub kind_of : Index → ExchangeKind
kind_of (Keys keyed) = Direct
kind_of All = Fanout
kind_of (Patterns topics) = Topic

-- the index has the bindings `ways`
abbrev pub IsIndex : List Branch → Index → Type 0
IsIndex ways (Keys keyed) = AreKeyed ways keyed
IsIndex ways All = Unit {0}
IsIndex ways (Patterns topics) = topics ≡ patterns_of ways

-- the index has the bindings `ways`, and is for an exchange of this kind
abbrev pub Indexes : ExchangeKind → List Branch → Index → Type 0
Indexes kind ways index = (kind_of index ≡ kind) × IsIndex ways index

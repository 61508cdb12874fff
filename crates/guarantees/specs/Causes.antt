-- The conditions on a guarantees file, cause by cause (own).
use Rattle.std.specs.Prelude.{◌≡◌, ◌≤◌, List, [], length, All, Option, Some, None, Result, Ok, Err, ◌⊎◌, ⊤}
use Rattle.model.specs.Words.{Text}
use Rattle.model.specs.Topology.{Topology, IsIn, exchange_names, queue_names}
use Rattle.model.specs.Guarantee.{Guarantee}
use Rattle.topic_match.specs.Patterns.{IsPattern}
use Rattle.json_file.specs.declared.causes.FileCause.{FileCause}
use Rattle.json_file.specs.declared.causes.FileCause.TheVariants.{Absent, Worded, TooMany}
use Rattle.json_file.specs.Files.{IsCauseReported}

-- the exchange is the default one, or one of the topology
abbrev pub IsExchangeOrDefault : Topology → Text → Type 0
IsExchangeOrDefault t name = (name ≡ []) ⊎ IsIn name (exchange_names t.exchanges)

-- cause 5: the exchange and the queue of a guarantee exist; the default exchange always does
pub record NamesAreThere (t : Topology) (g : Guarantee) : Type 0 where
  pub exchange : IsExchangeOrDefault t g.exchange
  pub queue : IsIn g.queue (queue_names t.queues)

-- the pattern and the `except` patterns are topic patterns
pub record ArePatterns (g : Guarantee) : Type 0 where
  pub pattern : IsPattern g.pattern
  pub excepts : All IsPattern g.excepts

-- cause 9: a guarantee's patterns are topic patterns, its exchange's name has at most 255 bytes, and its queue's name is a pattern of at least one
-- word
pub record IsGuaranteeWorded (g : Guarantee) : Type 0 where
  pub patterns : ArePatterns g
  pub exchange : length g.exchange ≤ 255
  pub some : g.queue ≡ [] → ⊥
  pub queue : IsPattern g.queue

-- a guarantee has at most 16 `except` patterns
abbrev pub TakesOutFew : Guarantee → Type 0
TakesOutFew g = length g.excepts ≤ 16

-- cause 10: there are at most 64 guarantees, with at most 16 `except` patterns each
pub record AreFewEnough (gs : List Guarantee) : Type 0 where
  pub guarantees : length gs ≤ 64
  pub excepts : All TakesOutFew gs

-- this cause does not apply to the guarantees `gs` of topology `t`
abbrev pub AreClear : FileCause → Topology → List Guarantee → Type 0
AreClear Absent t gs = All (NamesAreThere t) gs
AreClear Worded t gs = All IsGuaranteeWorded gs
AreClear TooMany t gs = AreFewEnough gs
AreClear _ t gs = Unit {0}

-- the reported cause is the lowest-numbered one that applies; a report of an allocation failure promises nothing
abbrev pub AreReported : FileCause → Topology → List Guarantee → Type 0
AreReported bad t gs = IsCauseReported (λ (lower : FileCause). AreClear lower t gs) bad

-- the result is the guarantee `given` if its texts are topic patterns, otherwise `None`
abbrev pub Makes : Option Guarantee → Guarantee → Type 0
Makes (Some g) given = (g ≡ given) × ArePatterns given
Makes None given = ArePatterns given → ⊥

-- no cause applies, or the reported one is the lowest-numbered one that does
abbrev pub JudgesGuarantees : Result ⊤ FileCause → Topology → List Guarantee → Type 0
JudgesGuarantees (Ok done) t gs = (bad : FileCause) → AreClear bad t gs
JudgesGuarantees (Err bad) t gs = AreReported bad t gs

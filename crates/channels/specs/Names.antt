-- Consumer tags that the server makes if a client gives none (AMQP 0-9-1, basic.consume, "consumer-tag"; their form is own).
use Rattle.std.specs.Prelude.{◌≡◌, ◌<◌, ◌≤◌, ℕ, List, ◌++◌, codes, decimal, true, false, Option, Some, None}
use Rattle.std.specs.List.{list_any}
use Rattle.model.specs.Words.{Text}
use Rattle.model.specs.Step.{greatest}
use Rattle.channels.specs.CountedConsumers.{is_named}
use Rattle.channels.specs.declared.consumers.Consumer.{Consumer}
use Rattle.channels.specs.declared.names.Name.{Name}

-- `amq.ctag-` and the number
abbrev pub server_name : ℕ → Text
server_name n = codes "amq.ctag-" ++ decimal n

-- Number `n` is the first at or after `from` whose tag no consumer has.
pub record IsNextName (consumers : List Consumer) (from n : ℕ) : Type 0 where
  pub least : from ≤ n
  -- the number 2^64 - 1 is never used
  pub left : n < greatest
  pub free : list_any (is_named (server_name n)) consumers ≡ false
  pub before : (k : ℕ) → from ≤ k → k < n → list_any (is_named (server_name k)) consumers ≡ true

-- Consumers have the tags of all numbers from `from` to 2^64 - 2.
pub record AreNamesSpent (consumers : List Consumer) (from : ℕ) : Type 0 where
  pub within : from ≤ greatest
  pub used : (k : ℕ) → from ≤ k → k < greatest → list_any (is_named (server_name k)) consumers ≡ true

-- the next free tag, or `None` if none is left
abbrev pub FindsName : List Consumer → ℕ → Option Name → Type 0
FindsName consumers from (Some name) = IsNextName consumers from name.number × (name.tag.bytes ≡ server_name name.number)
FindsName consumers from None = AreNamesSpent consumers from

-- A law that holds for all streams.
use Rattle.std.specs.Prelude.{◌≡◌, ◌<◌, ◌^◌, ℕ, Option}
use Rattle.model.specs.Commands.{Stream, Yields, Ends}
use Rattle.model.specs.declared.events.Command.{Command}

-- if its frames have fewer than 2^32 bytes, a stream has at most one next command or one end, and not both
pub record OneNext : Type 0 where
  pub one_command : (s a b : Stream) (c d : Command) → s.max < 2 ^ 32 → Yields s c a → Yields s d b → (c ≡ d) × (a ≡ b)
  pub one_end : (s : Stream) (o q : Option ℕ) → s.max < 2 ^ 32 → Ends s o → Ends s q → o ≡ q
  pub one_of_them : (s a : Stream) (c : Command) (o : Option ℕ) → s.max < 2 ^ 32 → Yields s c a → Ends s o → ⊥

use Rattle.channels.proofs.Imports.{◌≡◌, ◌+◌, ◌∷◌, List, None, Some, replicate, map, vec_len, vec_capacity, ◌≤◌, Text, new_channel, open_in}
use Rattle.std.proofs.Common.{option_map}
use Rattle.channels.proofs.slots.open_channels.Given as goal

abbrev pub invariant-loop-number : goal.invariant-loop-number
invariant-loop-number l = record {
  items : (names : List Text) → map (option_map (open_in names)) l.channels.items ≡ None ∷ replicate l.number (Some new_channel);
  len : vec_len l.channels ≡ l.number + 1;
  room : l.count + 1 ≤ vec_capacity l.channels;
}

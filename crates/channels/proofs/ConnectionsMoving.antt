-- The model sees no difference on channels whose queues have new indices.
use Rattle.channels.proofs.Imports.{◌≡◌, ℕ, List, refl, ap, ◌∙◌, Option, Some, None, slice_index_or, lookup-map_values, Text, Open, open_in, open_moved, AreNamedAlike, Running, running_in, channel_at, channel_of, connection_at, connection_of, channels_moved, running_moved, connections_moved, MovesAreUnseen}
use Rattle.std.specs.Prelude.{option_map, nat_eq}
use Rattle.std.proofs.Math.ListN as numbered
use Rattle.channels.proofs.Moving.{open_named}

-- the channel at each number is moved
at_moved : (places : List ℕ) (channels : List (Option Open)) (h : ℕ) → slice_index_or (channels_moved places channels) h None ≡ option_map (open_moved places) (slice_index_or channels h None)
at_moved places channels h = numbered.get_or-map (option_map (open_moved places)) channels h None

channel_moved : (places : List ℕ) (o : Option Running) (h : ℕ) → channel_at (option_map (running_moved places) o) h ≡ option_map (open_moved places) (channel_at o h)
channel_moved places None h = refl
channel_moved places (Some l) h = at_moved places l.channels h

seen_moved : (old new : List Text) (places : List ℕ) (o : Option Open) → ((ch : Open) → o ≡ Some ch → AreNamedAlike old new places ch) → option_map (open_in new) (option_map (open_moved places) o) ≡ option_map (open_in old) o
seen_moved old new places None a = refl
seen_moved old new places (Some ch) a = ap Some (open_named old new places ch (a ch refl))

-- so is each channel of each connection
pub moved_channel : (places : List ℕ) (connections : List (ℕ × Running)) (c h : ℕ) → channel_of (connections_moved places connections) c h ≡ option_map (open_moved places) (channel_of connections c h)
moved_channel places connections c h =
    ap (λ (o : Option Running). channel_at o h) (lookup-map_values (running_moved places) (nat_eq c) connections) ∙ channel_moved places (running_in connections c) h

-- connections are as they were, but for their channels
pub moved_connection : (places : List ℕ) (connections : List (ℕ × Running)) (c : ℕ) → connection_of (connections_moved places connections) c ≡ connection_of connections c
moved_connection places connections c = ap connection_at (lookup-map_values (running_moved places) (nat_eq c) connections) ∙ limits_stay (running_in connections c)
  where
    limits_stay : (o : Option Running) → connection_at (option_map (running_moved places) o) ≡ connection_at o
    limits_stay None = refl
    limits_stay (Some l) = refl

pub unseen : MovesAreUnseen
unseen old new places connections alike c h =
    ap (option_map (open_in new)) (moved_channel places connections c h) ∙ seen_moved old new places (channel_of connections c h) (alike c h)

-- What a command leaves that changes its channel alone.
use Rattle.commands.proofs.Names.{◌≡◌, ℕ, List, [], refl, ap, ◌∙◌, Channel, with_pair, Does, Is, Send, Note, Store, Side, Turns, state_of}
use Rattle.std.proofs.Common.{Some}
use Rattle.model.specs.Step.{with_channel}

-- the channel is another now, and the queues are as they were
turned : (c h : ℕ) (s : Store) (was ch made : Channel) (old new : Side) → ch ≡ made → Turns c h was ch old new → Is (with_channel (state_of s old) c h (Some made)) (state_of s new)
turned c h s was ch made old new e turns = record {
  counted = refl;
  queues = λ q. refl;
  connections = turns.connections;
  channels = λ d k. turns.channels d k ∙ ap (λ (x : Channel). with_pair old.channel c h (Some x) d k) e;
}

-- so a command does that sends this and notes nothing
pub does_here : (c h : ℕ) (s : Store) (was ch made : Channel) (sends wanted : List Send) (notes : List Note) (old new : Side)
    → sends ≡ wanted → notes ≡ [] → ch ≡ made → Turns c h was ch old new → Does sends notes (state_of s new) wanted (with_channel (state_of s old) c h (Some made))
does_here c h s was ch made sends wanted notes old new sent noted e turns = record { sent = sent; noted = noted; left = turned c h s was ch made old new e turns }

-- An event changes channels of its own connection alone.
use Rattle.laws.proofs.Names.{◌≡◌, ℕ, List, [], ◌∷◌, Bool, false, ap, ◌∙◌, ◌==◌, ◌&&◌, AllByRecursion, ne_eqb, Topology, Broker, Happening, Run, State, Step, event_connection, ChangesOwnAlone, Send, Note}
use Rattle.std.specs.Prelude.{if◌then◌else◌}
use Rattle.laws.proofs.Channels.{Changes, unchanged, one_channel, all_channels, step_changes}

aside : (t : Topology) (old new : Broker) (sends : List Send) (notes : List Note) (c d : ℕ) → (d == c) ≡ false → Changes t old sends notes new c → (k : ℕ) → new.channel d k ≡ old.channel d k
aside t old new sends notes c d distinct (unchanged channels connections) k = channels d k
aside t old new sends notes c d distinct (one_channel h now channels connections there fate) k = channels d k ∙ ap (λ (b : Bool). if b && (k == h) then now else old.channel d k) distinct
aside t old new sends notes c d distinct (all_channels row channels queues there others) k = channels d k ∙ ap (λ (b : Bool). if b then row k else old.channel d k) distinct

step_aside : (h : Happening) → Step h.config h.before h.event h.sends h.notes h.after → ChangesOwnAlone h
step_aside h s d other = aside h.config.topology h.before.broker h.after.broker h.sends h.notes (event_connection h.event) d (ne_eqb d (event_connection h.event) other) (step_changes h s)

-- In every run an event changes channels of its own connection alone.
pub run_aside : (hs : List Happening) (old new : State) → Run old hs new → AllByRecursion ChangesOwnAlone hs
run_aside [] old new r = tt
run_aside (h ∷ hs) old new (e, s, r) = (step_aside h s, run_aside hs h.after new r)

use Rattle.std.proofs.Common.{◌≡◌, ◌-◌, ℕ, zero, suc, List, [], ◌∷◌, Option, Some, None, refl, sym, subst, drop, arith, ◌⊎◌, inl, inr}
use Rattle.serving.specs.Wire.{Accepted, AllWait, Nothing_got, AddsCalls, Traffic, least_room}
use Rattle.serving.specs.declared.peers.Peer.{Peer}
use Rattle.sockets.specs.Counts.{traffic_with}
use Rattle.sockets.specs.Traffic.{traffic_of}
use Rattle.sockets.specs.declared.counts.Count.{Count}
use Rattle.sockets.proofs.sockets.SocketsWire.pass_silent.Goals as goal

none_accepted : (r s : ℕ) → (Accepted r ≡ Nothing_got s least_room) ⊎ ⊥ → ⊥
none_accepted r s (inl e) = cc e
none_accepted r s (inr i) = i

-- sockets that report no calls report nothing else of a read that got nothing
nothing_added : (failures given : ℕ) (counts : List (Option Count)) (s : ℕ) → AddsCalls (traffic_with failures given counts) (Nothing_got s least_room ∷ []) (traffic_with failures given counts)
nothing_added failures given counts s = record { calls = tt; failures = omega arith; kept = λ r e. e; given = λ r i. absurd (none_accepted r s i); totals = λ r t e. e }

-- so they report nothing of any number of them
all_wait : (failures given : ℕ) (counts : List (Option Count)) (n : ℕ) (ps : List (Option Peer)) → AllWait n ps (traffic_with failures given counts) (traffic_with failures given counts)
all_wait failures given counts zero ps = refl
all_wait failures given counts (suc n) [] = refl
all_wait failures given counts (suc n) (None ∷ ps) = all_wait failures given counts n ps
all_wait failures given counts (suc n) (Some p ∷ ps) = (traffic_with failures given counts, nothing_added failures given counts p.socket, all_wait failures given counts n ps)

pub returns-clause-traffic : goal.returns-clause-traffic
returns-clause-traffic c =
    let old = c.args.self.now in
    let ps = c.args.peers.now.slots in
    let from = c.args.from in
    subst (λ (t : Traffic). AllWait (c.first_asked.result - from) (drop from ps) (traffic_of old) t) (sym c.first_asked.ensures.traffic)
    (all_wait old.failures old.given old.counts.items (c.first_asked.result - from) (drop from ps))

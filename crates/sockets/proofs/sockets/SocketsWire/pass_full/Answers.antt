use Rattle.std.proofs.Common.{◌≡◌, ◌-◌, ℕ, zero, suc, List, [], ◌∷◌, Option, Some, None, refl, sym, subst, drop, arith, ◌⊎◌, inl, inr}
use Rattle.serving.specs.Wire.{Accepted, NoneTakes, Nothing_taken, TakesNothing, Traffic}
use Rattle.serving.specs.declared.peers.Peer.{Peer}
use Rattle.sockets.specs.Counts.{traffic_with}
use Rattle.sockets.specs.Traffic.{traffic_of}
use Rattle.sockets.specs.declared.counts.Count.{Count}
use Rattle.sockets.proofs.sockets.SocketsWire.pass_full.Goals as goal

none_accepted : (r s : ℕ) (bytes : List ℕ) → (Accepted r ≡ Nothing_taken s bytes) ⊎ ⊥ → ⊥
none_accepted r s bytes (inl e) = cc e
none_accepted r s bytes (inr i) = i

-- sockets that report no calls report nothing else of a write of which nothing was taken
nothing_added : (failures given : ℕ) (counts : List (Option Count)) (s : ℕ) (bytes : List ℕ) → TakesNothing s bytes (traffic_with failures given counts) (traffic_with failures given counts)
nothing_added failures given counts s [] = refl
nothing_added failures given counts s (byte ∷ bytes) = record { calls = tt; failures = omega arith; kept = λ r e. e; given = λ r i. absurd (none_accepted r s (byte ∷ bytes) i); totals = λ r t e. e }

-- so they report nothing of any number of them
none_takes : (failures given : ℕ) (counts : List (Option Count)) (output : ℕ → List ℕ) (n : ℕ) (ps : List (Option Peer)) → NoneTakes output n ps (traffic_with failures given counts) (traffic_with failures given counts)
none_takes failures given counts output zero ps = refl
none_takes failures given counts output (suc n) [] = refl
none_takes failures given counts output (suc n) (None ∷ ps) = none_takes failures given counts output n ps
none_takes failures given counts output (suc n) (Some p ∷ ps) =
    (traffic_with failures given counts, nothing_added failures given counts p.socket (output p.connection), none_takes failures given counts output n ps)

pub returns-clause-traffic : goal.returns-clause-traffic
returns-clause-traffic c = λ output.
    let old = c.args.self.now in
    let ps = c.args.peers.now.slots in
    let from = c.args.from in
    subst (λ (t : Traffic). NoneTakes output (c.first_with_room.result - from) (drop from ps) (traffic_of old) t) (sym c.first_with_room.ensures.traffic)
    (none_takes old.failures old.given old.counts.items output (c.first_with_room.result - from) (drop from ps))

-- What is decided of a command, from the first test that holds.
use Rattle.commands.proofs.Names.{◌≡◌, ◌≢◌, ◌<◌, ℕ, zero, suc, List, [], ◌∷◌, get_or, inl, inr, Bool, true, false, Option, None, arith, refl, sym, ap, ◌∙◌, nat_eq, is_some, bytes_eq, nat_tests, bytes_eq-Decides, Text, Topology, queue_names, IsIn, DeclaredQueue, Broker, Channel, Connection, queue_named, Of_connection, refusal_on, or_else, refusal_to, refusal_of_count, refusal_of_publish, is_awaiting, is_of_connection, refusal, refusal_while_closing, refusal_on_zero, Method, Publish, refusal_of_number}
use Rattle.std.proofs.Common.{length, Some, nat_lt, if◌then◌else◌}
use Rattle.model.specs.Step.{Refusal}

-- on a channel that awaits close-ok only the method counts
pub closing_is : (t : Topology) (b : Broker) (conn : Connection) (h : ℕ) (m : Method) (k : Channel) → k.is_closing ≡ true → refusal t b conn h m (Some k) ≡ refusal_while_closing m
closing_is t b conn h m k e = rw e refl

-- and on channel 0
pub zero_is : (t : Topology) (b : Broker) (conn : Connection) (h : ℕ) (m : Method) (ch : Option Channel) → is_awaiting ch ≡ false → h ≡ 0 → refusal t b conn h m ch ≡ refusal_on_zero m
zero_is t b conn h m ch e z = rw (e, z) refl

-- elsewhere the number of the channel is looked at, and then the channel
pub number_is : (t : Topology) (b : Broker) (conn : Connection) (max h : ℕ) (m : Method) (ch : Option Channel) → is_awaiting ch ≡ false → h ≢ 0 → conn.channel_max ≡ max
    → refusal t b conn h m ch ≡ or_else (refusal_of_number max h m) (refusal_on t b ch m)
number_is t b conn max h m ch e n same =
    let zero : nat_eq h 0 ≡ false = grind (arith, nat_tests) in
    rw (e, zero, same) (chosen (is_of_connection m) (nat_lt max h))
  where
    chosen : (v w : Bool) → (if v then Some (Of_connection 503) else if w then Some (Of_connection 504) else refusal_on t b ch m) ≡ or_else (if v then Some (Of_connection 503) else if w then Some (Of_connection 504) else None) (refusal_on t b ch m)
    chosen true w = refl
    chosen false true = refl
    chosen false false = refl

-- and if there is none it is the refusal on the channel
pub number_passed : (t : Topology) (b : Broker) (conn : Connection) (max h : ℕ) (m : Method) (ch : Option Channel) → is_awaiting ch ≡ false → h ≢ 0 → conn.channel_max ≡ max
    → refusal_of_number max h m ≡ None → refusal t b conn h m ch ≡ refusal_on t b ch m
number_passed t b conn max h m ch e n same is = number_is t b conn max h m ch e n same ∙ ap (λ (x : Option Refusal). or_else x (refusal_on t b ch m)) is

-- what is not immediate is refused for its exchange, then for its counters
pub publish_is : (t : Topology) (b : Broker) (ch : Channel) (p : Publish) → p.immediate ≡ false → refusal_of_publish t b ch p ≡ or_else (refusal_to t p.exchange) (refusal_of_count b ch)
publish_is t b ch p flag = ap (λ (x : Bool). if x then Some (Of_connection 540) else or_else (refusal_to t p.exchange) (refusal_of_count b ch)) flag

-- a queue at an index is found by its name
pub queue_there : (qs : List DeclaredQueue) (i : ℕ) (name : Text) → i < length qs → get_or (queue_names qs) i [] ≡ name → is_some (queue_named qs name) ≡ true
queue_there [] i name lt e = absurd (omega arith)
queue_there (q ∷ qs) zero name lt e = chosen (bytes_eq q.name name) refl
  where
    chosen : (b : Bool) → bytes_eq q.name name ≡ b → is_some (if b then Some q else queue_named qs name) ≡ true
    chosen true is = refl
    chosen false is = absurd (let f : false ≡ true = sym is ∙ (bytes_eq-Decides q.name name).1 e in cc)
queue_there (q ∷ qs) (suc i) name lt e = chosen (bytes_eq q.name name) (queue_there qs i name (omega arith) e)
  where
    chosen : (b : Bool) → is_some (queue_named qs name) ≡ true → is_some (if b then Some q else queue_named qs name) ≡ true
    chosen true is = refl
    chosen false is = is

-- and one whose name no queue has is not found
pub queue_absent : (qs : List DeclaredQueue) (name : Text) → (IsIn name (queue_names qs) → ⊥) → is_some (queue_named qs name) ≡ false
queue_absent [] name none = refl
queue_absent (q ∷ qs) name none = chosen (bytes_eq q.name name) refl (queue_absent qs name (λ i. none (inr i)))
  where
    chosen : (b : Bool) → bytes_eq q.name name ≡ b → is_some (queue_named qs name) ≡ false → is_some (if b then Some q else queue_named qs name) ≡ false
    chosen true is rest = absurd (none (inl (sym ((bytes_eq-Decides q.name name).0 is))))
    chosen false is rest = rest

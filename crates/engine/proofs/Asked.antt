-- What is asked next, and what is decided of it.
use Rattle.engine.proofs.Names.{IfOk, OnErr, Is, after_move, ◌≡◌, ◌≢◌, ℕ, List, refl, sym, subst, Broker, Session, Phase, Send, Event, Note, Rules, ByBroker, ByPhase, DecidesByPhase}
use Rattle.std.specs.Prelude.{Result, Ok, Err}
use Rattle.model.specs.declared.events.Phase.TheVariants as phase

pub decides_elsewhere : (c : ℕ) (p : Phase) (r : Rules) (b : Broker) (s : Session) (e : Event) (sends : List Send) (notes : List Note) (new_b : Broker) (new_s : Session)
    → p ≢ phase.Running → ByPhase r.users c p b s e sends notes new_b new_s → DecidesByPhase c p r b s e sends notes new_b new_s
decides_elsewhere c phase.Header r b s e sends notes new_b new_s ne by = by
decides_elsewhere c phase.Start r b s e sends notes new_b new_s ne by = by
decides_elsewhere c phase.Tune r b s e sends notes new_b new_s ne by = by
decides_elsewhere c phase.Open r b s e sends notes new_b new_s ne by = by
decides_elsewhere c phase.Running r b s e sends notes new_b new_s ne by = absurd (ne refl)
decides_elsewhere c phase.Closing r b s e sends notes new_b new_s ne by = by
decides_elsewhere c phase.Over r b s e sends notes new_b new_s ne by = by

pub decides_running : (c : ℕ) (p : Phase) (r : Rules) (b : Broker) (s : Session) (e : Event) (sends : List Send) (notes : List Note) (new_b : Broker) (new_s : Session)
    → p ≡ phase.Running → ByBroker r.topology b s e sends notes new_b new_s → DecidesByPhase c p r b s e sends notes new_b new_s
decides_running c p r b s e sends notes new_b new_s is by = subst (λ (q : Phase). DecidesByPhase c q r b s e sends notes new_b new_s) (sym is) by

pub ok_map : {T F : Type 0} (r : Result T F) (P Q : T → Type 0) → ((x : T) → P x → Q x) → IfOk r P → IfOk r Q
ok_map (Ok x) P Q f p = f x p
ok_map (Err e) P Q f p = tt

pub ok_both : {T F : Type 0} (r : Result T F) (P Q R : T → Type 0) → ((x : T) → P x → Q x → R x) → IfOk r P → IfOk r Q → IfOk r R
ok_both (Ok x) P Q R f p q = f x p q
ok_both (Err e) P Q R f p q = tt

pub on_err : {T F : Type 0} (r : Result T F) (P : Type 0) → P → OnErr r P
on_err (Ok x) P p = tt
on_err (Err e) P p = p

pub err_map : {T F : Type 0} (r : Result T F) (P Q : Type 0) → (P → Q) → OnErr r P → OnErr r Q
err_map (Ok x) P Q f p = tt
err_map (Err e) P Q f p = f p

pub both_err : {T F : Type 0} (r : Result T F) (P Q : Type 0) → OnErr r P → OnErr r Q → OnErr r (P × Q)
both_err (Ok x) P Q p q = tt
both_err (Err e) P Q p q = (p, q)

pub is_same : (b : Broker) → Is b b
is_same b = record { counted = refl; queues = λ q. refl; connections = λ c. refl; channels = λ c h. refl }

-- by a move that leads elsewhere than to Running, nothing changes in the broker
pub unmoved : (b : Broker) (c : ℕ) (p : Phase) (s : Session) → s.phase ≡ p → p ≢ phase.Running → Is (after_move b c s) b
unmoved b c phase.Header s e ne = rw e (is_same b)
unmoved b c phase.Start s e ne = rw e (is_same b)
unmoved b c phase.Tune s e ne = rw e (is_same b)
unmoved b c phase.Open s e ne = rw e (is_same b)
unmoved b c phase.Running s e ne = absurd (ne refl)
unmoved b c phase.Closing s e ne = rw e (is_same b)
unmoved b c phase.Over s e ne = rw e (is_same b)

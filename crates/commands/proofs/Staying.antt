-- A command that leaves its channel as it is.
use Rattle.commands.proofs.Names.{◌≡◌, ◌∙◌, ℕ, Bool, true, false, refl, sym, ap, eqb-true, with_pair, Topology, queue_names, open_in, Store, Side, Turns, seen}
use Rattle.std.proofs.Common.{◌==◌, ◌&&◌, Some, if◌then◌else◌}
use Rattle.channels.specs.Open.{Open}

-- what is at a pair of numbers is put there again
put_again : {A : Type 0} (f : ℕ → ℕ → A) (c h d k : ℕ) (x : A) → f c h ≡ x → with_pair f c h x d k ≡ f d k
put_again f c h d k x is = chosen (d == c) (k == h) refl refl
  where
    chosen : (p q : Bool) → (d == c) ≡ p → (k == h) ≡ q → (if p && q then x else f d k) ≡ f d k
    chosen true true e g = sym is ∙ ap (λ (n : ℕ). f n h) (sym (eqb-true d c e)) ∙ ap (f d) (sym (eqb-true k h g))
    chosen true false e g = refl
    chosen false q e g = refl

-- no channel changed, as long as the topology is the same
pub channels_stay : (s s' : Store) (ch : Open) (c h : ℕ) (old new : Side) → s'.topology ≡ s.topology → Turns c h (seen s ch) (seen s' ch) old new → (d k : ℕ) → new.channel d k ≡ old.channel d k
channels_stay s s' ch c h old new same turns d k =
    turns.channels d k
    ∙ ap (λ (t : Topology). with_pair old.channel c h (Some (open_in (queue_names t.queues) ch)) d k) same
    ∙ put_again old.channel c h d k (Some (seen s ch)) turns.was

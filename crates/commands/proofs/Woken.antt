-- Whose waiters are woken.
use Rattle.commands.proofs.Names.{◌≡◌, ◌∙◌, ℕ, true, Option, inl, inr, sym, ap, subst, option_map, false≢true, same_Some, IsIn, Channel, may_take, HasNoTaker, open_in, channel_of, CannotTake, Kept, broker_of, names_of, Pick}
use Rattle.std.proofs.Common.{Some, ◌⊎◌}
use Rattle.channels.specs.Open.{Open}
use Rattle.channels.specs.RunningConnections.{is_number}
use Rattle.channels.specs.declared.consumers.Consumer.{Consumer}

-- whoever has no taker on its channel can't take
none_takes : (kept : Kept) (p : Pick) (ch : Open) → channel_of kept.connections p.connection p.channel ≡ Some ch → HasNoTaker ch p.number → CannotTake (broker_of kept) p
none_takes kept p ch there none x k may same =
    let is : open_in (names_of kept) ch ≡ x = same_Some (open_in (names_of kept) ch) x (sym (ap (option_map (open_in (names_of kept))) there) ∙ may.there) in
    false≢true (sym (none (names_of kept) k (subst (λ (y : Channel). IsIn k y.consumers) (sym is) may.its) same) ∙ ap (λ (y : Channel). may_take y k) is ∙ may.may)

-- so each consumer of the channels is awake, or can't take
pub woken_of : (kept : Kept) (awake : ℕ → ℕ → ℕ → ℕ → Type 0) (c : ℕ) (channel : Option ℕ)
    → ((h : ℕ) (ch : Open) → is_number channel h ≡ true → channel_of kept.connections c h ≡ Some ch → (k : Consumer) → IsIn k ch.given.consumers → awake k.queue c h k.number ⊎ HasNoTaker ch k.number)
    → (p : Pick) (ch : Open) (k : Consumer) → p.connection ≡ c → is_number channel p.channel ≡ true → channel_of kept.connections p.connection p.channel ≡ Some ch → IsIn k ch.given.consumers → k.number ≡ p.number
    → awake k.queue p.connection p.channel p.number ⊎ CannotTake (broker_of kept) p
woken_of kept awake c channel woken p ch k here on is among same =
    let at : channel_of kept.connections c p.channel ≡ Some ch = ap (λ (d : ℕ). channel_of kept.connections d p.channel) (sym here) ∙ is in
    elim (woken p.channel ch on at k among) [
      | inl up ↦ inl (subst (λ (n : ℕ). awake k.queue p.connection p.channel n) same (subst (λ (d : ℕ). awake k.queue d p.channel k.number) (sym here) up))
      | inr none ↦ inr (none_takes kept p ch is (subst (HasNoTaker ch) same none))
    ]

-- The consumer that a consume makes which is not refused.
use Rattle.commands.proofs.Names.{◌≡◌, ◌∙◌, ℕ, false, not, Option, None, ap, subst, sym, option_map, is_some, false≢true, Topology, BasicConsume, Consume, Kept, Pick, broker_of, names_of, topology_kept, refusal_seen, refusal, running_in, channel_in, channel_seen, limits_of}
use Rattle.std.proofs.Common.{Some, if◌then◌else◌}
use Rattle.channels.specs.Consumers.{next_number}
use Rattle.channels.specs.RunningConnections.{Running}
use Rattle.commands.specs.NewConsumers.{next_consumer, consumer_made_on}
use Rattle.commands.specs.declared.refusals.Refusal.{Refusal}

module _ (kept : Kept) (c h number : ℕ) (m : Consume) (l : Running) where
  abbrev its : Option Pick
  its = Some (record { connection = c; channel = h; number = number })

  unrefused : (r : Option Refusal) → is_some r ≡ false
      → option_map refusal_seen r ≡ refusal (topology_kept kept) (broker_of kept) (limits_of l) h (BasicConsume m) (channel_seen (names_of kept) l h)
      → consumer_made_on kept c h (BasicConsume m) (Some l) ≡ next_consumer c h (Some l)
  unrefused (Some r) none is = absurd (false≢true (sym none))
  unrefused None none is = ap (λ o. if not (is_some o) then next_consumer c h (Some l) else None) (sym is)

  pub made_on : (t : Topology) (r : Option Refusal) → t ≡ topology_kept kept → Some l ≡ running_in kept.connections c → is_some r ≡ false
      → option_map refusal_seen r ≡ refusal t (broker_of kept) (limits_of l) h (BasicConsume m) (channel_seen (names_of kept) l h)
      → Some number ≡ next_number (channel_in l h) → its ≡ consumer_made_on kept c h (BasicConsume m) (running_in kept.connections c)
  made_on t r same runs none is next =
      let judged = subst (λ (x : Topology). option_map refusal_seen r ≡ refusal x (broker_of kept) (limits_of l) h (BasicConsume m) (channel_seen (names_of kept) l h)) same is in
      let numbers : its ≡ next_consumer c h (Some l) = ap (option_map (λ (n : ℕ). record { connection = c; channel = h; number = n })) next in
      subst (λ (o : Option Running). its ≡ consumer_made_on kept c h (BasicConsume m) o) runs (numbers ∙ sym (unrefused r none judged))

-- A consumer that is seen is kept.
use Rattle.broker.proofs.Names.{◌∙◌, ℕ, List, [], ◌∷◌, Bool, true, false, cond, Option, Some, map, find, inl, inr, refl, sym, ap, subst, is_some, ◌==◌, eq-eqb, Text, IsIn, Channel, consumer_in, channel_of, consumer_numbered, WasConsumer, Kept, names_of, IsPickFrom, has_consumer, Pick, seen_there, HasConsumer}
use Rattle.std.proofs.Common.{◌≡◌}
use Rattle.model.specs.Broker as seen
use Rattle.channels.specs.Open.{Open}
use Rattle.channels.specs.declared.consumers.Consumer.{Consumer}
use Rattle.commands.specs.State.{broker_of, topology_kept}

found_by : (names : List Text) (cs : List Consumer) (k : seen.Consumer) (n : ℕ) → IsIn k (map (consumer_in names) cs) → k.number ≡ n → is_some (find (λ (c : Consumer). c.number == n) cs) ≡ true
found_by names [] k n i e = absurd i
found_by names (c ∷ cs) k n (inl s) e = ap (λ (v : Bool). is_some (cond v (Some c) (find (λ (x : Consumer). x.number == n) cs))) (eq-eqb c.number n (sym (ap (λ (x : seen.Consumer). x.number) s) ∙ e))
found_by names (c ∷ cs) k n (inr i) e = go (c.number == n) (found_by names cs k n i e)
  where
    go : (v : Bool) → is_some (find (λ (x : Consumer). x.number == n) cs) ≡ true → is_some (cond v (Some c) (find (λ (x : Consumer). x.number == n) cs)) ≡ true
    go true more = refl
    go false more = more

pub has_kept : (kept : Kept) (place : ℕ) (p : Pick) → HasConsumer (topology_kept kept) (broker_of kept) place p → has_consumer kept p ≡ true
has_kept kept place p has =
    let ch = has.was.0 in
    let channel = seen_there (names_of kept) (channel_of kept.connections p.connection p.channel) ch has.was.1 in
    ap (λ (o : Option Open). is_some (consumer_numbered o p.number)) channel.there
    ∙ found_by (names_of kept) channel.kept.given.consumers has.consumer p.number (subst (λ (x : Channel). IsIn has.consumer x.consumers) (sym channel.same) has.was.2) has.numbered

-- so is one to which a delivery can be made
pub has_picked : (kept : Kept) (place : ℕ) (p : Pick) → IsPickFrom kept place p → HasConsumer (topology_kept kept) (broker_of kept) place p
has_picked kept place p from =
    let made = from.pick.0 in
    let was : WasConsumer (broker_of kept) p.connection made.number made.consumer = (made.channel, made.taker.there, made.taker.its) in
    record {
      consumer = made.consumer;
      was = subst (λ (h : ℕ). WasConsumer (broker_of kept) p.connection h made.consumer) from.pick.1 was;
      numbered = from.pick.2;
      within = from.within;
      named = from.named;
    }

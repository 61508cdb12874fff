-- What was outstanding before an event is so after it, or left its queue, or can be given out there again.
use Rattle.laws.proofs.Names.{◌≡◌, ℕ, List, Bool, true, false, refl, sym, ap, subst, ◌∙◌, ◌==◌, ◌&&◌, eq-eqb, Topology, IsIn, IsAgreed, Outstanding, Channel, Broker, with_pair, by_channel, by_connection, Settlement, Leaves, Rejects, Returns, tag_of, Settles, channel_or_new, is_awaiting, Step, Happening, event_connection, IsOutstandingOn, IsSettledSo, AreSettledSo, IsAccountedFor, outstanding_still, has_left, ready_again, NoneIsForgotten, Send, Rejected, Note}
use Rattle.std.proofs.Common.{Option}
use Rattle.std.specs.Prelude.{if◌then◌else◌}
use Rattle.model.specs.Settling.{takes}
use Rattle.laws.proofs.Agreed.{At, own, other, pair_at}
use Rattle.laws.proofs.Channels.{Fate, remains, is_ready_again, was_none, is_settled, Changes, unchanged, one_channel, all_channels, step_changes}
use Rattle.laws.proofs.Returned.{freed_again, own_channel}
use Rattle.laws.proofs.Settled.{are_settled}

module _ (t : Topology) (old new : Broker) (sends : List Send) (notes : List Note) (agreed : IsAgreed old) where
  abbrev Accounted : ℕ → ℕ → Outstanding → Type 0
  Accounted c k o = IsAccountedFor old notes new c k o

  settled_so : (c k : ℕ) (how : Settlement) (o : Outstanding) → IsSettledSo old notes new c k how o → Accounted c k o
  settled_so c k (Leaves cause) o left = has_left cause left
  settled_so c k Rejects o left = has_left Rejected left
  settled_so c k Returns o again = ready_again again

  by_tag : (c k tag : ℕ) (multiple : Bool) (how : Settlement) (ch : Channel) (o : Outstanding) → IsIn o ch.outstanding → AreSettledSo old notes new c k ch (record { tag = tag; multiple = multiple; how = how }) → Accounted c k o
  by_tag c k tag multiple how ch o i are = go (takes tag_of tag multiple o) refl
    where
      go : (v : Bool) → takes tag_of tag multiple o ≡ v → Accounted c k o
      go true taken = settled_so c k how o (are.taken o i taken).0
      go false spared = outstanding_still (are.others o i spared)

  -- on the channel that changes
  of_fate : (c h : ℕ) (now : Option Channel) → ((d k : ℕ) → new.channel d k ≡ with_pair old.channel c h now d k) → (o : Outstanding) → IsOutstandingOn old c h o → Fate t old sends notes new c h now → Accounted c h o
  of_fate c h now channels o was (remains ch e stays) =
      outstanding_still (record {
        channel = ch;
        there =
            channels c h ∙ ap (λ (b : Bool). if b && (h == h) then now else old.channel c h) (eq-eqb c c refl) ∙ ap (λ (b : Bool). if b then now else old.channel c h) (eq-eqb h h refl) ∙ e;
        outstanding = stays o (subst (λ (x : Option Channel). IsIn o (channel_or_new x).outstanding) (sym was.there) was.outstanding);
      })
  of_fate c h now channels o was (is_ready_again queues) = ready_again (freed_again old new (by_channel c h) c h o agreed queues was (own_channel c h o))
  of_fate c h now channels o was (was_none awaits) = absurd (subst (IsIn o) (agreed.closed c h was.channel was.there (sym (ap is_awaiting was.there) ∙ awaits)) was.outstanding)
  of_fate c h now channels o was (is_settled how tag multiple wanted s) =
      by_tag c h tag multiple how was.channel o was.outstanding (are_settled t how old new sends wanted notes c h was.channel tag multiple agreed was.there
      (subst (λ (x : Option Channel). Settles t how old c h (channel_or_new x) tag multiple wanted sends notes new) was.there s))

  still : (d k : ℕ) (o : Outstanding) → new.channel d k ≡ old.channel d k → IsOutstandingOn old d k o → Accounted d k o
  still d k o same was = outstanding_still (record { channel = was.channel; there = same ∙ was.there; outstanding = was.outstanding })

  account : (c : ℕ) → Changes t old sends notes new c → (d k : ℕ) (o : Outstanding) → IsOutstandingOn old d k o → Accounted d k o
  account c (unchanged channels connections) d k o was = still d k o (channels d k) was
  account c (one_channel h now channels connections there fate) d k o was = go (pair_at old.channel c h now d k)
    where
      go : At (Option Channel) old.channel c h now d k → Accounted d k o
      go (own e f is) =
          let here : IsOutstandingOn old c h o = subst (λ (n : ℕ). IsOutstandingOn old c n o) f (subst (λ (n : ℕ). IsOutstandingOn old n k o) e was) in
          subst (λ (n : ℕ). Accounted n k o) (sym e) (subst (λ (n : ℕ). Accounted c n o) (sym f) (of_fate c h now channels o here fate))
      go (other distinct is) = still d k o (channels d k ∙ is) was
  account c (all_channels row channels queues there others) d k o was = go (d == c) refl
    where
      go : (v : Bool) → (d == c) ≡ v → Accounted d k o
      go true e = ready_again (freed_again old new (by_connection c) d k o agreed queues was e)
      go false e = still d k o (channels d k ∙ ap (λ (b : Bool). if b then row k else old.channel d k) e) was

pub step_accounts : (h : Happening) → IsAgreed h.before.broker → Step h.config h.before h.event h.sends h.notes h.after → NoneIsForgotten h
step_accounts h agreed s c k o was = account h.config.topology h.before.broker h.after.broker h.sends h.notes agreed (event_connection h.event) (step_changes h s) c k o was

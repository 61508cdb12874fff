use Rattle.commands.proofs.Names.{◌≡◌, ◌∙◌, None, ap, sym, subst, option_map, is_some, option_copied_mut, false≢true, IfOk-weaker, AreNamed, AreCarried, open_in, channel_of, Kept, broker_of, names_of, topology_kept}
use Rattle.std.proofs.Common.{Some}
use Rattle.channels.proofs.Outcomes.{on_err}
use Rattle.commands.proofs.Stepping.{kept_there}
use Rattle.commands.proofs.Delivered.{picked_there}
use Rattle.commands.proofs.Lending.{side_of, can_command, still_agreed, delivered_on, put_placed, put_stays}
use Rattle.commands.proofs.cores.Core.deliver.Goals as goal

pub deliver_on-requires : goal.deliver_on-requires
deliver_on-requires c =
    let old : Kept = record { store = c.self.inside.depot; connections = c.self.inside.connections } in
    let there : channel_of old.connections c.args.pick.connection c.args.pick.channel ≡ Some c.in-Some.channel.now = sym c.channel_mut.ensures.value ∙ ap option_copied_mut c.in-Some.is in
    can_command old c.args.pick.connection c.args.pick.channel c.in-Some.channel.now (still_agreed c.args.self.now old c.self.view_is c.requires.agreed) c.self.invariant there

pub returns-in-None-clause-ok : goal.returns-in-None-clause-ok
returns-in-None-clause-ok c =
    let old : Kept = record { store = c.self.inside.depot; connections = c.self.inside.connections } in
    let none : channel_of old.connections c.args.pick.connection c.args.pick.channel ≡ None = sym c.channel_mut.ensures.value ∙ ap option_copied_mut c.in-None.is in
    absurd (false≢true (ap is_some (sym none) ∙ kept_there old c.args.self.now c.args.pick.connection c.args.pick.channel c.self.view_is (picked_there (broker_of c.args.self.now) c.args.pick c.requires.picked)))

pub returns-in-Some : goal.returns-in-Some
returns-in-Some c =
    let old : Kept = record { store = c.self.inside.depot; connections = c.self.inside.connections } in
    let ch = c.deliver_on.new.channel in
    let new : Kept = record { store = c.deliver_on.new.depot; connections = c.channel_mut.follows.lender ch } in
    let there : channel_of old.connections c.args.pick.connection c.args.pick.channel ≡ Some c.in-Some.channel.now = sym c.channel_mut.ensures.value ∙ ap option_copied_mut c.in-Some.is in
    record {
      ok = IfOk-weaker c.deliver_on.result _ _ (λ s delivers.
          delivered_on c.ghost_lent_channels_are_put.ensures old c.args.self.now new c.args.pick c.in-Some.channel.now ch s.sends.items s.notes.items c.self.view_is there (c.channel_mut.follows.holds ch) c.deliver_on.ensures.topology c.requires.picked delivers) c.deliver_on.ensures.ok;
      addressed = IfOk-weaker c.deliver_on.result _ _ (λ s own carried named.
          own (side_of old) (ap (option_map (open_in (names_of old))) there) (subst (λ (k : Kept). AreCarried (broker_of k)) (sym c.self.view_is) carried)
          (subst (λ (k : Kept). AreNamed (topology_kept k) (broker_of k)) (sym c.self.view_is) named)) c.deliver_on.ensures.addressed;
      topology = c.deliver_on.ensures.topology ∙ ap topology_kept c.self.view_is;
      err = on_err c.deliver_on.result c.deliver_on.ensures.err (λ same. put_stays old new c.args.pick.connection c.args.pick.channel c.in-Some.channel.now ch there (c.channel_mut.follows.holds ch) same.0 same.1 ∙ c.self.view_is);
    }

pub invariant_of-self : goal.invariant_of-self
invariant_of-self c =
    let old : Kept = record { store = c.self.inside.depot; connections = c.self.inside.connections } in
    let ch = c.deliver_on.new.channel in
    let new : Kept = record { store = c.deliver_on.new.depot; connections = c.channel_mut.follows.lender ch } in
    let there : channel_of old.connections c.args.pick.connection c.args.pick.channel ≡ Some c.in-Some.channel.now = sym c.channel_mut.ensures.value ∙ ap option_copied_mut c.in-Some.is in
    put_placed c.ghost_lent_channels_are_put.ensures old new c.args.pick.connection c.args.pick.channel c.in-Some.channel.now ch there (c.channel_mut.follows.holds ch) c.deliver_on.ensures.topology c.deliver_on.ensures.in_range c.self.invariant

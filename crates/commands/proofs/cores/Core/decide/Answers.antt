use Rattle.commands.proofs.Names.{◌≡◌, ◌∙◌, refl, sym, ap, subst, None, option_copied_mut, AreCarried, running_in, channel_in, with_channel_in, Kept, broker_of, topology_kept, AnswersOn}
use Rattle.std.proofs.Common.{Some}
use Rattle.commands.proofs.Lending.{can_command, there_in, is_lent, answers_on, answers_none, lent_placed, lent_same, running_same, still_agreed, still_placed, unless, always}
use Rattle.commands.proofs.cores.Core.decide.Goals as goal

pub on_channel-requires : goal.on_channel-requires
on_channel-requires c =
    let old : Kept = record { store = c.self.inside.depot; connections = c.self.inside.connections } in
    let found : running_in old.connections c.args.id.connection ≡ Some c.in_ok-running.running.now = sym c.running_mut.ensures.value ∙ ap option_copied_mut c.in_ok-running.was in
    let there : channel_in c.in_ok-running.running.now c.args.id.number ≡ Some c.in-Some.channel.now = sym c.channel_mut.ensures.value ∙ ap option_copied_mut c.in-Some.is in
    can_command old c.args.id.connection c.args.id.number c.in-Some.channel.now (still_agreed c.args.self.now old c.self.view_is c.requires) c.self.invariant
    (there_in old.connections c.args.id.connection c.args.id.number c.in_ok-running.running.now (Some c.in-Some.channel.now) found there)

pub invariant_of-self-in-Some : goal.invariant_of-self-in-Some
invariant_of-self-in-Some c =
    let old : Kept = record { store = c.self.inside.depot; connections = c.self.inside.connections } in
    let running = c.in_ok-running.running.now in
    let ch = c.on_channel.new.channel in
    let new : Kept = record { store = c.on_channel.new.depot; connections = c.running_mut.follows.lender (with_channel_in running c.args.id.number ch) } in
    let found : running_in old.connections c.args.id.connection ≡ Some running = sym c.running_mut.ensures.value ∙ ap option_copied_mut c.in_ok-running.was in
    let there : channel_in running c.args.id.number ≡ Some c.in-Some.channel.now = sym c.channel_mut.ensures.value ∙ ap option_copied_mut c.in-Some.is in
    let lent = is_lent c.ghost_lent_channels_are_put.ensures old new c.args.id.connection c.args.id.number running c.in-Some.channel.now ch found there (c.running_mut.follows.holds (with_channel_in running c.args.id.number ch)) c.on_channel.ensures.topology in
    lent_placed old new c.args.id.connection c.args.id.number running c.in-Some.channel.now ch lent c.on_channel.ensures.in_range c.self.invariant

pub returns-in-Some : goal.returns-in-Some
returns-in-Some c =
    let old : Kept = record { store = c.self.inside.depot; connections = c.self.inside.connections } in
    let running = c.in_ok-running.running.now in
    let ch = c.on_channel.new.channel in
    let new : Kept = record { store = c.on_channel.new.depot; connections = c.running_mut.follows.lender (with_channel_in running c.args.id.number ch) } in
    let found : running_in old.connections c.args.id.connection ≡ Some running = sym c.running_mut.ensures.value ∙ ap option_copied_mut c.in_ok-running.was in
    let there : channel_in running c.args.id.number ≡ Some c.in-Some.channel.now = sym c.channel_mut.ensures.value ∙ ap option_copied_mut c.in-Some.is in
    let lent = is_lent c.ghost_lent_channels_are_put.ensures old new c.args.id.connection c.args.id.number running c.in-Some.channel.now ch found there (c.running_mut.follows.holds (with_channel_in running c.args.id.number ch)) c.on_channel.ensures.topology in
    record {
      answers = subst (λ (k : Kept). AnswersOn k c.args.id.connection c.args.id.number c.args.method.now c.args.content.now (Some c.on_channel.result) new) c.self.view_is
          (answers_on old new c.args.id.connection c.args.id.number c.channel_max-channel_max.result running c.in-Some.channel.now ch c.args.method.now c.args.content.now c.on_channel.result lent (sym c.channel_max-channel_max.ensures) c.on_channel.ensures.answers);
      addressed = λ said carried. c.on_channel.ensures.addressed (said, subst (λ (k : Kept). AreCarried (broker_of k)) (sym c.self.view_is) carried);
      topology = c.on_channel.ensures.topology ∙ ap topology_kept c.self.view_is;
      kept = unless _ (new ≡ c.args.self.now) c.on_channel.result c.on_channel.ensures.kept (λ same. lent_same old new c.args.id.connection c.args.id.number running c.in-Some.channel.now ch lent same.0 same.1 ∙ c.self.view_is);
      quiet = c.on_channel.ensures.quiet;
      elsewhere = c.on_channel.ensures.elsewhere;
    }

pub invariant_of-self-in-None : goal.invariant_of-self-in-None
invariant_of-self-in-None c =
    let old : Kept = record { store = c.self.inside.depot; connections = c.self.inside.connections } in
    let running = c.in_ok-running.running.now in
    let new : Kept = record { store = c.self.inside.depot; connections = c.running_mut.follows.lender running } in
    let found : running_in old.connections c.args.id.connection ≡ Some running = sym c.running_mut.ensures.value ∙ ap option_copied_mut c.in_ok-running.was in
    still_placed old new (running_same old new c.args.id.connection running running found (c.running_mut.follows.holds running) refl refl) c.self.invariant

pub returns-in-None : goal.returns-in-None
returns-in-None c =
    let old : Kept = record { store = c.self.inside.depot; connections = c.self.inside.connections } in
    let running = c.in_ok-running.running.now in
    let new : Kept = record { store = c.self.inside.depot; connections = c.running_mut.follows.lender running } in
    let found : running_in old.connections c.args.id.connection ≡ Some running = sym c.running_mut.ensures.value ∙ ap option_copied_mut c.in_ok-running.was in
    let none : channel_in running c.args.id.number ≡ None = sym c.channel_mut.ensures.value ∙ ap option_copied_mut c.in-None.is in
    let same : new ≡ c.args.self.now = running_same old new c.args.id.connection running running found (c.running_mut.follows.holds running) refl refl ∙ c.self.view_is in
    record {
      answers = subst (λ (k : Kept). AnswersOn k c.args.id.connection c.args.id.number c.args.method.now c.args.content.now (Some c.on_none.result) new) c.self.view_is
          (answers_none old new c.args.id.connection c.args.id.number c.channel_max-channel_max.result running c.args.method.now c.args.content.now c.on_none.result found none (sym c.channel_max-channel_max.ensures) c.on_none.ensures.answers);
      addressed = λ said carried. c.on_none.ensures.addressed c.args.id.connection;
      topology = ap topology_kept same;
      kept = always (new ≡ c.args.self.now) c.on_none.result same;
      quiet = λ requeues. c.on_none.ensures.quiet;
      elsewhere = λ opens. c.on_none.ensures.elsewhere;
    }

use Rattle.channels.proofs.Imports.{sym, ap, ◌∙◌, refl, option_copied_mut, with_channel_in}
use Rattle.channels.proofs.Setting.{set_same, found_channel, found_written}
use Rattle.channels.proofs.connections.RunningConnections.channel_mut.Goals as goal

pub returns-in-Some : goal.returns-in-Some
returns-in-Some c =
    let connections = c.self.inside.connections.entries in
    let running = c.in-Some.running.now in
    let found = sym c.get_mut.ensures.value ∙ ap option_copied_mut c.in-Some.is in
    rw (← c.self.view_is) (
      (
        refl,
        (λ w. (c.get_mut.follows.holds (with_channel_in running c.args.number w)).0 ∙ found_written connections c.args.connection c.args.number running w found),
        (c.get_mut.follows.holds running).0 ∙ set_same _ connections running found,
      ),
      record { writes_back = tt; value = c.channel_mut.ensures.value ∙ found_channel connections c.args.connection c.args.number running found },
    )

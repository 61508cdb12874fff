use Rattle.commands.proofs.Names.{◌≡◌, ℕ, Option, ap, subst, channel_at, outstanding_on, AreWithin}
use Rattle.std.proofs.Common.{Some}
use Rattle.std.specs.Option.{option_copied}
use Rattle.channels.specs.RunningConnections.{Running}
use Rattle.commands.proofs.freeing.requeue_all.Goals as goal

pub requeue_channels-requires : goal.requeue_channels-requires
requeue_channels-requires c =
    let there : option_copied c.args.running ≡ Some c.in-Some.running.now = ap option_copied c.in-Some.is in
    subst (λ (l : Option Running). (h : ℕ) → AreWithin c.args.depot.now.topology (outstanding_on (channel_at l h))) there c.requires

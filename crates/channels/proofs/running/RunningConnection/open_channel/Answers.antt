use Rattle.channels.proofs.Imports.{◌≤◌, ◌<◌, ℕ, length, subst, arith, Running}
use Rattle.channels.proofs.running.RunningConnection.open_channel.Goals as goal

pub returns-clause-few : goal.returns-clause-few
returns-clause-few c =
    subst (λ (r : Running). (n : ℕ) → length r.channels ≤ n → c.args.number < n → length c.open_at.new.channels.items ≤ n) c.self.view_is
    (λ n few more.
    let was = c.self.inside.channels.ok.0 in
    let now = c.open_at.new.channels.ok.0 in
    let places = c.open_at.ensures.few n (omega (arith, was, few)) more in
    omega (arith, now, places))

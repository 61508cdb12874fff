use Rattle.channels.proofs.Imports.{[], arith}
use Rattle.channels.proofs.Opening.{opened_at, opened_len}
use Rattle.channels.proofs.running.RunningConnection.new.Goals as goal

pub returns-clause-channels : goal.returns-clause-channels
returns-clause-channels c = λ names h. opened_at names c.in_ok-open_channels.field-0.items c.args.channels h (c.in_ok-open_channels.ensures names)

pub invariant_of-result : goal.invariant_of-result
invariant_of-result c =
    let channels = c.in_ok-open_channels.field-0 in
    let places = opened_len channels.items c.args.channels (c.in_ok-open_channels.ensures []) in
    let fits = c.ranges.channels.fits in
    let len = channels.ok.0 in
    omega (arith, places, fits, len)

pub returns-clause-slots : goal.returns-clause-slots
returns-clause-slots c = opened_len c.in_ok-open_channels.field-0.items c.args.channels (c.in_ok-open_channels.ensures [])

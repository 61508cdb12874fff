use Rattle.channels.proofs.Imports.{◌≡◌, ◌<◌, arith, length, length-map, CountedConsumer}
use Rattle.channels.proofs.Seating.{seat_there}
use Rattle.channels.proofs.seats.seat_at.Goals as goal

pub returns : goal.returns
returns c =
    let len = length-map c.args.consumers.now (λ (s : CountedConsumer). s.consumer) in
    let lt = c.requires in
    seat_there c.args.consumers.now c.args.index c.index-consumers-index.result c.seat_of.result (omega (arith, len, lt)) c.index-consumers-index.is c.seat_of.ensures

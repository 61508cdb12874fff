use Rattle.engine.proofs.Names.{GoesOn, stream_of, HasFront}
use Rattle.engine.proofs.Retried.{yields_after}
use Rattle.engine.proofs.reserve.next.Goals as goal

pub returns-in-Err-Memory-clause-yields : goal.returns-in-Err-Memory-clause-yields
returns-in-Err-Memory-clause-yields c =
    let wants : GoesOn (stream_of c.args.stream.now) (stream_of c.next.new.self) × HasFront (stream_of c.args.stream.now) = rw c.in-Err-Memory.field-0-is at c.in-Err-Memory.ensures.yields in
    yields_after (stream_of c.args.stream.now) (stream_of c.next.new.self) (stream_of c.next-in-Err-Memory.new.self) c.next-in-Err-Memory.result wants.0 c.next-in-Err-Memory.ensures.yields

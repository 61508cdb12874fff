use Rattle.laws.proofs.Streams.{first_bytes}
use Rattle.laws.proofs.first_bytes_come_first.Goals as goal

pub returns : goal.returns
returns c = first_bytes

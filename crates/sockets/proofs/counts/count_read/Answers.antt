use Rattle.std.proofs.Common.{◌≡◌, Some, take, sym, subst}
use Rattle.std.proofs.lemmas.List.{length-take-le}
use Rattle.serving.specs.Wire.{total_after}
use Rattle.serving.specs.Answered.{read_call}
use Rattle.serving.specs.declared.wire.Read.{Read}
use Rattle.sockets.specs.Counts.{totals_in}
use Rattle.sockets.proofs.counts.count_read.Goals as goal

pub returns-in-Got : goal.returns-in-Got
returns-in-Got c = λ room buffer within s t e.
    subst (λ (a : Read). total_after s (totals_in c.args.counts.now.items s) (read_call c.args.socket room a buffer) ≡ Some t) (sym c.in-Got.is)
    (c.count_got.ensures room (take c.in-Got.n buffer) (length-take-le c.in-Got.n buffer (within c.in-Got.n c.in-Got.is)) s t e)

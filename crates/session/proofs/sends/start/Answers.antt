use Rattle.session.proofs.Table.{start_fits}
use Rattle.session.proofs.sends.start.Goals as goal

pub returns-clause-fits : goal.returns-clause-fits
returns-clause-fits c = rw (c.from_pairs.ensures, c.in_ok-from_slice.ensures, c.short.ensures, c.short-2.ensures) start_fits

use Rattle.queue.proofs.Names.{vec_len}
use Rattle.queue.proofs.blocks.Chain.start_first.Goals as goal

pub returns-in_err-make_places-clause-kept : goal.returns-in_err-make_places-clause-kept
returns-in_err-make_places-clause-kept c =
    record { marked = c.make_places.ensures.marked; held = c.make_places.ensures.held (vec_len c.args.self.now.spares) c.requires.kept.held; whole = c.requires.kept.whole }

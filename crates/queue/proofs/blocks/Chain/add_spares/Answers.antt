use Rattle.queue.proofs.Names.{vec_len, arith}
use Rattle.queue.proofs.blocks.Chain.add_spares.Goals as goal

pub returns-in_err-make_places-clause-kept : goal.returns-in_err-make_places-clause-kept
returns-in_err-make_places-clause-kept c =
    record { marked = c.make_places.ensures.marked; held = c.make_places.ensures.held (vec_len c.args.self.now.spares) c.requires.held; whole = c.requires.whole }

pub returns-clause-kept : goal.returns-clause-kept
returns-clause-kept c =
    let before = c.make_places.ensures.held (vec_len c.args.self.now.spares) c.requires.held in
    let room = c.in_ok-make_places.ensures.room in
    let most = c.fill_spares.ensures.most in
    record { marked = c.make_places.ensures.marked; held = omega (arith, before, room, most); whole = c.fill_spares.ensures.whole }

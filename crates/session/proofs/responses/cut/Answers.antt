use Rattle.session.proofs.Cutting.{cut_at_place, no_nul}
use Rattle.session.proofs.responses.cut.Goals as goal

pub returns-in-Some : goal.returns-in-Some
returns-in-Some c = rw (c.split_at.ensures.front, c.split_at-in-Some.ensures.back) (cut_at_place c.args.text.now c.in-Some.place c.in-Some.ensures.place)

pub returns-in-None : goal.returns-in-None
returns-in-None c = no_nul c.args.text.now c.in-None.ensures.place

use Rattle.model.proofs.Cuts.{first_cut, uncut}
use Rattle.model.proofs.parts.first_part.Goals as goal

pub returns-in-Some-clause-parts : goal.returns-in-Some-clause-parts
returns-in-Some-clause-parts c =
    rw (c.split_at.ensures.front, c.split_at-in-Some.ensures.back) (first_cut c.args.separator c.args.text.now c.in-Some.place (cc))

pub returns-in-None-clause-parts : goal.returns-in-None-clause-parts
returns-in-None-clause-parts c = uncut c.args.separator c.args.text.now 0 (cc)

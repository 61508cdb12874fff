use Rattle.server.proofs.filing.text_of.Goals as goal

pub returns-in-Ok : goal.returns-in-Ok
returns-in-Ok c = λ cs d. record { short = (c.in-Ok.ensures cs d).short; states = (c.in-Ok.ensures cs d).states }

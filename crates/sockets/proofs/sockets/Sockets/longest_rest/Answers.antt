use Rattle.sockets.proofs.sockets.Sockets.longest_rest.Goals as goal

pub returns-else-is_pressed-clause-pressed : goal.returns-else-is_pressed-clause-pressed
returns-else-is_pressed-clause-pressed c = λ i more. absurd (c.is_pressed.ensures c.if-is_pressed.false i more)

use Rattle.reloading.proofs.dangers.explored_for.Goals as goal

pub returns-in_ok-explored-in-Some : goal.returns-in_ok-explored-in-Some
returns-in_ok-explored-in-Some c = record { exchange = c.in-Some.letter.exchange.now; onward = c.in-Some.letter.key.now; letter = c.in-Some.ensures; explored = c.in_ok-explored-in-Some.ensures }

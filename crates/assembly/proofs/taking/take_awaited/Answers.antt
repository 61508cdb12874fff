use Rattle.assembly.proofs.Imports.{rules}
use Rattle.assembly.proofs.taking.take_awaited.Goals as goal

pub returns-in-Drops-clause-does : goal.returns-in-Drops-clause-does
returns-in-Drops-clause-does c = let does = c.drop_piece.ensures.does c.args.keeps in search rules

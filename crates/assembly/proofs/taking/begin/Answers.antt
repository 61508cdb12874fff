use Rattle.assembly.proofs.Imports.{ap, sym, subst, IsMethod, pending_of}
use Rattle.assembly.proofs.Codes.{plain, fits}
use Rattle.assembly.proofs.taking.begin.Goals as goal

pub returns-in-Err-clause-does : goal.returns-in-Err-clause-does
returns-in-Err-clause-does c =
    let both = plain c.args.keeps c.args.frame.now.channel c.args.method c.in-Err.method (sym c.in-Err.ensures) in
    (both.1, subst IsMethod (sym both.0) (fits c.requires.said), ap pending_of c.requires.nothing)

use Rattle.assembly.proofs.Imports.{Err, refl, subst, sym, Breaks, TakesPayload, seen, pending_of, Awaited}
use Rattle.assembly.proofs.Codes.{map_fault}
use Rattle.assembly.proofs.taking.take_method.Goals as goal

pub returns-in-Err-clause-does : goal.returns-in-Err-clause-does
returns-in-Err-clause-does c =
    let f = seen c.args.frame.now in
    (map_fault _ _ c.of_method.result (λ code s. subst (λ (q : Awaited). TakesPayload c.args.keeps (pending_of q) f (Breaks code)) (sym c.requires) (Err code, s, refl)) (c.of_method.ensures _ c.in-Err.ensures.read), refl)
